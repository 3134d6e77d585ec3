-- Facts of each request of a list.
use Rattle.std.proofs.Common.{◌≡◌, ℕ, zero, suc, ◌<◌, List, [], ◌∷◌, ◌++◌, map, length, get_or, set, sym, subst, arith}
use Rattle.server_table.specs.Parts.{Entry, Part}
use Rattle.server_table.specs.Order.{AllAbove, IsNumbered, AllParts}
use Rattle.server_core.specs.Kept.{AllEntries}

-- the number of each request stays
abbrev pub KeepsNumbers : (Entry → Entry) → Type 0
KeepsNumbers f = (entry : Entry) → (f entry).number ≡ entry.number

pub all_to : (P Q : Entry → Type 0) → ((entry : Entry) → P entry → Q entry) → (es : List Entry) → AllEntries P es → AllEntries Q es
all_to P Q f [] h = tt
all_to P Q f (e ∷ es) h = (f e h.0, all_to P Q f es h.1)

pub all_both : (P Q : Entry → Type 0) (es : List Entry) → AllEntries P es → AllEntries Q es → AllEntries (λ e. P e × Q e) es
all_both P Q [] a b = tt
all_both P Q (e ∷ es) a b = ((a.0, b.0), all_both P Q es a.1 b.1)

pub all_mapped : (f : Entry → Entry) (P Q : Entry → Type 0) → ((entry : Entry) → P entry → Q (f entry)) → (es : List Entry) → AllEntries P es → AllEntries Q (map f es)
all_mapped f P Q keeps [] h = tt
all_mapped f P Q keeps (e ∷ es) h = (keeps e h.0, all_mapped f P Q keeps es h.1)

pub all_push : (P Q : Entry → Type 0) → ((entry : Entry) → P entry → Q entry) → (entries : List Entry) (x : Entry) → AllEntries P entries → Q x → AllEntries Q (entries ++ x ∷ [])
all_push P Q f [] x h one = (one, tt)
all_push P Q f (e ∷ es) x h one = (f e h.0, all_push P Q f es x h.1 one)

-- ---- numbers
above_mapped : (f : Entry → Entry) → KeepsNumbers f → (n : ℕ) (es : List Entry) → AllAbove n es → AllAbove n (map f es)
above_mapped f same n [] h = tt
above_mapped f same n (e ∷ es) h = (subst (λ m. n < m) (sym (same e)) h.0, above_mapped f same n es h.1)

numbered_mapped : (f : Entry → Entry) → KeepsNumbers f → (es : List Entry) → IsNumbered es → IsNumbered (map f es)
numbered_mapped f same [] h = tt
numbered_mapped f same (e ∷ es) h = (subst (λ m. AllAbove m (map f es)) (sym (same e)) (above_mapped f same e.number es h.0), numbered_mapped f same es h.1)

above_behind : (f : Entry → Entry) → KeepsNumbers f → (n : ℕ) (out w : List Entry) → AllAbove n (out ++ w) → AllAbove n (out ++ map f w)
above_behind f same n [] w h = above_mapped f same n w h
above_behind f same n (o ∷ os) w h = (h.0, above_behind f same n os w h.1)

pub numbered_behind : (f : Entry → Entry) → KeepsNumbers f → (out w : List Entry) → IsNumbered (out ++ w) → IsNumbered (out ++ map f w)
numbered_behind f same [] w h = numbered_mapped f same w h
numbered_behind f same (o ∷ os) w h = (above_behind f same o.number os w h.0, numbered_behind f same os w h.1)

pub below_behind : (f : Entry → Entry) → KeepsNumbers f → (n : ℕ) (out w : List Entry) → AllEntries (λ e. e.number < n) (out ++ w) → AllEntries (λ e. e.number < n) (out ++ map f w)
below_behind f same n [] w h = all_mapped f (λ e. e.number < n) (λ e. e.number < n) (λ e lt. subst (λ m. m < n) (sym (same e)) lt) w h
below_behind f same n (o ∷ os) w h = (h.0, below_behind f same n os w h.1)

above_push : (n : ℕ) (entries : List Entry) (x : Entry) → AllAbove n entries → n < x.number → AllAbove n (entries ++ x ∷ [])
above_push n [] x h lt = (lt, tt)
above_push n (e ∷ es) x h lt = (h.0, above_push n es x h.1 lt)

pub numbered_push : (entries : List Entry) (x : Entry) → IsNumbered entries → AllEntries (λ e. e.number < x.number) entries → IsNumbered (entries ++ x ∷ [])
numbered_push [] x h less = (tt, tt)
numbered_push (e ∷ es) x h less = (above_push e.number es x h.0 less.0, numbered_push es x h.1 less.1)

-- ---- parts
pub all_set : (P : Part → Type 0) (ps : List Part) (i : ℕ) (q : Part) → AllParts P ps → P q → AllParts P (set ps i q)
all_set P [] i q all one = tt
all_set P (p ∷ ps) zero q all one = (one, all.1)
all_set P (p ∷ ps) (suc i) q all one = (all.0, all_set P ps i q all.1 one)

pub parts_to : (P Q : Part → Type 0) → ((part : Part) → P part → Q part) → (ps : List Part) → AllParts P ps → AllParts Q ps
parts_to P Q f [] h = tt
parts_to P Q f (p ∷ ps) h = (f p h.0, parts_to P Q f ps h.1)

pub part_at : (P : Part → Type 0) (ps : List Part) (i : ℕ) (p : Part) → AllParts P ps → i < length ps → p ≡ get_or ps i p → P p
part_at P [] i p all lt at = absurd (omega arith)
part_at P (x ∷ ps) zero p all lt at = subst P (sym at) all.0
part_at P (x ∷ ps) (suc i) p all lt at = part_at P ps i p all.1 (omega arith) at
