-- A change of one export's part, seen in the table.
use Rattle.std.proofs.Common.{◌≡◌, ℕ, zero, suc, ◌+◌, ◌<◌, Bool, true, false, cond, Some, List, [], ◌∷◌, ◌++◌, map, length, filter, find, set, get_or, refl, sym, ◌∙◌, ap, subst, arith, append-nil}
use Rattle.std.specs.Prelude.{slice_get}
use Rattle.std.proofs.lemmas.List.{length-map, get_or-map}
use Rattle.std.proofs.lemmas.List.Elements.{filter-append}
use Rattle.std.proofs.lemmas.Option.{slice_get-get_or}
use Rattle.nbd_base.specs.Words.{change_at}
use Rattle.server_table.specs.Parts.{Entry, Part, row_of, part_rows, rows_from, side_of, table_of, setup_of}
use Rattle.server_table.specs.Table.{Row, Side, side, no_side}

-- ---- where a table is read at one export
pub side_at : (ps : List Part) (now e : ℕ) (p : Part) → e < length ps → p ≡ get_or ps e p → side (table_of ps now) e ≡ side_of p
side_at ps now e p lt at = get_or-map side_of ps e p no_side lt ∙ ap side_of (sym at)

pub terms_at : (ps : List Part) (inflight e : ℕ) (p : Part) → e < length ps → p ≡ get_or ps e p → slice_get (setup_of ps inflight).exports e ≡ Some p.terms
terms_at ps inflight e p lt at =
    slice_get-get_or (map (λ (q : Part). q.terms) ps) e p.terms (rw length-map lt)
    ∙ ap Some (get_or-map (λ (q : Part). q.terms) ps e p p.terms lt ∙ ap (λ (q : Part). q.terms) (sym at))

-- the test passes no row of another export than e
abbrev pub IsOnly : ℕ → (Row → Bool) → Type 0
IsOnly e t = (row : Row) → (row.export ≡ e → ⊥) → t row ≡ false

filter_row : (e : ℕ) (t : Row → Bool) → IsOnly e t → (k : ℕ) (b : Bool) (entries : List Entry) → (k ≡ e → ⊥) → filter t (map (row_of k b) entries) ≡ []
filter_row e t only k b [] ne = refl
filter_row e t only k b (x ∷ xs) ne = ap (λ c. cond c (row_of k b x ∷ filter t (map (row_of k b) xs)) (filter t (map (row_of k b) xs))) (only (row_of k b x) ne) ∙ filter_row e t only k b xs ne

pub filter_part : (e : ℕ) (t : Row → Bool) → IsOnly e t → (k : ℕ) (p : Part) → (k ≡ e → ⊥) → filter t (part_rows k p) ≡ []
filter_part e t only k p ne =
    filter-append t (map (row_of k true) p.out) (map (row_of k false) p.waiting)
    ∙ ap (λ l. l ++ filter t (map (row_of k false) p.waiting)) (filter_row e t only k true p.out ne)
    ∙ filter_row e t only k false p.waiting ne

filter_past : (e : ℕ) (t : Row → Bool) → IsOnly e t → (k : ℕ) (ps : List Part) → e < k → filter t (rows_from k ps) ≡ []
filter_past e t only k [] lt = refl
filter_past e t only k (p ∷ ps) lt =
    filter-append t (part_rows k p) (rows_from (suc k) ps)
    ∙ ap (λ l. l ++ filter t (rows_from (suc k) ps)) (filter_part e t only k p (omega arith))
    ∙ filter_past e t only (suc k) ps (omega arith)

-- the rows of one export
pub filter_only : (e : ℕ) (t : Row → Bool) → IsOnly e t → (k i : ℕ) (ps : List Part) (p : Part) → e ≡ k + i → i < length ps → p ≡ get_or ps i p → filter t (rows_from k ps) ≡ filter t (part_rows e p)
filter_only e t only k i [] p is lt at = absurd (omega arith)
filter_only e t only k zero (x ∷ ps) p is lt at =
    let same : k ≡ e = omega arith in
    filter-append t (part_rows k x) (rows_from (suc k) ps)
    ∙ ap (λ l. filter t (part_rows k x) ++ l) (filter_past e t only (suc k) ps (omega arith))
    ∙ append-nil (filter t (part_rows k x))
    ∙ ap (λ n. filter t (part_rows n x)) same ∙ ap (λ q. filter t (part_rows e q)) (sym at)
filter_only e t only k (suc i) (x ∷ ps) p is lt at =
    filter-append t (part_rows k x) (rows_from (suc k) ps)
    ∙ ap (λ l. l ++ filter t (rows_from (suc k) ps)) (filter_part e t only k x (omega arith))
    ∙ filter_only e t only (suc k) i ps p (omega arith) (omega arith) at

-- what is found is the first of what passes
pub found : {X : Type 0} (t : X → Bool) (xs : List X) → find t xs ≡ slice_get (filter t xs) 0
found t [] = refl
found t (x ∷ xs) = ap (λ o. cond (t x) (Some x) o) (found t xs) ∙ by_test (t x)
  where
    by_test : (b : Bool) → cond b (Some x) (slice_get (filter t xs) 0) ≡ slice_get (cond b (x ∷ filter t xs) (filter t xs)) 0
    by_test true = refl
    by_test false = refl

pub find_only : (e : ℕ) (t : Row → Bool) → IsOnly e t → (i : ℕ) (ps : List Part) (p : Part) → e ≡ i → i < length ps → p ≡ get_or ps i p → find t (rows_from 0 ps) ≡ find t (part_rows e p)
find_only e t only i ps p is lt at = found t (rows_from 0 ps) ∙ ap (λ l. slice_get l 0) (filter_only e t only 0 i ps p (omega arith) lt at) ∙ sym (found t (part_rows e p))

-- ---- a test of an export's rows is one of its entries
pub filter_entries : (t : Row → Bool) (e : ℕ) (b : Bool) (f : Entry → Bool) → ((entry : Entry) → t (row_of e b entry) ≡ f entry) → (entries : List Entry) → filter t (map (row_of e b) entries) ≡ map (row_of e b) (filter f entries)
filter_entries t e b f same [] = refl
filter_entries t e b f same (x ∷ xs) =
    ap (λ c. cond c (row_of e b x ∷ filter t (map (row_of e b) xs)) (filter t (map (row_of e b) xs))) (same x)
    ∙ ap (λ l. cond (f x) (row_of e b x ∷ l) l) (filter_entries t e b f same xs)
    ∙ by_test (f x)
  where
    by_test : (c : Bool) → cond c (row_of e b x ∷ map (row_of e b) (filter f xs)) (map (row_of e b) (filter f xs)) ≡ map (row_of e b) (cond c (x ∷ filter f xs) (filter f xs))
    by_test true = refl
    by_test false = refl

pub filter_all : {X : Type 0} (t : X → Bool) → ((x : X) → t x ≡ true) → (xs : List X) → filter t xs ≡ xs
filter_all t all [] = refl
filter_all t all (x ∷ xs) = ap (λ c. cond c (x ∷ filter t xs) (filter t xs)) (all x) ∙ ap (λ l. x ∷ l) (filter_all t all xs)

pub filter_no : {X : Type 0} (t : X → Bool) → ((x : X) → t x ≡ false) → (xs : List X) → filter t xs ≡ []
filter_no t none [] = refl
filter_no t none (x ∷ xs) = ap (λ c. cond c (x ∷ filter t xs) (filter t xs)) (none x) ∙ filter_no t none xs

-- ---- a part is another
pub sides_at : (f : Side → Side) (i : ℕ) (ps : List Part) (p q : Part) → i < length ps → p ≡ get_or ps i p → f (side_of p) ≡ side_of q → change_at f i (map side_of ps) ≡ map side_of (set ps i q)
sides_at f i [] p q lt at one = absurd (omega arith)
sides_at f zero (x ∷ ps) p q lt at one = ap (λ s. s ∷ map side_of ps) (subst (λ y. f (side_of y) ≡ side_of q) at one)
sides_at f (suc i) (x ∷ ps) p q lt at one = ap (λ ss. side_of x ∷ ss) (sides_at f i ps p q (omega arith) at one)

pub rows_same : (k i : ℕ) (ps : List Part) (p q : Part) → i < length ps → p ≡ get_or ps i p → ((n : ℕ) → part_rows n p ≡ part_rows n q) → rows_from k ps ≡ rows_from k (set ps i q)
rows_same k i [] p q lt at same = absurd (omega arith)
rows_same k zero (x ∷ ps) p q lt at same = ap (λ l. l ++ rows_from (suc k) ps) (ap (part_rows k) (sym at) ∙ same k)
rows_same k (suc i) (x ∷ ps) p q lt at same = ap (λ l. part_rows k x ++ l) (rows_same (suc k) i ps p q (omega arith) at same)

-- the test passes each row of another export than e
abbrev pub PassesOthers : ℕ → (Row → Bool) → Type 0
PassesOthers e t = (row : Row) → (row.export ≡ e → ⊥) → t row ≡ true

pass_row : (e : ℕ) (t : Row → Bool) → PassesOthers e t → (k : ℕ) (b : Bool) (entries : List Entry) → (k ≡ e → ⊥) → filter t (map (row_of k b) entries) ≡ map (row_of k b) entries
pass_row e t all k b [] ne = refl
pass_row e t all k b (x ∷ xs) ne = ap (λ c. cond c (row_of k b x ∷ filter t (map (row_of k b) xs)) (filter t (map (row_of k b) xs))) (all (row_of k b x) ne) ∙ ap (λ l. row_of k b x ∷ l) (pass_row e t all k b xs ne)

pass_part : (e : ℕ) (t : Row → Bool) → PassesOthers e t → (k : ℕ) (p : Part) → (k ≡ e → ⊥) → filter t (part_rows k p) ≡ part_rows k p
pass_part e t all k p ne =
    let a = pass_row e t all k true p.out ne in
    let b = pass_row e t all k false p.waiting ne in
    filter-append t (map (row_of k true) p.out) (map (row_of k false) p.waiting) ∙ cc

pass_past : (e : ℕ) (t : Row → Bool) → PassesOthers e t → (k : ℕ) (ps : List Part) → e < k → filter t (rows_from k ps) ≡ rows_from k ps
pass_past e t all k [] lt = refl
pass_past e t all k (p ∷ ps) lt =
    let a = pass_part e t all k p (omega arith) in
    let b = pass_past e t all (suc k) ps (omega arith) in
    filter-append t (part_rows k p) (rows_from (suc k) ps) ∙ cc

pub filter_at : (e : ℕ) (t : Row → Bool) → PassesOthers e t → (k i : ℕ) (ps : List Part) (p q : Part) → e ≡ k + i → i < length ps → p ≡ get_or ps i p → filter t (part_rows e p) ≡ part_rows e q → filter t (rows_from k ps) ≡ rows_from k (set ps i q)
filter_at e t all k i [] p q is lt at one = absurd (omega arith)
filter_at e t all k zero (x ∷ ps) p q is lt at one =
    let same : e ≡ k = omega arith in
    let a : filter t (part_rows k x) ≡ part_rows k q = subst (λ n. filter t (part_rows n x) ≡ part_rows n q) same (subst (λ y. filter t (part_rows e y) ≡ part_rows e q) at one) in
    let b = pass_past e t all (suc k) ps (omega arith) in
    filter-append t (part_rows k x) (rows_from (suc k) ps) ∙ cc
filter_at e t all k (suc i) (x ∷ ps) p q is lt at one =
    let a = pass_part e t all k x (omega arith) in
    let b = filter_at e t all (suc k) i ps p q (omega arith) (omega arith) at one in
    filter-append t (part_rows k x) (rows_from (suc k) ps) ∙ cc

pub set_same : (ps : List Part) (i : ℕ) (p : Part) → p ≡ get_or ps i p → set ps i p ≡ ps
set_same [] i p at = refl
set_same (x ∷ xs) zero p at = ap (λ y. y ∷ xs) at
set_same (x ∷ xs) (suc i) p at = ap (λ l. x ∷ l) (set_same xs i p at)
