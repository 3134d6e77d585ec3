-- The fall of the P tags, export by export.
use Rattle.std.proofs.Common.{◌≡◌, ℕ, zero, suc, ◌+◌, ◌<◌, ◌≤◌, ◌^◌, ℤ, Option, Some, None, List, [], ◌∷◌, ◌++◌, map, take, drop, length, set, get_or, refl, sym, ◌∙◌, ap, subst, arith, to_z, of_z}
use Rattle.std.specs.Prelude.{⊤, pos, negsuc, ◌-ℤ◌, FitsSigned, int_le, Bool, true, false, cond, ◌==◌, slice_get}
use Rattle.std.specs.List.{All}
use mir.Syntax.{w128}
use Rattle.std.proofs.lemmas.Int.{ints, to_z-of_z, fits_signed_from_abs}
use Rattle.std.proofs.lemmas.Option.{get_or_from_slice_get}
use Rattle.std.proofs.lemmas.List.{drop_all, append-nil, set-get_or, length-map, take-map, get_or-map, take_all}
use Rattle.std.proofs.lemmas.Bool.Decides.{nat_tests}
use Rattle.nbd_base.specs.Range.{InRange}
use Rattle.nbd_base.specs.Least.{least, the_sooner, keyed}
use Rattle.tag_clock.specs.declared.Tags.{Tags}
use Rattle.eligibility.specs.Choice.{candidates, slot_key, slot_shifted, all_shifted, AllInRange, IsSlotInRange}
use Rattle.eligibility.proofs.Least.{least_more}
use Rattle.server_table.specs.Parts.{Entry, Part}
use Rattle.server_table.specs.Order.{AllParts, head_tags, heads}
use Rattle.server_table.specs.Ways.{entry_shifted, part_shifted, parts_for, way_for, least_first_p}
use Rattle.server_core.specs.Kept.{TagsInRange}
use Rattle.server_core.specs.Members.{Standing, shifted_standing}
use Rattle.server_core.specs.Served.{parts}
use Rattle.server_core.specs.Way.{lowered_to, way_of}
use Rattle.server_core.proofs.Picked.{head_in_range}

-- ---- the least of the first requests
heads_of : (ms : List Standing) → heads (parts ms) ≡ map (λ (m : Standing). head_tags m.part.waiting) ms
heads_of [] = refl
heads_of (m ∷ ms) = ap (λ l. head_tags m.part.waiting ∷ l) (heads_of ms)

heads_taken : (ms : List Standing) (i : ℕ) → heads (parts (take i ms)) ≡ take i (heads (parts ms))
heads_taken ms i = heads_of (take i ms) ∙ sym (take-map (λ (m : Standing). head_tags m.part.waiting) i ms) ∙ ap (take i) (sym (heads_of ms))

pub least_first_more : (ms : List Standing) (i : ℕ) (m : Standing) (best next : Option (ℤ × ℕ)) (first : Option Tags) → i < length ms → m ≡ get_or ms i m → best ≡ least_first_p (parts (take i ms)) → first ≡ head_tags m.part.waiting → next ≡ the_sooner best (keyed (slot_key (λ tags. Some tags.p) first) i) → next ≡ least_first_p (parts (take (i + 1) ms))
least_first_more ms i m best next first lt at so_far head is =
    let key : Tags → Option ℤ = λ tags. Some tags.p in
    let hs = heads (parts ms) in
    let n : length hs ≡ length ms = ap length (heads_of ms) ∙ length-map ms (λ (x : Standing). head_tags x.part.waiting) in
    let slot : get_or hs i None ≡ first = ap (λ l. get_or l i None) (heads_of ms) ∙ get_or-map (λ (x : Standing). head_tags x.part.waiting) ms i m None lt ∙ ap (λ (x : Standing). head_tags x.part.waiting) (sym at) ∙ sym head in
    is
    ∙ ap (λ b. the_sooner b (keyed (slot_key key first) i)) (so_far ∙ ap (λ l. least (candidates key 0 l)) (heads_taken ms i))
    ∙ ap (λ s. the_sooner (least (candidates key 0 (take i hs))) (keyed (slot_key key s) i)) (sym slot)
    ∙ sym (least_more key hs i (omega arith))
    ∙ ap (λ l. least (candidates key 0 l)) (sym (heads_taken ms (i + 1)))

-- ---- the first requests fall
head_shifted : (d : ℤ) (entries : List Entry) → slot_shifted d (head_tags entries) ≡ head_tags (map (entry_shifted d) entries)
head_shifted d [] = refl
head_shifted d (x ∷ xs) = refl

heads_shifted : (d : ℤ) (ps : List Part) → all_shifted d (heads ps) ≡ heads (map (part_shifted d) ps)
heads_shifted d [] = refl
heads_shifted d (p ∷ ps) =
    ap (λ s. s ∷ all_shifted d (heads ps)) (head_shifted d p.waiting)
    ∙ ap (λ l. head_tags (part_shifted d p).waiting ∷ l) (heads_shifted d ps)

pub parts_shifted : (d : ℤ) (ms : List Standing) → parts (map (shifted_standing d) ms) ≡ map (part_shifted d) (parts ms)
parts_shifted d [] = refl
parts_shifted d (m ∷ ms) = ap (λ l. part_shifted d m.part ∷ l) (parts_shifted d ms)

pub slots_shifted : (d : ℤ) (ms : List Standing) → all_shifted d (heads (parts ms)) ≡ heads (parts (map (shifted_standing d) ms))
slots_shifted d ms = heads_shifted d (parts ms) ∙ ap heads (sym (parts_shifted d ms))

slots_in_range : (ps : List Part) → AllParts TagsInRange ps → AllInRange (heads ps)
slots_in_range [] all = λ k d lt. absurd (omega arith)
slots_in_range (p ∷ ps) all = at (head_in_range p all.0) (slots_in_range ps all.1)
  where
    at : IsSlotInRange (head_tags p.waiting) → AllInRange (heads ps) → (k : ℕ) (d : Option Tags) → k < suc (length (heads ps)) → IsSlotInRange (get_or (head_tags p.waiting ∷ heads ps) k d)
    at one rest zero d lt = one
    at one rest (suc k) d lt = rest k d (omega arith)

pub falls_in_range : (d : ℤ) (slots : List (Option Tags)) (ms : List Standing) → slots ≡ heads (parts ms) → AllParts TagsInRange (map (part_shifted d) (parts ms)) → AllInRange (all_shifted d slots)
falls_in_range d slots ms is range =
    subst AllInRange (sym (ap (all_shifted d) is ∙ heads_shifted d (parts ms))) (slots_in_range (map (part_shifted d) (parts ms)) range)

-- ---- the least is in range
abbrev pub IsKeyInRange : Option (ℤ × ℕ) → Type 0
IsKeyInRange None = ⊤
IsKeyInRange (Some a) = InRange a.0

key_sooner : (a b : Option (ℤ × ℕ)) → IsKeyInRange a → IsKeyInRange b → IsKeyInRange (the_sooner a b)
key_sooner None b ha hb = hb
key_sooner (Some a) None ha hb = ha
key_sooner (Some a) (Some b) ha hb = by_test (int_le a.0 b.0)
  where
    by_test : (t : Bool) → IsKeyInRange (cond t (Some a) (Some b))
    by_test true = ha
    by_test false = hb

key_of : (slot : Option Tags) (e : ℕ) → IsSlotInRange slot → IsKeyInRange (keyed (slot_key (λ tags. Some tags.p) slot) e)
key_of None e h = tt
key_of (Some tags) e h = h.2

least_key : (k : ℕ) (ps : List Part) → AllParts TagsInRange ps → IsKeyInRange (least (candidates (λ tags. Some tags.p) k (heads ps)))
least_key k [] all = tt
least_key k (p ∷ ps) all = key_sooner (keyed (slot_key (λ tags. Some tags.p) (head_tags p.waiting)) k) (least (candidates (λ tags. Some tags.p) (k + 1) (heads ps))) (key_of (head_tags p.waiting) k (head_in_range p all.0)) (least_key (k + 1) ps all.1)

pub least_in_range : (ps : List Part) (m : ℤ) (e : ℕ) → AllParts TagsInRange ps → least_first_p ps ≡ Some (m, e) → InRange m
least_in_range ps m e all is = subst IsKeyInRange is (least_key 0 ps all)

-- the difference of a tag in range and a moment, as the code computes it
tag_fits : (m : ℤ) → InRange m → FitsSigned w128 m
tag_fits m small = let s = small.in_range in fits_signed_from_abs w128 m (omega arith)

moment_fits : (n : ℕ) → n < 2 ^ 62 → FitsSigned w128 (pos n)
moment_fits n lt = fits_signed_from_abs w128 (pos n) (omega arith)

diff_fits : (m : ℤ) (n : ℕ) → InRange m → n < 2 ^ 62 → FitsSigned w128 (m -ℤ pos n)
diff_fits (pos a) n small lt = let s = small.in_range in search (arith, ints)
diff_fits (negsuc a) n small lt = let s = small.in_range in search (arith, ints)

pub delta_fits : (m t : ℤ) (n : ℕ) → InRange m → t ≡ pos n → n < 2 ^ 62 → FitsSigned w128 (to_z w128 (of_z w128 m) -ℤ to_z w128 (of_z w128 t))
delta_fits m t n small is lt =
    let fm = tag_fits m small in
    let ft = moment_fits n lt in
    rw (is, to_z-of_z w128 m fm, to_z-of_z w128 (pos n) ft) (diff_fits m n small lt)

pub delta_is : (m t : ℤ) (n : ℕ) → InRange m → t ≡ pos n → n < 2 ^ 62 → to_z w128 (of_z w128 (to_z w128 (of_z w128 m) -ℤ to_z w128 (of_z w128 t))) ≡ m -ℤ pos n
delta_is m t n small is lt =
    let fm = tag_fits m small in
    let ft = moment_fits n lt in
    let fd = diff_fits m n small lt in
    rw (is, to_z-of_z w128 m fm, to_z-of_z w128 (pos n) ft) (to_z-of_z w128 (m -ℤ pos n) fd)

-- ---- the way
pub parts_way : (n : ℕ) (t : ℤ) (ms : List Standing) → parts (way_of n t ms) ≡ way_for n t (parts ms)
parts_way n t ms = by_test (n == 0) (least_first_p (parts ms))
  where
    by_test : (b : Bool) (o : Option (ℤ × ℕ)) → parts (cond b (lowered_to o t ms) ms) ≡ cond b (parts_for o t (parts ms)) (parts ms)
    by_test false o = refl
    by_test true None = refl
    by_test true (Some a) = parts_shifted (a.0 -ℤ t) ms

-- each export may shift in turn
abbrev pub MayShift : ℤ → Standing → Type 0
MayShift d m = TagsInRange m.part

pub members_allowed : (d : ℤ) (ms : List Standing) → AllParts TagsInRange (map (part_shifted d) (parts ms)) → All (MayShift d) (map (shifted_standing d) ms)
members_allowed d [] all = λ k e lt. absurd (omega arith)
members_allowed d (m ∷ ms) all = at (members_allowed d ms all.1)
  where
    at : All (MayShift d) (map (shifted_standing d) ms) → (k : ℕ) (e : Standing) → k < suc (length (map (shifted_standing d) ms)) → MayShift d (get_or (shifted_standing d m ∷ map (shifted_standing d) ms) k e)
    at rest zero e lt = all.0
    at rest (suc k) e lt = rest k e (omega arith)

pub all_mapped : (f : Standing → Standing) (xs ys : List Standing) (i : ℕ) → length xs ≤ i → ys ≡ map f (take i xs) ++ drop i xs → ys ≡ map f xs
all_mapped f xs ys i le is = is ∙ ap (λ (l : List Standing). map f l ++ drop i xs) (take_all i xs le) ∙ ap (λ (l : List Standing). map f xs ++ l) (drop_all i xs le) ∙ append-nil (map f xs)

pub busy_way : (n : ℕ) (t : ℤ) (ms : List Standing) → (n ≡ 0 → ⊥) → way_of n t ms ≡ ms
busy_way n t ms ne = let test : (n == 0) ≡ false = grind (arith, nat_tests, ne) in ap (λ b. cond b (lowered_to (least_first_p (parts ms)) t ms) ms) test

-- ---- the first request of an export is put where it was
pub put_back : (slots : List (Option Tags)) (e : ℕ) (was first : Option Tags) → slice_get slots e ≡ Some was → first ≡ was → slots ≡ set slots e first
put_back slots e was first there same =
    let is : get_or slots e None ≡ first = get_or_from_slice_get slots e was None there ∙ sym same in
    sym (set-get_or slots e None) ∙ ap (set slots e) is

zero_test : (n : ℕ) → n ≡ 0 → (n == 0) ≡ true
zero_test n is = grind (arith, nat_tests, is)

pub idle_way : (n : ℕ) (t : ℤ) (ms : List Standing) → n ≡ 0 → way_of n t ms ≡ lowered_to (least_first_p (parts ms)) t ms
idle_way n t ms is = ap (λ b. cond b (lowered_to (least_first_p (parts ms)) t ms) ms) (zero_test n is)

pub idle_parts : (n : ℕ) (t : ℤ) (ps : List Part) → n ≡ 0 → way_for n t ps ≡ parts_for (least_first_p ps) t ps
idle_parts n t ps is = ap (λ b. cond b (parts_for (least_first_p ps) t ps) ps) (zero_test n is)
