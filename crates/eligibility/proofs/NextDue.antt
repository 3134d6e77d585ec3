-- The least tag decides when something is chosen.
use Rattle.std.proofs.Common.{◌≡◌, ℕ, zero, suc, ◌+◌, ◌<◌, ℤ, pos, Bool, true, false, Option, Some, None, List, [], ◌∷◌, ◌++◌, take, get_or, length, slice_index_or, ◌≤◌, map, refl, sym, ◌∙◌, ap, subst, arith}
use Rattle.std.specs.Prelude.{int_le, int_lt, ◌||◌, is_some, IfSome, IfNone, if◌then◌else◌}
use Rattle.std.proofs.lemmas.Int.{ints}
use Rattle.std.proofs.lemmas.List.{take_more, ext_get_or, get_or-map, length-map}
use mathlib.Core.Logic.{⊎_elim}
use Rattle.tag_clock.specs.declared.Tags.{Tags}
use Rattle.nbd_base.specs.Least.{the_sooner, least, keyed}
use Rattle.index_heap.specs.Keys.{numbered, flipped, least_key}
use Rattle.eligibility.specs.Choice.{choice, candidates, due, due_r, due_p, slot_key, by_phase}
use Rattle.eligibility.specs.Indexed.{slot_r, slot_l, IsHeld, IsSplit, IsIndexed}
use Rattle.eligibility.specs.NextDue.{IsNextDue, IsNeverDue, lesser, least_tag, not_before, key_alone}
use Rattle.eligibility.proofs.Split.{moments_le}
use Rattle.eligibility.proofs.Due.{IsBelowAll, below_all, least_there, unflip_none}

-- ---- the lesser of two
lesser_none : (a : Option ℤ) → lesser a None ≡ a
lesser_none None = refl
lesser_none (Some a) = refl

lesser_assoc : (a b c : Option ℤ) → lesser (lesser a b) c ≡ lesser a (lesser b c)
lesser_assoc None b c = refl
lesser_assoc (Some a) None c = refl
lesser_assoc (Some a) (Some b) None = lesser_none (lesser (Some a) (Some b))
lesser_assoc (Some a) (Some b) (Some c) = grind (arith, ints)

lesser_comm : (a b : Option ℤ) → lesser a b ≡ lesser b a
lesser_comm None b = sym (lesser_none b)
lesser_comm (Some a) None = refl
lesser_comm (Some a) (Some b) = grind (arith, ints)

lesser_pairs : (a b c d : Option ℤ) → lesser (lesser a b) (lesser c d) ≡ lesser (lesser a c) (lesser b d)
lesser_pairs a b c d =
    lesser_assoc a b (lesser c d)
    ∙ ap (lesser a) (sym (lesser_assoc b c d) ∙ ap (λ x. lesser x d) (lesser_comm b c) ∙ lesser_assoc c b d)
    ∙ sym (lesser_assoc a c (lesser b d))

-- ---- the least tag of a list that grows at its end
least-append : (xs ys : List (Option Tags)) → least_tag (xs ++ ys) ≡ lesser (least_tag xs) (least_tag ys)
least-append [] ys = refl
least-append (x ∷ xs) ys = ap (lesser (lesser (slot_r x) (slot_l x))) (least-append xs ys) ∙ sym (lesser_assoc (lesser (slot_r x) (slot_l x)) (least_tag xs) (least_tag ys))

-- the next slot is looked at
pub least_more : (slots : List (Option Tags)) (i : ℕ) → i < length slots → least_tag (take (i + 1) slots) ≡ lesser (least_tag (take i slots)) (lesser (slot_r (get_or slots i None)) (slot_l (get_or slots i None)))
least_more slots i lt =
    ap least_tag (take_more slots i None lt)
    ∙ least-append (take i slots) (get_or slots i None ∷ [])
    ∙ ap (lesser (least_tag (take i slots))) (lesser_none (lesser (slot_r (get_or slots i None)) (slot_l (get_or slots i None))))

-- ---- a tag that is there and isn't above t
abbrev pub is_by : ℤ → Option ℤ → Bool
is_by t None = false
is_by t (Some tag) = int_le tag t

by_test : (t a b : ℤ) (c : Bool) → int_le a b ≡ c → is_by t (if c then Some a else Some b) ≡ (int_le a t || int_le b t)
by_test t a b true h = grind (arith, ints)
by_test t a b false h = grind (arith, ints)

or_false : (b : Bool) → b ≡ (b || false)
or_false true = refl
or_false false = refl

by_lesser : (t : ℤ) (a b : Option ℤ) → is_by t (lesser a b) ≡ (is_by t a || is_by t b)
by_lesser t None b = refl
by_lesser t (Some a) None = or_false (int_le a t)
by_lesser t (Some a) (Some b) = by_test t a b (int_le a b) refl

or_pairs : (a b c d : Bool) → ((a || b) || (c || d)) ≡ ((a || c) || (b || d))
or_pairs true b c d = refl
or_pairs false true true d = refl
or_pairs false true false d = refl
or_pairs false false c d = refl

-- ---- something is chosen exactly where the least tag isn't above now
some_test : {B : Type 0} (c : Bool) (a b : B) → is_some (if c then Some a else Some b) ≡ true
some_test true a b = refl
some_test false a b = refl

some_sooner : (k : Option ℤ) (e : ℕ) (r : Option (ℤ × ℕ)) → is_some (the_sooner (keyed k e) r) ≡ (is_some k || is_some r)
some_sooner None e r = refl
some_sooner (Some k) e None = refl
some_sooner (Some k) e (Some a) = some_test (int_le k a.0) (k, e) a

some_phase : (a b : Option (ℤ × ℕ)) → is_some (by_phase a b) ≡ (is_some a || is_some b)
some_phase None None = refl
some_phase None (Some b) = refl
some_phase (Some a) b = refl

abbrev pub any_key : (Tags → Option ℤ) → List (Option Tags) → Bool
any_key key [] = false
any_key key (slot ∷ slots) = is_some (slot_key key slot) || any_key key slots

some_candidate : (key : Tags → Option ℤ) (e : ℕ) (slots : List (Option Tags)) → is_some (least (candidates key e slots)) ≡ any_key key slots
some_candidate key e [] = refl
some_candidate key e (slot ∷ slots) =
    some_sooner (slot_key key slot) e (least (candidates key (e + 1) slots))
    ∙ ap (λ b. is_some (slot_key key slot) || b) (some_candidate key (e + 1) slots)

some_if : {B : Type 0} (c : Bool) (a : B) → is_some (if c then Some a else None) ≡ c
some_if true a = refl
some_if false a = refl

some_due : (t : ℤ) (tag : Option ℤ) → is_some (due t tag) ≡ is_by t tag
some_due t None = refl
some_due t (Some tag) = some_if (int_le tag t) tag

some_r : (t : ℤ) (slot : Option Tags) → is_some (slot_key (due_r t) slot) ≡ is_by t (slot_r slot)
some_r t None = refl
some_r t (Some tags) = some_due t tags.r

some_p : (t : ℤ) (slot : Option Tags) → is_some (slot_key (due_p t) slot) ≡ is_by t (slot_l slot)
some_p t None = refl
some_p t (Some tags) = some_if (int_le tags.l t) tags.p

any_by : (t : ℤ) (slots : List (Option Tags)) → (any_key (due_r t) slots || any_key (due_p t) slots) ≡ is_by t (least_tag slots)
any_by t [] = refl
any_by t (slot ∷ slots) =
    let rest = least_tag slots in
    or_pairs (is_some (slot_key (due_r t) slot)) (any_key (due_r t) slots) (is_some (slot_key (due_p t) slot)) (any_key (due_p t) slots)
    ∙ ap (λ b. (is_some (slot_key (due_r t) slot) || is_some (slot_key (due_p t) slot)) || b) (any_by t slots)
    ∙ ap (λ b. (b || is_some (slot_key (due_p t) slot)) || is_by t rest) (some_r t slot)
    ∙ ap (λ b. (is_by t (slot_r slot) || b) || is_by t rest) (some_p t slot)
    ∙ ap (λ b. b || is_by t rest) (sym (by_lesser t (slot_r slot) (slot_l slot)))
    ∙ sym (by_lesser t (lesser (slot_r slot) (slot_l slot)) rest)

pub chosen_by : (t : ℤ) (slots : List (Option Tags)) → is_some (choice t slots) ≡ is_by t (least_tag slots)
chosen_by t slots =
    let r = least (candidates (due_r t) 0 slots) in
    let p = least (candidates (due_p t) 0 slots) in
    some_phase r p
    ∙ ap (λ b. b || is_some p) (some_candidate (due_r t) 0 slots)
    ∙ ap (λ b. any_key (due_r t) slots || b) (some_candidate (due_p t) 0 slots)
    ∙ any_by t slots

pub none_there : {B : Type 0} (o : Option B) → is_some o ≡ false → o ≡ None
none_there None h = refl
none_there (Some a) h = cc

none_chosen : (t : ℤ) (slots : List (Option Tags)) → is_by t (least_tag slots) ≡ false → choice t slots ≡ None
none_chosen t slots h = none_there (choice t slots) (chosen_by t slots ∙ h)

le_self : (a : ℤ) → int_le a a ≡ true
le_self a = grind (arith, ints)

none_between : {P : Type 0} (a t : ℤ) → int_le a t ≡ true → int_lt t a ≡ true → P
none_between a t h k = absurd (no_way a t h k)
  where
    no_way : (a t : ℤ) → int_le a t ≡ true → int_lt t a ≡ true → ⊥
    no_way a t h k = grind (arith, ints)

not_le : (a b : ℤ) → int_le a b ≡ false → int_le b a ≡ true
not_le a b h = grind (arith, ints)

lt_not_le : (a b : ℤ) → int_lt a b ≡ true → int_le b a ≡ false
lt_not_le a b h = grind (arith, ints)

-- something is due now
pub due_now : (now : ℤ) (slots : List (Option Tags)) → is_by now (least_tag slots) ≡ true → IsNextDue now slots now
due_now now slots h = record {
  from_now = le_self now;
  chooses = chosen_by now slots ∙ h;
  none_before = λ t le lt. none_between now t le lt;
}

-- the least tag is later than now
due_later : (now tag : ℤ) (slots : List (Option Tags)) → least_tag slots ≡ Some tag → int_le tag now ≡ false → IsNextDue now slots tag
due_later now tag slots is h = record {
  from_now = not_le tag now h;
  chooses = chosen_by tag slots ∙ ap (is_by tag) is ∙ le_self tag;
  none_before = λ t le lt. none_chosen t slots (ap (is_by t) is ∙ lt_not_le t tag lt);
}

-- what is told of the least tag
abbrev pub IsTold : ℤ → List (Option Tags) → Option ℤ → Type 0
IsTold now slots None = IsNeverDue now slots
IsTold now slots (Some due) = IsNextDue now slots due

told_test : (now tag : ℤ) (slots : List (Option Tags)) (c : Bool) → least_tag slots ≡ Some tag → int_le tag now ≡ c → IsTold now slots (if c then Some now else Some tag)
told_test now tag slots true is h = due_now now slots (ap (is_by now) is ∙ h)
told_test now tag slots false is h = due_later now tag slots is h

pub told : (now : ℤ) (slots : List (Option Tags)) (tag : Option ℤ) → least_tag slots ≡ tag → IsTold now slots (not_before now tag)
told now slots None is = λ t le. none_chosen t slots (ap (is_by t) is)
told now slots (Some tag) is = told_test now tag slots (int_le tag now) is refl

-- ---- the same from heaps
least_of : List (Option ℤ) → Option ℤ
least_of [] = None
least_of (key ∷ keys) = lesser key (least_of keys)

key_test : (c : Bool) (a b : ℤ × ℕ) → key_alone (flipped (if c then Some a else Some b)) ≡ (if c then Some a.0 else Some b.0)
key_test true a b = refl
key_test false a b = refl

key_sooner : (k : Option ℤ) (e : ℕ) (r : Option (ℤ × ℕ)) → key_alone (flipped (the_sooner (keyed k e) r)) ≡ lesser k (key_alone (flipped r))
key_sooner None e r = refl
key_sooner (Some k) e None = refl
key_sooner (Some k) e (Some a) = key_test (int_le k a.0) (k, e) a

key_least : (e : ℕ) (keys : List (Option ℤ)) → key_alone (flipped (least (numbered e keys))) ≡ least_of keys
unfolding least_of
key_least e [] = refl
key_least e (key ∷ keys) = key_sooner key e (least (numbered (e + 1) keys)) ∙ ap (lesser key) (key_least (e + 1) keys)

least_both : (slots : List (Option Tags)) → lesser (least_of (map slot_r slots)) (least_of (map slot_l slots)) ≡ least_tag slots
unfolding least_of
least_both [] = refl
least_both (slot ∷ slots) =
    lesser_pairs (slot_r slot) (least_of (map slot_r slots)) (slot_l slot) (least_of (map slot_l slots))
    ∙ ap (lesser (lesser (slot_r slot) (slot_l slot))) (least_both slots)

not_ready : {P : Type 0} (r : Option ℤ) (p : ℤ) → r ≡ Some p → r ≡ None → P
not_ready r p h k = let e : None ≡ Some p = sym k ∙ h in cc

-- while nothing is ready, all active exports are throttled
held_throttled : (now : ℤ) (slot : Option Tags) (t r : Option ℤ) → IsHeld now slot t r → r ≡ None → t ≡ slot_l slot
held_throttled now None t r h none = h.0
held_throttled now (Some tags) t r h none = ⊎_elim (λ k. k.0) (λ k. not_ready r tags.p k.1 none) h

all_throttled : (now : ℤ) (slots : List (Option Tags)) (ts rs : List (Option ℤ)) → IsSplit now slots ts rs → least_key rs ≡ None → ts ≡ map slot_l slots
all_throttled now slots ts rs h none =
    let empty : (j : ℕ) → slice_index_or rs j None ≡ None = subst (λ r. IsBelowAll r rs) (unflip_none (least (numbered 0 rs)) none) (below_all rs 0) in
    ext_get_or None ts (map slot_l slots) (simp length-map h.throttled_length) (λ i il.
    let inside : i < length slots = omega (arith, h.throttled_length, il) in
    held_throttled now (slice_index_or slots i None) (slice_index_or ts i None) (slice_index_or rs i None) (h.each i inside) (empty i)
    ∙ sym (get_or-map slot_l slots i None None inside))

-- what is told of the least R tag and the least throttled L tag
pub told_of_heaps : (asked now : ℕ) (slots : List (Option Tags)) (rs ts ps : List (Option ℤ)) → IsIndexed asked slots rs ts ps → least_key ps ≡ None
    → IsTold (pos now) slots (not_before (pos now) (lesser (key_alone (least_key rs)) (key_alone (least_key ts))))
told_of_heaps asked now slots rs ts ps h none =
    let throttled = all_throttled (pos asked) slots ts ps h.split none in
    told (pos now) slots (lesser (key_alone (least_key rs)) (key_alone (least_key ts)))
    (sym
    (ap (λ a. lesser a (key_alone (least_key ts))) (key_least 0 rs ∙ ap least_of h.by_r)
    ∙ ap (lesser (least_of (map slot_r slots))) (key_least 0 ts ∙ ap least_of throttled)
    ∙ least_both slots))

-- an L tag that isn't above now
by_one : (now : ℤ) (slots : List (Option Tags)) (i : ℕ) → is_by now (slot_l (slice_index_or slots i None)) ≡ true → is_by now (least_tag slots) ≡ true
by_one now [] i h = h
by_one now (slot ∷ slots) zero h =
    by_lesser now (lesser (slot_r slot) (slot_l slot)) (least_tag slots)
    ∙ ap (λ b. b || is_by now (least_tag slots)) (by_lesser now (slot_r slot) (slot_l slot) ∙ ap (λ b. is_by now (slot_r slot) || b) h ∙ or_true (is_by now (slot_r slot)))
  where
    or_true : (b : Bool) → (b || true) ≡ true
    or_true true = refl
    or_true false = refl
by_one now (slot ∷ slots) (suc i) h =
    by_lesser now (lesser (slot_r slot) (slot_l slot)) (least_tag slots)
    ∙ ap (λ b. is_by now (lesser (slot_r slot) (slot_l slot)) || b) (by_one now slots i h)
    ∙ or_true (is_by now (lesser (slot_r slot) (slot_l slot)))
  where
    or_true : (b : Bool) → (b || true) ≡ true
    or_true true = refl
    or_true false = refl

le_later : (tag asked now : ℤ) → int_le tag asked ≡ true → int_le asked now ≡ true → int_le tag now ≡ true
le_later tag asked now h k = grind (arith, ints)

held_ready : (asked now : ℤ) (slot : Option Tags) (t r : Option ℤ) (p : ℤ) → IsHeld asked slot t r → r ≡ Some p → int_le asked now ≡ true → is_by now (slot_l slot) ≡ true
held_ready asked now None t r p h is le = not_ready r p is h.1
held_ready asked now (Some tags) t r p h is le = ⊎_elim (λ k. not_ready r p is k.1) (λ k. le_later tags.l asked now k.2 le) h

-- what is ready is due now
pub ready_due : (asked now : ℕ) (slots : List (Option Tags)) (rs ts ps : List (Option ℤ)) (e : ℕ) (p : ℤ) → IsIndexed asked slots rs ts ps → asked ≤ now → least_key ps ≡ Some (e, p) → IsNextDue (pos now) slots (pos now)
ready_due asked now slots rs ts ps e p h le is =
    let there = least_there ps e p is in
    let inside : e < length slots = omega (arith, there.0, h.split.ready_length) in
    due_now (pos now) slots
    (by_one (pos now) slots e
    (held_ready (pos asked) (pos now) (slice_index_or slots e None) (slice_index_or ts e None) (slice_index_or ps e None) p (h.split.each e inside) there.1 (moments_le asked now le)))

pub ready_due_now : (asked now : ℕ) (slots : List (Option Tags)) (rs ts ps : List (Option ℤ)) → IsIndexed asked slots rs ts ps → asked ≤ now → is_some (least_key ps) ≡ true → IsNextDue (pos now) slots (pos now)
ready_due_now asked now slots rs ts ps h le some = by (least_key ps) refl some
  where
    by : (o : Option (ℕ × ℤ)) → least_key ps ≡ o → is_some o ≡ true → IsNextDue (pos now) slots (pos now)
    by None is k = cc
    by (Some a) is k = ready_due asked now slots rs ts ps a.0 a.1 h le is

-- what is told, as the clauses say it
pub some_told : (now : ℤ) (slots : List (Option Tags)) (o : Option ℤ) → IsTold now slots o → IfSome o (λ due. IsNextDue now slots due)
some_told now slots None h = tt
some_told now slots (Some due) h = h

pub never_told : (now : ℤ) (slots : List (Option Tags)) (o : Option ℤ) → IsTold now slots o → IfNone o (IsNeverDue now slots)
never_told now slots None h = h
never_told now slots (Some due) h = tt
