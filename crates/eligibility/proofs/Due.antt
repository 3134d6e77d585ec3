-- The least key of a heap, and the choice from two of them.
use Rattle.std.proofs.Common.{◌≡◌, ℕ, zero, suc, ◌+◌, ◌<◌, ℤ, Bool, true, false, Option, Some, None, List, [], ◌∷◌, length, slice_index_or, map, refl, sym, ◌∙◌, ap, subst, arith}
use Rattle.std.specs.Prelude.{int_le, int_lt, if◌then◌else◌}
use Rattle.std.proofs.lemmas.Int.{ints}
use Rattle.tag_clock.specs.declared.Tags.{Tags}
use Rattle.nbd_base.specs.Least.{the_sooner, least, keyed}
use Rattle.index_heap.specs.Keys.{numbered, flipped, least_key}
use Rattle.eligibility.specs.Choice.{candidates, due, due_r, due_p, slot_key, by_phase, choice}
use Rattle.eligibility.specs.Indexed.{slot_r, AllLate, chosen_of, IsSplit}
use Rattle.eligibility.proofs.Split.{ready_is}
use Rattle.tag_clock.specs.declared.Phase.TheVariants.{Reservation, Weight}

unflipped : Option (ℕ × ℤ) → Option (ℤ × ℕ)
unflipped None = None
unflipped (Some a) = Some (a.1, a.0)

flipped_back : (x : Option (ℤ × ℕ)) → unflipped (flipped x) ≡ x
unfolding unflipped
flipped_back None = refl
flipped_back (Some a) = refl

pub unflip : (x : Option (ℤ × ℕ)) (id : ℕ) (l : ℤ) → flipped x ≡ Some (id, l) → x ≡ Some (l, id)
unfolding unflipped
unflip x id l h = sym (flipped_back x) ∙ ap unflipped h

pub unflip_none : (x : Option (ℤ × ℕ)) → flipped x ≡ None → x ≡ None
unfolding unflipped
unflip_none x h = sym (flipped_back x) ∙ ap unflipped h

some_same : {X : Type 0} (d a b : X) → Some a ≡ Some b → a ≡ b
some_same {X} d a b h = ap (λ (z : Option X). elim z as (λ _. X) [ None ↦ d | Some y ↦ y ]) h

pub record IsFound (ks : List (Option ℤ)) (e id : ℕ) (l : ℤ) : Type 0 where
  pub place : ℕ
  pub is : id ≡ e + place
  pub inside : place < length ks
  pub key : slice_index_or ks place None ≡ Some l

here : (x : ℤ) (ks : List (Option ℤ)) (e id : ℕ) (l : ℤ) → keyed (Some x) e ≡ keyed (Some l) id → IsFound (Some x ∷ ks) e id l
here x ks e id l h =
    let a : ℤ × ℕ = (x, e) in
    let b : ℤ × ℕ = (l, id) in
    let same : a ≡ b = some_same a a b h in
    let n : e ≡ id = ap (λ (q : ℤ × ℕ). q.1) same in
    let k : x ≡ l = ap (λ (q : ℤ × ℕ). q.0) same in
    record { place = 0; is = omega (arith, n); inside = omega arith; key = ap (λ (z : ℤ). Some z) k }

later : (x : Option ℤ) (ks : List (Option ℤ)) (e id : ℕ) (l : ℤ) → IsFound ks (e + 1) id l → IsFound (x ∷ ks) e id l
later x ks e id l f = record { place = suc f.place; is = omega (arith, f.is); inside = omega (arith, f.inside); key = f.key }

in_test : (b : Bool) (x : ℤ) (ks : List (Option ℤ)) (e id : ℕ) (l : ℤ) (a : ℤ × ℕ) → (Some a ≡ keyed (Some l) id → IsFound ks (e + 1) id l) → (if b then keyed (Some x) e else Some a) ≡ keyed (Some l) id → IsFound (Some x ∷ ks) e id l
in_test true x ks e id l a ih h = here x ks e id l h
in_test false x ks e id l a ih h = later (Some x) ks e id l (ih h)

in_step : (x : ℤ) (ks : List (Option ℤ)) (e id : ℕ) (l : ℤ) (r : Option (ℤ × ℕ)) → (r ≡ Some (l, id) → IsFound ks (e + 1) id l) → the_sooner (keyed (Some x) e) r ≡ keyed (Some l) id → IsFound (Some x ∷ ks) e id l
in_step x ks e id l None ih h = here x ks e id l h
in_step x ks e id l (Some a) ih h = in_test (int_le x a.0) x ks e id l a ih h

-- the least key stands at its id
pub least_in : (ks : List (Option ℤ)) (e id : ℕ) (l : ℤ) → least (numbered e ks) ≡ Some (l, id) → IsFound ks e id l
least_in [] e id l h = cc
least_in (None ∷ ks) e id l h = later None ks e id l (least_in ks (e + 1) id l h)
least_in (Some x ∷ ks) e id l h = in_step x ks e id l (least (numbered (e + 1) ks)) (least_in ks (e + 1) id l) h

-- no key is below
abbrev pub IsBelowAll : Option (ℤ × ℕ) → List (Option ℤ) → Type 0
IsBelowAll None ks = (j : ℕ) → slice_index_or ks j None ≡ None
IsBelowAll (Some a) ks = (j : ℕ) (v : ℤ) → slice_index_or ks j None ≡ Some v → int_le a.0 v ≡ true

each_place : (P : ℕ → Type 0) → P zero → ((j : ℕ) → P (suc j)) → (j : ℕ) → P j
each_place P z s zero = z
each_place P z s (suc j) = s j

le_same : (k v : ℤ) → Some k ≡ Some v → int_le k v ≡ true
le_same k v h = let e : k ≡ v = cc in rw e (le_self v)
  where
    le_self : (v : ℤ) → int_le v v ≡ true
    le_self v = grind (arith, ints)

le_chain : (a b c : ℤ) → int_le a b ≡ true → int_le b c ≡ true → int_le a c ≡ true
le_chain a b c h k = grind (arith, ints)

not_le : (a b : ℤ) → int_le a b ≡ false → int_le b a ≡ true
not_le a b h = grind (arith, ints)

not_some : {P : Type 0} (v : ℤ) → None ≡ Some v → P
not_some v h = cc

nothing_some : {P : Type 0} (x : Option ℤ) (v : ℤ) → x ≡ None → x ≡ Some v → P
nothing_some x v h k = not_some v (sym h ∙ k)

below_test : (b : Bool) (k : ℤ) (e : ℕ) (a : ℤ × ℕ) (ks : List (Option ℤ)) → int_le k a.0 ≡ b → IsBelowAll (Some a) ks → IsBelowAll (if b then keyed (Some k) e else Some a) (Some k ∷ ks)
below_test true k e a ks t h = each_place _ (λ v q. le_same k v q) (λ j v q. le_chain k a.0 v t (h j v q))
below_test false k e a ks t h = each_place _ (λ v q. le_chain a.0 k v (not_le k a.0 t) (le_same k v q)) (λ j v q. h j v q)

below_step : (x : Option ℤ) (e : ℕ) (r : Option (ℤ × ℕ)) (ks : List (Option ℤ)) → IsBelowAll r ks → IsBelowAll (the_sooner (keyed x e) r) (x ∷ ks)
below_step None e None ks h = each_place _ refl h
below_step None e (Some a) ks h = each_place _ (λ v q. not_some v q) h
below_step (Some k) e None ks h = each_place _ (λ v q. le_same k v q) (λ j v q. nothing_some (slice_index_or ks j None) v (h j) q)
below_step (Some k) e (Some a) ks h = below_test (int_le k a.0) k e a ks refl h

pub below_all : (ks : List (Option ℤ)) (e : ℕ) → IsBelowAll (least (numbered e ks)) ks
below_all [] e = λ j. refl
below_all (x ∷ ks) e = below_step x e (least (numbered (e + 1) ks)) ks (below_all ks (e + 1))

late_from : (l v now : ℤ) → int_le l now ≡ false → int_le l v ≡ true → int_le v now ≡ false
late_from l v now h k = grind (arith, ints)

-- the least limit isn't due, so none is
pub none_due : (now l : ℤ) (id : ℕ) (ks : List (Option ℤ)) → least_key ks ≡ Some (id, l) → int_le l now ≡ false → AllLate now ks
none_due now l id ks h k = λ i v il e.
    late_from l v now k ((subst (λ r. IsBelowAll r ks) (unflip (least (numbered 0 ks)) id l h) (below_all ks 0)) i v e)

pub none_left : (now : ℤ) (ks : List (Option ℤ)) → least_key ks ≡ None → AllLate now ks
none_left now ks h = λ i v il e.
    nothing_some (slice_index_or ks i None) v ((subst (λ r. IsBelowAll r ks) (unflip_none (least (numbered 0 ks)) h) (below_all ks 0)) i) e

-- where the least key stands
pub least_there : (ks : List (Option ℤ)) (id : ℕ) (l : ℤ) → least_key ks ≡ Some (id, l) → (id < length ks) × (slice_index_or ks id None ≡ Some l)
least_there ks id l h =
    let f = least_in ks 0 id l (unflip (least (numbered 0 ks)) id l h) in
    let e : id ≡ f.place = omega (arith, f.is) in
    (omega (arith, e, f.inside), rw e f.key)

abbrev pub only_due : ℤ → Option (ℤ × ℕ) → Option (ℤ × ℕ)
only_due now None = None
only_due now (Some a) = if int_le a.0 now then Some a else None

due_step : (now : ℤ) (x : Option ℤ) (e : ℕ) (r : Option (ℤ × ℕ)) → the_sooner (keyed (due now x) e) (only_due now r) ≡ only_due now (the_sooner (keyed x e) r)
due_step now None e r = refl
due_step now (Some k) e None = grind (arith, ints)
due_step now (Some k) e (Some a) = grind (arith, ints)

-- the least of the due keys is the least of all, where that is due
pub least_due : (now : ℤ) (ks : List (Option ℤ)) (e : ℕ) → least (numbered e (map (due now) ks)) ≡ only_due now (least (numbered e ks))
least_due now [] e = refl
least_due now (x ∷ ks) e = ap (the_sooner (keyed (due now x) e)) (least_due now ks (e + 1)) ∙ due_step now x e (least (numbered (e + 1) ks))

r_due : (now : ℤ) (slot : Option Tags) → slot_key (due_r now) slot ≡ due now (slot_r slot)
r_due now None = refl
r_due now (Some tags) = refl

by_r : (now : ℤ) (slots : List (Option Tags)) (e : ℕ) → candidates (due_r now) e slots ≡ numbered e (map (due now) (map slot_r slots))
by_r now [] e = refl
by_r now (slot ∷ slots) e = rw (r_due now slot) (ap (λ cs. keyed (due now (slot_r slot)) e ∷ cs) (by_r now slots (e + 1)))

by_p : (now : ℤ) (slots : List (Option Tags)) (e : ℕ) → candidates (due_p now) e slots ≡ numbered e (map (slot_key (due_p now)) slots)
by_p now [] e = refl
by_p now (slot ∷ slots) e = ap (λ cs. keyed (slot_key (due_p now) slot) e ∷ cs) (by_p now slots (e + 1))

phase_test : (b : Bool) (a c : ℤ × ℕ) → by_phase (if b then Some a else None) (Some c) ≡ (if b then Some (a.1, Reservation) else Some (c.1, Weight))
phase_test true a c = refl
phase_test false a c = refl

phase_alone : (b : Bool) (a : ℤ × ℕ) → by_phase (if b then Some a else None) None ≡ (if b then Some (a.1, Reservation) else None)
phase_alone true a = refl
phase_alone false a = refl

phase_is : (now : ℤ) (a b : Option (ℤ × ℕ)) → by_phase (only_due now a) b ≡ chosen_of now (flipped a) (flipped b)
phase_is now None None = refl
phase_is now None (Some b) = refl
phase_is now (Some a) None = phase_alone (int_le a.0 now) a
phase_is now (Some a) (Some b) = phase_test (int_le a.0 now) a b

-- the choice is read off the two heaps
pub choice_is : (now : ℤ) (slots : List (Option Tags)) → choice now slots ≡ chosen_of now (least_key (map slot_r slots)) (least_key (map (slot_key (due_p now)) slots))
choice_is now slots =
    rw (by_r now slots 0, by_p now slots 0, least_due now (map slot_r slots) 0)
    (phase_is now (least (numbered 0 (map slot_r slots))) (least (numbered 0 (map (slot_key (due_p now)) slots))))

pub not_above : (a b : ℤ) → int_lt a b ≡ true → int_le b a ≡ false
not_above a b h = grind (arith, ints)

pub at_most : (a b : ℤ) → int_lt a b ≡ false → int_le b a ≡ true
at_most a b h = grind (arith, ints)

-- the choice from the heaps is the choice over the tags
pub chosen_from : (now : ℤ) (slots : List (Option Tags)) (rs ts ps : List (Option ℤ)) → IsSplit now slots ts ps → AllLate now ts → rs ≡ map slot_r slots → chosen_of now (least_key rs) (least_key ps) ≡ choice now slots
chosen_from now slots rs ts ps h late r = rw (r, ready_is now slots ts ps h late) (sym (choice_is now slots))
