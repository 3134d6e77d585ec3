-- What the tests of a walk tell.
use Rattle.std.proofs.Common.{◌≡◌, ℕ, zero, suc, ◌+◌, ◌<◌, ℤ, Bool, true, false, Option, Some, None, List, [], ◌∷◌, ◌++◌, drop, length, slice_index_or, refl, sym, ◌∙◌, ap, arith}
use Rattle.std.specs.Prelude.{slice_get, if◌then◌else◌}
use Rattle.std.proofs.lemmas.Bool.{ltb-true}
use Rattle.tag_clock.specs.declared.Tags.{Tags}
use Rattle.nbd_base.specs.Range.{InRange, IsOptionInRange}
use Rattle.eligibility.specs.Choice.{IsSlotInRange, AllInRange}
use Rattle.eligibility.specs.Walk.{fits, option_fits, slot_fits, slots_fit, is_active, said, after, latest, walked}
use Rattle.eligibility.specs.declared.walks.Op.{Op}
use Rattle.tag_clock.specs.declared.Phase.{Phase}
use Rattle.std.proofs.lemmas.List.{append_assoc, drop_more}

false_true : {P : Type 0} → false ≡ true → P
false_true h = cc

some_active : (x : Option (Option Tags)) → is_active x ≡ true → (tags : Tags) × (x ≡ Some (Some tags))
some_active None h = false_true h
some_active (Some None) h = false_true h
some_active (Some (Some tags)) h = (tags, refl)

pub active_at : (xs ys : List (Option Tags)) (e : ℕ) → xs ≡ ys → is_active (slice_get ys e) ≡ true → (tags : Tags) × (slice_get xs e ≡ Some (Some tags))
active_at xs ys e same h =
    let f = some_active (slice_get ys e) h in
    (f.0, ap (λ zs. slice_get zs e) same ∙ f.1)

pub active_in : (xs : List (Option Tags)) (e : ℕ) → is_active (slice_get xs e) ≡ true → e < length xs
active_in [] e h = false_true h
active_in (x ∷ xs) zero h = omega arith
active_in (x ∷ xs) (suc e) h = omega (arith, active_in xs e h)

first_true : (a b : Bool) → (if a then b else false) ≡ true → (a ≡ true) × (b ≡ true)
first_true true b h = (refl, h)
first_true false b h = false_true h

fits_range : (z : ℤ) → fits z ≡ true → InRange z
fits_range z h = record { in_range = ltb-true _ _ h }

option_range : (x : Option ℤ) → option_fits x ≡ true → IsOptionInRange x
option_range None h = tt
option_range (Some z) h = fits_range z h

slot_range : (slot : Option Tags) → slot_fits slot ≡ true → IsSlotInRange slot
slot_range None h = tt
slot_range (Some tags) h =
    let p = first_true (option_fits tags.r) (if fits tags.l then fits tags.p else false) h in
    let q = first_true (fits tags.l) (fits tags.p) p.1 in
    (option_range tags.r p.0, fits_range tags.l q.0, fits_range tags.p q.1)

pub slots_range : (slots : List (Option Tags)) → slots_fit slots ≡ true → AllInRange slots
slots_range [] h = λ k d l. absurd (omega (arith, l))
slots_range (slot ∷ slots) h =
    let p = first_true (slot_fits slot) (slots_fit slots) h in
    each slot slots (slot_range slot p.0) (slots_range slots p.1)
  where
    each : (slot : Option Tags) (slots : List (Option Tags)) → IsSlotInRange slot → AllInRange slots → (k : ℕ) (d : Option Tags) → k < length (slot ∷ slots) → IsSlotInRange (slice_index_or (slot ∷ slots) k d)
    each slot slots a b zero d l = a
    each slot slots a b (suc k) d l = b k d (omega (arith, l))

-- one operation further
pub walked_step : (ops : List Op) (i : ℕ) (op : Op) (told before : List (Option (ℕ × Phase))) (all : List (Option (ℕ × Phase))) (held held' : List (Option Tags)) (asked asked' : ℕ) → i < length ops → op ≡ slice_index_or ops i op
    → told ≡ before ++ said op held asked → held' ≡ after op held → asked' ≡ latest op asked → before ++ walked (drop i ops) held asked ≡ all → told ++ walked (drop (i + 1) ops) held' asked' ≡ all
walked_step ops i op told before all held held' asked asked' lt is e f n h =
    rw (e, f, n) (append_assoc before (said op held asked) (walked (drop (i + 1) ops) (after op held) (latest op asked))
    ∙ ap (λ (os : List Op). before ++ walked os held asked) (sym (drop_more ops i op lt ∙ ap (λ (o : Op). o ∷ drop (i + 1) ops) (sym is)))
    ∙ h)
