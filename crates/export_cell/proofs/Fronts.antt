-- The oldest steps of a log go into its base.
use Rattle.std.proofs.Common.{◌≡◌, ℕ, zero, suc, ◌+◌, ◌≤◌, Bool, true, false, nat_lt, nat_le, ◌&&◌, List, [], ◌∷◌, length, take, drop, refl, sym, ap, subst, ◌∙◌, arith, if◌then◌else◌}
use Rattle.std.proofs.lemmas.Bool.Decides.{nat_tests}
use Rattle.nbd_commands.specs.Terms.{Terms}
use Rattle.lone_export.specs.Alone.{Alone, own_step, alone}
use Rattle.lone_export.specs.Lone.{Whole}
use Rattle.lone_export.proofs.Cases.{if_told}
use Rattle.step_log.specs.Steps.{KeptStep, payload_in}
use Rattle.export_cell.specs.Journal.{Journal, Cell, fits, surplus, advanced, HasAdvanced, IsTrimmed, IsTrimming}

if_so : {X : Type 0} (b : Bool) (x y : X) → b ≡ true → (if b then x else y) ≡ x
if_so true x y h = refl
if_so false x y h = absurd (cc)

if_not : {X : Type 0} (b : Bool) (x y : X) → b ≡ false → (if b then x else y) ≡ y
if_not true x y h = absurd (cc)
if_not false x y h = refl

within_bytes : (m n : ℕ) → (nat_lt m 4096 && nat_le n 67108864) ≡ true → n ≤ 67108864
within_bytes m n h = grind (arith, nat_tests)

pub drop-twice : {X : Type 0} (n : ℕ) (xs : List X) → drop 1 (drop n xs) ≡ drop (suc n) xs
drop-twice zero xs = refl
drop-twice (suc n) [] = refl
drop-twice (suc n) (x ∷ xs) = drop-twice n xs

-- some steps, and some more
none-more : (m : ℕ) → 0 + m ≡ m
none-more m = omega arith

one-more : (n m : ℕ) → suc n + m ≡ suc (n + m)
one-more n m = omega arith

none-taken : {X : Type 0} (n : ℕ) → take {A = X} n [] ≡ []
none-taken zero = refl
none-taken (suc n) = refl

none-dropped : {X : Type 0} (n : ℕ) → drop {A = X} n [] ≡ []
none-dropped zero = refl
none-dropped (suc n) = refl

alone-then : (terms : Terms) (base : Alone) (n m : ℕ) (log : List KeptStep) → alone terms (alone terms base (take n log)) (take m (drop n log)) ≡ alone terms base (take (n + m) log)
alone-then terms base zero m log = ap (λ k. alone terms base (take k log)) (sym (none-more m))
alone-then terms base (suc n) m [] = ap (λ (l : List KeptStep). alone terms base l) (none-taken m ∙ sym (none-taken (suc n + m)))
alone-then terms base (suc n) m (step ∷ log) = alone-then terms (own_step terms base step).state n m log ∙ ap (λ k. alone terms base (take k (step ∷ log))) (sym (one-more n m))

drop-then : {X : Type 0} (n m : ℕ) (xs : List X) → drop m (drop n xs) ≡ drop (n + m) xs
drop-then zero m xs = ap (λ k. drop k xs) (sym (none-more m))
drop-then (suc n) m [] = none-dropped m ∙ sym (none-dropped (suc n + m))
drop-then (suc n) m (x ∷ xs) = drop-then n m xs ∙ ap (λ k. drop k (x ∷ xs)) (sym (one-more n m))

advanced-then : (terms : Terms) (n m : ℕ) (journal : Journal) → advanced terms m (advanced terms n journal) ≡ advanced terms (n + m) journal
advanced-then terms n m journal = λ i. record { base = alone-then terms journal.base n m journal.log i; log = drop-then n m journal.log i }

-- a log that fits is left
pub surplus-none : (bytes : ℕ) (log : List KeptStep) → fits bytes log ≡ true → surplus bytes log ≡ 0
surplus-none bytes [] h = refl
surplus-none bytes (step ∷ log) h = if_so (fits bytes (step ∷ log)) 0 (surplus bytes log + 1) h

-- one that doesn't has a step to give
pub surplus-one : (bytes : ℕ) (log : List KeptStep) → bytes ≤ 33554432 → fits bytes log ≡ false → surplus bytes log ≡ surplus bytes (drop 1 log) + 1
surplus-one bytes [] few h = absurd (grind (arith, nat_tests))
surplus-one bytes (step ∷ log) few h = if_not (fits bytes (step ∷ log)) 0 (surplus bytes log + 1) h

-- what is left fits
pub fits-trimmed : (bytes : ℕ) (log : List KeptStep) → bytes ≤ 33554432 → payload_in (drop (surplus bytes log) log) + bytes ≤ 67108864
fits-trimmed bytes [] few = omega arith
fits-trimmed bytes (step ∷ log) few =
    if_told (λ n. payload_in (drop n (step ∷ log)) + bytes ≤ 67108864) (fits bytes (step ∷ log))
    (λ h. within_bytes (length (step ∷ log)) (payload_in (step ∷ log) + bytes) h)
    (λ h. subst (λ n. payload_in (drop n (step ∷ log)) + bytes ≤ 67108864) (sym (plus_one (surplus bytes log))) (fits-trimmed bytes log few))
  where
    plus_one : (n : ℕ) → n + 1 ≡ suc n
    plus_one n = omega arith

-- a log with two steps more than it may have gives three
pub surplus-three : (bytes : ℕ) (log : List KeptStep) → bytes ≤ 33554432 → 4098 ≤ length log → surplus bytes log ≡ surplus bytes (drop 3 log) + 3
surplus-three bytes [] few long = absurd (omega arith)
surplus-three bytes (a ∷ []) few long = absurd (omega arith)
surplus-three bytes (a ∷ b ∷ []) few long = absurd (omega arith)
surplus-three bytes (a ∷ b ∷ c ∷ log) few long =
    let first = surplus-one bytes (a ∷ b ∷ c ∷ log) few (grind (arith, nat_tests)) in
    let second = surplus-one bytes (b ∷ c ∷ log) few (grind (arith, nat_tests)) in
    let third = surplus-one bytes (c ∷ log) few (grind (arith, nat_tests)) in
    omega arith

-- ---- on the way to the trimmed cell
pub trimming-one : (bytes : ℕ) (old new : Cell) → bytes ≤ 33554432 → fits bytes old.journal.log ≡ false → HasAdvanced 1 old new → IsTrimming bytes old new
trimming-one bytes old new few full is =
    let one = surplus-one bytes old.journal.log few full in
    let log : surplus bytes new.journal.log ≡ surplus bytes (drop 1 old.journal.log) = ap (λ (j : Journal). surplus bytes j.log) is.journal in
    record { gone = 1; left = omega arith; moved = is }

pub trimming-three : (bytes : ℕ) (old new : Cell) → bytes ≤ 33554432 → 4098 ≤ length old.journal.log → HasAdvanced 3 old new → IsTrimming bytes old new
trimming-three bytes old new few long is =
    let three = surplus-three bytes old.journal.log few long in
    let log : surplus bytes new.journal.log ≡ surplus bytes (drop 3 old.journal.log) = ap (λ (j : Journal). surplus bytes j.log) is.journal in
    record { gone = 3; left = omega arith; moved = is }

pub trimming-more : (bytes : ℕ) (old mid new : Cell) → IsTrimming bytes old mid → IsTrimming bytes mid new → IsTrimming bytes old new
trimming-more bytes old mid new is more =
    let before = is.left in
    let after = more.left in
    record {
      gone = is.gone + more.gone;
      left = omega arith;
      moved = record {
        live = more.moved.live ∙ is.moved.live;
        journal = more.moved.journal ∙ ap (λ (w : Whole). advanced w.terms more.gone mid.journal) is.moved.live
            ∙ ap (λ (j : Journal). advanced old.live.terms more.gone j) is.moved.journal ∙ advanced-then old.live.terms is.gone more.gone old.journal;
      };
    }

pub trimming-over : (bytes : ℕ) (old new : Cell) → IsTrimming bytes old new → fits bytes new.journal.log ≡ true → IsTrimmed bytes old new
trimming-over bytes old new is fit =
    let none : surplus bytes new.journal.log ≡ 0 = surplus-none bytes new.journal.log fit in
    let before = is.left in
    let all : is.gone ≡ surplus bytes old.journal.log = omega arith in
    subst (λ n. HasAdvanced n old new) all is.moved
