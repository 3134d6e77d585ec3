-- Runs of exports that wait side by side, worked out by hand, and what fails without each premise of the law of shares.
use Rattle.std.specs.Prelude.{◌≡◌, ℕ, ◌+◌, ◌*◌, ◌/◌, List, [], ◌∷◌, ◌++◌, replicate, slice_get, Option, Some, ℤ, pos}
use Rattle.std.specs.Int.{int_gap}
use Rattle.nbd_base.specs.Words.{when_some}
use Rattle.tag_clock.specs.declared.Phase.TheVariants.{Weight}
use Rattle.server_table.specs.declared.event.Event.{Event}
use Rattle.server_table.specs.declared.event.Event.TheVariants.{Attach, Dispatch}
use Rattle.server_table.specs.declared.event.Answer.{Answer}
use Rattle.server_table.specs.declared.event.Answer.TheVariants as said
use Rattle.server_table.specs.Table.{Setup}
use Rattle.core_laws.specs.Statements.{table_before}
use Rattle.core_laws.specs.Shares.{first_of, in_terms_of, weight_choices, all_choices}
use Rattle.core_laws.specs.Worked.{export_of, server_of, read_at, answers_to}

-- a moment of so many seconds
abbrev pub at_second : ℕ → ℕ
at_second n = n * 1000000000

module _ {A : Type 0} where
  -- the P tag of the first request of export f at place k
  abbrev pub tag_at : ℕ → ℕ → Setup → List (Event A) → ℤ
  tag_at f k setup events = when_some (first_of f (table_before k setup events [])) (λ row. row.p) (pos 0)

  -- how often export e is chosen by weight from place i on before place j; and how often at most, by the rise of the tag of
  -- export f's first request, where e's interval is so long
  abbrev pub choices_and_bound : ℕ → ℕ → ℕ → ℕ → ℕ → Setup → List (Event A) → ℕ × ℕ
  choices_and_bound e f i j interval setup events = (
    weight_choices e i j (answers_to setup events),
    1 + int_gap (in_terms_of i j setup events [] (tag_at f i setup events)) (tag_at f j setup events) / interval,
  )

  -- and by the choices of f and its interval
  abbrev pub choices_and_ratio : ℕ → ℕ → ℕ → ℕ → ℕ → ℕ → Setup → List (Event A) → ℕ × ℕ
  choices_and_ratio e f i j interval other setup events =
      (weight_choices e i j (answers_to setup events), 1 + (all_choices f i j (answers_to setup events) * other) / interval)

  -- the same behind the answers at the two places, which are choices of f
  abbrev pub between_choices : ℕ → ℕ → ℕ → ℕ → ℕ → Setup → List (Event A) → (Option (Answer A) × Option (Answer A)) × (ℕ × ℕ)
  between_choices e f i j interval setup events =
      ((slice_get (answers_to setup events) i, slice_get (answers_to setup events) j), choices_and_bound e f i j interval setup events)

  abbrev pub ratio_between_choices : ℕ → ℕ → ℕ → ℕ → ℕ → ℕ → Setup → List (Event A) → (Option (Answer A) × Option (Answer A)) × (ℕ × ℕ)
  ratio_between_choices e f i j interval other setup events =
      ((slice_get (answers_to setup events) i, slice_get (answers_to setup events) j), choices_and_ratio e f i j interval other setup events)

module _ (A : Type 0) where
  -- export 0 has twice the weight of export 1: three choices for one, which is as many as may be
  abbrev pub twice_the_weight : Setup
  twice_the_weight = server_of (export_of 0 0 2 ∷ export_of 0 0 1 ∷ [])

  abbrev pub twice_events : List (Event A)
  twice_events = Attach 0 ∷ Attach 1 ∷ replicate 4 (read_at 0 0) ++ read_at 1 0 ∷ read_at 1 0 ∷ replicate 5 (Dispatch 0)

  abbrev pub TwiceTheWeightIsServed : Type 0
  TwiceTheWeightIsServed =
      answers_to twice_the_weight twice_events
      ≡ said.Session 0 ∷ said.Session 0 ∷ said.Accepted 0 (pos 0) ∷ said.Accepted 1 (pos 0) ∷ said.Accepted 2 (pos 0) ∷ said.Accepted 3 (pos 0)
      ∷ said.Accepted 0 (pos 0) ∷ said.Accepted 1 (pos 0)
      ∷ said.Picked 0 0 Weight ∷ said.Picked 1 0 Weight ∷ said.Picked 0 1 Weight ∷ said.Picked 0 2 Weight ∷ said.Picked 1 1 Weight ∷ []

  abbrev pub TwiceTheWeightIsReached : Type 0
  TwiceTheWeightIsReached = choices_and_bound 0 1 8 12 500000000 twice_the_weight twice_events ≡ (3, 3)

  -- a third export begins to wait in between, and takes a second off all tags that wait: both tags are taken in the same terms
  abbrev pub BothTagsAreInTheSameTerms : Type 0
  BothTagsAreInTheSameTerms =
      choices_and_bound {A = A} 0 1 9 14 500000000 (server_of (export_of 0 0 2 ∷ export_of 0 0 1 ∷ export_of 0 0 1 ∷ []))
      (Attach 0 ∷ Attach 1 ∷ Attach 2 ∷ replicate 4 (read_at 0 0) ++ read_at 1 0 ∷ read_at 1 0 ∷ Dispatch 0 ∷ Dispatch 0 ∷ Dispatch 0 ∷ read_at 2 0 ∷ Dispatch 0 ∷ Dispatch 0 ∷ [])
      ≡ (3, 3)

  -- ---- from a choice to a later one

  -- export 0 has weight 2 and export 1 weight 3: between the first and the third choice of export 0 are four of export 1
  abbrev pub two_to_three : Setup
  two_to_three = server_of (export_of 0 0 2 ∷ export_of 0 0 3 ∷ [])

  abbrev pub two_to_three_events : List (Event A)
  two_to_three_events = Attach 0 ∷ Attach 1 ∷ replicate 3 (read_at 0 0) ++ replicate 4 (read_at 1 0) ++ replicate 7 (Dispatch 0)

  abbrev pub BoundBetweenIsReached : Type 0
  BoundBetweenIsReached =
      between_choices 1 0 9 15 333333333 two_to_three two_to_three_events
      ≡ ((Some (said.Picked 0 0 Weight), Some (said.Picked 0 2 Weight)), (4, 4))

  abbrev pub RatioBetweenIsReached : Type 0
  RatioBetweenIsReached =
      ratio_between_choices 1 0 9 15 333333333 500000000 two_to_three two_to_three_events
      ≡ ((Some (said.Picked 0 0 Weight), Some (said.Picked 0 2 Weight)), (4, 4))

  -- a third export begins to wait between two choices of export 0, and takes a third of a second off all tags that wait
  abbrev pub ChoicesAreInTheSameTerms : Type 0
  ChoicesAreInTheSameTerms =
      between_choices {A = A} 1 0 8 13 333333333 (server_of (export_of 0 0 2 ∷ export_of 0 0 3 ∷ export_of 0 0 1 ∷ []))
      (Attach 0 ∷ Attach 1 ∷ Attach 2 ∷ read_at 0 0 ∷ read_at 0 0 ∷ replicate 3 (read_at 1 0) ++ Dispatch 0 ∷ Dispatch 0 ∷ read_at 2 0 ∷ Dispatch 0 ∷ Dispatch 0 ∷ Dispatch 0 ∷ [])
      ≡ ((Some (said.Picked 0 0 Weight), Some (said.Picked 0 1 Weight)), (2, 2))

  -- ---- what fails without a premise, from a choice to a later one

  -- export 0 doesn't wait all the time: when it comes back, it comes to the tag of export 2, which its limit holds back
  abbrev pub FMustWait : Type 0
  FMustWait =
      between_choices {A = A} 1 0 9 14 1000000000 (server_of (export_of 0 0 1000 ∷ export_of 0 0 1 ∷ export_of 0 1 1000 ∷ []))
      (Attach 0 ∷ Attach 1 ∷ Attach 2 ∷ read_at 2 (at_second 1) ∷ read_at 0 0 ∷ replicate 4 (read_at 1 0) ++ replicate 4 (Dispatch 0) ++ read_at 0 0 ∷ Dispatch 0 ∷ [])
      ≡ ((Some (said.Picked 0 0 Weight), Some (said.Picked 0 1 Weight)), (3, 1))

  -- export 0's own limit holds its second request back
  abbrev pub FMustBeDue : Type 0
  FMustBeDue =
      between_choices {A = A} 1 0 8 12 1000000000 (server_of (export_of 0 1 1000 ∷ export_of 0 0 1 ∷ []))
      (Attach 0 ∷ Attach 1 ∷ read_at 0 0 ∷ read_at 0 0 ∷ replicate 4 (read_at 1 0) ++ replicate 4 (Dispatch 0) ++ Dispatch (at_second 1) ∷ [])
      ≡ ((Some (said.Picked 0 0 Weight), Some (said.Picked 0 1 Weight)), (3, 1))

  -- export 0 has nothing that waits now and then, and each time it comes back it gets the least tag of all that wait
  abbrev pub EMustWait : Type 0
  EMustWait =
      between_choices {A = A} 0 1 6 13 1000000000 (server_of (export_of 0 0 1 ∷ export_of 0 0 1 ∷ []))
      (Attach 0 ∷ Attach 1 ∷ read_at 0 0 ∷ read_at 1 0 ∷ read_at 1 0 ∷ Dispatch 0 ∷ Dispatch 0
      ∷ read_at 0 (at_second 1) ∷ Dispatch (at_second 1) ∷ read_at 0 (at_second 2) ∷ Dispatch (at_second 2) ∷ read_at 0 (at_second 3) ∷ Dispatch (at_second 3) ∷ Dispatch (at_second 3) ∷ [])
      ≡ ((Some (said.Picked 1 0 Weight), Some (said.Picked 1 1 Weight)), (3, 2))

  -- export 1 has so great a weight that its interval is 0, and its tags don't rise from request to request
  abbrev pub EMustHaveAnInterval : Type 0
  EMustHaveAnInterval =
      between_choices {A = A} 1 0 8 12 0 (server_of (export_of 0 0 1 ∷ export_of 0 0 2000000000 ∷ []))
      (Attach 0 ∷ Attach 1 ∷ read_at 0 0 ∷ read_at 0 0 ∷ replicate 3 (read_at 1 0) ++ read_at 1 (at_second 5) ∷ replicate 5 (Dispatch 0))
      ≡ ((Some (said.Picked 0 0 Weight), Some (said.Picked 0 1 Weight)), (3, 1))

  -- export 1 was held back by its limit, and its tags are behind those of export 0
  abbrev pub EMustNotBeBehind : Type 0
  EMustNotBeBehind =
      between_choices {A = A} 1 0 16 20 1000000 (server_of (export_of 0 0 1000 ∷ export_of 0 1 1000 ∷ []))
      (Attach 0 ∷ Attach 1 ∷ replicate 5 (read_at 0 0) ++ replicate 5 (read_at 1 0) ++ replicate 5 (Dispatch 0) ++ replicate 4 (Dispatch (at_second 3)))
      ≡ ((Some (said.Picked 0 3 Weight), Some (said.Picked 0 4 Weight)), (3, 2))

  -- export 0's second request arrives three seconds after the first, where its interval is one
  abbrev pub FMustArriveInTime : Type 0
  FMustArriveInTime =
      ratio_between_choices {A = A} 1 0 8 12 1000000000 1000000000 (server_of (export_of 0 0 1 ∷ export_of 0 0 1 ∷ []))
      (Attach 0 ∷ Attach 1 ∷ read_at 0 0 ∷ read_at 0 (at_second 3) ∷ replicate 4 (read_at 1 0) ++ replicate 5 (Dispatch (at_second 3)))
      ≡ ((Some (said.Picked 0 0 Weight), Some (said.Picked 0 1 Weight)), (3, 2))
