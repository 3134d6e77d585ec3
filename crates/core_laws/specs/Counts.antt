-- How many choices an export had in a run, by phase and moment.
use Rattle.std.specs.Prelude.{ℕ, ◌+◌, max, Bool, true, false, ◌&&◌, ◌==◌, nat_le, if◌then◌else◌, List, [], ◌∷◌, Option, Some, None}
use Rattle.tag_clock.specs.declared.Phase.{Phase}
use Rattle.tag_clock.specs.declared.Phase.TheVariants.{Reservation, Weight}
use Rattle.server_table.specs.declared.event.Event.{Event}
use Rattle.server_table.specs.declared.event.Event.TheVariants.{Arrive, Dispatch, Retune}
use Rattle.server_table.specs.declared.event.Answer.{Answer}
use Rattle.server_table.specs.declared.event.Answer.TheVariants.{Accepted, Picked}
use Rattle.nbd_base.specs.Words.{when_some}

abbrev pub is_phase : Phase → Phase → Bool
is_phase Reservation Reservation = true
is_phase Weight Weight = true
is_phase Reservation Weight = false
is_phase Weight Reservation = false

module _ {A : Type 0} where
  -- the greatest moment handed to a dispatch, after an event
  abbrev pub now_after : ℕ → Event A → ℕ
  now_after now (Dispatch t) = max now t
  now_after now event = now

  -- a choice of export e in this phase
  abbrev pub is_choice_in : ℕ → Phase → Answer A → Bool
  is_choice_in e phase (Picked f n chosen) = f == e && is_phase chosen phase
  is_choice_in e phase said = false

  -- the choices of export e in a phase that were made while that moment wasn't above b
  abbrev pub choices : ℕ → Phase → ℕ → ℕ → List (Event A) → List (Answer A) → ℕ
  choices e phase b now [] answers = 0
  choices e phase b now (event ∷ events) [] = 0
  choices e phase b now (event ∷ events) (said ∷ answers) = (if is_choice_in e phase said && nat_le (now_after now event) b then 1 else 0) + choices e phase b (now_after now event) events answers

  -- a retune of export e, whatever it is answered
  abbrev pub is_retune_of : ℕ → Event A → Bool
  is_retune_of e (Retune f rates) = f == e
  is_retune_of e event = false

  abbrev pub is_accepted : Answer A → Bool
  is_accepted (Accepted n tag) = true
  is_accepted said = false

  -- the moment of an accepted arrival of export e
  abbrev pub accepted_at : ℕ → Event A → Answer A → Option ℕ
  accepted_at e (Arrive f s t q) said = if f == e && is_accepted said then Some t else None
  accepted_at e event said = None

  -- the moment of the first of a run
  abbrev pub first_accepted : ℕ → List (Event A) → List (Answer A) → Option ℕ
  first_accepted e [] answers = None
  first_accepted e (event ∷ events) [] = None
  first_accepted e (event ∷ events) (said ∷ answers) = when_some (accepted_at e event said) (λ t. Some t) (first_accepted e events answers)
