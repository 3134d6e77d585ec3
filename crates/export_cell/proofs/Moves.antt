-- What a cell's calls answer, and how its journal moves.
use Rattle.std.proofs.Common.{◌≡◌, ℕ, ◌^◌, ◌==◌, nat_le, Bool, true, false, not, length, Some, Ok, Err, refl, sym, subst, ap, ◌∙◌}
use Rattle.nbd_commands.specs.Terms.{Terms}
use Rattle.nbd_wire.specs.Grammar.{RequestMessage}
use Rattle.lone_export.specs.Alone.{Moved, own_step}
use Rattle.lone_export.specs.Calls.{is_counted}
use Rattle.tag_clock.specs.Intervals.{Intervals}
use Rattle.lone_export.specs.Lone.{Whole, Does, DoesOr, MayArrive, MayRetune, step_answer_of_arrive, step_answer_of_refusal, step_answer_of_retune}
use Rattle.lone_export.specs.declared.step.Step.{Step}
use Rattle.lone_export.specs.declared.step.Step.TheVariants.{Arrive, Retune}
use Rattle.lone_export.specs.declared.step.StepAnswer.{StepAnswer}
use Rattle.lone_export.specs.declared.refusal.ArriveRefusal.{ArriveRefusal}
use Rattle.lone_export.specs.declared.refusal.ArriveRefusal.TheVariants as arriving
use Rattle.lone_export.specs.declared.refusal.RetuneRefusal.{RetuneRefusal}
use Rattle.lone_export.specs.declared.refusal.RetuneRefusal.TheVariants as retuning
use Rattle.lone_export.specs.declared.refusal.Arrived.{Arrived}
use Rattle.lone_export.specs.declared.refusal.Arrived.TheVariants as arrival
use Rattle.lone_export.proofs.Asked.{arrive_refused}
use Rattle.lone_export.proofs.Cases.{if_told, true_false}
use Rattle.export_cell.specs.declared.refusal.ArriveFault.{ArriveFault}
use Rattle.export_cell.specs.declared.refusal.ArriveFault.TheVariants as fault
use Rattle.export_cell.specs.Journal.{Journal, Cell, JournalMove, IsTurnedAway, advanced, surplus, noted, step_answer_of_fault}

pub arrived_counted : (A : Type 0) (a : Arrived) → is_counted (step_answer_of_arrive {A = A} (Ok a)) ≡ true
arrived_counted A (arrival.Accepted n tag) = refl
arrived_counted A (arrival.Answered error) = refl

is_not : (b : Bool) → b ≡ true → not b ≡ false
is_not true h = refl
is_not false h = absurd (cc)

-- ---- what a test tells of a step
retune-counted : (A : Type 0) (w : Whole) (rates : Intervals) → MayRetune w (Ok tt) → is_counted (own_step {A = A} w.terms w.state (Retune rates)).answer ≡ true
retune-counted A w rates may =
    let P = λ (m : Moved A). is_counted m.answer ≡ true in
    if_told P (nat_le (2 ^ 56) w.state.count) (λ h. true_false (sym h ∙ may.0))
    (λ _. if_told P (not (length w.state.waiting == 0)) (λ h. true_false (sym h ∙ is_not _ may.1)) (λ _. refl))

module _ {A : Type 0} where
  -- a step that is counted isn't refused
  pub never : (live new : Whole) (one : Step A) (answer : StepAnswer A) → is_counted (own_step live.terms live.state one).answer ≡ true → Does live new one answer → is_counted answer ≡ false → {P : Type 0} → P
  never live new one answer a_step does no_step = true_false (sym a_step ∙ ap (λ (m : Moved A). is_counted m.answer) does.did ∙ no_step)

-- ---- a request arrives
-- it has its place, and enters
pub entered_moves : (A : Type 0) (terms : Terms) (old mid new : Journal) (s t : ℕ) (q : RequestMessage) (a : Arrived) → mid ≡ advanced terms (surplus (length q.payload) old.log) old → new ≡ noted (Arrive s t q) mid
    → JournalMove {A = A} terms (Arrive s t q) (Some (step_answer_of_arrive (Ok a))) old new
entered_moves A terms old mid new s t q (arrival.Accepted n tag) room is = is ∙ ap (noted (Arrive s t q)) room
entered_moves A terms old mid new s t q (arrival.Answered error) room is = is ∙ ap (noted (Arrive s t q)) room

-- it has none
pub turned_does : (A : Type 0) (old new : Cell) (s t : ℕ) (q : RequestMessage) (f : ArriveFault) → new.live ≡ old.live → IsTurnedAway old new s q f → DoesOr {A = A} old.live new.live (Arrive s t q) (step_answer_of_fault f)
turned_does A old new s t q (fault.Refused e) same is = subst (λ (w : Whole). Does {A = A} old.live w (Arrive s t q) (step_answer_of_refusal e)) (sym same) (arrive_refused old.live s t q e is.0)
turned_does A old new s t q fault.NoMemory same is = same

refused_moves : (A : Type 0) (terms : Terms) (old new : Journal) (s t : ℕ) (q : RequestMessage) (e : ArriveRefusal) → new ≡ old → JournalMove {A = A} terms (Arrive s t q) (Some (step_answer_of_refusal e)) old new
refused_moves A terms old new s t q arriving.NotOpen same = same
refused_moves A terms old new s t q arriving.Worn same = same
refused_moves A terms old new s t q arriving.Hold same = same

pub turned_moves : (A : Type 0) (old new : Cell) (s t : ℕ) (q : RequestMessage) (f : ArriveFault) → IsTurnedAway old new s q f → JournalMove {A = A} old.live.terms (Arrive s t q) (step_answer_of_fault f) old.journal new.journal
turned_moves A old new s t q (fault.Refused e) is = refused_moves A old.live.terms old.journal new.journal s t q e (ap (λ (c : Cell). c.journal) is.1)
turned_moves A old new s t q fault.NoMemory is = is.1

pub turned_let_in : (old new : Cell) (s : ℕ) (q : RequestMessage) (f : ArriveFault) → IsTurnedAway old new s q f → f ≡ fault.NoMemory → MayArrive old.live s (Ok tt)
turned_let_in old new s q (fault.Refused e) is told = absurd (cc)
turned_let_in old new s q fault.NoMemory is told = is.0

-- a retune that may be made isn't refused
pub retune_made : (A : Type 0) (live mid new : Whole) (rates : Intervals) (e : RetuneRefusal) → mid ≡ live → MayRetune live (Ok tt) → Does {A = A} mid new (Retune rates) (step_answer_of_retune (Err e)) → ⊥
retune_made A live mid new rates e same may does = by e does
  where
    counted : is_counted (own_step {A = A} mid.terms mid.state (Retune rates)).answer ≡ true
    counted = retune-counted A mid rates (subst (λ (w : Whole). MayRetune w (Ok tt)) (sym same) may)

    by : (e : RetuneRefusal) → Does {A = A} mid new (Retune rates) (step_answer_of_retune (Err e)) → ⊥
    by retuning.Worn d = never mid new (Retune rates) (step_answer_of_retune (Err retuning.Worn)) counted d refl
    by retuning.Waiting d = never mid new (Retune rates) (step_answer_of_retune (Err retuning.Waiting)) counted d refl
