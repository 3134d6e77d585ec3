-- An export whose latest steps are deferred: none of them changes the bytes.
use Rattle.std.specs.Prelude.{◌≡◌, ℕ, ◌<◌, true, List, [], ◌∷◌}
use Rattle.nbd_commands.specs.Verdict.{is_read}
use Rattle.lone_export.specs.Alone.{own_step, alone}
use Rattle.lone_export.specs.Lone.{Whole, IsIdleFor, is_reading}
use Rattle.lone_export.specs.declared.step.Step.{Step}
use Rattle.lone_export.specs.declared.step.Step.TheVariants.{Arrive, Pick, Perform, Take}
use Rattle.export_cell.specs.declared.deferred.Arrival.{Arrival}
use Rattle.export_cell.specs.declared.deferred.Deferred.{Deferred}
use Rattle.export_cell.specs.declared.deferred.Deferred.TheVariants as deferred

-- the export makes this step
pub record Goes {A : Type 0} (old new : Whole) (step : Step A) : Type 0 where
  pub state : new.state ≡ (own_step old.terms old.state step).state
  pub terms : new.terms ≡ old.terms
  pub inflight : new.inflight ≡ old.inflight

module _ {A : Type 0} where
  abbrev pub arrival_of : Arrival A → Step A
  arrival_of a = Arrive a.session a.moment a.request

  -- what follows an arrival: the request of this number is picked, performed with memory, and its reply is taken
  abbrev pub serving : ℕ → ℕ → List (Step A)
  serving n s = Pick ∷ Perform n true ∷ Take s ∷ []

  -- the steps that are deferred, oldest first, where the next request gets this number
  abbrev pub deferred_steps : ℕ → Deferred A → List (Step A)
  deferred_steps next deferred.Nothing = []
  deferred_steps next (deferred.Arrived a) = arrival_of a ∷ []
  deferred_steps next (deferred.Picked a) = arrival_of a ∷ Pick ∷ []
  deferred_steps next (deferred.Read a) = arrival_of a ∷ Pick ∷ Perform next true ∷ []
  deferred_steps next (deferred.Performed n) = Perform n true ∷ []

  -- the export once they are made; nobody asks for its slots
  abbrev pub past_of : Whole → Deferred A → Whole
  past_of w steps = record { terms = w.terms; inflight = w.inflight; state = alone w.terms w.state (deferred_steps w.state.next steps); slots = [] }

  -- a request that arrived comes to an export without any other, and one that was picked had room in service
  abbrev pub IsPast : Whole → Deferred A → Type 0
  IsPast w deferred.Nothing = Unit {0}
  IsPast w (deferred.Arrived a) = IsIdleFor w.terms w.state a.session a.request
  IsPast w (deferred.Picked a) = IsIdleFor w.terms w.state a.session a.request × (0 < w.inflight)
  IsPast w (deferred.Read a) = IsIdleFor w.terms w.state a.session a.request × (0 < w.inflight) × (is_read a.request ≡ true)
  IsPast w (deferred.Performed n) = is_reading w.state n ≡ true

  -- the request that arrived is picked as well
  abbrev pub IsPicked : Deferred A → Deferred A → Type 0
  IsPicked (deferred.Arrived a) after = after ≡ deferred.Picked a
  IsPicked deferred.Nothing after = ⊥
  IsPicked (deferred.Picked a) after = ⊥
  IsPicked (deferred.Read a) after = ⊥
  IsPicked (deferred.Performed n) after = ⊥

  -- the step is made, or is deferred with these
  pub record Comes (old : Whole) (before : Deferred A) (step : Step A) (new : Whole) (after : Deferred A) : Type 0 where
    pub goes : Goes (past_of old before) (past_of new after) step
    pub past : IsPast new after

  -- no step is made but some of those that were deferred
  pub record Stays (old : Whole) (before : Deferred A) (new : Whole) (after : Deferred A) : Type 0 where
    pub same : past_of new after ≡ past_of old before
    pub past : IsPast new after
