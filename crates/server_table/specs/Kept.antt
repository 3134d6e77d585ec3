-- What the steps of the table are where it is kept export by export.
use Rattle.std.specs.Prelude.{◌≡◌, ◌<◌, ◌^◌, ◌==◌, nat_le, not, if◌then◌else◌, ℕ, Bool, true, pos, Option, Some, None, List, ◌++◌, length, filter, set, get_or}
use Rattle.tag_clock.specs.Intervals.{Intervals}
use Rattle.tag_clock.specs.declared.Phase.{Phase}
use Rattle.eligibility.specs.Choice.{choice as choice_among}
use Rattle.lone_export.specs.declared.step.Step.{Step}
use Rattle.lone_export.specs.Alone.{Moved, own_step}
use Rattle.server_table.specs.declared.event.Event.{Event}
use Rattle.server_table.specs.declared.event.Event.TheVariants.{Retune}
use Rattle.server_table.specs.declared.event.Answer.TheVariants.{Worn, Waiting, Retuned}
use Rattle.server_table.specs.Table.{Row, Choice, choice}
use Rattle.server_table.specs.Steps.{Outcome, outcome, step}
use Rattle.server_table.specs.Parts.{Part, rows_from, table_of, setup_of, alone_of, with_alone, part_retuned}
use Rattle.server_table.specs.Order.{AllParts, IsNumbered, IsRising, heads}
use Rattle.server_table.specs.Answers.{as_answer}

module _ {A : Type 0} where
  -- the table and the answer after an own step of export e
  abbrev pub as_moved : List Part → ℕ → ℕ → Part → Phase → Moved A → Outcome A
  as_moved ps now e p phase moved = record { table = table_of (set ps e (with_alone moved.state p)) now; answer = as_answer e phase moved.answer }

  -- the event does to the table what that step does to the part of export e; no phase is told
  abbrev pub IsOwnStep : List Part → ℕ → ℕ → ℕ → Event A → Bool → Step A → Type 0
  IsOwnStep ps now inflight e event memory own = (p : Part) (phase : Phase) → e < length ps → p ≡ get_or ps e p →
      step (setup_of ps inflight) (table_of ps now) event memory ≡ as_moved ps now e p phase (own_step p.terms (alone_of p) own)

-- where memory is there a retune gives the part of export e other rates, but for one that is worn or where a request waits
abbrev pub IsRetune : (A : Type 0) → List Part → ℕ → ℕ → ℕ → Intervals → Type 0
IsRetune A ps now inflight e rates = (p : Part) → e < length ps → p ≡ get_or ps e p →
    step {A = A} (setup_of ps inflight) (table_of ps now) (Retune e rates) true ≡
    (if nat_le (2 ^ 56) p.count then outcome (table_of ps now) Worn
    else (if not (length p.waiting == 0) then outcome (table_of ps now) Waiting
    else outcome (table_of (set ps e (part_retuned rates p)) now) Retuned))

-- in each part numbers rise, and the tags of those that wait don't fall
pub record AreInOrder (ps : List Part) : Type 0 where
  pub numbered : AllParts (λ p. IsNumbered (p.out ++ p.waiting)) ps
  pub rising : AllParts (λ p. IsRising p.waiting) ps

-- the export and the phase of a choice
abbrev pub export_phase : Option Choice → Option (ℕ × Phase)
export_phase None = None
export_phase (Some c) = Some (c.row.export, c.phase)

-- while fewer are out than may be, the choice over all rows is that over the first request of each export
abbrev pub ChoosesAmongHeads : List Part → ℕ → ℕ → Type 0
ChoosesAmongHeads ps now inflight = AreInOrder ps → length (filter (λ (row : Row). row.out) (rows_from 0 ps)) < inflight →
    export_phase (choice inflight (table_of ps now)) ≡ choice_among (pos now) (heads ps)
