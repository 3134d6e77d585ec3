-- Runs of a server, and what one export does and is told in them.
use Rattle.std.specs.Prelude.{◌≡◌, ℕ, Bool, List, slice_get, Some}
use Rattle.nbd_commands.specs.Terms.{Terms}
use Rattle.lone_export.specs.declared.step.Step.{Step}
use Rattle.lone_export.specs.declared.step.StepAnswer.{StepAnswer}
use Rattle.lone_export.specs.Alone.{Alone}
use Rattle.server_table.specs.declared.event.Event.{Event}
use Rattle.server_table.specs.declared.event.Answer.{Answer}
use Rattle.server_table.specs.Table.{Table, Setup, part}
use Rattle.server_table.specs.Steps.{last_table, run_answers}
use Rattle.server_table.specs.Shares.{own, told}

-- a whole run: what the server is set up with, the events, and for each whether memory was there for it
pub record Run (A : Type 0) : Type 0 where
  pub setup : Setup
  pub events : List (Event A)
  pub marks : List Bool

module _ {A : Type 0} where
  abbrev pub answers_in : Run A → List (Answer A)
  answers_in run = run_answers run.setup run.events run.marks

  abbrev pub table_in : Run A → Table
  table_in run = last_table run.setup run.events run.marks

  -- what export e did and was told in a run, and what it is in the end
  abbrev pub own_steps : ℕ → Run A → List (Step A)
  own_steps e run = own e run.events (answers_in run)

  abbrev pub told_answers : ℕ → Run A → List (StepAnswer A)
  told_answers e run = told e run.events (answers_in run)

  abbrev pub last_part : ℕ → Run A → Alone
  last_part e run = part e (table_in run)

  -- export e is there, with these terms
  abbrev pub HasExport : Run A → ℕ → Terms → Type 0
  HasExport run e terms = slice_get run.setup.exports e ≡ Some terms
