-- How the journals of a server's exports move.
use Rattle.std.specs.Prelude.{◌≡◌, ℕ, [], slice_get, Some}
use Rattle.nbd_commands.specs.Terms.{Terms}
use Rattle.lone_export.specs.Lone.{Whole}
use Rattle.lone_export.specs.declared.step.Step.{Step}
use Rattle.lone_export.specs.declared.step.Step.TheVariants as own
use Rattle.export_cell.specs.Journal.{Journal, Cell, JournalMove, IsJournal}
use Rattle.server_table.specs.declared.event.Event.{Event}
use Rattle.server_table.specs.declared.event.Event.TheVariants.{Attach, Arrive, Dispatch, Perform, Take, Leave, Gone, Retune}
use Rattle.server_table.specs.declared.event.Answer.{Answer}
use Rattle.server_table.specs.declared.event.Answer.TheVariants.{Picked}
use Rattle.server_table.specs.Shares.{as_alone, mark_of}
use Rattle.server_table.specs.Table.{part}
use Rattle.server_core.specs.Members.{Standing, cell_at}
use Rattle.server_core.specs.Served.{Served}

module _ {A : Type 0} where
  -- the journal of export e moved by this step with this answer, and every other stays; there may be no such export
  pub record CellMoves (old : Served) (e : ℕ) (step : Step A) (new : Served) (answer : Answer A) : Type 0 where
    pub moved : (terms : Terms) (before after : Journal) → slice_get old.setup.exports e ≡ Some terms → slice_get old.journals e ≡ Some before → slice_get new.journals e ≡ Some after →
        JournalMove terms step (as_alone answer) before after
    pub others : (k : ℕ) → (k ≡ e → ⊥) → slice_get new.journals k ≡ slice_get old.journals k

  -- a dispatch moves the journal of the export that it chose, if any
  abbrev pub ChoiceMoves : Served → Served → Answer A → Type 0
  ChoiceMoves old new (Picked e n phase) = CellMoves old e own.Pick new (Picked e n phase)
  ChoiceMoves old new answer = new.journals ≡ old.journals

  -- an event moves the journal of its export by the step of it that it is, with memory there as the answer tells
  abbrev pub EventMoves : Served → Event A → Served → Answer A → Type 0
  EventMoves old (Attach e) new answer = CellMoves old e own.Attach new answer
  EventMoves old (Arrive e s t q) new answer = CellMoves old e (own.Arrive s t q) new answer
  EventMoves old (Dispatch t) new answer = ChoiceMoves old new answer
  EventMoves old (Perform e n) new answer = CellMoves old e (own.Perform n (mark_of answer)) new answer
  EventMoves old (Take e s) new answer = CellMoves old e (own.Take s) new answer
  EventMoves old (Leave e s) new answer = CellMoves old e (own.Leave s) new answer
  EventMoves old (Gone e s) new answer = CellMoves old e (own.Gone s) new answer
  EventMoves old (Retune e rates) new answer = CellMoves old e (own.Retune rates) new answer

-- the cell of export e: it is what the table has of the export, and it comes of its base by its log
pub record IsCellOf (served : Served) (e : ℕ) (cell : Cell) : Type 0 where
  pub terms : slice_get served.setup.exports e ≡ Some cell.live.terms
  pub inflight : cell.live.inflight ≡ served.setup.inflight
  pub live : cell.live.state ≡ part e served.table
  pub journal : slice_get served.journals e ≡ Some cell.journal
  pub kept : IsJournal cell.live cell.journal

-- an export comes of its journal's base by its journal's log
abbrev pub ComesOfJournal : Standing → Type 0
ComesOfJournal standing = IsJournal (cell_at standing).live standing.journal

-- export e as the table has it, with these terms; its slots stand in the seats
abbrev pub whole_of : Served → ℕ → Terms → Whole
whole_of served e terms = record { terms = terms; inflight = served.setup.inflight; state = part e served.table; slots = [] }

-- so does each export of a server, as the table has it
abbrev pub EachComesOfJournal : Served → Type 0
EachComesOfJournal served = (e : ℕ) (terms : Terms) (journal : Journal) → slice_get served.setup.exports e ≡ Some terms → slice_get served.journals e ≡ Some journal →
    IsJournal (whole_of served e terms) journal
