-- A call that is one event: the journals, the seats and the count beside its step.
use Rattle.std.proofs.Common.{◌≡◌, ℕ, ◌<◌, ◌≤◌, Bool, true, Some, List, length, set, get_or, refl, subst}
use Rattle.nbd_wire.specs.Grammar.{RequestMessage}
use Rattle.tag_clock.specs.Intervals.{Intervals}
use Rattle.tag_clock.specs.declared.Phase.TheVariants.{Weight}
use Rattle.lone_export.specs.Alone.{own_step}
use Rattle.lone_export.specs.declared.step.Step.{Step}
use Rattle.lone_export.specs.declared.step.Step.TheVariants as own
use Rattle.lone_export.specs.declared.step.StepAnswer.{StepAnswer}
use Rattle.lone_export.specs.declared.step.StepAnswer.TheVariants as alone
use Rattle.export_cell.specs.Journal.{JournalMove}
use Rattle.server_table.specs.declared.event.Event.{Event}
use Rattle.server_table.specs.declared.event.Event.TheVariants.{Attach, Arrive, Perform, Take, Leave, Gone, Retune}
use Rattle.server_table.specs.declared.event.Answer.{Answer}
use Rattle.server_table.specs.declared.event.Answer.TheVariants.{NoExport, Performed}
use Rattle.server_table.specs.Parts.{Part, table_of, setup_of, alone_of}
use Rattle.server_table.specs.Shares.{mark_of}
use Rattle.server_table.specs.Steps.{outcome, step}
use Rattle.server_table.specs.Answers.{as_answer}
use Rattle.server_table.specs.Kept.{as_moved}
use Rattle.server_table.proofs.Sides.{step_take, step_leave, step_gone}
use Rattle.server_table.proofs.Refused.{no_attach, no_arrive, no_take, no_leave, no_gone}
use Rattle.server_table.proofs.Retunes.{no_retune}
use Rattle.server_core.specs.Members.{Standing, Went, Performs}
use Rattle.server_core.specs.Served.{Served, parts, served_of, Stepped}
use Rattle.server_core.specs.Journals.{CellMoves, EventMoves}
use Rattle.server_core.specs.Seats.{EventSeats}
use Rattle.server_core.specs.Made.{Makes}
use Rattle.server_core.proofs.Served.{part_there, within_parts, beyond, stepped_own, seats_own}
use Rattle.server_core.proofs.Journals.{absent, moves_own}
use Rattle.server_core.proofs.Counted.{counted}
use Rattle.server_core.proofs.Performed.{stepped_performs, seats_performs}

module _ {A : Type 0} where
  -- how many steps it counts follows from its step
  pub makes : {event : Event A} {old new : Served} {answer : Answer A} (ms : List Standing) (now inflight : ℕ) → served_of ms now inflight ≡ old → Stepped (served_of ms now inflight) event new answer → EventMoves (served_of ms now inflight) event new answer → EventSeats (served_of ms now inflight) event new answer → Makes old event new answer
  makes {event} {old} {new} {answer} ms now inflight view one journals seats =
      subst (λ (v : Served). Makes v event new answer) view
      (record { step = one; journals = journals; seats = seats; counted = counted ms now inflight (served_of ms now inflight) new event answer refl one })

  -- ---- events of export e that move its journal by this step, and no seat
  pub record IsOf (event : Event A) (e : ℕ) (one : Step A) : Type 0 where
    pub absent : (ps : List Part) (now inflight : ℕ) → length ps ≤ e → step (setup_of ps inflight) (table_of ps now) event true ≡ outcome (table_of ps now) NoExport
    pub moves : (old new : Served) (answer : Answer A) → CellMoves old e one new answer → EventMoves old event new answer
    pub stays : (old new : Served) (answer : Answer A) → new.seats ≡ old.seats → EventSeats old event new answer

  pub attaches : (e : ℕ) → IsOf (Attach e) e own.Attach
  attaches e = record { absent = λ ps now inflight. no_attach ps now inflight e true; moves = λ old new answer h. h; stays = λ old new answer h. h }

  pub retunes : (e : ℕ) (rates : Intervals) → IsOf (Retune e rates) e (own.Retune rates)
  retunes e rates = record { absent = λ ps now inflight. no_retune ps now inflight e rates true; moves = λ old new answer h. h; stays = λ old new answer h. h }

  pub arrivals : (e s t : ℕ) (q : RequestMessage) → IsOf (Arrive e s t q) e (own.Arrive s t q)
  arrivals e s t q = record { absent = λ ps now inflight. no_arrive ps now inflight e s t q true; moves = λ old new answer h. h; stays = λ old new answer h. h }

  pub makes_of : {event : Event A} {e : ℕ} {one : Step A} {old new : Served} {answer : Answer A} (ms : List Standing) (now inflight : ℕ) → IsOf event e one → served_of ms now inflight ≡ old → Stepped (served_of ms now inflight) event new answer → CellMoves (served_of ms now inflight) e one new answer → new.seats ≡ (served_of ms now inflight).seats → Makes old event new answer
  makes_of {new} {answer} ms now inflight is view one journals seats = makes ms now inflight view one (is.moves (served_of ms now inflight) new answer journals) (is.stays (served_of ms now inflight) new answer seats)

  -- there is no such export
  pub makes_absent : {event : Event A} {e : ℕ} {one : Step A} {old : Served} (ms : List Standing) (now inflight : ℕ) → IsOf event e one → served_of ms now inflight ≡ old → length ms ≤ e → Makes old event old NoExport
  makes_absent {event} {e} {one} ms now inflight is view le =
      subst (λ (v : Served). Makes v event v NoExport) view
      (makes_of ms now inflight is refl (record { stepped = is.absent (parts ms) now inflight (beyond ms e le); setup = refl }) (absent ms now inflight e one NoExport le) refl)

  -- ---- those that are always a step of it
  pub record IsOwn (event : Event A) (e : ℕ) (one : Step A) : Type 0 where
    pub of : IsOf event e one
    pub there : (ps : List Part) (now inflight : ℕ) (memory : Bool) (p : Part) → e < length ps → p ≡ get_or ps e p → step (setup_of ps inflight) (table_of ps now) event memory ≡ as_moved ps now e p Weight (own_step p.terms (alone_of p) one)

  pub leaves : (e s : ℕ) → IsOwn (Leave e s) e (own.Leave s)
  leaves e s = record {
    of = record { absent = λ ps now inflight. no_leave ps now inflight e s true; moves = λ old new answer h. h; stays = λ old new answer h. h };
    there = λ ps now inflight memory p. step_leave ps now inflight e s memory p Weight;
  }

  pub drops : (e s : ℕ) → IsOwn (Gone e s) e (own.Gone s)
  drops e s = record {
    of = record { absent = λ ps now inflight. no_gone ps now inflight e s true; moves = λ old new answer h. h; stays = λ old new answer h. h };
    there = λ ps now inflight memory p. step_gone ps now inflight e s memory p Weight;
  }

  pub takes : (e s : ℕ) → IsOwn (Take e s) e (own.Take s)
  takes e s = record {
    of = record { absent = λ ps now inflight. no_take ps now inflight e s true; moves = λ old new answer h. h; stays = λ old new answer h. h };
    there = λ ps now inflight memory p. step_take ps now inflight e s memory p Weight;
  }

  pub makes_own : {event : Event A} {e : ℕ} {one : Step A} {m m' : Standing} {said : StepAnswer A} {answer : Answer A} {old : Served} (ms : List Standing) (now inflight : ℕ) → IsOwn event e one → served_of ms now inflight ≡ old → e < length ms → m ≡ get_or ms e m → Went m m' one said
      → JournalMove m.part.terms one (Some said) m.journal m'.journal → as_answer e Weight said ≡ answer → Makes old event (served_of (set ms e m') now inflight) answer
  makes_own {event} {e} {one} {m} {m'} {said} {answer} ms now inflight is view lt at went journal told =
      makes_of ms now inflight is.of view
      (subst (Stepped (served_of ms now inflight) event (served_of (set ms e m') now inflight)) told
      (stepped_own ms now inflight e m m' event one said at went (is.there (parts ms) now inflight (mark_of (as_answer e Weight said)) m.part (within_parts ms e lt) (part_there ms e m lt at))))
      (moves_own ms now now inflight e Weight m m' one said answer told lt at journal) (seats_own ms e m m' one said at went)

  -- ---- a request that is done
  pub makes_performed : {n : ℕ} {m m' : Standing} {memory : Bool} {old : Served} (ms : List Standing) (now inflight e : ℕ) → served_of ms now inflight ≡ old → e < length ms → m ≡ get_or ms e m → Performs A m m' n memory
      → JournalMove {A = A} m.part.terms (own.Perform n memory) (Some (alone.Performed memory)) m.journal m'.journal → Makes {A = A} old (Perform e n) (served_of (set ms e m') now inflight) (Performed memory)
  makes_performed {n} {m} {m'} {memory} ms now inflight e view lt at done move =
      makes ms now inflight view (stepped_performs A ms now inflight e n m m' memory lt at done)
      (moves_own ms now now inflight e Weight m m' (own.Perform n memory) (alone.Performed memory) (Performed memory) refl lt at move) (seats_performs A ms e n m m' memory at done)
