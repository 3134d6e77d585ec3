-- What a contract sees of a server, and what its calls answer, as events.
use Rattle.std.specs.Prelude.{◌≡◌, ℕ, Bool, List, [], ◌∷◌, ◌++◌, map, filter, get_or, Option, Some, None, Result, Ok, Err, ⊤}
use Rattle.nbd_base.specs.Words.{change_at}
use Rattle.nbd_commands.specs.Terms.{terms_of}
use Rattle.nbd_commands.specs.Exports.{Offer}
use Rattle.tag_clock.specs.declared.Tags.{Tags}
use Rattle.reply_box.specs.declared.seat.Taken.{Taken}
use Rattle.reply_box.specs.declared.seat.Taken.TheVariants as taking
use Rattle.server_table.specs.declared.event.Event.{Event}
use Rattle.server_table.specs.declared.event.Answer.{Answer}
use Rattle.server_table.specs.declared.event.Answer.TheVariants as said
use Rattle.server_table.specs.Order.{tags_of}
use Rattle.server_table.specs.Table.{Table, Setup, opening_table, waits_in}
use Rattle.server_table.specs.Steps.{step}
use Rattle.server_table.specs.Shares.{mark_of}
use Rattle.server_table.specs.Parts.{Part, table_of, setup_of}
use Rattle.export_cell.specs.Journal.{Journal, opening_journal}
use Rattle.server_core.specs.Kept.{IsServer}
use Rattle.server_core.specs.Members.{Standing, Seat, slot_in}
use Rattle.server_core.specs.Tickets.{Place}
use Rattle.lone_export.specs.declared.refusal.Arrived.{Arrived}
use Rattle.lone_export.specs.declared.refusal.Arrived.TheVariants as arrival
use Rattle.server_core.specs.declared.refusal.NotArrived.{NotArrived}
use Rattle.server_core.specs.declared.refusal.ArriveRefusal.{ArriveRefusal}
use Rattle.server_core.specs.declared.refusal.ArriveRefusal.TheVariants as arriving
use Rattle.server_core.specs.declared.ticket.Chosen.{Chosen}
use Rattle.server_core.specs.declared.session.SessionId.{SessionId}
use Rattle.server_core.specs.declared.refusal.NotAttached.{NotAttached}
use Rattle.server_core.specs.declared.refusal.NotAttached.TheVariants as attaching
use Rattle.server_core.specs.declared.refusal.NotRetuned.{NotRetuned}
use Rattle.server_core.specs.declared.refusal.NotRetuned.TheVariants as retuning
use Rattle.server_core.specs.declared.refusal.SessionRefusal.{SessionRefusal}
use Rattle.server_core.specs.declared.refusal.SessionRefusal.TheVariants as refusing

-- the table of all exports with what it is set up with, and by export the seats of the requests that are out and the
-- journal
pub record Served : Type 0 where
  pub setup : Setup
  pub table : Table
  pub seats : List (List Seat)
  pub journals : List Journal

abbrev pub setup_for : Offer → Setup
setup_for offer = record { exports = map terms_of offer.exports; inflight = offer.inflight }

-- a server before its first event
abbrev pub opening_served : Setup → Served
opening_served setup = record { setup = setup; table = opening_table setup; seats = map (λ terms. []) setup.exports; journals = map opening_journal setup.exports }

-- the request is out, in that slot
abbrev pub Holds : Served → Place → Type 0
Holds served place = slot_in (get_or served.seats place.export []) place.number ≡ Some place.slot

-- the tags of the requests of export e that wait, each with its number, in the order of their numbers
abbrev pub waiting_tags : ℕ → Table → List (ℕ × Tags)
waiting_tags e table = map (λ row. (row.number, tags_of row)) (filter (waits_in e) table.rows)

-- ---- as it is kept
abbrev pub parts : List Standing → List Part
parts members = map (λ member. member.part) members

abbrev pub journals_of : List Standing → List Journal
journals_of members = map (λ member. member.journal) members

abbrev pub served_of : List Standing → ℕ → ℕ → Served
served_of members now inflight = record { setup = setup_of (parts members) inflight; table = table_of (parts members) now; seats = map (λ member. member.seats) members; journals = journals_of members }

abbrev pub AllMembers : (Standing → Type 0) → List Standing → Type 0
AllMembers P [] = ⊤
AllMembers P (member ∷ members) = P member × AllMembers P members

-- the parts are those of a server, and of each export as many may be out as of all
pub record IsServed (members : List Standing) (slots : List (Option Tags)) (asked now inflight served : ℕ) : Type 0 where
  pub server : IsServer (parts members) slots asked now inflight served
  pub room : AllMembers (λ member. member.inflight ≡ inflight) members

-- ---- what calls do
module _ {A : Type 0} where
  -- a call is one step of the table, with memory there as the answer tells, and answers it
  pub record Stepped (old : Served) (event : Event A) (new : Served) (answer : Answer A) : Type 0 where
    pub stepped : step old.setup old.table event (mark_of answer) ≡ record { table = new.table; answer = answer }
    pub setup : new.setup ≡ old.setup

  abbrev pub answer_of_refusal : SessionRefusal → Answer A
  answer_of_refusal refusing.NoExport = said.NoExport
  answer_of_refusal refusing.NotOpen = said.NotOpen

  abbrev pub answer_of_leave : Result (Unit {0}) SessionRefusal → Answer A
  answer_of_leave (Ok done) = said.Left
  answer_of_leave (Err e) = answer_of_refusal e

  abbrev pub answer_of_gone : Result (Unit {0}) SessionRefusal → Answer A
  answer_of_gone (Ok done) = said.Dropped
  answer_of_gone (Err e) = answer_of_refusal e

  abbrev pub answer_of_take : Result (Taken A) SessionRefusal → Answer A
  answer_of_take (Ok (taking.Reply r)) = said.Reply r
  answer_of_take (Ok taking.Empty) = said.Empty
  answer_of_take (Ok taking.End) = said.End
  answer_of_take (Err e) = answer_of_refusal e

  abbrev pub answer_of_attach : Result SessionId NotAttached → Answer A
  answer_of_attach (Ok session) = said.Session session.number
  answer_of_attach (Err attaching.NoExport) = said.NoExport
  answer_of_attach (Err attaching.Worn) = said.Worn
  answer_of_attach (Err attaching.Full) = said.Full
  answer_of_attach (Err attaching.NoMemory) = said.NoMemory

  abbrev pub answer_of_retune : Result (Unit {0}) NotRetuned → Answer A
  answer_of_retune (Ok done) = said.Retuned
  answer_of_retune (Err retuning.NoExport) = said.NoExport
  answer_of_retune (Err retuning.Worn) = said.Worn
  answer_of_retune (Err retuning.Waiting) = said.Waiting
  answer_of_retune (Err retuning.NoMemory) = said.NoMemory

  abbrev pub answer_of_arrive_refusal : ArriveRefusal → Answer A
  answer_of_arrive_refusal arriving.NoExport = said.NoExport
  answer_of_arrive_refusal arriving.NotOpen = said.NotOpen
  answer_of_arrive_refusal arriving.Worn = said.Worn
  answer_of_arrive_refusal arriving.Hold = said.Hold
  answer_of_arrive_refusal arriving.NoMemory = said.NoMemory

  abbrev pub answer_of_arrive : Result Arrived (NotArrived A) → Answer A
  answer_of_arrive (Ok (arrival.Accepted n tag)) = said.Accepted n tag
  answer_of_arrive (Ok (arrival.Answered error)) = said.Answered error
  answer_of_arrive (Err e) = answer_of_arrive_refusal e.refusal

  abbrev pub answer_of_dispatch : Option Chosen → Answer A
  answer_of_dispatch None = said.Nothing
  answer_of_dispatch (Some chosen) = said.Picked chosen.ticket.export chosen.ticket.number chosen.phase

  abbrev pub answer_of_perform : Option Bool → Answer A
  answer_of_perform None = said.NotOut
  answer_of_perform (Some memory) = said.Performed memory

-- the seats once a request was chosen
abbrev pub seats_chosen : Option Chosen → List (List Seat) → List (List Seat)
seats_chosen None seats = seats
seats_chosen (Some chosen) seats = change_at (λ these. these ++ record { number = chosen.ticket.number; slot = chosen.ticket.slot } ∷ []) chosen.ticket.export seats
