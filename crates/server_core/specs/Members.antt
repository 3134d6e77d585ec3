-- What a contract sees of one export of a server, and what its calls do to it.
use Rattle.std.specs.Prelude.{◌≡◌, ◌≤◌, ◌^◌, nat_le, true, false, filter, Result, Ok, Err, ⊤, ℕ, List, [], ◌∷◌, map, length, Option, Some, None, ◌++◌, if◌then◌else◌, ◌==◌, Bool, not, ℤ}
use Rattle.nbd_wire.specs.Grammar.{RequestMessage}
use Rattle.nbd_commands.specs.Terms.{Terms}
use Rattle.tag_clock.specs.declared.Tags.{Tags}
use Rattle.tag_clock.specs.declared.Phase.{Phase}
use Rattle.tag_clock.specs.Clocks.{Share}
use Rattle.tag_clock.specs.Intervals.{Intervals}
use Rattle.lone_export.specs.Alone.{Alone, Job, Moved, own_step, opening}
use Rattle.lone_export.specs.Lone.{Whole, Admits, MayArrive}
use Rattle.lone_export.specs.declared.refusal.Arrived.{Arrived}
use Rattle.lone_export.specs.declared.refusal.Arrived.TheVariants.{Accepted, Answered}
use Rattle.reply_box.specs.Sessions.{is_here}
use Rattle.lone_export.specs.declared.refusal.NotAttached.{NotAttached}
use Rattle.lone_export.specs.declared.refusal.NotAttached.TheVariants.{Refused, NoMemory}
use Rattle.lone_export.specs.declared.refusal.RetuneRefusal.TheVariants as tuned
use Rattle.lone_export.specs.declared.step.Step.{Step}
use Rattle.lone_export.specs.declared.step.StepAnswer.{StepAnswer}
use Rattle.lone_export.specs.declared.step.Step.TheVariants.{Arrive, Perform}
use Rattle.lone_export.specs.declared.step.StepAnswer.TheVariants as said
use Rattle.lone_export.specs.declared.step.StepAnswer.TheVariants.{Performed}
use Rattle.export_cell.specs.declared.place.Place.{Place}
use Rattle.export_cell.specs.declared.refusal.ArriveFault.{ArriveFault}
use Rattle.export_cell.specs.declared.refusal.ArriveFault.TheVariants as fault
use Rattle.export_cell.specs.Journal.{Journal, Cell, IsAdvanced, IsReserved, surplus, opening_journal}
use Rattle.export_cell.specs.declared.refusal.NotRetuned.{NotRetuned}
use Rattle.export_cell.specs.declared.refusal.NotRetuned.TheVariants as retuning
use Rattle.server_table.specs.Parts.{Entry, Part, alone_of, with_alone, part_retuned, performed_part}
use Rattle.server_table.specs.Picks.{part_picked}
use Rattle.server_table.specs.Ways.{part_shifted, part_tags, accepted_part}
use Rattle.server_core.specs.declared.member.Sent.{Sent}

-- a request that is out is found by its slot
pub record Seat : Type 0 where
  pub number : ℕ
  pub slot : ℕ

-- an export of a server: its part of the table, how many of its requests may be out, the seats of those that are, its
-- journal, and how many steps the log has room for
pub record Standing : Type 0 where
  pub part : Part
  pub inflight : ℕ
  pub seats : List Seat
  pub journal : Journal
  pub room : ℕ

abbrev pub opening_part : Terms → Part
opening_part terms = record { terms = terms; image = (opening terms).image; waiting = []; out = []; next = 0; last_r = None; last_l = None; last_p = None; rates = terms.rates; sessions = []; count = 0 }

abbrev pub opening_standing : ℕ → Terms → Standing
opening_standing inflight terms = record { part = opening_part terms; inflight = inflight; seats = []; journal = opening_journal terms; room = 0 }

-- the slot of the request of that number
abbrev pub slot_in : List Seat → ℕ → Option ℕ
slot_in [] n = None
slot_in (seat ∷ seats) n = if seat.number == n then Some seat.slot else slot_in seats n

-- each request that is out has a seat, in the same order; no two are in one slot
pub record IsSeated (standing : Standing) : Type 0 where
  pub each : map (λ seat. seat.number) standing.seats ≡ map (λ entry. entry.number) standing.part.out
  pub differ : (m n slot : ℕ) → slot_in standing.seats m ≡ Some slot → slot_in standing.seats n ≡ Some slot → m ≡ n

-- ---- as it is kept: the export alone with its journal, and the tags beside it
pub record Kept : Type 0 where
  pub whole : Whole
  pub journal : Journal
  pub room : ℕ
  pub share : Share
  pub waiting : List Tags
  pub waiting_room : ℕ
  pub out : List Sent
  pub out_room : ℕ

abbrev pub entries_of : List Job → List Tags → List Entry
entries_of [] tags = []
entries_of (job ∷ jobs) [] = []
entries_of (job ∷ jobs) (one ∷ tags) = record { number = job.number; session = job.session; request = job.request; tags = one } ∷ entries_of jobs tags

abbrev pub seats_of : List Job → List ℕ → List Seat
seats_of [] slots = []
seats_of (job ∷ jobs) [] = []
seats_of (job ∷ jobs) (slot ∷ slots) = record { number = job.number; slot = slot } ∷ seats_of jobs slots

abbrev pub sent_tags : List Sent → List Tags
sent_tags out = map (λ one. one.tags) out

abbrev pub part_of : Kept → Part
part_of m = record {
  terms = m.whole.terms;
  image = m.whole.state.image;
  waiting = entries_of m.whole.state.waiting m.waiting;
  out = entries_of m.whole.state.out (sent_tags m.out);
  next = m.whole.state.next;
  last_r = m.share.last_r;
  last_l = m.whole.state.last;
  last_p = m.share.last_p;
  rates = m.whole.state.rates;
  sessions = m.whole.state.sessions;
  count = m.whole.state.count;
}

abbrev pub standing_of : Kept → Standing
standing_of m = record { part = part_of m; inflight = m.whole.inflight; seats = seats_of m.whole.state.out m.whole.slots; journal = m.journal; room = m.room }

-- each request has its tags, and there is room for as many as there may be
pub record IsMember (m : Kept) : Type 0 where
  pub tagged : length m.waiting ≡ length m.whole.state.waiting
  pub sent : map (λ (one : Sent). one.number) m.out ≡ map (λ (job : Job). job.number) m.whole.state.out
  pub seated : length m.whole.slots ≡ length m.whole.state.out
  pub r_interval : m.share.r_interval ≡ m.whole.state.rates.r_interval
  pub p_interval : m.share.p_interval ≡ m.whole.state.rates.p_interval
  pub few : length m.whole.state.waiting ≤ m.whole.terms.depth
  pub waiting_room : m.whole.terms.depth ≤ m.waiting_room
  pub out_room : m.whole.inflight ≤ m.out_room

-- ---- what calls do
abbrev pub with_state : Alone → Standing → Standing
with_state state standing = record standing { part = with_alone state standing.part }

-- the same export, with another journal and another room in its log
abbrev pub with_log : Journal → ℕ → Standing → Standing
with_log journal room standing = record standing { journal = journal; room = room }

-- the export before a call, with the journal and the room that the call left
abbrev pub logged_as : Standing → Standing → Standing
logged_as new old = with_log new.journal new.room old

module _ {A : Type 0} where
  abbrev pub own : Standing → Step A → Moved A
  own standing step = own_step standing.part.terms (alone_of standing.part) step

  -- a call that is this step of the export alone, with this answer, and leaves its requests as they are; of its journal
  -- other clauses speak, here and below
  pub record Went (old new : Standing) (step : Step A) (answer : StepAnswer A) : Type 0 where
    pub standing : new ≡ with_state (own old step).state (logged_as new old)
    pub told : answer ≡ (own old step).answer

  -- the same, or nothing but the journal changed where there was no answer
  abbrev pub WentOr : Standing → Standing → Step A → Option (StepAnswer A) → Type 0
  WentOr old new step None = new ≡ logged_as new old
  WentOr old new step (Some answer) = Went old new step answer

-- a session may be opened
pub record MayOpen (standing : Standing) : Type 0 where
  pub young : nat_le (2 ^ 56) standing.part.count ≡ false
  pub few : (length (filter is_here standing.part.sessions) == 64) ≡ false

-- memory is wanted only where nothing else refuses an attach
abbrev pub WantsMemory : Standing → Result ℕ NotAttached → Type 0
WantsMemory standing (Ok n) = ⊤
WantsMemory standing (Err (Refused e)) = ⊤
WantsMemory standing (Err NoMemory) = MayOpen standing

-- ---- the rates are others
abbrev pub retuned_standing : Intervals → Standing → Standing
retuned_standing rates standing = record standing { part = part_retuned rates standing.part }

-- the export has other rates, or none of its requests and rates changed; memory is wanted only where nothing else refuses it
abbrev pub Retunes : Standing → Standing → Intervals → Result (Unit {0}) NotRetuned → Type 0
Retunes old new rates (Ok done) = (nat_le (2 ^ 56) old.part.count ≡ false) × ((length old.part.waiting == 0) ≡ true) × (new ≡ retuned_standing rates (logged_as new old))
Retunes old new rates (Err (retuning.Refused tuned.Worn)) = (nat_le (2 ^ 56) old.part.count ≡ true) × (new ≡ logged_as new old)
Retunes old new rates (Err (retuning.Refused tuned.Waiting)) = (nat_le (2 ^ 56) old.part.count ≡ false) × ((length old.part.waiting == 0) ≡ false) × (new ≡ logged_as new old)
Retunes old new rates (Err retuning.NoMemory) = (nat_le (2 ^ 56) old.part.count ≡ false) × ((length old.part.waiting == 0) ≡ true) × (new ≡ logged_as new old)

-- ---- a request that is out is done
abbrev pub seats_without : ℕ → List Seat → List Seat
seats_without n seats = filter (λ seat. not (seat.number == n)) seats

abbrev pub done_standing : ℕ → Alone → Standing → Standing
done_standing n state standing = record standing { part = performed_part n state standing.part; seats = seats_without n standing.seats }

module _ (A : Type 0) where
  -- the request of this number was out, and is done as it is of the export alone
  pub record Performs (old new : Standing) (n : ℕ) (memory : Bool) : Type 0 where
    pub standing : new ≡ done_standing n (own {A = A} old (Perform n memory)).state (logged_as new old)
    pub told : (own {A = A} old (Perform n memory)).answer ≡ Performed memory

-- ---- a request is picked
abbrev pub first_number : List Entry → Option ℕ
first_number [] = None
first_number (entry ∷ entries) = Some entry.number

abbrev pub picked_standing : Phase → Seat → Standing → Standing
picked_standing phase seat standing = record standing { part = part_picked phase standing.part; seats = standing.seats ++ seat ∷ [] }

-- the first request that waited is out, in its seat
pub record Picks (old new : Standing) (phase : Phase) (seat : Seat) : Type 0 where
  pub standing : new ≡ picked_standing phase seat (logged_as new old)
  pub number : first_number old.part.waiting ≡ Some seat.number
  pub held : slot_in new.seats seat.number ≡ Some seat.slot

-- ---- a request arrives
abbrev pub accepted_standing : ℕ → ℕ → RequestMessage → Standing → Standing
accepted_standing s t q standing = record standing { part = accepted_part s q (part_tags standing.part t) standing.part }

-- the export would let it wait
abbrev pub AdmitsAt : Standing → ℕ → RequestMessage → Type 0
AdmitsAt standing s q = Admits standing.part.terms (alone_of standing.part) s q

-- the export alone with its journal; its slots stand in the seats
abbrev pub cell_at : Standing → Cell
cell_at standing = record {
  live = record { terms = standing.part.terms; inflight = standing.inflight; state = alone_of standing.part; slots = [] };
  journal = standing.journal;
  room = standing.room;
}

-- a request of session s has this place
abbrev pub IsReservedAt : {A : Type 0} → Standing → ℕ → RequestMessage → Place A → Type 0
IsReservedAt standing s q place = IsReserved (cell_at standing) s q place

-- it has none: it is refused, and nothing changed; or memory was wanted, and some of the steps went that had to
abbrev pub IsTurnedAwayAt : Standing → Standing → ℕ → RequestMessage → ArriveFault → Type 0
IsTurnedAwayAt old new s q (fault.Refused e) = MayArrive (cell_at old).live s (Err e) × (new ≡ old)
IsTurnedAwayAt old new s q fault.NoMemory =
    MayArrive (cell_at old).live s (Ok tt) × IsAdvanced old.part.terms (surplus (length q.payload) old.journal.log) old.journal new.journal

-- it waits with its tags exactly where it is admitted; else the call is the step of the export alone
abbrev pub Arrives : Type 0 → Standing → Standing → ℕ → ℕ → RequestMessage → Arrived → Type 0
Arrives A old new s t q (Accepted number limit_tag) =
    AdmitsAt old s q × (new ≡ accepted_standing s t q (logged_as new old)) × (number ≡ old.part.next) × (limit_tag ≡ (part_tags old.part t).l)
Arrives A old new s t q (Answered error) = (AdmitsAt old s q → ⊥) × Went {A = A} old new (Arrive s t q) (said.Answered error)

-- ---- what is told of a request that waits
abbrev pub told_tags : Entry → (ℕ × Tags)
told_tags entry = (entry.number, entry.tags)

-- ---- the P tags fall
abbrev pub shifted_standing : ℤ → Standing → Standing
shifted_standing delta standing = record standing { part = part_shifted delta standing.part }
