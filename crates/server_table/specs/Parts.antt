-- The table as it is kept: export by export, each its own part.
use Rattle.std.specs.Prelude.{ℕ, suc, ◌+◌, Bool, true, false, ℤ, Option, List, [], ◌∷◌, ◌++◌, map, filter, not, ◌==◌}
use Rattle.nbd_wire.specs.Grammar.{RequestMessage}
use Rattle.nbd_commands.specs.Terms.{Terms}
use Rattle.tag_clock.specs.declared.Tags.{Tags}
use Rattle.tag_clock.specs.Intervals.{Intervals}
use Rattle.tag_clock.specs.Clocks.{last_r_for}
use Rattle.reply_box.specs.Sessions.{Session}
use Rattle.lone_export.specs.Alone.{Alone, Job}
use Rattle.server_table.specs.Table.{Row, Side, Table, Setup}

-- a request of an export that waits or is out, with its tags
pub record Entry : Type 0 where
  pub number : ℕ
  pub session : ℕ
  pub request : RequestMessage
  pub tags : Tags

-- an export's terms, its requests with their tags, oldest first, and what it keeps beside them
pub record Part : Type 0 where
  pub terms : Terms
  pub image : List ℕ
  pub waiting : List Entry
  pub out : List Entry
  pub next : ℕ
  pub last_r : Option ℤ
  pub last_l : Option ℤ
  pub last_p : Option ℤ
  pub rates : Intervals
  pub sessions : List Session
  pub count : ℕ

abbrev pub row_of : ℕ → Bool → Entry → Row
row_of e out entry = record { export = e; number = entry.number; session = entry.session; request = entry.request; r = entry.tags.r; l = entry.tags.l; p = entry.tags.p; out = out }

-- those that are out are the older ones
abbrev pub part_rows : ℕ → Part → List Row
part_rows e part = map (row_of e true) part.out ++ map (row_of e false) part.waiting

abbrev pub rows_from : ℕ → List Part → List Row
rows_from e [] = []
rows_from e (part ∷ parts) = part_rows e part ++ rows_from (suc e) parts

abbrev pub side_of : Part → Side
side_of part = record { image = part.image; sessions = part.sessions; next = part.next; last_r = part.last_r; last_l = part.last_l; last_p = part.last_p; rates = part.rates; count = part.count }

abbrev pub table_of : List Part → ℕ → Table
table_of parts now = record { rows = rows_from 0 parts; sides = map side_of parts; now = now }

abbrev pub setup_of : List Part → ℕ → Setup
setup_of parts inflight = record { exports = map (λ part. part.terms) parts; inflight = inflight }

-- what an export is by itself
abbrev pub job_of_entry : Entry → Job
job_of_entry entry = record { number = entry.number; session = entry.session; request = entry.request }

abbrev pub alone_of : Part → Alone
alone_of part = record { image = part.image; waiting = map job_of_entry part.waiting; out = map job_of_entry part.out; next = part.next; last = part.last_l; rates = part.rates; sessions = part.sessions; count = part.count }

-- a part whose requests stay, with the image, the sessions and the count of another state
abbrev pub with_alone : Alone → Part → Part
with_alone state part = record part { image = state.image; sessions = state.sessions; count = state.count }

-- a part with other rates; without a reservation it has no last R
abbrev pub part_retuned : Intervals → Part → Part
part_retuned rates part = record part { rates = rates; last_r = last_r_for rates.r_interval part.last_r; count = part.count + 1 }

-- the requests but for one
abbrev pub without : ℕ → List Entry → List Entry
without n entries = filter (λ entry. not (entry.number == n)) entries

abbrev pub performed_part : ℕ → Alone → Part → Part
performed_part n state part = record part { image = state.image; out = without n part.out; sessions = state.sessions; count = state.count }
