-- All exports in one table: a list of all requests that wait or are out, and what is kept of each export beside it.
use Rattle.std.specs.Prelude.{ℕ, Bool, false, not, ◌&&◌, ◌||◌, ◌==◌, nat_lt, nat_le, if◌then◌else◌, List, [], ◌∷◌, ◌++◌, length, map, filter, replicate, get_or, Option, Some, None, ℤ, pos, ◌-ℤ◌, int_lt, int_le, unwrap_or}
use Rattle.std.specs.Ordering.{int_eq}
use Rattle.nbd_base.specs.Words.{when_some, change_at, change_each}
use Rattle.nbd_wire.specs.Grammar.{RequestMessage}
use Rattle.nbd_commands.specs.Terms.{Terms}
use Rattle.tag_clock.specs.declared.Phase.{Phase}
use Rattle.tag_clock.specs.declared.Phase.TheVariants.{Reservation, Weight}
use Rattle.tag_clock.specs.Intervals.{Intervals, no_intervals}
use Rattle.tag_clock.specs.Clocks.{lowered}
use Rattle.reply_box.specs.Sessions.{Session}
use Rattle.lone_export.specs.Alone.{Alone, Job}

-- a request that waits or is out, with its export and its tags; without a reservation it has no R tag
pub record Row : Type 0 where
  pub export : ℕ
  pub number : ℕ
  pub session : ℕ
  pub request : RequestMessage
  pub r : Option ℤ
  pub l : ℤ
  pub p : ℤ
  pub out : Bool

-- what is kept of an export beside its rows: its bytes, its sessions, the number of its next request, its last tags, the
-- intervals of its rates in force, and how many steps changed something of it
pub record Side : Type 0 where
  pub image : List ℕ
  pub sessions : List Session
  pub next : ℕ
  pub last_r : Option ℤ
  pub last_l : Option ℤ
  pub last_p : Option ℤ
  pub rates : Intervals
  pub count : ℕ

-- the rows of all exports, by export and then number; the sides, by export; the greatest moment of a dispatch so far
pub record Table : Type 0 where
  pub rows : List Row
  pub sides : List Side
  pub now : ℕ

-- what a server is set up with: the terms of its exports, and how many requests may be out
pub record Setup : Type 0 where
  pub exports : List Terms
  pub inflight : ℕ

abbrev pub opening_side : Terms → Side
opening_side terms = record { image = replicate terms.size 0; sessions = []; next = 0; last_r = None; last_l = None; last_p = None; rates = terms.rates; count = 0 }

abbrev pub opening_table : Setup → Table
opening_table setup = record { rows = []; sides = map opening_side setup.exports; now = 0 }

-- what stands for the side of an export that isn't there
abbrev pub no_side : Side
no_side = record { image = []; sessions = []; next = 0; last_r = None; last_l = None; last_p = None; rates = no_intervals; count = 0 }

-- the side of export e
abbrev pub side : Table → ℕ → Side
side table e = get_or table.sides e no_side

-- rows of export e that wait, or are out
abbrev pub waits_in : ℕ → Row → Bool
waits_in e row = row.export == e && not row.out

abbrev pub is_out_in : ℕ → Row → Bool
is_out_in e row = row.export == e && row.out

-- the row without its tags
abbrev pub job_of : Row → Job
job_of row = record { number = row.number; session = row.session; request = row.request }

-- what export e is by itself: its rows without their tags, and its side without the last R and P
abbrev pub part : ℕ → Table → Alone
part e table = record {
  image = (side table e).image;
  waiting = map job_of (filter (waits_in e) table.rows);
  out = map job_of (filter (is_out_in e) table.rows);
  next = (side table e).next;
  last = (side table e).last_l;
  rates = (side table e).rates;
  sessions = (side table e).sessions;
  count = (side table e).count;
}

-- ---- which row is chosen (mClock, request scheduling)

-- a waiting row whose R, or whose L, isn't above now
abbrev pub is_due_by_reservation : ℕ → Row → Bool
is_due_by_reservation now row = not row.out && when_some row.r (λ r. int_le r (pos now)) false

abbrev pub is_due_by_limit : ℕ → Row → Bool
is_due_by_limit now row = not row.out && int_le row.l (pos now)

abbrev pub due_by_reservation : Table → List Row
due_by_reservation table = filter (is_due_by_reservation table.now) table.rows

abbrev pub due_by_limit : Table → List Row
due_by_limit table = filter (is_due_by_limit table.now) table.rows

-- a comes before b: the lesser of (key, export, number)
abbrev pub precedes : (Row → ℤ) → Row → Row → Bool
precedes key a b = int_lt (key a) (key b) || (int_eq (key a) (key b) && (nat_lt a.export b.export || (a.export == b.export && nat_lt a.number b.number)))

-- the row that comes before all others
abbrev pub foremost : (Row → ℤ) → List Row → Option Row
foremost key [] = None
foremost key (row ∷ rows) = when_some (foremost key rows) (λ best. if precedes key best row then Some best else Some row) (Some row)

-- the keys of the two phases; each row that is due by reservation has an R
abbrev pub r_key : Row → ℤ
r_key row = unwrap_or row.r (pos 0)

abbrev pub p_key : Row → ℤ
p_key row = row.p

pub record Choice : Type 0 where
  pub row : Row
  pub phase : Phase

-- with so many out: none where as many are out as may be; else the least R that is due; else the least P whose limit
-- allows it
abbrev pub choice_with : ℕ → ℕ → Table → Option Choice
choice_with inflight out table =
    if nat_le inflight out then None
    else when_some (foremost r_key (due_by_reservation table)) (λ row. Some (record { row = row; phase = Reservation }))
    (when_some (foremost p_key (due_by_limit table)) (λ row. Some (record { row = row; phase = Weight })) None)

abbrev pub choice : ℕ → Table → Option Choice
choice inflight table = choice_with inflight (length (filter (λ row. row.out) table.rows)) table

-- ---- shift and credit (mClock, tag adjustment)

-- nothing waits in export e
abbrev pub is_idle : ℕ → List Row → Bool
is_idle e rows = length (filter (waits_in e) rows) == 0

-- by is subtracted from the P of each waiting row, and from the last P of each active export
abbrev pub lower_p : ℤ → Row → Row
lower_p by row = record row { p = if row.out then row.p else row.p -ℤ by }

abbrev pub lower_last_p : ℤ → List Row → ℕ → Side → Side
lower_last_p by rows e side = record side { last_p = if is_idle e rows then side.last_p else lowered by side.last_p }

abbrev pub all_lowered : ℤ → Table → Table
all_lowered by table = record table { rows = map (lower_p by) table.rows; sides = change_each (lower_last_p by table.rows) 0 table.sides }

-- before an arrival at t to an idle export while another is active: the least P becomes t
abbrev pub shifted : ℕ → ℕ → Table → Table
shifted e t table =
    if is_idle e table.rows
    then when_some (foremost p_key (filter (λ row. not row.out) table.rows)) (λ first. all_lowered (first.p -ℤ pos t) table) table
    else table

-- after a choice by weight: the interval of R is subtracted from the R of the export's waiting rows and from its last R
abbrev pub lower_r : ℕ → ℕ → Row → Row
lower_r by e row = record row { r = if waits_in e row then lowered (pos by) row.r else row.r }

abbrev pub lower_last_r : ℕ → Side → Side
lower_last_r by side = record side { last_r = lowered (pos by) side.last_r }

abbrev pub credited : ℕ → ℕ → Table → Table
credited by e table = record table { rows = map (lower_r by e) table.rows; sides = change_at (lower_last_r by) e table.sides }

-- a row goes behind the rows of its export and of the exports below
abbrev pub put : Row → List Row → List Row
put row rows = filter (λ other. nat_le other.export row.export) rows ++ row ∷ filter (λ other. nat_lt row.export other.export) rows
