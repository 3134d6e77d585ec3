-- The steps of all exports in one table. None of them is worded by the steps of one export alone.
use Rattle.std.specs.Prelude.{ℕ, ◌+◌, ◌^◌, max, Bool, true, false, not, ◌&&◌, ◌||◌, ◌==◌, nat_le, if◌then◌else◌, List, [], ◌∷◌, ◌++◌, length, map, filter, find, get_or, slice_get, drop, Some, option_map}
use Rattle.nbd_base.specs.Words.{when_some, change_at}
use Rattle.nbd_wire.specs.Grammar.{RequestMessage}
use Rattle.nbd_commands.specs.Verdict.{verdict_of}
use Rattle.nbd_commands.specs.Meaning.{image_after, data_of, may_want_memory}
use Rattle.tag_clock.specs.declared.Phase.{Phase}
use Rattle.tag_clock.specs.declared.Phase.TheVariants.{Reservation, Weight}
use Rattle.tag_clock.specs.Tags.{later}
use Rattle.tag_clock.specs.Intervals.{Intervals}
use Rattle.tag_clock.specs.Clocks.{last_r_for}
use Rattle.reply_box.specs.Sessions.{Session, new_session, is_here, is_open_at, is_left_at, is_here_at, outbox_at, post_at, take_at, leave_at, drop_at}
use Rattle.server_table.specs.declared.event.Event.{Event}
use Rattle.server_table.specs.declared.event.Event.TheVariants.{Attach, Arrive, Dispatch, Perform, Take, Leave, Gone, Retune}
use Rattle.server_table.specs.declared.event.Answer.{Answer}
use Rattle.server_table.specs.declared.event.Answer.TheVariants.{Session as Numbered, Accepted, Answered, Picked, Nothing, Performed, Reply as Replied, Empty, End, Left, Dropped, NoExport, NotOpen, Worn, Full, Hold, NotOut, Retuned, Waiting, NoMemory}
use Rattle.server_table.specs.Table.{Row, Side, Table, Setup, Choice, side, waits_in, is_out_in, choice, shifted, credited, put, opening_table}

-- the rows are these, the side of export e is changed, and its count rises
abbrev pub changed : ℕ → Table → List Row → (Side → Side) → Table
changed e table rows change = record table { rows = rows; sides = change_at (λ side. record (change side) { count = side.count + 1 }) e table.sides }

-- the same rows and another list of sessions
abbrev pub with_sessions : List Session → Side → Side
with_sessions sessions side = record side { sessions = sessions }

abbrev pub seated : ℕ → List Session → Table → Table
seated e sessions table = changed e table table.rows (with_sessions sessions)

-- the rates are others, and without a reservation there is no last R
abbrev pub with_rates : Intervals → Side → Side
with_rates rates side = record side { rates = rates; last_r = last_r_for rates.r_interval side.last_r }

abbrev pub retuned_in : ℕ → Intervals → Table → Table
retuned_in e rates table = changed e table table.rows (with_rates rates)

-- the rows of session s of export e, and its replies that aren't taken
abbrev pub outstanding_in : ℕ → ℕ → Table → ℕ
outstanding_in e s table = length (filter (λ row. row.export == e && row.session == s) table.rows) + length (outbox_at (side table e).sessions s)

-- a session is told an error
abbrev pub refused_in : ℕ → ℕ → RequestMessage → ℕ → Table → Table
refused_in e s q error table = seated e (post_at s (record { error = error; cookie = q.head.cookie; content = [] }) (side table e).sessions) table

-- the row of an arrival, with its tags
abbrev pub new_row : ℕ → ℕ → ℕ → RequestMessage → Side → Row
new_row e s t q side = record {
  export = e;
  number = side.next;
  session = s;
  request = q;
  r = option_map (λ interval. later side.last_r interval t) side.rates.r_interval;
  l = later side.last_l side.rates.l_interval t;
  p = later side.last_p side.rates.p_interval t;
  out = false;
}

-- its tags are the last ones
abbrev pub with_last : Row → Side → Side
with_last row side = record side { next = side.next + 1; last_r = row.r; last_l = Some row.l; last_p = Some row.p }

abbrev pub entered : Row → Table → Table
entered row table = changed row.export table (put row table.rows) (with_last row)

abbrev pub entered_in : ℕ → ℕ → ℕ → RequestMessage → Table → Table
entered_in e s t q table = entered (new_row e s t q (side table e)) table

-- the row of export e and number n that is out
abbrev pub is_out_row : ℕ → ℕ → Row → Bool
is_out_row e n row = is_out_in e row && row.number == n

-- it is done, and its session is told
abbrev pub done_side : Row → Side → Side
done_side row side = record side {
  image = image_after side.image row.request;
  sessions = post_at row.session (record { error = 0; cookie = row.request.head.cookie; content = data_of side.image row.request }) side.sessions;
}

-- no memory was there for it: its session is told error 12 (ENOMEM), and the image stays
abbrev pub undone_side : Row → Side → Side
undone_side row side = record side { sessions = post_at row.session (record { error = 12; cookie = row.request.head.cookie; content = [] }) side.sessions }

abbrev pub done_in : ℕ → Row → Table → Table
done_in e row table = changed e table (filter (λ other. not (is_out_row e row.number other)) table.rows) (done_side row)

abbrev pub undone_in : ℕ → Row → Table → Table
undone_in e row table = changed e table (filter (λ other. not (is_out_row e row.number other)) table.rows) (undone_side row)

-- the row that was chosen is out
abbrev pub send : Row → Row → Row
send chosen row = record row { out = row.out || (row.export == chosen.export && row.number == chosen.number) }

abbrev pub sent : Row → Table → Table
sent chosen table = changed chosen.export table (map (send chosen) table.rows) (λ side. side)

-- credit follows a choice by weight, where the export has a reservation
abbrev pub is_by_weight : Phase → Bool
is_by_weight Reservation = false
is_by_weight Weight = true

abbrev pub with_credit : Choice → Table → Table
with_credit chosen table =
    if is_by_weight chosen.phase
    then when_some (side table chosen.row.export).rates.r_interval (λ by. credited by chosen.row.export table) table
    else table

-- what a step leaves, and its answer
pub record Outcome (A : Type 0) : Type 0 where
  pub table : Table
  pub answer : Answer A

module _ {A : Type 0} where
  abbrev pub outcome : Table → Answer A → Outcome A
  outcome table said = record { table = table; answer = said }

  -- a request waits, and is told its number and its limit tag
  abbrev pub accepted_in : ℕ → ℕ → ℕ → RequestMessage → Table → Outcome A
  accepted_in e s t q table = outcome (entered_in e s t q table) (Accepted (side table e).next (later (side table e).last_l (side table e).rates.l_interval t))

  abbrev pub dispatched : Setup → Table → Outcome A
  dispatched setup table =
      when_some (choice setup.inflight table)
      (λ chosen. outcome (with_credit chosen (sent chosen.row table)) (Picked chosen.row.export chosen.row.number chosen.phase))
      (outcome table Nothing)

  -- one event, with memory there for it or not: the first case that fits. 2^56 steps wear an export, 64 sessions fill
  -- it, and 5 is EIO
  abbrev pub step : Setup → Table → Event A → Bool → Outcome A
  step setup table (Attach e) memory =
      when_some (slice_get setup.exports e)
      (λ terms. if nat_le (2 ^ 56) (side table e).count then outcome table Worn
      else (if length (filter is_here (side table e).sessions) == 64 then outcome table Full
      else (if not memory then outcome table NoMemory
      else outcome (seated e ((side table e).sessions ++ new_session ∷ []) table) (Numbered (length (side table e).sessions)))))
      (outcome table NoExport)
  step setup table (Arrive e s t q) memory =
      when_some (slice_get setup.exports e)
      (λ terms. if not (is_open_at (side table e).sessions s) then outcome table NotOpen
      else (if nat_le (2 ^ 56) (side table e).count then outcome table Worn
      else (if outstanding_in e s table == terms.window then outcome table Hold
      else (if not memory then outcome table NoMemory
      else (if not (verdict_of terms q == 0) then outcome (refused_in e s q (verdict_of terms q) table) (Answered (verdict_of terms q))
      else (if length (filter (waits_in e) table.rows) == terms.depth then outcome (refused_in e s q 5 table) (Answered 5)
      else accepted_in e s t q (shifted e t table)))))))
      (outcome table NoExport)
  step setup table (Dispatch t) memory = dispatched setup (record table { now = max table.now t })
  step setup table (Perform e n) memory =
      when_some (find (is_out_row e n) table.rows)
      (λ row. if not memory && may_want_memory row.request then outcome (undone_in e row table) (Performed false) else outcome (done_in e row table) (Performed true))
      (outcome table NotOut)
  step setup table (Take e s) memory =
      when_some (slice_get setup.exports e)
      (λ terms. if not (is_here_at (side table e).sessions s) then outcome table NotOpen
      else when_some (slice_get (outbox_at (side table e).sessions s) 0)
      (λ reply. outcome (seated e (take_at s (side table e).sessions) table) (Replied reply))
      (if is_left_at (side table e).sessions s && outstanding_in e s table == 0 then outcome table End else outcome table Empty))
      (outcome table NoExport)
  step setup table (Leave e s) memory =
      when_some (slice_get setup.exports e)
      (λ terms. if not (is_open_at (side table e).sessions s) then outcome table NotOpen
      else outcome (seated e (leave_at s (side table e).sessions) table) Left)
      (outcome table NoExport)
  step setup table (Gone e s) memory =
      when_some (slice_get setup.exports e)
      (λ terms. if not (is_here_at (side table e).sessions s) then outcome table NotOpen
      else outcome (seated e (drop_at s (side table e).sessions) table) Dropped)
      (outcome table NoExport)
  step setup table (Retune e rates) memory =
      when_some (slice_get setup.exports e)
      (λ terms. if nat_le (2 ^ 56) (side table e).count then outcome table Worn
      else (if not (length (filter (waits_in e) table.rows) == 0) then outcome table Waiting
      else (if not memory then outcome table NoMemory
      else outcome (retuned_in e rates table) Retuned)))
      (outcome table NoExport)

  -- a list of events from a table on, each with its mark, and with memory there where the marks have ended: the last
  -- table, and each answer
  abbrev pub table_after : Setup → Table → List (Event A) → List Bool → Table
  table_after setup table [] marks = table
  table_after setup table (event ∷ events) marks = table_after setup (step setup table event (get_or marks 0 true)).table events (drop 1 marks)

  abbrev pub answers_of : Setup → Table → List (Event A) → List Bool → List (Answer A)
  answers_of setup table [] marks = []
  answers_of setup table (event ∷ events) marks = (step setup table event (get_or marks 0 true)).answer ∷ answers_of setup (step setup table event (get_or marks 0 true)).table events (drop 1 marks)

  -- a whole run, from the opening table
  abbrev pub last_table : Setup → List (Event A) → List Bool → Table
  last_table setup events marks = table_after setup (opening_table setup) events marks

  abbrev pub run_answers : Setup → List (Event A) → List Bool → List (Answer A)
  run_answers setup events marks = answers_of setup (opening_table setup) events marks
