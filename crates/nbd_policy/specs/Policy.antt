-- The rules over values that the threads of a server follow. Data are counted in bytes, times in nanoseconds.
use Rattle.std.specs.Prelude.{ℕ, ◌+◌, ◌-◌, ◌*◌, ◌/◌, ◌%◌, ◌^◌, min, ℤ, pos, int_le, int_lt, unsigned_abs, Bool, true, false, ◌&&◌, ◌||◌, ◌==◌, not, nat_lt, nat_le, if◌then◌else◌, Option, Some, None}
use Rattle.turn_order.specs.Flows.{units_of}
use Rattle.nbd_policy.specs.declared.request_size.RequestSize.{RequestSize}
use Rattle.nbd_policy.specs.declared.request_size.RequestSize.TheVariants as sizes
use Rattle.nbd_policy.specs.declared.request_size.Load.{Load}
use Rattle.nbd_policy.specs.declared.request_size.Load.TheVariants as loads
use Rattle.nbd_policy.specs.declared.habit.Expectation.{Expectation}
use Rattle.nbd_policy.specs.declared.habit.Expectation.TheVariants as expectations
use Rattle.nbd_policy.specs.declared.habit.Habit.{Habit}
use Rattle.nbd_policy.specs.declared.waiting.Rest.{Rest}
use Rattle.nbd_policy.specs.declared.waiting.Rest.TheVariants as rests
use Rattle.nbd_policy.specs.declared.waiting.Waiting.{Waiting}
use Rattle.nbd_policy.specs.declared.waiting.Waiting.TheVariants as waits
use Rattle.nbd_policy.specs.declared.write_pace.WritePace.{WritePace}
use Rattle.nbd_policy.specs.declared.long_readers.LongReaders.{LongReaders}

-- ---- requests

-- a TRIM or a WRITE_ZEROES
abbrev pub is_zero_by : ℕ → Bool
is_zero_by kind = (kind == 4) || (kind == 6)

-- a READ of more than 16 KiB, a WRITE of 64 KiB or more, zeros of more than 1 MiB, or none of these
abbrev pub size_by : ℕ → ℕ → RequestSize
size_by kind length =
    if (kind == 0) && nat_lt 16384 length then sizes.LongRead
    else (if (kind == 1) && nat_lt 65535 length then sizes.LongWrite
    else (if is_zero_by kind && nat_lt 1048576 length then sizes.LongZero else sizes.Short))

-- of a READ or WRITE of long data: several at a time, or 256 KiB or more
abbrev pub load_of_data_by : ℕ → Bool → Load
load_of_data_by length several = if several || nat_le 262144 length then loads.Bulk else loads.Interactive

-- little where it is short, and much where it is a long range of zeros
abbrev pub load_of_size : RequestSize → Load → Load
load_of_size sizes.Nothing load = loads.Interactive
load_of_size sizes.Short load = loads.Interactive
load_of_size sizes.LongRead load = load
load_of_size sizes.LongWrite load = load
load_of_size sizes.LongZero load = loads.Bulk

-- much where others are ready behind it, or several wait for their limit, else by its size
abbrev pub load_by : ℕ → ℕ → Bool → Bool → Bool → Load
load_by kind length more several limited =
    if more || (several && limited) then loads.Bulk else load_of_size (size_by kind length) (load_of_data_by length several)

-- a reader performs all but READs of long data
abbrev pub performs_by : RequestSize → Bool
performs_by sizes.Nothing = false
performs_by sizes.Short = true
performs_by sizes.LongRead = false
performs_by sizes.LongWrite = true
performs_by sizes.LongZero = true

-- requests of more than one size, and a long zero
abbrev pub ends_hold_by : RequestSize → Bool
ends_hold_by sizes.Nothing = true
ends_hold_by sizes.Short = false
ends_hold_by sizes.LongRead = false
ends_hold_by sizes.LongWrite = false
ends_hold_by sizes.LongZero = true

-- 8 requests under one hold beside sessions that ask for little or few, 16 behind a wait of more than a millisecond and beside none
abbrev pub batch_by : ℕ → Bool → ℕ
batch_by wait beside = if nat_lt 1000000 wait || not beside then 16 else 8

-- one more, up to 8, or none
abbrev pub in_a_row_by : ℕ → Bool → ℕ
in_a_row_by before again = if again then min (before + 1) 8 else 0

abbrev pub is_interactive_by : Load → Bool
is_interactive_by loads.Interactive = true
is_interactive_by loads.Bulk = false

-- fewer than 12 requests at hand are few
abbrev pub habit_by : Habit → Load → ℕ → Habit
habit_by habit load at_hand = record {
  interactive = in_a_row_by habit.interactive (is_interactive_by load);
  few = in_a_row_by habit.few (nat_lt at_hand 12);
}

-- interactive three times in a row, or else with few requests eight times
abbrev pub expectation_by : Habit → Expectation
expectation_by habit =
    if nat_le 3 habit.interactive then expectations.Interactive
    else (if nat_le 8 habit.few then expectations.Few else expectations.Nothing)

-- a millisecond
abbrev pub is_old_by : ℕ → ℕ → Bool
is_old_by latest moment = nat_le 1000000 (moment - latest)

-- 32 pages, and twice as many as the data fill, up to 512; none where none came
abbrev pub spares_by : ℕ → ℕ
spares_by brought = if brought == 0 then 0 else 32 + 2 * min (brought / 4096) 240

-- more than 64 beyond what is wanted, or less than half of it
abbrev pub is_uneven_by : ℕ → ℕ → Bool
is_uneven_by have wanted = nat_lt wanted (have - 64) || nat_lt have (wanted / 2)

-- ---- who goes first

-- twice as many reads, 8 at least and 64 at most
abbrev pub next_skip_by : ℕ → ℕ
next_skip_by skipped = if nat_lt skipped 4 then 8 else (if nat_lt 32 skipped then 64 else skipped * 2)

-- the last of so many looks in a row
abbrev pub yields_behind_look_by : ℕ → ℕ → Bool
yields_behind_look_by look in_a_row = nat_lt 0 in_a_row && ((look % in_a_row) == (in_a_row - 1))

-- never alone
abbrev pub looks_in_a_row_by : ℕ → ℕ
looks_in_a_row_by looking = if nat_lt 1 looking then 1 else 0

abbrev pub yields_by : ℕ → ℕ → Bool
yields_by bytes many = nat_le many bytes

-- more than a second ago
abbrev pub is_forgotten_by : ℕ → ℕ → Bool
is_forgotten_by latest moment = nat_lt 1000000000 (moment - latest)

-- what waits, by the moment at which the first of it is due
abbrev pub waiting_by : Option ℕ → Waiting
waiting_by None = waits.ForOthers
waiting_by (Some due) = waits.Until due

-- no writer chooses what waits, and nobody looks by the moment at which it is due, or nobody knows that
abbrev pub wakes_worker_by : Waiting → Bool → ℕ → Bool
wakes_worker_by waits.Nothing chooses looks_at = false
wakes_worker_by (waits.Until due) chooses looks_at = not chooses && nat_lt due looks_at
wakes_worker_by waits.ForOthers chooses looks_at = not chooses

-- not at all where something told is due before what it found and before others wake, else until that where it is the sooner
abbrev pub rest_by : ℕ → ℕ → ℕ → Rest
rest_by until kept told =
    if nat_lt told until && nat_lt told kept then rests.No
    else (if nat_lt until kept then rests.UntilDue else rests.UntilWoken)

-- that moment has come
abbrev pub is_due_by : Waiting → ℕ → Bool
is_due_by waits.Nothing now = false
is_due_by (waits.Until due) now = nat_le due now
is_due_by waits.ForOthers now = false

-- 200 microseconds
abbrev pub still_defers_by : ℕ → Bool
still_defers_by passed = nat_lt passed 200000

-- 5 seconds
abbrev pub still_retunes_by : ℕ → Bool
still_retunes_by passed = nat_lt passed 5000000000

-- 10 seconds
abbrev pub still_waits_for_line_by : ℕ → Bool
still_waits_for_line_by passed = nat_le passed 10000000000

-- ---- turns

-- 64 units, or a millisecond
abbrev pub asks_for_turn_by : ℕ → ℕ → Bool
asks_for_turn_by units passed = nat_le 64 units || nat_le 1000000 passed

-- what a WRITE carries
abbrev pub carried_by : ℕ → ℕ → ℕ
carried_by kind length = if kind == 1 then length else 0

-- four MiB
abbrev pub makes_room_by : ℕ → Bool
makes_room_by taken = nat_le 4194304 taken

-- one for each 16 KiB begun, and one at least
abbrev pub cost_by : ℕ → ℕ → ℕ
cost_by kind length = if (kind == 0) || (kind == 1) then units_of length else 1

-- until its limit tag, where that is later than now
abbrev pub limited_by : ℤ → ℕ → Option ℕ
limited_by tag now =
    if int_le tag (pos now) then None else (if int_lt tag (pos (2 ^ 62)) then Some (unsigned_abs tag) else None)

-- 16 holds more, or one fewer
abbrev pub backlog_by : ℕ → Bool → ℕ
backlog_by before more = if more then 16 else before - 1

-- behind it, or under way, where the client keeps up
abbrev pub has_more_by : Bool → ℕ → Bool → Bool
has_more_by behind under_way keeps_up = behind || (nat_lt 0 under_way && keeps_up)

-- behind a long WRITE, with 8 holds left at most
abbrev pub looks_behind_by : RequestSize → ℕ → Bool
looks_behind_by sizes.Nothing backlog = false
looks_behind_by sizes.Short backlog = false
looks_behind_by sizes.LongRead backlog = false
looks_behind_by sizes.LongWrite backlog = nat_le backlog 8
looks_behind_by sizes.LongZero backlog = false

-- what the writes took beyond a nanosecond a byte isn't more than what lay between them
abbrev pub keeps_up_by : ℕ → ℕ → ℕ → Bool
keeps_up_by bytes writing between = nat_le (writing - bytes) between

-- half of it behind 8 MiB, and more
abbrev pub aged_by : ℕ → ℕ → ℕ → ℕ
aged_by bytes before more = min ((if nat_lt 8388608 bytes then before / 2 else before) + more) 18446744073709551615

abbrev pub pace_by : WritePace → ℕ → ℕ → ℕ → WritePace
pace_by pace bytes writing between = record {
  bytes = aged_by pace.bytes pace.bytes bytes;
  writing = aged_by pace.bytes pace.writing writing;
  between = aged_by pace.bytes pace.between between;
}

-- ---- silent clients, and what is under way

-- in milliseconds: 10 s for an option, a minute for all
abbrev pub handshake_wait_by : ℕ → ℕ → ℕ
handshake_wait_by passed option = min (60000 - passed) (10000 - option)

-- 600 waits of 100 milliseconds
abbrev pub is_stalled_by : ℕ → Bool
is_stalled_by waits = nat_le 600 waits

abbrev pub data_by : ℕ → ℕ → ℕ
data_by kind length = if (kind == 0) || (kind == 1) then length else 0

-- more than 64 MiB of the session, or 256 MiB of its export's waiting WRITEs
abbrev pub holds_back_by : ℕ → ℕ → ℕ → Bool
holds_back_by under_way session waiting = nat_lt 0 under_way && (nat_lt 67108864 session || nat_lt 268435456 waiting)

-- ---- faults of accept(2), by the numbers of errno(3)

abbrev pub is_shortage_by : ℕ → Bool
is_shortage_by n = (n == 12) || (n == 23) || (n == 24) || (n == 105)

abbrev pub is_network_fault_by : ℕ → Bool
is_network_fault_by n =
    ((n == 1) || (n == 71) || (n == 92) || (n == 95)) || ((n == 64) || (n == 100) || (n == 101)) || (n == 112) || (n == 113)

abbrev pub accept_may_pass_by : ℕ → Bool
accept_may_pass_by n = is_shortage_by n || is_network_fault_by n

-- ---- reading ahead

abbrev pub reads_ahead_by : ℕ → Bool
reads_ahead_by processors = nat_le 4 processors

-- no other, or more than 20 milliseconds ago
abbrev pub is_alone_by : Option ℕ → ℕ → Bool
is_alone_by None moment = true
is_alone_by (Some latest) moment = nat_lt 20000000 (moment - latest)

-- two end the reading ahead
abbrev pub short_pieces_by : ℕ → ℕ → ℕ
short_pieces_by before bytes =
    if bytes == 0 then 2 else (if nat_lt bytes 16384 then min (before + 1) 18446744073709551615 else 0)

-- ---- readers of long data, counted in spans of 20 milliseconds

abbrev pub span_by : ℕ → ℕ
span_by moment = moment / 20000000

-- nobody yet in a later span, and before it those of the one that it follows
abbrev pub in_span_by : LongReaders → ℕ → LongReaders
in_span_by readers span =
    if nat_le span readers.span then readers
    else record { span = span; now = 0; before = if (span - readers.span) == 1 then readers.now else 0 }

-- one more, but where it counts in the span already
abbrev pub readers_by : LongReaders → ℕ → Bool → LongReaders
readers_by readers span counts =
    let later = in_span_by readers span in
    if counts then later
    else record { span = later.span; now = min (later.now + 1) 18446744073709551615; before = later.before }

-- of both spans the one with more
abbrev pub long_readers_by : LongReaders → ℕ
long_readers_by readers = if nat_lt readers.now readers.before then readers.before else readers.now

-- ---- replies

-- two processors for each writer
abbrev pub makes_ready_by : ℕ → ℕ → Bool
makes_ready_by writers processors = nat_le writers (processors / 2)

-- two, however much data they have, and up to four with less than 512 KiB
abbrev pub makes_another_ready_by : Bool → ℕ → ℕ → Bool
makes_another_ready_by is_first replies bytes =
    (is_first && nat_lt replies 2) || (nat_lt replies 4 && nat_lt bytes 524288)

abbrev pub keeps_by : ℕ → Bool
keeps_by unsent = nat_lt unsent 4

-- 256 KiB, where the client reads
abbrev pub sends_early_by : ℕ → Bool → Bool
sends_early_by buffered stuck = nat_le 262144 buffered && not stuck

-- more than 16 KiB, by a patient write
abbrev pub goes_straight_by : ℕ → Bool → Bool
goes_straight_by bytes patient = patient && nat_lt 16384 bytes

-- of 192 KiB and more the first 128 beside interactive sessions, else all
abbrev pub sent_by : ℕ → Bool → ℕ
sent_by bytes interactive = if interactive && nat_le 196608 bytes then 131072 else bytes

-- three quarters of the room, and within it together with what isn't sent
abbrev pub suits_reader_by : ℕ → ℕ → ℕ → Bool
suits_reader_by bytes unsent room = nat_le bytes (room - room / 4) && nat_lt unsent (room - bytes)

-- a READ of more than 16 KiB, and of 1 MiB at most, where more sessions read so much than half as many as processors
abbrev pub answers_read_by : ℕ → ℕ → ℕ → ℕ → Bool
answers_read_by kind length readers processors =
    (kind == 0) && (nat_lt 16384 length && nat_le length 1048576) && nat_lt (processors / 2) readers

-- one where the reader answers a READ of long data
abbrev pub handed_in_by : Bool → ℕ → ℕ
handed_in_by answers most = if answers then 1 else most

-- a second, and without end where nothing is under way
abbrev pub patience_by : ℕ → Option ℕ
patience_by under_way = if under_way == 0 then None else Some 1000000000

-- 20 milliseconds, where nothing of the session is under way that rings
abbrev pub held_back_patience_by : ℕ → ℕ
held_back_patience_by under_way = if under_way == 0 then 20000000 else 1000000000

abbrev pub bell_by : ℕ → ℕ
bell_by session = session % 64
