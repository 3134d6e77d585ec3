-- Runs of calls in any order.
use Rattle.std.specs.Prelude.{ℕ, ◌+◌, ◌≤◌, ◌==◌, Bool, true, false, List, [], ◌∷◌, map, if◌then◌else◌}
use Rattle.turn_order.specs.declared.Rates.{Rates}
use Rattle.turn_order.specs.declared.Turn.{Turn}
use Rattle.turn_order.specs.declared.Turn.TheVariants.{Go, Wait}
use Rattle.turn_order.specs.Flows.{flow_of}
use Rattle.turn_order.specs.Orders.{Order, entered, left, lingering, limited, retuned, wait_begun, wait_ended, answer, asked}

pub data Call : Type 0 where
  Enter : (export now : ℕ) → Call
  Leave : (export : ℕ) → Call
  Begin_wait : (export : ℕ) → Call
  End_wait : (export : ℕ) → Call
  Linger : (export until : ℕ) → Call
  Limit : (export until : ℕ) → Call
  Retune : (export : ℕ) (rates : Rates) → Call
  Ask : (export now cost : ℕ) → Call

abbrev pub after : Call → Order → Order
after (Enter e now) o = entered e now o
after (Leave e) o = left e o
after (Begin_wait e) o = wait_begun e o
after (End_wait e) o = wait_ended e o
after (Linger e until) o = lingering e until o
after (Limit e until) o = limited e until o
after (Retune e rates) o = retuned e rates o
after (Ask e now cost) o = asked e now cost o

abbrev pub run : List Call → Order → Order
run [] o = o
run (c ∷ cs) o = run cs (after c o)

-- no export had anything so far
abbrev pub fresh : List Rates → Order
fresh rates = record { flows = map flow_of rates; clock = 0 }

abbrev pub is_go : Turn → Bool
is_go Go = true
is_go (Wait nanoseconds) = false

-- the units that a call gives an export, and those that calls give it
abbrev pub given_by : ℕ → Call → Order → ℕ
given_by a (Enter e now) o = 0
given_by a (Leave e) o = 0
given_by a (Begin_wait e) o = 0
given_by a (End_wait e) o = 0
given_by a (Linger e until) o = 0
given_by a (Limit e until) o = 0
given_by a (Retune e rates) o = 0
given_by a (Ask e now cost) o = if e == a then (if is_go (answer e now o) then cost else 0) else 0

abbrev pub given : ℕ → List Call → Order → ℕ
given a [] o = 0
given a (c ∷ cs) o = given_by a c o + given a cs (after c o)

-- the cost of a call's turn
abbrev pub IsCostUpTo : ℕ → Call → Type 0
IsCostUpTo most (Enter e now) = Unit {0}
IsCostUpTo most (Leave e) = Unit {0}
IsCostUpTo most (Begin_wait e) = Unit {0}
IsCostUpTo most (End_wait e) = Unit {0}
IsCostUpTo most (Linger e until) = Unit {0}
IsCostUpTo most (Limit e until) = Unit {0}
IsCostUpTo most (Retune e rates) = Unit {0}
IsCostUpTo most (Ask e now cost) = cost ≤ most
