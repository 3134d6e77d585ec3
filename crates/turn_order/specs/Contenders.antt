-- What the exports that contend have in common, and whether one of them goes on.
use Rattle.std.specs.Prelude.{ℕ, ◌+◌, ◌-◌, ◌*◌, ◌||◌, min, max, Bool, true, false, nat_le, List, [], ◌∷◌, if◌then◌else◌, ◌&&◌}
use Rattle.turn_order.specs.declared.flow.Flow.{Flow}
use Rattle.turn_order.specs.declared.contenders.Contenders.{Contenders}
use Rattle.turn_order.specs.declared.Turn.{Turn}
use Rattle.turn_order.specs.declared.Turn.TheVariants.{Go, Wait}
use Rattle.turn_order.specs.Flows.{later_by, contends_at, due_at, late_at, wait_of, reserved_after}

-- one flow more, where it contends: the least virtual time, the least step, and whether a reservation is late
abbrev pub joined : ℕ → Flow → Contenders → Contenders
joined now f all =
    if contends_at now f
    then record { first = min all.first f.virtual_time; step = min all.step f.step; late = all.late || late_at now f }
    else all

abbrev pub gathered : ℕ → List Flow → Contenders → Contenders
gathered now [] all = all
gathered now (f ∷ fs) all = gathered now fs (joined now f all)

-- the flows that contend, and f
abbrev pub among : ℕ → List Flow → Flow → Contenders
among now flows f = gathered now flows (record { first = f.virtual_time; step = f.step; late = false })

-- how far it may be ahead: 8,192 units of the greatest weight that contends, and 8 of its own at least
abbrev pub slack_of : Contenders → Flow → ℕ
slack_of all f = max (8192 * all.step) (8 * f.step)

-- where it was stopped: 4,096 units, and 8 of its own at least
abbrev pub resume_of : Contenders → Flow → ℕ
resume_of all f = max (4096 * all.step) (8 * f.step)

abbrev pub allowance : Contenders → Flow → ℕ
allowance all f = if f.stopped then resume_of all f else slack_of all f

-- how far it may be behind where it comes back: a slack where it was seen within 5 ms
abbrev pub credit_of : ℕ → Contenders → Flow → ℕ
credit_of now all f = if nat_le (now - f.seen) 5000000 then slack_of all f else 0

-- it goes on where its reservation is late; or where no reservation is late, and its own is due or it isn't too far ahead
abbrev pub goes_on : ℕ → Contenders → Flow → Bool
goes_on now all f =
    if late_at now f then true
    else if all.late then false
    else if due_at now f then true
    else nat_le (f.virtual_time - all.first) (allowance all f)

abbrev pub turn_of : ℕ → Contenders → Flow → Turn
turn_of now all f = if goes_on now all f then Go else Wait (wait_of now f)

-- a turn takes its virtual time on; one by reservation no further ahead than the slack
abbrev pub time_after : ℕ → ℕ → Contenders → Flow → ℕ
time_after now cost all f =
    let full = later_by f.virtual_time cost f.step in
    if due_at now f then max f.virtual_time (min full (all.first + slack_of all f)) else full

-- after a turn. One by weight lets it go on, where it was stopped
abbrev pub charged : ℕ → ℕ → Contenders → Flow → Flow
charged now cost all f =
    record f {
      virtual_time = time_after now cost all f;
      reserved_at = reserved_after now cost f;
      stopped = f.stopped && due_at now f;
    }
