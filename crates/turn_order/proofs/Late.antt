-- A late reservation goes first.
use Rattle.std.proofs.Common.{◌≡◌, ℕ, Option, ap, ◌∙◌}
use Rattle.nbd_base.specs.Words.{when_some}
use Rattle.turn_order.specs.declared.flow.Flow.{Flow}
use Rattle.turn_order.specs.declared.Turn.TheVariants.{Go}
use Rattle.turn_order.specs.Contenders.{among}
use Rattle.turn_order.specs.Orders.{Order, placed, back, answered, answer}
use Rattle.turn_order.specs.Calls.{is_go}
use Rattle.turn_order.specs.Laws.{IsFlow, IsLateServed, IsLateWaitedFor}
use Rattle.turn_order.proofs.Puts.{get_other}
use Rattle.turn_order.proofs.Gathered.{own, late_of}
use Rattle.turn_order.proofs.Turns.{late_goes, late_waits, turn_goes, turn_told}

pub answer_is : (e now : ℕ) (o : Order) (f : Flow) → IsFlow e f o → answer e now o ≡ answered now (back now o f) (placed e (back now o f) o)
answer_is e now o f h = ap (λ (s : Option Flow). when_some s (λ (k : Flow). answered now (back now o k) (placed e (back now o k) o)) Go) h

pub late_served : IsLateServed
late_served e now f o h l =
    let all = among now (placed e (back now o f) o).flows (back now o f) in
    answer_is e now o f h ∙ turn_goes now all (back now o f) (late_goes now all (back now o f) l)

pub late_waited_for : IsLateWaitedFor
late_waited_for e l now f g o ne here there t late nay =
    let all = among now (placed e (back now o f) o).flows (back now o f) in
    ap is_go (answer_is e now o f here) ∙ (turn_told now all (back now o f)
    ∙ late_waits now all (back now o f) nay (late_of now (placed e (back now o f) o).flows (own (back now o f)) l g (get_other o.flows e l (back now o f) ne ∙ there) t late))
