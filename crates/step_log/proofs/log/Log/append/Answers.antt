use Rattle.std.proofs.Common.{◌≡◌, ◌-◌, List, [], ◌∷◌, ◌++◌, length, ap, ◌∙◌, arith, deque_capacity, length-append}
use Rattle.step_log.specs.declared.group.Group.{Group}
use Rattle.step_log.specs.declared.rest.Rest.TheVariants as rest
use Rattle.step_log.specs.Steps.{kept_step}
use Rattle.step_log.specs.Log.{StepLog, steps_in}
use Rattle.step_log.proofs.Groups.{steps-append}
use Rattle.step_log.proofs.log.Log.append.Goals as goal

pub returns : goal.returns
returns g c =
    let A = g.row.A.Denot in
    let i = c.self.inside in
    let new = c.push_back_reserved.new.self in
    let one : Group A = record { step = c.args.step; rest = rest.Nothing } in
    let same = c.push_back_reserved.ensures.capacity in
    let longer = ap length c.push_back_reserved.ensures.items ∙ length-append i.groups.items (one ∷ []) in
    let spare : deque_capacity new - length new.items ≡ (deque_capacity i.groups - length i.groups.items) - 1 = omega arith in
    let behind = ap (λ (l : List (Group A)). steps_in l) c.push_back_reserved.ensures.items ∙ steps-append i.groups.items one in
    (λ j. record { rest = i.rest; behind = behind j; spare = spare j })
    ∙ ap (λ (v : StepLog). record { rest = v.rest; behind = v.behind ++ kept_step c.args.step ∷ []; spare = v.spare - 1 }) c.self.view_is
