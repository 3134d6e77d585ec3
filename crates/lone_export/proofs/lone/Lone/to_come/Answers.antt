use Rattle.std.proofs.Common.{arith}
use Rattle.lone_export.proofs.Kept.{come_is, come_few}
use Rattle.lone_export.proofs.lone.Lone.to_come.Goals as goal

pub overflow_mul-result-2 : goal.overflow_mul-result-2
overflow_mul-result-2 g c =
    let few = come_few _ c.self.invariant in
    let a = c.waiting-waiting.ensures in
    let b = c.in_service-out.ensures in
    omega arith

pub overflow_add-result : goal.overflow_add-result
overflow_add-result g c =
    let few = come_few _ c.self.invariant in
    let a = c.waiting-waiting.ensures in
    let b = c.in_service-out.ensures in
    omega arith

pub overflow_add-result-2 : goal.overflow_add-result-2
overflow_add-result-2 g c =
    let few = come_few _ c.self.invariant in
    let a = c.waiting-waiting.ensures in
    let b = c.in_service-out.ensures in
    let d = c.steps_to_come.ensures in
    omega arith

pub returns : goal.returns
returns g c =
    let all = come_is _ _ c.self.invariant c.self.view_is in
    let a = c.waiting-waiting.ensures in
    let b = c.in_service-out.ensures in
    let d = c.steps_to_come.ensures in
    omega arith
