use Rattle.std.proofs.Common.{◌≡◌, ◌+◌, ap, ◌∙◌, arith}
use Rattle.lone_export.specs.Alone.{alone}
use Rattle.step_log.specs.Steps.{kept_log}
use Rattle.export_cell.specs.Based.{Based}
use Rattle.export_cell.proofs.Kept.{kept_length}
use Rattle.export_cell.proofs.Queues.{queue-counts}
use Rattle.export_cell.proofs.base.Base.steps.Goals as goal

pub returns : goal.returns
returns g c =
    let i = c.self.inside in
    let queue = kept_log i.queue.items in
    let counts = queue-counts i.replica.terms i.replica.inflight i.replica.state queue c.self.invariant.each in
    let made = c.steps.ensures.count in
    let queued = c.len.ensures in
    let kept = kept_length i.queue.items in
    let known = i.queue.ok.0 in
    let all : c.steps.result + c.len.result ≡ (alone i.replica.terms i.replica.state queue).count = omega arith in
    all ∙ ap (λ (b : Based). b.state.count) c.self.view_is
