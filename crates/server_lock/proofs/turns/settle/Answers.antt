use Rattle.std.proofs.Common.{arith}
use Rattle.server_lock.specs.declared.turns.Pass.{Pass}
use Rattle.server_lock.proofs.Shares.{none_above}
use Rattle.server_lock.proofs.turns.settle.Goals as goal

pub returns-clause-above : goal.returns-clause-above
returns-clause-above g c =
    let total = c.booked.invariant.0 in
    let none = c.booked.invariant.1 in
    let nothing = c.audit.ensures.backed none in
    let parts_before = c.audit.ensures.parts in
    let amount_before = c.audit.ensures.amount in
    let total_before = c.audit.ensures.total in
    let parts = c.gather.ensures.parts in
    let amount = c.gather.ensures.amount in
    let asked = c.requires in
    let whole = c.audit-2.ensures.whole (omega (arith, parts, parts_before, none, asked)) in
    let steps = c.steps.ensures in
    none_above (λ (p : Pass g.row.L.Denot). p.share) c.args.passes.items c.steps.result (omega (arith, nothing, amount_before, total_before, amount, whole, steps, total))
