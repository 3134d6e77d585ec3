use Rattle.std.proofs.Common.{◌<◌, ◌≤◌, length, set, sym, subst, rules}
use Rattle.lone_export.specs.declared.step.Step.TheVariants as own
use Rattle.lone_export.specs.Lone.{step_answer_of_attach}
use Rattle.server_table.specs.declared.event.Event.TheVariants.{Attach}
use Rattle.server_core.specs.Served.{served_of, answer_of_attach}
use Rattle.server_core.specs.Made.{Makes}
use Rattle.server_core.proofs.Served.{kept_or, seats_or, stepped_attach}
use Rattle.server_core.proofs.Journals.{moves_attach}
use Rattle.server_core.proofs.Made.{attaches, makes_of, makes_absent}
use Rattle.server_core.proofs.server.Server.attach.Goals as goal

pub returns-then-export-len-clause-makes : goal.returns-then-export-len-clause-makes
returns-then-export-len-clause-makes g c =
    let i = c.self.inside in
    let le : length i.members.items ≤ c.args.export = search rules in
    makes_absent i.members.items i.latest i.inflight (attaches c.args.export) c.self.view_is le

pub invariant_of-self : goal.invariant_of-self
invariant_of-self g c =
    let e = c.args.export in
    let lt : e < length c.self.inside.members.items = search rules in
    kept_or e c.attach.new.self own.Attach (step_answer_of_attach c.attach.result) c.self.invariant lt c.index_mut-member.ensures.value c.attach.ensures.step

pub returns-clause-makes : goal.returns-clause-makes
returns-clause-makes g c =
    let i = c.self.inside in
    let A = g.row.I-Alloc.Denot in
    let ms = i.members.items in
    let e = c.args.export in
    let m = c.index_mut-member.result.now in
    let m' = c.attach.new.self in
    let r = c.attach.result in
    let lt : e < length ms = search rules in
    let at = c.index_mut-member.ensures.value in
    subst (λ x. Makes {A = A} c.args.self.now (Attach e) (served_of (set ms e m') i.latest i.inflight) (answer_of_attach x)) (sym c.attached.ensures)
    (makes_of ms i.latest i.inflight (attaches e) c.self.view_is (stepped_attach ms i.latest i.inflight e m m' r lt at c.attach.ensures.step c.attach.ensures.memory)
    (moves_attach ms i.latest i.inflight e m m' r lt at c.attach.ensures.journal) (seats_or ms e m m' own.Attach (step_answer_of_attach r) at c.attach.ensures.step))
