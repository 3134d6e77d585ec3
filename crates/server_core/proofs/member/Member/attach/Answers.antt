use Rattle.std.proofs.Common.{subst}
use Rattle.std.specs.Vec.{vec_capacity}
use Rattle.std.specs.VecDeque.{deque_capacity}
use Rattle.lone_export.specs.declared.step.Step.TheVariants.{Attach}
use Rattle.lone_export.specs.Lone.{step_answer_of_attach}
use Rattle.export_cell.specs.Journal.{JournalMove}
use Rattle.server_core.specs.Members.{Kept, Standing, standing_of, WentOr, WantsMemory}
use Rattle.server_core.proofs.Members.{keeps_attach, went_or, went_or_kept, wants}
use Rattle.server_core.proofs.member.Member.attach.Goals as goal

pub invariant_of-self : goal.invariant_of-self
invariant_of-self g c =
    let i = c.self.inside in
    let m : Kept = record { whole = i.cell.live; journal = i.cell.journal; room = i.cell.room; share = i.shares; waiting = i.waiting.items; waiting_room = deque_capacity i.waiting; out = i.out.items; out_room = vec_capacity i.out } in
    let new = c.attach.new.self in
    went_or_kept m new.live new.journal new.room Attach (step_answer_of_attach c.attach.result) c.self.invariant c.attach.ensures.step c.attach.ensures.slots (keeps_attach g.row.I-Alloc.Denot i.cell.live.terms i.cell.live.state)

pub returns-clause-step : goal.returns-clause-step
returns-clause-step g c =
    let i = c.self.inside in
    let m : Kept = record { whole = i.cell.live; journal = i.cell.journal; room = i.cell.room; share = i.shares; waiting = i.waiting.items; waiting_room = deque_capacity i.waiting; out = i.out.items; out_room = vec_capacity i.out } in
    let new = c.attach.new.self in
    let one = went_or m new.live new.journal new.room Attach (step_answer_of_attach c.attach.result) c.self.invariant c.attach.ensures.step c.attach.ensures.slots (keeps_attach g.row.I-Alloc.Denot i.cell.live.terms i.cell.live.state) in
    subst (λ (v : Standing). WentOr v (standing_of (record m { whole = new.live; journal = new.journal; room = new.room })) Attach (step_answer_of_attach c.attach.result)) c.self.view_is one

pub returns-clause-memory : goal.returns-clause-memory
returns-clause-memory g c =
    let i = c.self.inside in
    let m : Kept = record { whole = i.cell.live; journal = i.cell.journal; room = i.cell.room; share = i.shares; waiting = i.waiting.items; waiting_room = deque_capacity i.waiting; out = i.out.items; out_room = vec_capacity i.out } in
    subst (λ (v : Standing). WantsMemory v c.attach.result) c.self.view_is (wants m c.attach.result c.attach.ensures.no_memory)

pub returns-clause-journal : goal.returns-clause-journal
returns-clause-journal g c =
    subst (λ (v : Standing). JournalMove {A = g.row.I-Alloc.Denot} v.part.terms Attach (step_answer_of_attach c.attach.result) v.journal c.attach.new.self.journal) c.self.view_is c.attach.ensures.journal
