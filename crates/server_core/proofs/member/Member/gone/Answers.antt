use Rattle.std.proofs.Common.{Some, subst}
use Rattle.std.specs.Vec.{vec_capacity}
use Rattle.std.specs.VecDeque.{deque_capacity}
use Rattle.lone_export.specs.declared.step.Step.TheVariants.{Gone}
use Rattle.lone_export.specs.Lone.{step_answer_of_gone}
use Rattle.export_cell.specs.Journal.{JournalMove}
use Rattle.server_core.specs.Members.{Kept, Standing, standing_of, Went}
use Rattle.server_core.proofs.Members.{keeps_gone, went, went_kept}
use Rattle.server_core.proofs.member.Member.gone.Goals as goal

pub invariant_of-self : goal.invariant_of-self
invariant_of-self g c =
    let i = c.self.inside in
    let m : Kept = record { whole = i.cell.live; journal = i.cell.journal; room = i.cell.room; share = i.shares; waiting = i.waiting.items; waiting_room = deque_capacity i.waiting; out = i.out.items; out_room = vec_capacity i.out } in
    let new = c.gone.new.self in
    went_kept m new.live new.journal new.room (Gone c.args.session) (step_answer_of_gone c.gone.result) c.self.invariant c.gone.ensures.step c.gone.ensures.slots (keeps_gone g.row.I-Alloc.Denot i.cell.live.terms i.cell.live.state c.args.session)

pub returns-clause-went : goal.returns-clause-went
returns-clause-went g c =
    let i = c.self.inside in
    let m : Kept = record { whole = i.cell.live; journal = i.cell.journal; room = i.cell.room; share = i.shares; waiting = i.waiting.items; waiting_room = deque_capacity i.waiting; out = i.out.items; out_room = vec_capacity i.out } in
    let new = c.gone.new.self in
    let one = went m new.live new.journal new.room (Gone c.args.session) (step_answer_of_gone c.gone.result) c.self.invariant c.gone.ensures.step c.gone.ensures.slots (keeps_gone g.row.I-Alloc.Denot i.cell.live.terms i.cell.live.state c.args.session) in
    subst (λ (v : Standing). Went v (standing_of (record m { whole = new.live; journal = new.journal; room = new.room })) (Gone c.args.session) (step_answer_of_gone c.gone.result)) c.self.view_is one

pub returns-clause-journal : goal.returns-clause-journal
returns-clause-journal g c =
    subst (λ (v : Standing). JournalMove v.part.terms (Gone c.args.session) (Some (step_answer_of_gone c.gone.result)) v.journal c.gone.new.self.journal) c.self.view_is c.gone.ensures.journal
