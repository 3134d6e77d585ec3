use Rattle.std.proofs.Common.{Some, sym, ◌∙◌, ap, subst}
use Rattle.std.specs.Vec.{vec_capacity}
use Rattle.std.specs.VecDeque.{deque_capacity}
use Rattle.lone_export.specs.declared.step.Step.TheVariants.{Perform}
use Rattle.lone_export.specs.declared.step.StepAnswer.TheVariants.{Performed}
use Rattle.export_cell.specs.Journal.{Cell, JournalMove}
use Rattle.server_core.specs.Members.{Kept, Standing, standing_of, slot_in, IsMember, Performs}
use Rattle.server_core.proofs.Done.{slot_is, performs, performs_kept}
use Rattle.server_core.proofs.member.Member.perform.Goals as goal

pub returns-in_default-clause-none : goal.returns-in_default-clause-none
returns-in_default-clause-none g c =
    let i = c.self.inside in
    let m : Kept = record { whole = i.cell.live; journal = i.cell.journal; room = i.cell.room; share = i.shares; waiting = i.waiting.items; waiting_room = deque_capacity i.waiting; out = i.out.items; out_room = vec_capacity i.out } in
    let there = slot_is c.args.number i.cell.live.state.out i.cell.live.slots ∙ ap (λ (v : Standing). slot_in v.seats c.args.number) c.self.view_is in
    ((λ h. c.in_default.ensures.none.0 (there ∙ h)), ap (λ (cell : Cell). standing_of (record m { whole = cell.live; journal = cell.journal; room = cell.room })) c.in_default.ensures.none.1 ∙ c.self.view_is)

pub invariant_of-self-2 : goal.invariant_of-self-2
invariant_of-self-2 g c =
    let i = c.self.inside in
    let m : Kept = record { whole = i.cell.live; journal = i.cell.journal; room = i.cell.room; share = i.shares; waiting = i.waiting.items; waiting_room = deque_capacity i.waiting; out = i.out.items; out_room = vec_capacity i.out } in
    let new = c.perform.new.self in
    let one = performs_kept g.row.I-Alloc.Denot m new.live new.journal new.room c.args.number c.in-Some.memory c.forget.new.out.items c.self.invariant c.in-Some.ensures.some.1 c.in-Some.ensures.slots c.forget.ensures.out in
    subst (λ n. IsMember (record m { whole = new.live; journal = new.journal; room = new.room; out = c.forget.new.out.items; out_room = n })) (sym c.forget.ensures.room) one

pub returns-clause-some : goal.returns-clause-some
returns-clause-some g c =
    let i = c.self.inside in
    let m : Kept = record { whole = i.cell.live; journal = i.cell.journal; room = i.cell.room; share = i.shares; waiting = i.waiting.items; waiting_room = deque_capacity i.waiting; out = i.out.items; out_room = vec_capacity i.out } in
    let new = c.perform.new.self in
    let after : Standing = standing_of (record m { whole = new.live; journal = new.journal; room = new.room; out = c.forget.new.out.items }) in
    let there = slot_is c.args.number i.cell.live.state.out i.cell.live.slots ∙ ap (λ (v : Standing). slot_in v.seats c.args.number) c.self.view_is in
    let one = performs g.row.I-Alloc.Denot m new.live new.journal new.room c.args.number c.in-Some.memory c.forget.new.out.items c.self.invariant c.in-Some.ensures.some.1 c.in-Some.ensures.slots c.forget.ensures.out in
    (sym there ∙ c.in-Some.ensures.some.0, subst (λ (v : Standing). Performs g.row.I-Alloc.Denot v after c.args.number c.in-Some.memory) c.self.view_is one)

pub returns-clause-journal : goal.returns-clause-journal
returns-clause-journal g c =
    subst (λ (v : Standing). JournalMove {A = g.row.I-Alloc.Denot} v.part.terms (Perform c.args.number c.in-Some.memory) (Some (Performed c.in-Some.memory)) v.journal c.perform.new.self.journal) c.self.view_is c.in-Some.ensures.journal
