use Rattle.std.proofs.Common.{◌∙◌, ap, find}
use Rattle.std.specs.Prelude.{◌==◌, is_some}
use Rattle.std.specs.Vec.{vec_capacity}
use Rattle.std.specs.VecDeque.{deque_capacity}
use Rattle.lone_export.specs.Lone.{Whole, slot_at}
use Rattle.server_table.specs.Parts.{Entry}
use Rattle.server_core.specs.Members.{Kept, Standing, slot_in}
use Rattle.server_core.proofs.Done.{slot_is, member_out}
use Rattle.server_core.proofs.member.Member.slot_of.Goals as goal

pub returns-clause-slot : goal.returns-clause-slot
returns-clause-slot g c =
    let i = c.self.inside in
    c.slot_of.ensures ∙ ap (λ (w : Whole). slot_at w c.args.number) c.live.ensures ∙ slot_is c.args.number i.cell.live.state.out i.cell.live.slots ∙ ap (λ (v : Standing). slot_in v.seats c.args.number) c.self.view_is

pub returns-clause-out : goal.returns-clause-out
returns-clause-out g c =
    let i = c.self.inside in
    let m : Kept = record { whole = i.cell.live; journal = i.cell.journal; room = i.cell.room; share = i.shares; waiting = i.waiting.items; waiting_room = deque_capacity i.waiting; out = i.out.items; out_room = vec_capacity i.out } in
    ap is_some (c.slot_of.ensures ∙ ap (λ (w : Whole). slot_at w c.args.number) c.live.ensures) ∙ member_out m c.args.number c.self.invariant ∙ ap (λ (v : Standing). is_some (find (λ (entry : Entry). entry.number == c.args.number) v.part.out)) c.self.view_is
