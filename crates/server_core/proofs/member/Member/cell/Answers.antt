use Rattle.std.proofs.Common.{◌∙◌, sym, ap}
use Rattle.std.specs.Vec.{vec_capacity}
use Rattle.std.specs.VecDeque.{deque_capacity}
use Rattle.server_table.specs.Parts.{alone_of}
use Rattle.server_core.specs.Members.{Kept, Standing}
use Rattle.server_core.proofs.Members.{alone_back}
use Rattle.server_core.proofs.member.Member.cell.Goals as goal

pub returns-clause-live : goal.returns-clause-live
returns-clause-live g c =
    let i = c.self.inside in
    let m : Kept = record { whole = i.cell.live; journal = i.cell.journal; room = i.cell.room; share = i.shares; waiting = i.waiting.items; waiting_room = deque_capacity i.waiting; out = i.out.items; out_room = vec_capacity i.out } in
    sym (alone_back m c.self.invariant) ∙ ap (λ (v : Standing). alone_of v.part) c.self.view_is
