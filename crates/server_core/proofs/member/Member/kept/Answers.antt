use Rattle.std.specs.Vec.{vec_capacity}
use Rattle.std.specs.VecDeque.{deque_capacity}
use Rattle.std.proofs.Common.{subst}
use Rattle.lone_export.specs.Lone.{IsInBounds}
use Rattle.server_core.specs.Members.{Kept, IsSeated}
use Rattle.server_core.specs.Journals.{ComesOfJournal}
use Rattle.server_core.proofs.Cells.{comes_of_journal}
use Rattle.server_core.proofs.Sound.{is_seated}
use Rattle.server_core.proofs.member.Member.kept.Goals as goal

pub returns-clause-journal : goal.returns-clause-journal
returns-clause-journal g c =
    let i = c.self.inside in
    let m : Kept = record { whole = i.cell.live; journal = i.cell.journal; room = i.cell.room; share = i.shares; waiting = i.waiting.items; waiting_room = deque_capacity i.waiting; out = i.out.items; out_room = vec_capacity i.out } in
    subst ComesOfJournal c.self.view_is (comes_of_journal m c.self.invariant c.laws.ensures.journal)

pub returns-clause-seated : goal.returns-clause-seated
returns-clause-seated g c =
    let i = c.self.inside in
    let m : Kept = record { whole = i.cell.live; journal = i.cell.journal; room = i.cell.room; share = i.shares; waiting = i.waiting.items; waiting_room = deque_capacity i.waiting; out = i.out.items; out_room = vec_capacity i.out } in
    subst IsSeated c.self.view_is (is_seated m c.self.invariant (subst IsInBounds c.live.ensures c.laws-2.ensures))
