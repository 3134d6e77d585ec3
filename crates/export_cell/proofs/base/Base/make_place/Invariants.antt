use Rattle.std.proofs.Common.{◌≡◌, length}
use Rattle.export_cell.specs.Based.{whole_of}
use Rattle.export_cell.proofs.base.Base.make_place.Given as goal

abbrev pub invariant-loop-self : goal.invariant-loop-self
invariant-loop-self g l = whole_of l.self ≡ whole_of l.fn.self

abbrev pub decreases-loop-self : goal.decreases-loop-self
decreases-loop-self g l = length l.self.queue
