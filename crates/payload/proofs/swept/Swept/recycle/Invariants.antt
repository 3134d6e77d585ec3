use Rattle.std.proofs.Common.{length}
use Rattle.payload.proofs.swept.Swept.recycle.Given as goal

abbrev pub decreases-loop-page : goal.decreases-loop-page
decreases-loop-page g l = length l.self.0
