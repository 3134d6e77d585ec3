use Rattle.tag_clock.proofs.Unrolled.{given_unrolled}
use Rattle.tag_clock.proofs.clocks.limit_tags_unrolled.Goals as goal

pub returns : goal.returns
returns c = given_unrolled
