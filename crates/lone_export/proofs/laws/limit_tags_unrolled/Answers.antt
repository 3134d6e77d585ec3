use Rattle.lone_export.proofs.Tags.{unrolled_tags}
use Rattle.lone_export.proofs.laws.limit_tags_unrolled.Goals as goal

pub returns : goal.returns
returns g c = unrolled_tags
