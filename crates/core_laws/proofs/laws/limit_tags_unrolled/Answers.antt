use Rattle.lone_export.proofs.Tags.{unrolled_tags}
use Rattle.core_laws.proofs.Runs.{told_alone}
use Rattle.core_laws.specs.Runs.{own_steps}
use Rattle.core_laws.proofs.laws.limit_tags_unrolled.Goals as goal

pub returns-clause-alone : goal.returns-clause-alone
returns-clause-alone g c = unrolled_tags

pub returns-clause-run : goal.returns-clause-run
returns-clause-run g c = λ run e terms there. rw (told_alone run e terms there) (unrolled_tags terms (own_steps e run))
