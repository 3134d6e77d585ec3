use Rattle.tag_clock.specs.Tags.{AreInRange}
use Rattle.server_core.specs.Tagging.{tags_credited, no_tags}
use Rattle.index_heap.proofs.InPlace.{map_over_allowed, map_over_step}
use Rattle.server_core.proofs.tagging.credit_each.Goals as goal

pub credit-requires : goal.credit-requires
credit-requires c = map_over_allowed AreInRange (tags_credited c.args.interval) c.args.tags.now c.loop-one.tags c.loop-one.one-index no_tags c.loop-one-test.true c.loop-one.invariant c.requires

pub loop-one-preserved : goal.loop-one-preserved
loop-one-preserved c = map_over_step (tags_credited c.args.interval) c.args.tags.now c.loop-one.tags c.loop-one.one-index no_tags c.credit.new.tags c.loop-one-test.true c.loop-one.invariant c.credit.ensures
