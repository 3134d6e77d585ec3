use Rattle.std.proofs.lemmas.Int.{to_z-of_z}
use Rattle.tag_clock.specs.Tags.{AreInRange, shifted}
use Rattle.server_core.specs.Tagging.{no_tags}
use Rattle.index_heap.proofs.InPlace.{map_over_allowed, map_over_step}
use Rattle.server_core.proofs.tagging.shift_each.Goals as goal

pub shift-requires : goal.shift-requires
shift-requires c =
    let fits = c.ranges.delta in
    rw to_z-of_z (map_over_allowed AreInRange (shifted c.args.delta) c.args.tags.now c.loop-one.tags c.loop-one.one-index no_tags c.loop-one-test.true (rw to_z-of_z at c.loop-one.invariant) c.requires)

pub loop-one-preserved : goal.loop-one-preserved
loop-one-preserved c =
    let fits = c.ranges.delta in
    rw to_z-of_z (map_over_step (shifted c.args.delta) c.args.tags.now c.loop-one.tags c.loop-one.one-index no_tags c.shift.new.tags c.loop-one-test.true (rw to_z-of_z at c.loop-one.invariant) (rw to_z-of_z at c.shift.ensures))
