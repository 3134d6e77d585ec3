use Rattle.std.proofs.Common.{None}
use Rattle.std.proofs.lemmas.Int.{to_z-of_z}
use Rattle.nbd_base.specs.Range.{IsOptionInRange}
use Rattle.index_heap.specs.Keys.{key_less}
use Rattle.index_heap.proofs.InPlace.{map_over_allowed, map_over_step}
use Rattle.index_heap.proofs.fold.fold.Goals as goal

pub unfolded-requires : goal.unfolded-requires
unfolded-requires c =
    let fits = c.ranges.offset in
    rw to_z-of_z (map_over_allowed IsOptionInRange (key_less c.args.offset) c.args.keys.now c.loop-key.keys c.loop-key.key-index None c.loop-key-test.true (rw to_z-of_z at c.loop-key.invariant) c.requires)

pub loop-key-preserved : goal.loop-key-preserved
loop-key-preserved c =
    let fits = c.ranges.offset in
    rw to_z-of_z (map_over_step (key_less c.args.offset) c.args.keys.now c.loop-key.keys c.loop-key.key-index None c.unfolded.result c.loop-key-test.true (rw to_z-of_z at c.loop-key.invariant) (rw to_z-of_z at c.unfolded.ensures))
