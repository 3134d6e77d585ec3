use Rattle.std.proofs.Common.{None}
use Rattle.std.proofs.lemmas.Int.{to_z-of_z}
use Rattle.eligibility.specs.Choice.{slot_shifted, IsSlotInRange}
use Rattle.index_heap.proofs.InPlace.{map_over_allowed, map_over_step}
use Rattle.eligibility.proofs.slots.shift_all.Goals as goal

pub shift_slot-requires : goal.shift_slot-requires
shift_slot-requires c =
    let fits = c.ranges.delta in
    rw to_z-of_z (map_over_allowed IsSlotInRange (slot_shifted c.args.delta) c.args.slots.now c.loop-slot.slots c.loop-slot.slot-index None c.loop-slot-test.true (rw to_z-of_z at c.loop-slot.invariant) c.requires)

pub loop-slot-preserved : goal.loop-slot-preserved
loop-slot-preserved c =
    let fits = c.ranges.delta in
    rw to_z-of_z (map_over_step (slot_shifted c.args.delta) c.args.slots.now c.loop-slot.slots c.loop-slot.slot-index None c.shift_slot.new.slot c.loop-slot-test.true (rw to_z-of_z at c.loop-slot.invariant) (rw to_z-of_z at c.shift_slot.ensures))
