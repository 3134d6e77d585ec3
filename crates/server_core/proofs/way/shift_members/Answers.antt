use Rattle.std.proofs.Common.{◌≤◌, length, rules}
use Rattle.std.proofs.lemmas.Int.{to_z-of_z}
use Rattle.index_heap.proofs.InPlace.{map_over_allowed, map_over_step}
use Rattle.server_core.specs.Members.{shifted_standing}
use Rattle.server_core.proofs.Ways.{MayShift, members_allowed, all_mapped}
use Rattle.server_core.proofs.way.shift_members.Goals as goal

pub shift-requires : goal.shift-requires
shift-requires g c =
    let fits = c.ranges.delta in
    rw to_z-of_z (map_over_allowed (MayShift c.args.delta) (shifted_standing c.args.delta) c.args.members.now c.loop-member.members c.loop-member.member-index c.member-item.result c.loop-member-test.true (rw to_z-of_z at c.loop-member.invariant) (members_allowed c.args.delta c.args.members.now c.requires))

pub loop-member-preserved : goal.loop-member-preserved
loop-member-preserved g c =
    let fits = c.ranges.delta in
    rw to_z-of_z (map_over_step (shifted_standing c.args.delta) c.args.members.now c.loop-member.members c.loop-member.member-index c.member-item.result c.shift.new.self c.loop-member-test.true (rw to_z-of_z at c.loop-member.invariant) (rw to_z-of_z at c.shift.ensures))

pub returns : goal.returns
returns g c =
    let fits = c.ranges.delta in
    let n : length c.args.members.now ≤ c.loop-member.member-index = search rules in
    all_mapped (shifted_standing c.args.delta) c.args.members.now c.loop-member.members c.loop-member.member-index n (rw to_z-of_z at c.loop-member.invariant)
