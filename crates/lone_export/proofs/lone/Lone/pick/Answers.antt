use Rattle.lone_export.proofs.Kept.{lone-pick, room_out, pick_does, pick_slots}
use Rattle.lone_export.proofs.lone.Lone.pick.Goals as goal

pub invariant_of-self-2 : goal.invariant_of-self-2
invariant_of-self-2 g c = (lone-pick _ c.in-Some.picked.slot c.in-Some.picked.number _ c.self.invariant c.in-Some.ensures.number c.in-Some.ensures.some.1).0

pub pick-requires : goal.pick-requires
pick-requires g c = room_out _ _ c.self.invariant c.self.view_is c.requires

pub returns-clause-step : goal.returns-clause-step
returns-clause-step g c = pick_does _ c.in-Some.picked.slot _ _ _ c.self.invariant c.self.view_is c.in-Some.ensures.number c.in-Some.ensures.some.1

pub returns-clause-slots : goal.returns-clause-slots
returns-clause-slots g c = pick_slots _ c.in-Some.picked.slot c.in-Some.picked.number _ _ c.self.invariant c.self.view_is c.in-Some.ensures.number c.in-Some.ensures.some.1
