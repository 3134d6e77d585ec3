use Rattle.std.proofs.Common.{arith, ap, length, ◌≡◌, ◌<◌, ℕ, List, Option}
use Rattle.tag_clock.specs.declared.Tags.{Tags}
use Rattle.eligibility.proofs.Split.{indexed_set}
use Rattle.eligibility.proofs.heaped.Heaped.place.Goals as goal

pub invariant_of-self : goal.invariant_of-self
invariant_of-self g c =
    let long : length c.self.inside.slots.items ≡ length c.args.self.now.0 = ap (λ (p : List (Option Tags) × ℕ). length p.0) c.self.view_is in
    let inside : c.args.export < length c.self.inside.slots.items = omega (arith, long, c.requires.export) in
    rw (c.put.ensures, c.put-2.ensures, c.put-3.ensures, c.r_of.ensures, c.l_of.ensures)
    (indexed_set c.self.inside.asked c.self.inside.slots.items c.self.inside.reserved c.self.inside.throttled c.self.inside.ready c.args.export c.args.slot c.self.invariant inside c.requires.in_range)
