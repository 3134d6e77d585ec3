use Rattle.std.proofs.Common.{arith, ap, subst, sym, length, drop, ◌≡◌, ◌∙◌, ℕ, ℤ, List, Option}
use Rattle.std.proofs.lemmas.Int.{to_z-of_z}
use Rattle.tag_clock.specs.declared.Tags.{Tags}
use Rattle.eligibility.specs.Choice.{all_shifted, AllInRange}
use Rattle.eligibility.specs.Indexed.{IsIndexed}
use Rattle.eligibility.proofs.Split.{indexed_shift, shift_allowed, all_taken}
use Rattle.eligibility.proofs.heaped.HeapedEligibility.shift.Goals as goal

pub shift-requires-clause-in_range : goal.shift-requires-clause-in_range
shift-requires-clause-in_range g c =
    let fits = c.ranges.delta in
    let same : c.self.inside.slots.items ≡ c.args.self.now.0 = ap (λ (p : List (Option Tags) × ℕ). p.0) c.self.view_is in
    let range : AllInRange (all_shifted c.args.delta c.self.inside.slots.items) = subst (λ (ss : List (Option Tags)). AllInRange (all_shifted c.args.delta ss)) (sym same) c.requires.in_range in
    rw to_z-of_z (shift_allowed c.self.inside.asked c.self.inside.slots.items c.self.inside.reserved c.self.inside.throttled c.self.inside.ready c.args.delta c.self.invariant range)

pub invariant_of-self : goal.invariant_of-self
invariant_of-self g c =
    let fits = c.ranges.delta in
    let same : c.self.inside.slots.items ≡ c.args.self.now.0 = ap (λ (p : List (Option Tags) × ℕ). p.0) c.self.view_is in
    let range : AllInRange (all_shifted c.args.delta c.self.inside.slots.items) = subst (λ (ss : List (Option Tags)). AllInRange (all_shifted c.args.delta ss)) (sym same) c.requires.in_range in
    let n : length c.self.inside.slots.items ≡ c.self.inside.slots.len = omega (arith, c.self.inside.slots.ok.0) in
    let is : c.shift_all.new.slots ≡ all_shifted c.args.delta c.self.inside.slots.items = (rw to_z-of_z at c.shift_all.ensures) ∙ ap (all_shifted c.args.delta) c.deref_mut.ensures.value in
    let taken = all_taken c.self.inside.slots.len c.self.inside.slots.items c.shift_all.new.slots (drop (length c.shift_all.new.slots) c.self.inside.slots.items) c.args.delta is n in
    subst (λ (ss : List (Option Tags)). IsIndexed c.self.inside.asked ss c.self.inside.reserved c.self.inside.throttled c.shift.new.self) (sym taken)
    (subst (λ (ps : List (Option ℤ)). IsIndexed c.self.inside.asked (all_shifted c.args.delta c.self.inside.slots.items) c.self.inside.reserved c.self.inside.throttled ps) (sym (rw to_z-of_z at c.shift.ensures))
    (indexed_shift c.self.inside.asked c.self.inside.slots.items c.self.inside.reserved c.self.inside.throttled c.self.inside.ready c.args.delta c.self.invariant range))
