use Rattle.std.proofs.Common.{arith, ◌≡◌, ◌<◌, ◌∙◌, sym, subst, ℤ, List, Option, Some, true}
use Rattle.std.specs.Prelude.{int_le, FitsSigned}
use mir.Syntax.{w128}
use Rattle.std.proofs.lemmas.Int.{to_z-of_z}
use Rattle.index_heap.specs.Keys.{least_key}
use Rattle.index_heap.proofs.Kept.{range_fits}
use Rattle.eligibility.specs.Indexed.{IsSplit, held}
use Rattle.eligibility.proofs.Due.{least_there, none_due, none_left, not_above, at_most}
use Rattle.eligibility.proofs.Split.{held_falls, split_moved, split_l_range}
use Rattle.eligibility.proofs.heaped.release.Goals as goal

pub returns-then-limit-now-clause-late : goal.returns-then-limit-now-clause-late
returns-then-limit-now-clause-late g c =
    let nf = c.ranges.now in
    let e : least_key c.loop-export.throttled ≡ Some (c.in-Some.export, c.in-Some.limit) = sym c.least.ensures ∙ c.in-Some.is in
    let there = least_there c.loop-export.throttled c.in-Some.export c.in-Some.limit e in
    let lf : FitsSigned w128 c.in-Some.limit = range_fits c.in-Some.limit (split_l_range c.args.now c.args.slots.now c.loop-export.throttled c.loop-export.ready c.in-Some.export c.in-Some.limit (rw to_z-of_z at c.loop-export.invariant) c.requires.in_range there.0 there.1) in
    none_due c.args.now c.in-Some.limit c.in-Some.export c.loop-export.throttled e (not_above c.args.now c.in-Some.limit (rw (to_z-of_z w128 c.args.now nf, to_z-of_z w128 c.in-Some.limit lf) at c.if-limit-now.true))

pub put-requires-clause-id : goal.put-requires-clause-id
put-requires-clause-id g c = (least_there c.loop-export.throttled c.in-Some.export c.in-Some.limit (sym c.least.ensures ∙ c.in-Some.is)).0

pub bounds-slots-export : goal.bounds-slots-export
bounds-slots-export g c =
    let there = least_there c.loop-export.throttled c.in-Some.export c.in-Some.limit (sym c.least.ensures ∙ c.in-Some.is) in
    omega (arith, there.0, c.loop-export.invariant.throttled_length)

pub put-requires-in-Some-clause-id : goal.put-requires-in-Some-clause-id
put-requires-in-Some-clause-id g c =
    let there = least_there c.loop-export.throttled c.in-Some.export c.in-Some.limit (sym c.least.ensures ∙ c.in-Some.is) in
    omega (arith, there.0, c.loop-export.invariant.throttled_length, c.loop-export.invariant.ready_length)

pub loop-export-smaller : goal.loop-export-smaller
loop-export-smaller g c =
    let there = least_there c.loop-export.throttled c.in-Some.export c.in-Some.limit (sym c.least.ensures ∙ c.in-Some.is) in
    subst (λ (ks : List (Option ℤ)). held ks < held c.loop-export.throttled) (sym c.put.ensures) (held_falls c.loop-export.throttled c.in-Some.export c.in-Some.limit there.1)

pub loop-export-preserved : goal.loop-export-preserved
loop-export-preserved g c =
    let nf = c.ranges.now in
    let e : least_key c.loop-export.throttled ≡ Some (c.in-Some.export, c.in-Some.limit) = sym c.least.ensures ∙ c.in-Some.is in
    let there = least_there c.loop-export.throttled c.in-Some.export c.in-Some.limit e in
    let split : IsSplit c.args.now c.args.slots.now c.loop-export.throttled c.loop-export.ready = rw to_z-of_z at c.loop-export.invariant in
    let lf : FitsSigned w128 c.in-Some.limit = range_fits c.in-Some.limit (split_l_range c.args.now c.args.slots.now c.loop-export.throttled c.loop-export.ready c.in-Some.export c.in-Some.limit split c.requires.in_range there.0 there.1) in
    let le : int_le c.in-Some.limit c.args.now ≡ true = at_most c.args.now c.in-Some.limit (rw (to_z-of_z w128 c.args.now nf, to_z-of_z w128 c.in-Some.limit lf) at c.if-limit-now.false) in
    rw (to_z-of_z w128 c.args.now nf, c.put.ensures, c.put-in-Some.ensures, c.p_of.ensures)
    (split_moved c.args.now c.args.slots.now c.loop-export.throttled c.loop-export.ready c.in-Some.export c.in-Some.limit there.0 there.1 le split)

pub returns-clause-late : goal.returns-clause-late
returns-clause-late g c = none_left c.args.now c.loop-export.throttled (sym c.least.ensures ∙ c.in_default.is)
