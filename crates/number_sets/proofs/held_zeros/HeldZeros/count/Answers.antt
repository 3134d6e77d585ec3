use Rattle.std.proofs.Common.{◌∙◌, ◌+◌, ◌*◌, refl, sym, arith}
use Rattle.number_sets.specs.Marks.{is_marked}
use Rattle.number_sets.proofs.CountLemmas.{count-zero, count_le, count_more, count-upto}
use Rattle.number_sets.proofs.MarksLemmas.{none_between}
use Rattle.number_sets.proofs.held_zeros.HeldZeros.count.Goals as goal

pub overflow_add-count : goal.overflow_add-count
overflow_add-count g c =
    omega (arith, c.loop-bitmap.invariant.count, count_le (is_marked c.args.self.now) 0 (16384 * c.loop-bitmap.from), c.count_in-count.ensures.few, c.in-Some.ensures.ends, c.in-Some.ensures.begins, c.requires)

pub loop-bitmap-init : goal.loop-bitmap-init
loop-bitmap-init g c = record { within = omega arith; count = sym (count-zero (is_marked c.args.self.now) 0) }

pub loop-bitmap-preserved : goal.loop-bitmap-preserved
loop-bitmap-preserved g c =
    let before = c.loop-bitmap.invariant in
    let self = c.args.self.now in
    record {
      within = omega (arith, c.in-Some.ensures.ends);
      count = count_more (is_marked self) (16384 * c.loop-bitmap.from) (16384 * c.in-Some.bitmap) (16384 * (c.in-Some.bitmap + 1)) 16384 c.loop-bitmap.count c.count_in-count.result before.count (omega (arith, c.in-Some.ensures.begins))
          (none_between self c.loop-bitmap.from c.in-Some.bitmap c.in-Some.ensures.first) c.count_in-count.ensures.count (omega arith);
    }

pub returns : goal.returns
returns g c =
    let before = c.loop-bitmap.invariant in
    before.count ∙ count-upto (is_marked c.args.self.now) (16384 * c.loop-bitmap.from) (16384 * c.args.bitmaps) (omega (arith, before.within)) (none_between c.args.self.now c.loop-bitmap.from c.args.bitmaps (c.in_default.ensures.none refl))
