use Rattle.std.proofs.Common.{◌∙◌, ◌+◌, ℕ, IsSome, inl, inr, refl, sym, subst, arith}
use Rattle.std.proofs.lemmas.Bool.{cases_eq}
use Rattle.number_sets.specs.Marks.{bitmap_of}
use Rattle.number_sets.proofs.RangeLemmas.{between_less, between_end}
use Rattle.number_sets.proofs.held_zeros.make_bitmaps.Goals as goal

pub loop-number-init : goal.loop-number-init
loop-number-init g c = record { begun = omega arith; upto = omega arith; same = λ k. refl; there = λ q above below. absurd (omega arith); others = λ q outside. refl }

pub loop-number-preserved : goal.loop-number-preserved
loop-number-preserved g c =
    let before = c.loop-number.invariant in
    let after = c.in_ok-make_bitmap.ensures in
    let number : ℕ = c.loop-number.number in
    record {
      begun = omega (arith, before.begun);
      upto = omega (arith, before.upto, c.loop-number-test.true);
      same = λ k. after.same k ∙ before.same k;
      there = λ q above below. elim (cases_eq q number) [
        | inl e ↦ subst (λ (n : ℕ). IsSome (bitmap_of c.make_bitmap.new.bitmaps.entries n)) (sym e) after.there
        | inr apart ↦ subst IsSome (sym (after.others q apart)) (before.there q above (omega arith))
      ];
      others = λ q outside. let less = between_less c.args.first (number + 1) number q before.begun (omega arith) outside in after.others q less.0 ∙ before.others q less.1;
    }

pub returns-in_err-make_bitmap-clause-same : goal.returns-in_err-make_bitmap-clause-same
returns-in_err-make_bitmap-clause-same g c = λ k. c.in_err-make_bitmap.ensures.same k ∙ c.loop-number.invariant.same k

pub returns-in_err-make_bitmap-clause-others : goal.returns-in_err-make_bitmap-clause-others
returns-in_err-make_bitmap-clause-others g c = λ q outside.
    let before = c.loop-number.invariant in
    let less = between_less c.args.first c.args.end c.loop-number.number q before.begun c.loop-number-test.true outside in
    c.in_err-make_bitmap.ensures.others q less.0 ∙ before.others q less.1

pub returns-clause-there : goal.returns-clause-there
returns-clause-there g c = λ q above below. c.loop-number.invariant.there q above (omega (arith, c.loop-number-test.false))

pub returns-clause-others : goal.returns-clause-others
returns-clause-others g c = λ q outside.
    let after = c.loop-number.invariant in
    after.others q (between_end c.args.first c.loop-number.number c.args.end q after.begun after.upto c.loop-number-test.false ∙ outside)
