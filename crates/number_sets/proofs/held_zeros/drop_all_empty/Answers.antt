use Rattle.std.proofs.Common.{◌≡◌, ◌∙◌, ◌+◌, true, ℕ, List, Option, IfSome, inl, inr, refl, sym, subst, arith}
use Rattle.std.proofs.lemmas.Bool.{cases_eq}
use Rattle.number_sets.specs.Bits.{any_set}
use Rattle.number_sets.specs.Marks.{bitmap_of}
use Rattle.number_sets.proofs.RangeLemmas.{between_less, between_end}
use Rattle.number_sets.proofs.held_zeros.drop_all_empty.Goals as goal

pub loop-number-init : goal.loop-number-init
loop-number-init g c = record { begun = omega arith; upto = omega arith; same = λ k. refl; used = λ q above below. absurd (omega arith); others = λ q outside. refl }

pub loop-number-preserved : goal.loop-number-preserved
loop-number-preserved g c =
    let before = c.loop-number.invariant in
    let after = c.drop_empty.ensures in
    let number : ℕ = c.loop-number.number in
    record {
      begun = omega (arith, before.begun);
      upto = omega (arith, before.upto, c.loop-number-test.true);
      same = λ k. after.same k ∙ before.same k;
      used = λ q above below. elim (cases_eq q number) [
        | inl e ↦ subst (λ (n : ℕ). IfSome (bitmap_of c.drop_empty.new.bitmaps.entries n) (λ words. any_set words ≡ true)) (sym e) after.used
        | inr apart ↦ subst (λ (w : Option (List ℕ)). IfSome w (λ words. any_set words ≡ true)) (sym (after.others q apart)) (before.used q above (omega arith))
      ];
      others = λ q outside. let less = between_less c.args.first (number + 1) number q before.begun (omega arith) outside in after.others q less.0 ∙ before.others q less.1;
    }

pub returns-clause-same : goal.returns-clause-same
returns-clause-same g c = c.loop-number.invariant.same

pub returns-clause-used : goal.returns-clause-used
returns-clause-used g c = λ q above below. c.loop-number.invariant.used q above (omega (arith, c.loop-number-test.false))

pub returns-clause-others : goal.returns-clause-others
returns-clause-others g c = λ q outside.
    let after = c.loop-number.invariant in
    after.others q (between_end c.args.first c.loop-number.number c.args.end q after.begun after.upto c.loop-number-test.false ∙ outside)
