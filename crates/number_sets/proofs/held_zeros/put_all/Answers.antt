use Rattle.std.proofs.Common.{◌∙◌, ◌/◌, true, ℕ, IsSome, inl, inr, refl, sym, subst, arith}
use Rattle.std.specs.Int.{div_ceil}
use Rattle.std.proofs.lemmas.Bool.{cases_eq}
use Rattle.number_sets.specs.Marks.{bitmap_of, is_marked}
use Rattle.number_sets.proofs.RangeLemmas.{between_less, between_before, between_behind, put_begun, put_more, put_done}
use Rattle.number_sets.proofs.MarksLemmas.{other_bitmap}
use Rattle.number_sets.proofs.held_zeros.put_all.Goals as goal

pub loop-bitmap-init : goal.loop-bitmap-init
loop-bitmap-init g c = record {
  begun = omega arith;
  put = put_begun true (λ k. k / 16384) c.args.first c.args.end (is_marked c.args.bitmaps.now.entries) (c.args.first / 16384) (λ k below. between_before c.args.first c.args.end k (omega arith));
  there = c.requires;
  others = λ q outside. refl;
}

pub loop-bitmap-preserved : goal.loop-bitmap-preserved
loop-bitmap-preserved g c =
    let before = c.loop-bitmap.invariant in
    let after = c.put_in.ensures in
    let at : ℕ = c.loop-bitmap.bitmap in
    record {
      begun = omega (arith, before.begun);
      put = put_more true (λ k. k / 16384) c.args.first c.args.end (is_marked c.args.bitmaps.now.entries) (is_marked c.loop-bitmap.bitmaps.entries) (is_marked c.put_in.new.bitmaps.entries) at at
          before.put (omega arith) (λ k above below. absurd (omega arith)) after.here (other_bitmap c.loop-bitmap.bitmaps.entries c.put_in.new.bitmaps.entries at after.others);
      there = λ q above below. elim (cases_eq q at) [
        | inl e ↦ subst (λ (n : ℕ). IsSome (bitmap_of c.put_in.new.bitmaps.entries n)) (sym e) after.there
        | inr apart ↦ subst IsSome (sym (after.others q apart)) (before.there q above below)
      ];
      others = λ q outside. after.others q (between_less (c.args.first / 16384) (div_ceil c.args.end 16384) at q before.begun (omega (arith, c.loop-bitmap-test.true, c.div_ceil-bitmap-end.ensures)) outside).0 ∙ before.others q outside;
    }

pub returns-clause-put : goal.returns-clause-put
returns-clause-put g c =
    let at : ℕ = c.loop-bitmap.bitmap in
    put_done true (λ k. k / 16384) c.args.first c.args.end (is_marked c.args.bitmaps.now.entries) (is_marked c.loop-bitmap.bitmaps.entries) at at
    c.loop-bitmap.invariant.put (λ k above below. absurd (omega arith)) (λ k above. between_behind c.args.first c.args.end k (omega (arith, c.loop-bitmap-test.false)))
