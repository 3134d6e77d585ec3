use Rattle.std.proofs.Common.{◌/◌, false, ℕ, refl, arith}
use Rattle.number_sets.specs.Marks.{is_marked}
use Rattle.number_sets.proofs.RangeLemmas.{between_before, between_behind, put_begun, put_more, put_done}
use Rattle.number_sets.proofs.MarksLemmas.{other_bitmap, absent_marked}
use Rattle.number_sets.proofs.held_zeros.HeldZeros.remove.Goals as goal

pub loop-bitmap-init : goal.loop-bitmap-init
loop-bitmap-init g c = record {
  begun = omega arith;
  within = omega arith;
  put = put_begun false (λ k. k / 16384) c.args.first c.args.end (is_marked c.args.self.now) (c.args.first / 16384) (λ k below. between_before c.args.first c.args.end k (omega arith));
}

pub loop-bitmap-preserved : goal.loop-bitmap-preserved
loop-bitmap-preserved g c =
    let before = c.loop-bitmap.invariant in
    let after = c.remove_in.ensures in
    let at : ℕ = c.in-Some.bitmap in
    record {
      begun = omega (arith, before.begun, c.in-Some.ensures.begins);
      within = omega (arith, c.in-Some.ensures.ends);
      put = put_more false (λ k. k / 16384) c.args.first c.args.end (is_marked c.args.self.now) (is_marked c.loop-bitmap.self) (is_marked c.remove_in.new.self) c.loop-bitmap.next at
          before.put c.in-Some.ensures.begins (λ k above below. absent_marked c.loop-bitmap.self k (k / 16384) refl (c.in-Some.ensures.first (k / 16384) above below)) after.here (other_bitmap c.loop-bitmap.self c.remove_in.new.self at after.others);
    }

pub returns : goal.returns
returns g c =
    put_done false (λ k. k / 16384) c.args.first c.args.end (is_marked c.args.self.now) (is_marked c.loop-bitmap.self) c.loop-bitmap.next c.div_ceil-last.result
    c.loop-bitmap.invariant.put (λ k above below. absent_marked c.loop-bitmap.self k (k / 16384) refl (c.in_default.ensures.none refl (k / 16384) above below)) (λ k above. between_behind c.args.first c.args.end k (omega (arith, c.div_ceil-last.ensures)))
