use Rattle.std.proofs.Common.{◌∙◌, ◌/◌, ◌||◌, inl, inr, nat_eq, Bool, ℕ, refl, ap, arith}
use Rattle.std.proofs.lemmas.Bool.{cases_eq}
use Rattle.export_store.specs.Pages.{is_stored, is_held}
use Rattle.export_store.proofs.ImageLemmas.{held_of_stored}
use Rattle.export_store.proofs.RangeLemmas.{hold_none, hold_step, in_range}
use Rattle.export_store.proofs.paged.Paged.store_all.Goals as goal

pub loop-number-init : goal.loop-number-init
loop-number-init g c = record {
  size = refl;
  bytes = refl;
  held = λ k. hold_none (is_held c.args.self.now k) (c.args.offset / 4096) c.first_absent-number.result k (λ above below. held_of_stored c.args.self.now k (c.first_absent-number.ensures.stored k above below));
  stored = λ k above below. c.first_absent-number.ensures.stored k above below;
}

pub loop-number-preserved : goal.loop-number-preserved
loop-number-preserved g c =
    let before = c.loop-number.invariant in
    let after = c.in_ok-store.ensures in
    let number : ℕ = c.loop-number.number in
    record {
      size = after.size ∙ before.size;
      bytes = after.bytes ∙ before.bytes;
      held = λ k. after.held k ∙ ap (λ (b : Bool). b || nat_eq k number) (before.held k) ∙ hold_step (is_held c.args.self.now k) (c.args.offset / 4096) number k (omega arith);
      stored = λ k above below. elim (cases_eq k number) [
        | inl e ↦ ap (is_stored c.store.new.self) e ∙ after.stored
        | inr apart ↦ after.others k apart ∙ before.stored k above (omega arith)
      ];
    }

pub returns-clause-stored : goal.returns-clause-stored
returns-clause-stored g c = λ k touched.
    let places = in_range c.args.offset c.args.count k touched in
    c.loop-number.invariant.stored k places.0 (omega (arith, places.1))
