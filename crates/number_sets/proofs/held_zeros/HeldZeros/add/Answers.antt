use Rattle.std.proofs.Common.{◌∙◌, ◌/◌, ℕ, ap, arith}
use Rattle.number_sets.specs.Bits.{is_between}
use Rattle.number_sets.proofs.MarksLemmas.{used_put, used_dropped}
use Rattle.number_sets.proofs.held_zeros.HeldZeros.add.Goals as goal

pub invariant_of-self : goal.invariant_of-self
invariant_of-self g c =
    let to = c.div_ceil-to.ensures in
    let again = λ (q : ℕ). ap (λ (n : ℕ). is_between (c.args.first / 16384) n q) to in
    used_dropped c.self.inside.bitmaps.entries c.make_bitmaps.new.bitmaps.entries c.drop_all_empty.new.bitmaps.entries c.args.first c.args.end c.if-first-end.false c.self.invariant
    (λ q outside. c.make_bitmaps.ensures.others q (again q ∙ outside)) (λ q outside. c.drop_all_empty.ensures.others q (again q ∙ outside))
    (λ q above below. c.drop_all_empty.ensures.used q above (omega (arith, to, below)))

pub invariant_of-self-2 : goal.invariant_of-self-2
invariant_of-self-2 g c =
    let to = c.div_ceil-to.ensures in
    let again = λ (q : ℕ). ap (λ (n : ℕ). is_between (c.args.first / 16384) n q) to in
    used_put c.self.inside.bitmaps.entries c.make_bitmaps.new.bitmaps.entries c.put_all.new.bitmaps.entries c.args.first c.args.end c.if-first-end.false c.self.invariant
    (λ q outside. c.make_bitmaps.ensures.others q (again q ∙ outside)) c.put_all.ensures.others c.put_all.ensures.put
