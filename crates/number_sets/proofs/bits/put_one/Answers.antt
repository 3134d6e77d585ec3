use Rattle.std.proofs.Common.{◌∙◌, ◌/◌, get_or, refl, sym, arith}
use Rattle.number_sets.proofs.BitsLemmas.{added_here, added_others, removed_here, removed_others}
use Rattle.number_sets.proofs.bits.put_one.Goals as goal

pub returns-then-member-clause-here : goal.returns-then-member-clause-here
returns-then-member-clause-here c = added_here c.args.words.now c.args.number (omega (arith, c.requires)) (get_or c.args.words.now (c.args.number / 64) 0) ∙ sym c.if-member.true

pub returns-then-member-clause-others : goal.returns-then-member-clause-others
returns-then-member-clause-others c = λ k apart. added_others c.args.words.now c.args.number (omega (arith, c.requires)) (get_or c.args.words.now (c.args.number / 64) 0) k refl apart

pub returns-else-member-clause-here : goal.returns-else-member-clause-here
returns-else-member-clause-here c = removed_here c.args.words.now c.args.number (omega (arith, c.requires)) (get_or c.args.words.now (c.args.number / 64) 0) ∙ sym c.if-member.false

pub returns-else-member-clause-others : goal.returns-else-member-clause-others
returns-else-member-clause-others c = λ k apart. removed_others c.args.words.now c.args.number (omega (arith, c.requires)) (get_or c.args.words.now (c.args.number / 64) 0) k refl apart
