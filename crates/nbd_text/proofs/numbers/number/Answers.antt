use Rattle.std.proofs.Common.{◌^◌, refl, sym, ◌∙◌, rules}
use Rattle.std.specs.Prelude.{IfSome, ◌≤◌}
use Rattle.nbd_text.specs.Numbers.{written_number}
use Rattle.nbd_text.proofs.NumberLemmas.{written_whole, number_end, number_more, number_too_great, below_fits, below_great}
use Rattle.nbd_text.proofs.numbers.number.Goals as goal

pub returns-in_default : goal.returns-in_default
returns-in_default c =
    let digits = c.args.digits.now in
    let great = number_too_great digits c.loop-digit.digit-index c.loop-digit.value (2 ^ 64) c.loop-digit-test.true (c.in_default.ensures.none refl) in
    let written : IfSome (written_number digits) (λ n. 2 ^ 64 ≤ n) = rw (written_whole digits (sym c.is_empty.ensures ∙ c.if-is_empty.false), sym c.loop-digit.invariant.so_far) great in
    sym (below_great (2 ^ 64) (written_number digits) written)

pub loop-digit-preserved : goal.loop-digit-preserved
loop-digit-preserved c = record {
  so_far =
      number_more c.args.digits.now c.loop-digit.digit-index c.loop-digit.value c.in-Some.next c.loop-digit-test.true c.in-Some.ensures.digit c.in-Some.ensures.value
      ∙ c.loop-digit.invariant.so_far;
  fits = search rules;
}

pub returns : goal.returns
returns c =
    let digits = c.args.digits.now in
    let written =
    written_whole digits (sym c.is_empty.ensures ∙ c.if-is_empty.false)
    ∙ sym c.loop-digit.invariant.so_far
    ∙ number_end digits c.loop-digit.digit-index c.loop-digit.value c.loop-digit-test.false in
    sym (below_fits (2 ^ 64) c.loop-digit.value (written_number digits) written c.loop-digit.invariant.fits)
