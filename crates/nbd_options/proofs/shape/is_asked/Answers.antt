use Rattle.std.proofs.Common.{◌∙◌, sym, arith}
use Rattle.nbd_options.proofs.TypeLemmas.{hit, miss, none_left}
use Rattle.nbd_options.proofs.shape.is_asked.Goals as goal

pub returns-then-number_at-kind : goal.returns-then-number_at-kind
returns-then-number_at-kind c =
    hit c.args.kind c.args.types.now c.loop-at.at c.number_at.result (omega arith) c.number_at.ensures c.if-number_at-kind.true
    ∙ sym c.loop-at.invariant.so_far

pub loop-at-preserved : goal.loop-at-preserved
loop-at-preserved c = record {
  so_far = c.loop-at.invariant.so_far
      ∙ miss c.args.kind c.args.types.now c.loop-at.at c.number_at.result (omega arith) c.number_at.ensures c.if-number_at-kind.false;
  within = omega arith;
}

pub returns : goal.returns
returns c = sym (c.loop-at.invariant.so_far ∙ none_left c.args.kind c.args.types.now c.loop-at.at (omega arith))
