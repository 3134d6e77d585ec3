use Rattle.std.proofs.Common.{arith}
use Rattle.number_sets.specs.Bits.{is_set}
use Rattle.number_sets.proofs.RangeLemmas.{put_none, put_step, put_end}
use Rattle.number_sets.proofs.bits.put.Goals as goal

pub loop-next-init : goal.loop-next-init
loop-next-init c = record { begun = omega arith; upto = omega arith; put = put_none c.args.member (is_set c.args.words.now) c.args.first }

pub loop-next-preserved : goal.loop-next-preserved
loop-next-preserved c =
    let before = c.loop-next.invariant in
    let after = c.put_some-next.ensures in
    record {
      begun = omega (arith, before.begun, after.more);
      upto = omega (arith, after.upto);
      put = put_step c.args.member (is_set c.args.words.now) (is_set c.loop-next.words) (is_set c.put_some-next.new.words) c.args.first c.loop-next.next c.put_some-next.result before.begun (omega (arith, after.more)) before.put after.put;
    }

pub returns : goal.returns
returns c =
    let before = c.loop-next.invariant in
    put_end c.args.member (is_set c.args.words.now) (is_set c.loop-next.words) c.args.first c.loop-next.next c.args.end before.begun before.upto c.loop-next-test.false before.put
