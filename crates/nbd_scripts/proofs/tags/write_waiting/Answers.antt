use Rattle.std.proofs.Common.{None, Some, pos}
use Rattle.nbd_scripts.proofs.TagsLemmas.{written_more, written_last}
use Rattle.nbd_scripts.proofs.tags.write_waiting.Goals as goal

pub loop-number-preserved : goal.loop-number-preserved
loop-number-preserved g c =
    written_more c.args.told.now c.loop-number.number-index (0, record { r = None; l = pos 0; p = pos 0 }) (Some c.args.text.now.items) (Some c.loop-number.text.items) (Some c.write_tag.new.text.items)
    c.loop-number.invariant c.loop-number-test.true c.in_ok-write_tag.ensures

pub returns : goal.returns
returns g c = written_last c.args.told.now c.loop-number.number-index (Some c.args.text.now.items) (Some c.loop-number.text.items) c.loop-number.invariant c.loop-number-test.false
