use Rattle.std.proofs.Common.{◌≡◌, Some, get_or, arith}
use Rattle.std.specs.Io.KnownBytes.{Appends}
use Rattle.std.proofs.lemmas.Grind.{common_steps}
use Rattle.nbdq_cli.specs.Checked.{export_line, inflight_line}
use Rattle.nbdq_cli.proofs.ReportLemmas.{written_first, written_more, written_last}
use Rattle.nbdq_cli.proofs.checking.write_config.Goals as goal

pub loop-at-init : goal.loop-at-init
loop-at-init g c =
    let offer = c.args.config.now in
    let old = Some c.args.text.now.items in
    let new = Some c.write_inflight.new.text.items in
    let line : Appends old new (inflight_line offer.inflight) = rw (← c.inflight.ensures.value) c.in_ok-write_inflight.ensures in
    written_first export_line (inflight_line offer.inflight) offer.exports old new line

pub loop-at-preserved : goal.loop-at-preserved
loop-at-preserved g c =
    let offer = c.args.config.now in
    let at = c.loop-at.at in
    let export = c.index-exports-at.result in
    let here : get_or c.exports-exports.result.now at export ≡ export = grind (arith, common_steps) in
    written_more export_line (inflight_line offer.inflight) offer.exports at export
    (Some c.args.text.now.items) (Some c.loop-at.text.items) (Some c.write_export.new.text.items)
    c.loop-at.invariant (rw c.exports-exports.ensures.value at c.loop-at-test.true) (rw c.exports-exports.ensures.value at here) (c.in_ok-write_export.ensures)

pub returns : goal.returns
returns g c =
    let offer = c.args.config.now in
    written_last export_line (inflight_line offer.inflight) offer.exports c.loop-at.at (Some c.args.text.now.items) (Some c.loop-at.text.items)
    c.loop-at.invariant (rw c.exports-exports.ensures.value at c.loop-at-test.false)
