use Rattle.std.proofs.Common.{◌≡◌, ◌+◌, List, length, length-append, drop, get_or, sym, ap, ◌∙◌, arith}
use Rattle.std.proofs.lemmas.Grind.{common_steps}
use Rattle.toml.specs.View.{view}
use Rattle.nbd_commands.specs.Exports.{Export}
use Rattle.nbd_config.specs.Entries.{values_of}
use Rattle.nbd_config.specs.Configured.{exports_behind}
use Rattle.nbd_config.proofs.ExportLemmas.{value_here, goes_on, stops, ends, refused_so}
use Rattle.nbd_config.proofs.reading.exports_of.Goals as goal

pub returns-in-Err-clause-refused : goal.returns-in-Err-clause-refused
returns-in-Err-clause-refused g c =
    let values = c.args.values.now in
    let value = c.index-values-at.result in
    let more = values_of (drop (c.loop-at.at + 1) values) in
    let here : get_or values c.loop-at.at value ≡ value = grind (arith, common_steps) in
    let split = value_here values c.loop-at.at value c.loop-at-test.true here in
    refused_so _ _ c.in-Err.error (λ refusal h. sym c.loop-at.invariant.1 ∙ ap (exports_behind c.loop-at.list) split ∙ stops c.loop-at.list (view value) more c.loop-at.at refusal c.loop-at.invariant.0 h.0 h.1) (c.in-Err.ensures.refused)

pub loop-at-preserved : goal.loop-at-preserved
loop-at-preserved g c =
    let values = c.args.values.now in
    let value = c.index-values-at.result in
    let more = values_of (drop (c.loop-at.at + 1) values) in
    let here : get_or values c.loop-at.at value ≡ value = grind (arith, common_steps) in
    let split = value_here values c.loop-at.at value c.loop-at-test.true here in
    let next = c.in_default.ensures.added in (
      ap (λ (l : List Export). length l) next.2 ∙ length-append c.loop-at.list _ ∙ ap (λ n. n + 1) c.loop-at.invariant.0,
      goes_on c.loop-at.list c.add_export.new.list (view value) more next ∙ ap (exports_behind c.loop-at.list) (sym split) ∙ c.loop-at.invariant.1,
    )

pub returns-clause-read : goal.returns-clause-read
returns-clause-read g c =
    sym c.loop-at.invariant.1 ∙ ends c.loop-at.list c.args.values.now c.loop-at.at c.loop-at-test.false
