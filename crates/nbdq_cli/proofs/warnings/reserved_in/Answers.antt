use Rattle.std.proofs.Common.{◌≡◌, ◌*◌, ◌<◌, ◌≤◌, length, take, get_or, ap, ◌∙◌, arith}
use Rattle.std.proofs.lemmas.Grind.{common_steps}
use Rattle.std.proofs.lemmas.List.Sums.{sum_by_more}
use Rattle.std.proofs.Math.Seq.{take-length}
use Rattle.nbd_commands.specs.Exports.{Export}
use Rattle.nbdq_cli.specs.Warned.{reserved_in}
use Rattle.nbdq_cli.proofs.warnings.reserved_in.Goals as goal

pub overflow_add-reserved : goal.overflow_add-reserved
overflow_add-reserved g c =
    let few : length c.exports-export-items.result.now ≤ 64 = rw c.exports-export-items.ensures.value c.exports-export-items.ensures.valid.exports.greatest in
    let here : c.loop-export.export-index < length c.exports-export-items.result.now = c.loop-export-test.true in
    let so_far : c.loop-export.reserved ≤ c.loop-export.export-index * 4294967296 = c.loop-export.invariant.1 in
    let more : c.from-reserved.result < 4294967296 = rw c.from-reserved.ensures c.reservation.type_inv in
    grind arith

pub loop-export-preserved : goal.loop-export-preserved
loop-export-preserved g c =
    let items = c.exports-export-items.result.now in
    let at = c.loop-export.export-index in
    let export = c.export-item.result in
    let here : get_or items at export ≡ export = grind (arith, common_steps) in
    let split = sum_by_more (λ (e : Export). e.reservation) items at export c.loop-export-test.true in
    let rate : c.from-reserved.result ≡ export.reservation = c.from-reserved.ensures ∙ c.reservation.ensures.value in
    let more : c.from-reserved.result < 4294967296 = rw c.from-reserved.ensures c.reservation.type_inv in
    grind (arith, common_steps)

pub returns : goal.returns
returns g c =
    let items = c.exports-export-items.result.now in
    let end : c.loop-export.export-index ≡ length items = grind (arith, common_steps) in
    let all : take (length items) items ≡ items = take-length items in
    let so_far : c.loop-export.reserved ≡ reserved_in (take c.loop-export.export-index items) = c.loop-export.invariant.0 in
    so_far ∙ ap (λ at. reserved_in (take at items)) end ∙ ap reserved_in all ∙ ap reserved_in c.exports-export-items.ensures.value
