use Rattle.std.proofs.Common.{ℕ, List, ◌++◌, ap, codes, ◌∙◌, append_assoc}
use Rattle.nbd_control.specs.Figures.{Row, export_row}
use Rattle.nbd_control.specs.Metrics.{export_samples, head_text}
use Rattle.nbd_control.proofs.metrics.put_export_metric.Goals as goal

pub returns : goal.returns
returns g c =
    let head = c.in_ok-put_head.ensures ∙ ap (λ (row : Row). c.args.text.now.items ++ head_text (codes "nbdq_export_") row) c.row.ensures in
    c.in_ok-put_export_samples.ensures ∙ ap (λ (text : List ℕ). text ++ export_samples c.args.figure c.args.exports.now) head ∙ append_assoc c.args.text.now.items (head_text (codes "nbdq_export_") (export_row c.args.figure)) (export_samples c.args.figure c.args.exports.now)
