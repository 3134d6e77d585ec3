use Rattle.std.proofs.Common.{Err, ap, sym, ◌∙◌}
use Rattle.nbd_config.proofs.ExportLemmas.{refused_so}
use Rattle.nbd_config.proofs.WholeLemmas.{by_table, by_none}
use Rattle.nbd_config.proofs.reading.read_config.Goals as goal

pub returns-in-Ok-clause-read : goal.returns-in-Ok-clause-read
returns-in-Ok-clause-read g c =
    let parsed = c.in-Ok.ensures.ok in
    rw (by_table c.args.text.now _ parsed.0 parsed.1) c.config_of.ensures.read

pub returns-in-Ok-clause-refused : goal.returns-in-Ok-clause-refused
returns-in-Ok-clause-refused g c =
    let parsed = c.in-Ok.ensures.ok in
    rw (by_table c.args.text.now _ parsed.0 parsed.1) c.config_of.ensures.refused

pub returns-in-Err-clause-refused : goal.returns-in-Err-clause-refused
returns-in-Err-clause-refused g c =
    refused_so _ _ c.unparsed.result (λ refusal h. by_none c.args.text.now (c.in-Err.ensures.refused h.1) ∙ ap Err (sym h.0)) c.unparsed.ensures.refused
