use Rattle.std.proofs.Common.{List, Option, ap, codes, sym, ◌∙◌}
use Rattle.std.specs.Prelude.{option_and_then}
use Rattle.clap.specs.Words.{Row, first_of, found_of, subcommand_rows_of}
use Rattle.clap.proofs.WalkLemmas.{first_value-rows}
use Rattle.nbdq_cli.specs.Asked.{wants_number}
use Rattle.nbdq_cli.proofs.AskedLemmas.{said_by_rows}
use Rattle.nbdq_cli.proofs.command_line.wants_number.Goals as goal

pub returns-in-Some : goal.returns-in-Some
returns-in-Some c =
    let behind = ap (λ (rows : Option (List Row)). option_and_then (λ options. first_of (codes "sessions") options) rows) c.in-Some.ensures.rows in
    let said = first_value-rows (found_of c.in-Some.given.now) (codes "sessions") ∙ behind ∙ sym (said_by_rows (subcommand_rows_of c.args.matches.now)) in
    c.is_no_word.ensures ∙ ap wants_number (c.get_str.ensures ∙ said)
