use Rattle.std.proofs.Common.{true, map, ap, ◌∙◌}
use Rattle.clap.specs.Words.{FailsBy}
use Rattle.nbdq_cli.specs.Asked.{number_faults}
use Rattle.nbdq_cli.specs.Commands.{program_with}
use Rattle.nbdq_cli.proofs.AskedLemmas.{fails_by_number}
use Rattle.nbdq_cli.proofs.command_line.read_again.Goals as goal

pub returns-in-Ok : goal.returns-in-Ok
returns-in-Ok g c =
    let words = map g.S.AsStr.text c.args.words.now in
    let told : FailsBy (number_faults true words) c.try_get_matches_from.result =
    fails_by_number _ words c.try_get_matches_from.result (c.in_ok-command.ensures ∙ ap program_with c.sessions.ensures) c.try_get_matches_from.ensures.kinds in
    rw c.in-Ok.is at told

pub returns : goal.returns
returns g c =
    let words = map g.S.AsStr.text c.args.words.now in
    let told : FailsBy (number_faults true words) c.try_get_matches_from.result =
    fails_by_number _ words c.try_get_matches_from.result (c.in_ok-command.ensures ∙ ap program_with c.sessions.ensures) c.try_get_matches_from.ensures.kinds in
    rw c.in-Err.is at told
