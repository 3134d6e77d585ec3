use Rattle.std.proofs.Common.{map, sym, ◌∙◌}
use Rattle.nbdq_cli.proofs.AskedLemmas.{none_wanted}
use Rattle.nbdq_cli.proofs.command_line.check_sessions.Goals as goal

pub returns-else-wants_number : goal.returns-else-wants_number
returns-else-wants_number g c = none_wanted _ (map g.S.AsStr.text c.args.words.now) (sym c.wants_number.ensures ∙ c.if-wants_number.false)
