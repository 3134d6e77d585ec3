use Rattle.nbdq_cli.proofs.AskedLemmas.{up_to_a_million}
use Rattle.nbdq_cli.proofs.command_line.sessions.Goals as goal

pub returns : goal.returns
returns c = up_to_a_million c.value_parser.result c.range.result _ _ c.value_parser.ensures c.new.ensures.start c.range.ensures c.new.ensures.end
