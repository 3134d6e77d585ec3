use Rattle.nbdq_cli.proofs.AskedLemmas.{up_to_64}
use Rattle.nbdq_cli.proofs.command_line.workers.Goals as goal

pub returns : goal.returns
returns c = up_to_64 c.value_parser.result c.range.result _ _ c.value_parser.ensures c.new.ensures.start c.range.ensures c.new.ensures.end
