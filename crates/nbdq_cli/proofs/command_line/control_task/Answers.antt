use Rattle.std.proofs.Common.{codes, ◌∙◌}
use Rattle.clap.specs.Words.{found_of}
use Rattle.clap.proofs.WalkLemmas.{first_value-rows}
use Rattle.nbdq_cli.proofs.command_line.control_task.Goals as goal

pub returns : goal.returns
returns c = c.in_ok-kept.ensures ∙ c.get_str.ensures ∙ first_value-rows (found_of c.args.given.now) (codes "unix")
