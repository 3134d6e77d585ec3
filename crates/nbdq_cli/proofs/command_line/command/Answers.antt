use Rattle.std.proofs.Common.{ap, ◌∙◌}
use Rattle.std.proofs.lemmas.Result.{IfOk-weaker}
use Rattle.clap.specs.Words.{App, with_subcommand}
use Rattle.nbdq_cli.specs.Commands.{control_command}
use Rattle.nbdq_cli.proofs.command_line.command.Goals as goal

pub returns : goal.returns
returns c = IfOk-weaker c.with_control.result _ _ (λ m h. h ∙ ap (λ (a : App). with_subcommand a control_command.top) c.in_ok-program.ensures) c.with_control.ensures
