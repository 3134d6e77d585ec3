use Rattle.std.proofs.Common.{◌≡◌, ◌||◌, ap, ap₂, ◌∙◌}
use Rattle.std.proofs.lemmas.Result.{IfOk-weaker}
use Rattle.clap.specs.Words.{App, app_of, with_rule, with_subcommand}
use Rattle.nbdq_cli.specs.Commands.{control_command}
use Rattle.nbdq_cli.proofs.command_line.with_control.Goals as goal

pub returns : goal.returns
returns c =
    let local = c.in_ok-control.ensures.globals ∙ ap₂ ◌||◌ c.new_command.ensures.local c.option.ensures.local in
    let control_is : app_of c.in_ok-control.control ≡ control_command = c.in_ok-control.ensures.shape c.option.ensures.local
    ∙ ap₂ with_rule c.new_command.ensures.app c.option.ensures.rule in
    IfOk-weaker c.subcommand.result _ _ (λ m h. h.shape local ∙ ap (λ (a : App). with_subcommand (app_of c.args.program) a.top) control_is) c.subcommand.ensures
