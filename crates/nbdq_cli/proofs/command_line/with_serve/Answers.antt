use Rattle.std.proofs.Common.{◌≡◌, ◌||◌, codes, ap, ap₂, ◌∙◌}
use Rattle.std.proofs.lemmas.Result.{IfOk-weaker}
use Rattle.clap.specs.Words.{App, app_of, with_rule, with_subcommand}
use Rattle.nbdq_cli.specs.Commands.{number_rule, serve_command}
use Rattle.nbdq_cli.proofs.command_line.with_serve.Goals as goal

pub returns : goal.returns
returns c =
    let local_one = c.in_ok-arg.ensures.globals ∙ ap₂ ◌||◌ c.new_command.ensures.local c.option.ensures.local in
    let local_two = c.in_ok-arg-2.ensures.globals ∙ ap₂ ◌||◌ local_one c.option-2.ensures.local in
    let local_three = c.in_ok-arg-3.ensures.globals ∙ ap₂ ◌||◌ local_two c.option-3.ensures.local in
    let local_four = c.in_ok-arg-4.ensures.globals ∙ ap₂ ◌||◌ local_three c.number.ensures.local in
    let local_five = c.in_ok-serve.ensures.globals ∙ ap₂ ◌||◌ local_four c.number-2.ensures.local in
    let one = c.in_ok-arg.ensures.shape c.option.ensures.local ∙ ap₂ with_rule c.new_command.ensures.app c.option.ensures.rule in
    let two = c.in_ok-arg-2.ensures.shape c.option-2.ensures.local ∙ ap₂ with_rule one c.option-2.ensures.rule in
    let three = c.in_ok-arg-3.ensures.shape c.option-3.ensures.local ∙ ap₂ with_rule two c.option-3.ensures.rule in
    let four =
    c.in_ok-arg-4.ensures.shape c.number.ensures.local ∙ ap₂ with_rule three (c.number.ensures.rule ∙ ap (number_rule (codes "workers")) c.workers.ensures) in
    let serve_is : app_of c.in_ok-serve.serve ≡ serve_command c.args.sessions = c.in_ok-serve.ensures.shape c.number-2.ensures.local
    ∙ ap₂ with_rule four c.number-2.ensures.rule in
    IfOk-weaker c.subcommand.result _ _ (λ m h. h.shape local_five ∙ ap (λ (a : App). with_subcommand (app_of c.args.program) a.top) serve_is) c.subcommand.ensures
