use Rattle.nbdq_cli.proofs.DeedLemmas.{dispatches}
use Rattle.nbdq_cli.proofs.dispatch.run_asked.Goals as goal

pub returns : goal.returns
returns g c =
    dispatches c.args.asked (g.C.Commands.deeds c.args.commands.now) (g.C.Commands.deeds c.go-end.new.commands) (g.C.Commands.deeds c.tell_end.new.commands)
    c.go-end.result c.status_of_end.result c.go-end.ensures.comes c.tell_end.ensures c.status_of_end.ensures
