use Rattle.std.proofs.Common.{ap}
use Rattle.std.specs.Io.Buffered.{writer_contents}
use Rattle.nbdq_cli.proofs.TaskLemmas.{new_buffer, runs_task}
use Rattle.nbdq_cli.proofs.tasks.run_buffered.Goals as goal

pub returns-in-Ok-into_inner-clause-runs : goal.returns-in-Ok-into_inner-clause-runs
returns-in-Ok-into_inner-clause-runs g c =
    runs_task _ _ _ _ _ _ _ _ _ _
    (new_buffer _ _ g.W.Write.contents c.new-buffered.result.inner c.in-Ok.writer c.args.output c.new-buffered.ensures.0 c.in-Ok.ensures.inner c.in-Ok.ensures.empty)
    c.run_task-outcome.ensures.told (ap (λ w. writer_contents g.W.Write.contents w) c.into_inner.ensures) c.in-Ok-into_inner.ensures.ok
