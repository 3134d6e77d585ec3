use Rattle.export_cell.proofs.Rounds.{read_taken}
use Rattle.export_cell.proofs.base.remaking.taken.Goals as goal

pub returns-in-Read-clause-ok : goal.returns-in-Read-clause-ok
returns-in-Read-clause-ok g c =
    let does = c.serve_dropped_read.ensures in
    read_taken c.args.lone.now c.serve_dropped_read.new.self c.in-Read.arrival c.args.session c.args.deferred c.in-Read.is c.if-deferred-session.true (record { state = does.state; terms = does.terms; inflight = does.inflight })
