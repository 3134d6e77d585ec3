use Rattle.std.proofs.lemmas.Result.{err_from_is_err_and}
use Rattle.nbd_commands.specs.Terms.{terms_of}
use Rattle.nbd_session.specs.Requests.{opened}
use Rattle.nbd_session.proofs.ServeLemmas.{begun}
use Rattle.nbd_session.proofs.ServingLemmas.{idle_at_first}
use Rattle.nbd_session.proofs.transmission.transmit.Goals as goal

pub returns-in_err-lone-clause-conversation : goal.returns-in_err-lone-clause-conversation
returns-in_err-lone-clause-conversation g c =
    let p = err_from_is_err_and c.from_residual.result c.from_residual.ensures.1 in
    let terms = terms_of c.args.export.now in
    rw (p.1, p.2) (begun terms (opened terms) (g.R.Read.remaining c.args.reader.now.inner) (g.W.Write.contents c.args.writer.now.inner))

pub returns-in_err-open-clause-conversation : goal.returns-in_err-open-clause-conversation
returns-in_err-open-clause-conversation g c =
    let p = err_from_is_err_and c.from_residual-in_err-open.result c.from_residual-in_err-open.ensures.1 in
    let terms = terms_of c.args.export.now in
    rw (p.1, p.2) (begun terms (opened terms) (g.R.Read.remaining c.args.reader.now.inner) (g.W.Write.contents c.args.writer.now.inner))

pub requests-requires-clause-idle : goal.requests-requires-clause-idle
requests-requires-clause-idle g c = idle_at_first c.args.export.now c.in_ok-lone.lone c.open.new.lone c.window.ensures.valid c.in_ok-lone.ensures c.in_ok-open.ensures
