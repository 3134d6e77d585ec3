use Rattle.std.proofs.Common.{◌≡◌, ℕ, Result, Ok, Err, arith, refl, ap, subst, ◌∙◌}
use Rattle.std.specs.Result.{OnOk}
use Rattle.std.proofs.lemmas.Result.{err_from_is_err_and}
use Rattle.nbd_session.specs.declared.outcomes.End.{End}
use Rattle.nbd_session.specs.declared.outcomes.TalkFault.{TalkFault}
use Rattle.nbd_stream.specs.Frames.{Reading}
use Rattle.nbd_stream.specs.Streams.{Rises}
use Rattle.nbd_session.specs.Requests.{opened}
use Rattle.nbd_session.proofs.ServeLemmas.{served_by, still_idle, still_terms, still_few, few_at_first, worn_by_count}
use Rattle.nbd_session.proofs.KeptLemmas.{keeps_nothing, is_ended, is_without_memory, read_rises, reads_kept, is_disc, disc_by, no_disc_by, is_worn, is_part, keeps_on, gives, no_write_failed}
use Rattle.nbd_session.proofs.transmission.requests.Goals as goal

on_any : (P : Type 0) (answer : Result End TalkFault) → P → OnOk answer P
on_any P (Ok end) holds = holds
on_any P (Err fault) holds = tt

pub returns-in-Ended-clause-written : goal.returns-in-Ended-clause-written
returns-in-Ended-clause-written g c = on_any _ c.end_of.result c.loop-request.invariant.write_kept

pub returns-in-Ended-clause-write_failed : goal.returns-in-Ended-clause-write_failed
returns-in-Ended-clause-write_failed g c = no_write_failed _ c.in-Ended.ending c.end_of.result c.end_of.ensures

pub loop-request-init : goal.loop-request-init
loop-request-init g c =
    let terms = c.args.lone.now.terms in
    let i0 = g.R.Read.remaining c.args.reader.now.inner in
    let o0 = g.W.Write.contents c.args.writer.now.inner in
    record {
      keeping = rw (c.new-frames.ensures, c.requires.opened) (keeps_nothing terms (opened terms) i0 o0);
      not_ended = ap (λ (v : Reading). v.ended) c.new-frames.ensures;
      idle = c.requires.idle;
      same_terms = refl;
      few = few_at_first terms c.args.lone.now.state c.requires.opened;
      read_kept = refl;
      write_kept = refl;
    }

pub returns-in-Ended-clause-conversation : goal.returns-in-Ended-clause-conversation
returns-in-Ended-clause-conversation g c =
    let terms = c.args.lone.now.terms in
    let s = c.loop-request.lone.state in
    let inv = c.loop-request.invariant in
    let i0 = g.R.Read.remaining c.args.reader.now.inner in
    let i1 = g.R.Read.remaining c.loop-request.reader.inner in
    let i2 = g.R.Read.remaining c.next.new.reader.inner in
    let o0 = g.W.Write.contents c.args.writer.now.inner in
    let o1 = g.W.Write.contents c.loop-request.writer.inner in
    let n = c.next.ensures.next inv.not_ended in
    rw c.end_of.ensures (is_ended terms (opened terms) s c.loop-request.frames.kept i0 i1 o0 o1 inv.keeping g.row.I-Alloc.Denot c.loop-request.frames c.next.new.self i2 c.loop-request.reader.failures c.next.new.reader.failures c.next.result refl n c.in-Ended.ending c.in-Ended.is)

pub returns-in-Ended-clause-read_failed : goal.returns-in-Ended-clause-read_failed
returns-in-Ended-clause-read_failed g c =
    let terms = c.args.lone.now.terms in
    let s = c.loop-request.lone.state in
    let inv = c.loop-request.invariant in
    let i0 = g.R.Read.remaining c.args.reader.now.inner in
    let i1 = g.R.Read.remaining c.loop-request.reader.inner in
    let i2 = g.R.Read.remaining c.next.new.reader.inner in
    let o0 = g.W.Write.contents c.args.writer.now.inner in
    let o1 = g.W.Write.contents c.loop-request.writer.inner in
    let n = c.next.ensures.next inv.not_ended in λ fails.
    subst (λ (m : ℕ). Rises m c.next.new.reader.failures) inv.read_kept
    (read_rises terms (opened terms) s c.loop-request.frames.kept i0 i1 o0 o1 inv.keeping g.row.I-Alloc.Denot c.loop-request.frames c.next.new.self i2 c.loop-request.reader.failures c.next.new.reader.failures c.next.result refl n c.in-Ended.ending c.end_of.result c.in-Ended.is c.end_of.ensures fails)

pub returns-in-Ended-clause-read : goal.returns-in-Ended-clause-read
returns-in-Ended-clause-read g c =
    let terms = c.args.lone.now.terms in
    let s = c.loop-request.lone.state in
    let inv = c.loop-request.invariant in
    let i0 = g.R.Read.remaining c.args.reader.now.inner in
    let i1 = g.R.Read.remaining c.loop-request.reader.inner in
    let i2 = g.R.Read.remaining c.next.new.reader.inner in
    let o0 = g.W.Write.contents c.args.writer.now.inner in
    let o1 = g.W.Write.contents c.loop-request.writer.inner in
    let n = c.next.ensures.next inv.not_ended in
    subst (λ (m : ℕ). OnOk c.end_of.result (c.next.new.reader.failures ≡ m)) inv.read_kept
    (reads_kept terms (opened terms) s c.loop-request.frames.kept i0 i1 o0 o1 inv.keeping g.row.I-Alloc.Denot c.loop-request.frames c.next.new.self i2 c.loop-request.reader.failures c.next.new.reader.failures c.next.result refl n c.in-Ended.ending c.end_of.result c.in-Ended.is c.end_of.ensures)

pub returns-then-is_disc-clause-conversation : goal.returns-then-is_disc-clause-conversation
returns-then-is_disc-clause-conversation g c =
    let terms = c.args.lone.now.terms in
    let s = c.loop-request.lone.state in
    let inv = c.loop-request.invariant in
    let i0 = g.R.Read.remaining c.args.reader.now.inner in
    let i1 = g.R.Read.remaining c.loop-request.reader.inner in
    let i2 = g.R.Read.remaining c.next.new.reader.inner in
    let o0 = g.W.Write.contents c.args.writer.now.inner in
    let o1 = g.W.Write.contents c.loop-request.writer.inner in
    let n = c.next.ensures.next inv.not_ended in
    let q = c.in-Whole.request in
    let whole = c.in-Whole.is in
    is_disc terms (opened terms) s c.loop-request.frames.kept i0 i1 o0 o1 inv.keeping g.row.I-Alloc.Denot c.loop-request.frames c.next.new.self i2 c.loop-request.reader.failures c.next.new.reader.failures c.next.result refl n q whole (disc_by q.head c.head.result (c.is_disc.result) c.head.ensures.value c.is_disc.ensures c.if-is_disc.true)

pub returns-then-is_disc-clause-read : goal.returns-then-is_disc-clause-read
returns-then-is_disc-clause-read g c =
    let terms = c.args.lone.now.terms in
    let s = c.loop-request.lone.state in
    let inv = c.loop-request.invariant in
    let i0 = g.R.Read.remaining c.args.reader.now.inner in
    let i1 = g.R.Read.remaining c.loop-request.reader.inner in
    let i2 = g.R.Read.remaining c.next.new.reader.inner in
    let o0 = g.W.Write.contents c.args.writer.now.inner in
    let o1 = g.W.Write.contents c.loop-request.writer.inner in
    let n = c.next.ensures.next inv.not_ended in
    let given = gives terms (opened terms) s c.loop-request.frames.kept i0 i1 o0 o1 inv.keeping g.row.I-Alloc.Denot c.loop-request.frames c.next.new.self i2 c.loop-request.reader.failures c.next.new.reader.failures c.next.result refl n c.in-Whole.request c.in-Whole.is in
    given.none_failed ∙ inv.read_kept

pub returns-in_err-reply-clause-conversation : goal.returns-in_err-reply-clause-conversation
returns-in_err-reply-clause-conversation g c =
    let p = err_from_is_err_and c.from_residual.result c.from_residual.ensures.1 in
    let terms = c.args.lone.now.terms in
    let s = c.loop-request.lone.state in
    let inv = c.loop-request.invariant in
    let i0 = g.R.Read.remaining c.args.reader.now.inner in
    let i1 = g.R.Read.remaining c.loop-request.reader.inner in
    let i2 = g.R.Read.remaining c.next.new.reader.inner in
    let o0 = g.W.Write.contents c.args.writer.now.inner in
    let o1 = g.W.Write.contents c.loop-request.writer.inner in
    let n = c.next.ensures.next inv.not_ended in
    rw (p.1, p.2) (is_without_memory terms (opened terms) s c.loop-request.frames.kept i0 i1 o0 o1 inv.keeping g.row.I-Alloc.Denot c.loop-request.frames c.next.new.self i2 c.loop-request.reader.failures c.next.new.reader.failures c.next.result refl n)

pub returns-in_default-clause-conversation : goal.returns-in_default-clause-conversation
returns-in_default-clause-conversation g c =
    let terms = c.args.lone.now.terms in
    let s = c.loop-request.lone.state in
    let inv = c.loop-request.invariant in
    let i0 = g.R.Read.remaining c.args.reader.now.inner in
    let i1 = g.R.Read.remaining c.loop-request.reader.inner in
    let i2 = g.R.Read.remaining c.next.new.reader.inner in
    let o0 = g.W.Write.contents c.args.writer.now.inner in
    let o1 = g.W.Write.contents c.loop-request.writer.inner in
    let n = c.next.ensures.next inv.not_ended in
    let q = c.in-Whole.request in
    let whole = c.in-Whole.is in
    is_worn terms (opened terms) s c.loop-request.frames.kept i0 i1 o0 o1 inv.keeping g.row.I-Alloc.Denot c.loop-request.frames c.next.new.self i2 c.loop-request.reader.failures c.next.new.reader.failures c.next.result refl n q whole (no_disc_by q.head c.head.result (c.is_disc.result) c.head.ensures.value c.is_disc.ensures c.if-is_disc.false) (worn_by_count terms c.loop-request.lone q inv.idle c.in_ok-reply.field-0 c.in_default.is c.in_ok-reply.ensures.worn)

pub returns-in_default-clause-read : goal.returns-in_default-clause-read
returns-in_default-clause-read g c =
    let terms = c.args.lone.now.terms in
    let s = c.loop-request.lone.state in
    let inv = c.loop-request.invariant in
    let i0 = g.R.Read.remaining c.args.reader.now.inner in
    let i1 = g.R.Read.remaining c.loop-request.reader.inner in
    let i2 = g.R.Read.remaining c.next.new.reader.inner in
    let o0 = g.W.Write.contents c.args.writer.now.inner in
    let o1 = g.W.Write.contents c.loop-request.writer.inner in
    let n = c.next.ensures.next inv.not_ended in
    let given = gives terms (opened terms) s c.loop-request.frames.kept i0 i1 o0 o1 inv.keeping g.row.I-Alloc.Denot c.loop-request.frames c.next.new.self i2 c.loop-request.reader.failures c.next.new.reader.failures c.next.result refl n c.in-Whole.request c.in-Whole.is in
    given.none_failed ∙ inv.read_kept

pub returns-in_err-say-clause-conversation : goal.returns-in_err-say-clause-conversation
returns-in_err-say-clause-conversation g c =
    let p = err_from_is_err_and c.from_residual-in_err-say.result c.from_residual-in_err-say.ensures.1 in
    let terms = c.args.lone.now.terms in
    let s = c.loop-request.lone.state in
    let inv = c.loop-request.invariant in
    let i0 = g.R.Read.remaining c.args.reader.now.inner in
    let i1 = g.R.Read.remaining c.loop-request.reader.inner in
    let i2 = g.R.Read.remaining c.next.new.reader.inner in
    let o0 = g.W.Write.contents c.args.writer.now.inner in
    let o1 = g.W.Write.contents c.loop-request.writer.inner in
    let n = c.next.ensures.next inv.not_ended in
    let q = c.in-Whole.request in
    let whole = c.in-Whole.is in
    let o2 = g.W.Write.contents c.say.new.writer.inner in
    let reply = c.in-Some.reply in
    let lone = c.loop-request.lone in
    let after = c.serve.new.lone in
    let h = served_by lone after q c.in_ok-reply.field-0 reply inv.idle c.in-Some.is c.in_ok-reply.ensures.reply c.in_ok-reply.ensures.state c.in_ok-reply.ensures.fresh in
    rw (p.1, p.2) (is_part terms (opened terms) s c.loop-request.frames.kept i0 i1 o0 o1 inv.keeping g.row.I-Alloc.Denot c.loop-request.frames c.next.new.self i2 c.loop-request.reader.failures c.next.new.reader.failures c.next.result refl n q whole lone after reply refl inv.same_terms h (no_disc_by q.head c.head.result (c.is_disc.result) c.head.ensures.value c.is_disc.ensures c.if-is_disc.false) o2 c.in_err-say.field-0.0 c.in_err-say.ensures.part (λ e. c.in_err-say.ensures.no_read (cc)))

pub loop-request-smaller : goal.loop-request-smaller
loop-request-smaller g c =
    let terms = c.args.lone.now.terms in
    let s = c.loop-request.lone.state in
    let inv = c.loop-request.invariant in
    let i0 = g.R.Read.remaining c.args.reader.now.inner in
    let i1 = g.R.Read.remaining c.loop-request.reader.inner in
    let i2 = g.R.Read.remaining c.next.new.reader.inner in
    let o0 = g.W.Write.contents c.args.writer.now.inner in
    let o1 = g.W.Write.contents c.loop-request.writer.inner in
    let n = c.next.ensures.next inv.not_ended in
    let q = c.in-Whole.request in
    let whole = c.in-Whole.is in
    let o2 = g.W.Write.contents c.say.new.writer.inner in
    let reply = c.in-Some.reply in
    let lone = c.loop-request.lone in
    let after = c.serve.new.lone in
    let h = served_by lone after q c.in_ok-reply.field-0 reply inv.idle c.in-Some.is c.in_ok-reply.ensures.reply c.in_ok-reply.ensures.state c.in_ok-reply.ensures.fresh in
    omega (arith, still_few terms lone after q reply inv.same_terms h, h.fresh)

pub loop-request-preserved : goal.loop-request-preserved
loop-request-preserved g c =
    let terms = c.args.lone.now.terms in
    let s = c.loop-request.lone.state in
    let inv = c.loop-request.invariant in
    let i0 = g.R.Read.remaining c.args.reader.now.inner in
    let i1 = g.R.Read.remaining c.loop-request.reader.inner in
    let i2 = g.R.Read.remaining c.next.new.reader.inner in
    let o0 = g.W.Write.contents c.args.writer.now.inner in
    let o1 = g.W.Write.contents c.loop-request.writer.inner in
    let n = c.next.ensures.next inv.not_ended in
    let q = c.in-Whole.request in
    let whole = c.in-Whole.is in
    let o2 = g.W.Write.contents c.say.new.writer.inner in
    let reply = c.in-Some.reply in
    let lone = c.loop-request.lone in
    let after = c.serve.new.lone in
    let h = served_by lone after q c.in_ok-reply.field-0 reply inv.idle c.in-Some.is c.in_ok-reply.ensures.reply c.in_ok-reply.ensures.state c.in_ok-reply.ensures.fresh in
    let given = gives terms (opened terms) s c.loop-request.frames.kept i0 i1 o0 o1 inv.keeping g.row.I-Alloc.Denot c.loop-request.frames c.next.new.self i2 c.loop-request.reader.failures c.next.new.reader.failures c.next.result refl n q whole in
    record {
      keeping = keeps_on terms (opened terms) s c.loop-request.frames.kept i0 i1 o0 o1 inv.keeping g.row.I-Alloc.Denot c.loop-request.frames c.next.new.self i2 c.loop-request.reader.failures c.next.new.reader.failures c.next.result refl n q whole lone after reply refl inv.same_terms h (no_disc_by q.head c.head.result (c.is_disc.result) c.head.ensures.value c.is_disc.ensures c.if-is_disc.false) o2 c.in_ok-say.ensures.said;
      not_ended = given.not_told;
      idle = still_idle terms lone after q reply inv.same_terms h;
      same_terms = still_terms terms lone after q reply inv.same_terms h;
      few = (still_few terms lone after q reply inv.same_terms h).1;
      read_kept = given.none_failed ∙ inv.read_kept;
      write_kept = c.in_ok-say.ensures.kept ∙ inv.write_kept;
    }
