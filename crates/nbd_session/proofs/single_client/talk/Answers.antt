use Rattle.std.proofs.Common.{◌≡◌, [], List, Ok, Err, Some, map, length, refl, ap, subst, ◌∙◌, arith}
use Rattle.std.specs.Prelude.{slice_get}
use Rattle.std.proofs.lemmas.Option.{slice_get_read}
use Rattle.std.proofs.lemmas.Result.{err_from_is_err_and}
use Rattle.nbd_commands.specs.Exports.{Export}
use Rattle.nbd_commands.specs.Terms.{terms_of}
use Rattle.nbd_options.specs.Exports.{ExportFacts}
use Rattle.nbd_session.specs.Requests.{Serves, opened}
use Rattle.nbd_session.specs.Outcomes.{Converses, IsTold}
use Rattle.nbd_session.specs.Conversation.{Handshake, IsEntryTold, IsGiven, facts_of, Talked}
use Rattle.nbd_session.proofs.OutcomeLemmas.{Converses-after}
use Rattle.nbd_session.proofs.SomeConversation.{some_talk}
use Rattle.nbd_session.proofs.TalkLemmas.{shake_fault, shake_out, shake_in, never_refused, nothing_yet, entered_place}
use Rattle.nbd_session.proofs.single_client.talk.Goals as goal

pub returns-in_err-table-clause-conversation : goal.returns-in_err-table-clause-conversation
returns-in_err-table-clause-conversation g c =
    let p = err_from_is_err_and c.from_residual.result c.from_residual.ensures.1 in
    let exports = c.args.config.now.exports in
    rw (p.1, p.2) (nothing_yet exports (g.R.Read.remaining c.args.reader.now.inner) (g.W.Write.contents c.args.writer.now.inner) (some_talk exports [] (λ i. omega arith)))

pub returns-in_err-end-clause-conversation : goal.returns-in_err-end-clause-conversation
returns-in_err-end-clause-conversation g c =
    let p = err_from_is_err_and c.from_residual-in_err-end.result c.from_residual-in_err-end.ensures.1 in
    let exports = c.args.config.now.exports in
    let i0 = g.R.Read.remaining c.args.reader.now.inner in
    let i1 = g.R.Read.remaining c.haggle.new.reader.inner in
    let o0 = g.W.Write.contents c.args.writer.now.inner in
    let o1 = g.W.Write.contents c.haggle.new.writer.inner in
    let same : c.in_ok-table.table ≡ map facts_of exports = c.in_ok-table.ensures ∙ ap (λ (x : List Export). map facts_of x) c.exports.ensures.value in
    let shaken : Converses IsEntryTold (Handshake IsGiven (map facts_of exports)) i0 i1 o0 o1 (Err c.in_err-end.field-0.0) =
    subst (λ (t : List ExportFacts). Converses IsEntryTold (Handshake IsGiven t) i0 i1 o0 o1 (Err c.in_err-end.field-0.0)) same c.in_err-end.ensures.conversation in
    rw (p.1, p.2) (shake_fault exports i0 i1 o0 o1 c.in_err-end.field-0.0 shaken)

pub returns-in-Out-clause-conversation : goal.returns-in-Out-clause-conversation
returns-in-Out-clause-conversation g c =
    let exports = c.args.config.now.exports in
    let i0 = g.R.Read.remaining c.args.reader.now.inner in
    let i1 = g.R.Read.remaining c.haggle.new.reader.inner in
    let o0 = g.W.Write.contents c.args.writer.now.inner in
    let o1 = g.W.Write.contents c.haggle.new.writer.inner in
    let same : c.in_ok-table.table ≡ map facts_of exports = c.in_ok-table.ensures ∙ ap (λ (x : List Export). map facts_of x) c.exports.ensures.value in
    let shaken : Converses IsEntryTold (Handshake IsGiven (map facts_of exports)) i0 i1 o0 o1 (Ok c.in_ok-end.field-0) =
    subst (λ (t : List ExportFacts). Converses IsEntryTold (Handshake IsGiven t) i0 i1 o0 o1 (Ok c.in_ok-end.field-0)) same c.in_ok-end.ensures.conversation in
    shake_out exports i0 i1 o0 o1 c.in_ok-end.field-0 c.in-Out.end c.in-Out.is shaken

pub offset_bounds-exports-export : goal.offset_bounds-exports-export
offset_bounds-exports-export g c =
    let exports = c.args.config.now.exports in
    let i0 = g.R.Read.remaining c.args.reader.now.inner in
    let i1 = g.R.Read.remaining c.haggle.new.reader.inner in
    let o0 = g.W.Write.contents c.args.writer.now.inner in
    let o1 = g.W.Write.contents c.haggle.new.writer.inner in
    let same : c.in_ok-table.table ≡ map facts_of exports = c.in_ok-table.ensures ∙ ap (λ (x : List Export). map facts_of x) c.exports.ensures.value in
    let shaken : Converses IsEntryTold (Handshake IsGiven (map facts_of exports)) i0 i1 o0 o1 (Ok c.in_ok-end.field-0) =
    subst (λ (t : List ExportFacts). Converses IsEntryTold (Handshake IsGiven t) i0 i1 o0 o1 (Ok c.in_ok-end.field-0)) same c.in_ok-end.ensures.conversation in
    omega (arith, entered_place exports i0 i1 o0 o1 c.in_ok-end.field-0 c.in-In.export c.in-In.is shaken, ap length c.exports-in-In.ensures.value)

pub bounds-exports-export : goal.bounds-exports-export
bounds-exports-export g c =
    let exports = c.args.config.now.exports in
    let i0 = g.R.Read.remaining c.args.reader.now.inner in
    let i1 = g.R.Read.remaining c.haggle.new.reader.inner in
    let o0 = g.W.Write.contents c.args.writer.now.inner in
    let o1 = g.W.Write.contents c.haggle.new.writer.inner in
    let same : c.in_ok-table.table ≡ map facts_of exports = c.in_ok-table.ensures ∙ ap (λ (x : List Export). map facts_of x) c.exports.ensures.value in
    let shaken : Converses IsEntryTold (Handshake IsGiven (map facts_of exports)) i0 i1 o0 o1 (Ok c.in_ok-end.field-0) =
    subst (λ (t : List ExportFacts). Converses IsEntryTold (Handshake IsGiven t) i0 i1 o0 o1 (Ok c.in_ok-end.field-0)) same c.in_ok-end.ensures.conversation in
    omega (arith, entered_place exports i0 i1 o0 o1 c.in_ok-end.field-0 c.in-In.export c.in-In.is shaken, ap length c.exports-in-In.ensures.value)

pub returns-in-In-clause-conversation : goal.returns-in-In-clause-conversation
returns-in-In-clause-conversation g c =
    let exports = c.args.config.now.exports in
    let i0 = g.R.Read.remaining c.args.reader.now.inner in
    let i1 = g.R.Read.remaining c.haggle.new.reader.inner in
    let o0 = g.W.Write.contents c.args.writer.now.inner in
    let o1 = g.W.Write.contents c.haggle.new.writer.inner in
    let same : c.in_ok-table.table ≡ map facts_of exports = c.in_ok-table.ensures ∙ ap (λ (x : List Export). map facts_of x) c.exports.ensures.value in
    let shaken : Converses IsEntryTold (Handshake IsGiven (map facts_of exports)) i0 i1 o0 o1 (Ok c.in_ok-end.field-0) =
    subst (λ (t : List ExportFacts). Converses IsEntryTold (Handshake IsGiven t) i0 i1 o0 o1 (Ok c.in_ok-end.field-0)) same c.in_ok-end.ensures.conversation in
    let i2 = g.R.Read.remaining c.transmit.new.reader.inner in
    let o2 = g.W.Write.contents c.transmit.new.writer.inner in
    let x = c.index-exports-export.result in
    let within = entered_place exports i0 i1 o0 o1 c.in_ok-end.field-0 c.in-In.export c.in-In.is shaken in
    let at : slice_get exports c.in-In.export ≡ Some x =
    subst (λ (xs : List Export). slice_get xs c.in-In.export ≡ Some x) c.exports-in-In.ensures.value
    (slice_get_read c.exports-in-In.result.now (length c.exports-in-In.result.now) c.in-In.export x refl (omega (arith, within, ap length c.exports-in-In.ensures.value)) c.index-exports-export.is) in
    Converses-after IsTold (Talked exports) (Serves (terms_of x) (opened (terms_of x))) i0 i1 i2 o0 o1 o2 c.transmit.result
    (shake_in exports i0 i1 o0 o1 c.in_ok-end.field-0 c.in-In.export x c.in-In.is at shaken) c.transmit.ensures.conversation

pub returns-clause-conversation : goal.returns-clause-conversation
returns-clause-conversation g c =
    let exports = c.args.config.now.exports in
    let i0 = g.R.Read.remaining c.args.reader.now.inner in
    let i1 = g.R.Read.remaining c.haggle.new.reader.inner in
    let o0 = g.W.Write.contents c.args.writer.now.inner in
    let o1 = g.W.Write.contents c.haggle.new.writer.inner in
    let same : c.in_ok-table.table ≡ map facts_of exports = c.in_ok-table.ensures ∙ ap (λ (x : List Export). map facts_of x) c.exports.ensures.value in
    let shaken : Converses IsEntryTold (Handshake IsGiven (map facts_of exports)) i0 i1 o0 o1 (Ok c.in_ok-end.field-0) =
    subst (λ (t : List ExportFacts). Converses IsEntryTold (Handshake IsGiven t) i0 i1 o0 o1 (Ok c.in_ok-end.field-0)) same c.in_ok-end.ensures.conversation in
    absurd (never_refused exports i0 i1 o0 o1 c.in_ok-end.field-0 c.in-Refused.is shaken)
