use Rattle.std.proofs.Common.{◌≡◌, [], length, take, ℕ, Ok, Err, arith, sym, refl, ap, subst, ◌∙◌}
use Rattle.std.specs.Int.{w32, to_be_bytes}
use Rattle.std.proofs.lemmas.List.{length-take, append-nil}
use Rattle.std.proofs.lemmas.Result.{err_from_is_err_and}
use Rattle.std.specs.Io.KnownBytes.{Appends, Consumes}
use Rattle.nbd_options.specs.Haggled.{greeting_text}
use Rattle.nbd_session.specs.declared.outcomes.End.TheVariants as ends
use Rattle.nbd_session.specs.declared.outcomes.Entry.TheVariants as entries
use Rattle.nbd_session.specs.declared.outcomes.TalkFault.TheVariants as faults
use Rattle.nbd_stream.specs.Streams.{WritesPart}
use Rattle.nbd_session.specs.Conversation.{Handshake, HagglesOn, IsEntryTold}
use Rattle.nbd_stream.proofs.BufferLemmas.{Consumes-none}
use Rattle.nbd_session.proofs.OutcomeLemmas.{Converses-after}
use Rattle.nbd_session.proofs.GreetLemmas.{greet_fault, flags_stop, flags_fault, flags_going}
use Rattle.nbd_session.proofs.AskingLemmas.{asks_for_none, asks_behind_flags}
use Rattle.nbd_session.proofs.haggling.haggle.Goals as goal

pub returns-in_err-put-clause-conversation : goal.returns-in_err-put-clause-conversation
returns-in_err-put-clause-conversation g c =
    let p = err_from_is_err_and c.from_residual.result c.from_residual.ensures.1 in
    let i0 = g.R.Read.remaining c.args.reader.now.inner in
    let o0 = g.W.Write.contents c.args.writer.now.inner in
    let o1 = g.W.Write.contents c.put.new.writer.inner in
    rw (p.1, p.2) (greet_fault g.T.Attach.may c.args.table.now i0 o0 o1 (subst (WritesPart o0 o1) c.greeting.ensures c.in_err-put.ensures.err))

pub returns-in_err-put-clause-asked : goal.returns-in_err-put-clause-asked
returns-in_err-put-clause-asked g c =
    let p = err_from_is_err_and c.from_residual.result c.from_residual.ensures.1 in
    rw (p.1, p.2) (asks_for_none g.T.Attach.may c.args.table.now (g.T.Attach.askings c.args.attach.now) (g.R.Read.remaining c.args.reader.now.inner) (g.R.Read.remaining c.args.reader.now.inner) [] (Err faults.WriteFailed)
    (Consumes-none (g.R.Read.remaining c.args.reader.now.inner)) (omega arith) tt)

pub returns-in-Ended-eq0-clause-conversation : goal.returns-in-Ended-eq0-clause-conversation
returns-in-Ended-eq0-clause-conversation g c =
    let may = g.T.Attach.may in
    let table = c.args.table.now in
    let i0 = g.R.Read.remaining c.args.reader.now.inner in
    let i1 = g.R.Read.remaining c.fill.new.reader.inner in
    let o0 = g.W.Write.contents c.args.writer.now.inner in
    let o1 = g.W.Write.contents c.put.new.writer.inner in
    let gave : Appends o0 o1 greeting_text = subst (Appends o0 o1) c.greeting.ensures c.in_ok-put.ensures.ok in
    let none : take c.in-Ended-eq0.field-0 c.fill.new.buf ≡ [] = ap (λ (n : ℕ). take n c.fill.new.buf) c.in-Ended-eq0.field-0-test in
    flags_stop may table i0 i1 o0 o1 [] ends.Over gave (subst (Consumes i0 i1) none c.in-Ended-eq0.ensures.1) refl c.in-Ended-eq0.ensures.2

pub returns-in-Ended-eq0-clause-asked : goal.returns-in-Ended-eq0-clause-asked
returns-in-Ended-eq0-clause-asked g c =
    asks_for_none g.T.Attach.may c.args.table.now (g.T.Attach.askings c.args.attach.now) (g.R.Read.remaining c.args.reader.now.inner) (g.R.Read.remaining c.fill.new.reader.inner) (take c.in-Ended-eq0.field-0 c.fill.new.buf) (Ok (entries.Out ends.Over))
    c.in-Ended-eq0.ensures.1 (omega (arith, length-take c.in-Ended-eq0.field-0 c.fill.new.buf, c.fill.auto.buf)) tt

pub returns-in-Ended-clause-conversation : goal.returns-in-Ended-clause-conversation
returns-in-Ended-clause-conversation g c =
    let may = g.T.Attach.may in
    let table = c.args.table.now in
    let i0 = g.R.Read.remaining c.args.reader.now.inner in
    let i1 = g.R.Read.remaining c.fill.new.reader.inner in
    let o0 = g.W.Write.contents c.args.writer.now.inner in
    let o1 = g.W.Write.contents c.put.new.writer.inner in
    let gave : Appends o0 o1 greeting_text = subst (Appends o0 o1) c.greeting.ensures c.in_ok-put.ensures.ok in
    let part = take c.in-Ended.field-0 c.fill.new.buf in
    let len : length part ≡ c.in-Ended.field-0 = omega (arith, length-take c.in-Ended.field-0 c.fill.new.buf, c.in-Ended.ensures.0) in
    flags_stop may table i0 i1 o0 o1 part ends.Cut gave c.in-Ended.ensures.1 (omega (arith, len, c.in-Ended.field-0-test.1), omega (arith, len, c.in-Ended.ensures.0, c.fill.auto.buf)) c.in-Ended.ensures.2

pub returns-in-Ended-clause-asked : goal.returns-in-Ended-clause-asked
returns-in-Ended-clause-asked g c =
    asks_for_none g.T.Attach.may c.args.table.now (g.T.Attach.askings c.args.attach.now) (g.R.Read.remaining c.args.reader.now.inner) (g.R.Read.remaining c.fill.new.reader.inner) (take c.in-Ended.field-0 c.fill.new.buf) (Ok (entries.Out ends.Cut))
    c.in-Ended.ensures.1 (omega (arith, length-take c.in-Ended.field-0 c.fill.new.buf, c.fill.auto.buf)) tt

pub returns-in-Failed-clause-conversation : goal.returns-in-Failed-clause-conversation
returns-in-Failed-clause-conversation g c =
    let may = g.T.Attach.may in
    let table = c.args.table.now in
    let i0 = g.R.Read.remaining c.args.reader.now.inner in
    let i1 = g.R.Read.remaining c.fill.new.reader.inner in
    let o0 = g.W.Write.contents c.args.writer.now.inner in
    let o1 = g.W.Write.contents c.put.new.writer.inner in
    let gave : Appends o0 o1 greeting_text = subst (Appends o0 o1) c.greeting.ensures c.in_ok-put.ensures.ok in
    let part = take c.in-Failed.field-0 c.fill.new.buf in
    flags_fault may table i0 i1 o0 o1 part gave c.in-Failed.ensures.1 (omega (arith, length-take c.in-Failed.field-0 c.fill.new.buf, c.in-Failed.ensures.0, c.fill.auto.buf))

pub returns-in-Failed-clause-asked : goal.returns-in-Failed-clause-asked
returns-in-Failed-clause-asked g c =
    asks_for_none g.T.Attach.may c.args.table.now (g.T.Attach.askings c.args.attach.now) (g.R.Read.remaining c.args.reader.now.inner) (g.R.Read.remaining c.fill.new.reader.inner) (take c.in-Failed.field-0 c.fill.new.buf) (Err faults.ReadFailed)
    c.in-Failed.ensures.1 (omega (arith, length-take c.in-Failed.field-0 c.fill.new.buf, c.fill.auto.buf)) tt

pub returns-in_default-clause-conversation : goal.returns-in_default-clause-conversation
returns-in_default-clause-conversation g c =
    let may = g.T.Attach.may in
    let table = c.args.table.now in
    let i0 = g.R.Read.remaining c.args.reader.now.inner in
    let i1 = g.R.Read.remaining c.fill.new.reader.inner in
    let o0 = g.W.Write.contents c.args.writer.now.inner in
    let o1 = g.W.Write.contents c.put.new.writer.inner in
    let gave : Appends o0 o1 greeting_text = subst (Appends o0 o1) c.greeting.ensures c.in_ok-put.ensures.ok in
    flags_stop may table i0 i1 o0 o1 c.fill.new.buf ends.BadFlags gave c.in-Whole.ensures.0
    (c.flags_of.result, [], c.flags_of.ensures ∙ sym (append-nil (to_be_bytes w32 c.flags_of.result)), c.flags_of.type_inv, sym c.no_zeroes.ensures ∙ c.in_default.is) tt

pub returns-in_default-clause-asked : goal.returns-in_default-clause-asked
returns-in_default-clause-asked g c =
    asks_for_none g.T.Attach.may c.args.table.now (g.T.Attach.askings c.args.attach.now) (g.R.Read.remaining c.args.reader.now.inner) (g.R.Read.remaining c.fill.new.reader.inner) c.fill.new.buf (Ok (entries.Out ends.BadFlags))
    c.in-Whole.ensures.0 (omega (arith, c.fill.auto.buf)) tt

pub returns-clause-conversation : goal.returns-clause-conversation
returns-clause-conversation g c =
    let may = g.T.Attach.may in
    let table = c.args.table.now in
    let i0 = g.R.Read.remaining c.args.reader.now.inner in
    let i1 = g.R.Read.remaining c.fill.new.reader.inner in
    let o0 = g.W.Write.contents c.args.writer.now.inner in
    let o1 = g.W.Write.contents c.put.new.writer.inner in
    let gave : Appends o0 o1 greeting_text = subst (Appends o0 o1) c.greeting.ensures c.in_ok-put.ensures.ok in
    let i2 = g.R.Read.remaining c.options.new.reader.inner in
    let o2 = g.W.Write.contents c.options.new.writer.inner in
    Converses-after IsEntryTold (Handshake may table) (HagglesOn may table c.in-Some.bare 0) i0 i1 i2 o0 o1 o2 c.options.result
    (flags_going may table i0 i1 o0 o1 c.fill.new.buf c.flags_of.result c.in-Some.bare gave c.in-Whole.ensures.0 c.flags_of.ensures c.flags_of.type_inv (sym c.no_zeroes.ensures ∙ c.in-Some.is))
    c.options.ensures.conversation

pub returns-clause-asked : goal.returns-clause-asked
returns-clause-asked g c =
    asks_behind_flags g.T.Attach.may c.args.table.now c.in-Some.bare (g.T.Attach.askings c.args.attach.now) (g.T.Attach.askings c.options.new.attach)
    (g.R.Read.remaining c.args.reader.now.inner) (g.R.Read.remaining c.fill.new.reader.inner) (g.R.Read.remaining c.options.new.reader.inner)
    c.fill.new.buf c.flags_of.result c.options.result c.in-Whole.ensures.0 c.flags_of.ensures (sym c.no_zeroes.ensures ∙ c.in-Some.is) c.options.ensures.asked
