use Rattle.std.proofs.Common.{◌≡◌, ◌+◌, ℕ, List, Ok, Err, Option, Some, None, arith, sym, refl, ap, subst, ◌∙◌}
use Rattle.std.proofs.lemmas.Result.{err_from_is_err_and}
use Rattle.nbd_options.specs.Counting.{Counting}
use Rattle.nbd_options.specs.declared.saying.HaggleEnd.{HaggleEnd}
use Rattle.nbd_options.specs.Replies.{ClientOption}
use Rattle.nbd_options.specs.Haggled.{Asked}
use Rattle.nbd_session.specs.declared.outcomes.Entry.TheVariants as entries
use Rattle.nbd_session.specs.Options.{IsAsked, entry_after, text_to}
use Rattle.nbd_session.specs.Outcomes.{Going}
use Rattle.nbd_session.specs.Conversation.{HagglesOn, IsEntryTold}
use Rattle.nbd_session.specs.Haggling.{Answers}
use Rattle.nbd_session.proofs.OutcomeLemmas.{Converses-after, Going-after, Going-start}
use Rattle.nbd_session.proofs.HaggleLemmas.{offer_fault, offer_stop, got_option, seen_one, asked_fault, asked_on, asked_left, same_said, told_after}
use Rattle.nbd_session.proofs.AskingLemmas.{asked_none, asked_more, asked_last_of, stopped_by_fault, stopped_by_end}
use Rattle.nbd_session.proofs.haggling.options.Goals as goal

pub loop-number-init : goal.loop-number-init
loop-number-init g c =
    let start = HagglesOn g.T.Attach.may c.args.table.now c.args.bare 0 in
    let i0 = g.R.Read.remaining c.args.reader.now.inner in
    let o0 = g.W.Write.contents c.args.writer.now.inner in
    let seen : c.new-haggle.result.seen ≡ 0 = ap (λ (h : Counting). h.seen) c.new-haggle.ensures in
    record {
      going = subst (λ (k : ℕ). Going start (HagglesOn g.T.Attach.may c.args.table.now c.args.bare k) i0 i0 o0 o0) (sym seen) (Going-start start i0 o0);
      few = omega (arith, seen);
      asked = asked_none g.T.Attach.may c.args.table.now c.args.bare (g.T.Attach.askings c.args.attach.now) i0 c.new-haggle.result.seen seen;
      read_kept = refl;
      write_kept = refl;
    }

pub returns-in_err-number-clause-conversation : goal.returns-in_err-number-clause-conversation
returns-in_err-number-clause-conversation g c =
    let p = err_from_is_err_and c.from_residual.result c.from_residual.ensures.1 in
    let may = g.T.Attach.may in
    let table = c.args.table.now in
    let bare = c.args.bare in
    let seen = c.loop-number.haggle.seen in
    let i0 = g.R.Read.remaining c.args.reader.now.inner in
    let i1 = g.R.Read.remaining c.loop-number.reader.inner in
    let i2 = g.R.Read.remaining c.read_option.new.reader.inner in
    let o0 = g.W.Write.contents c.args.writer.now.inner in
    let o1 = g.W.Write.contents c.loop-number.writer.inner in
    let start = HagglesOn may table bare 0 in
    let here = HagglesOn may table bare seen in
    rw (p.1, p.2) (Converses-after IsEntryTold start here i0 i1 i2 o0 o1 o1 (Err c.in_err-number.field-0.0) c.loop-number.invariant.going
    (offer_fault may table bare seen i1 i2 o1 c.in_err-number.field-0.0 c.loop-number.invariant.few c.in_err-number.ensures.taken))

pub returns-in_err-number-clause-asked : goal.returns-in_err-number-clause-asked
returns-in_err-number-clause-asked g c =
    let p = err_from_is_err_and c.from_residual.result c.from_residual.ensures.1 in
    let may = g.T.Attach.may in
    let table = c.args.table.now in
    let bare = c.args.bare in
    let seen = c.loop-number.haggle.seen in
    let l0 = g.T.Attach.askings c.args.attach.now in
    let l1 = g.T.Attach.askings c.loop-number.attach in
    let i0 = g.R.Read.remaining c.args.reader.now.inner in
    let i1 = g.R.Read.remaining c.loop-number.reader.inner in
    let i2 = g.R.Read.remaining c.read_option.new.reader.inner in
    rw (p.1, p.2) (stopped_by_fault may table bare l0 l1 i0 i1 i2 seen c.in_err-number.field-0.0 c.loop-number.invariant.asked c.in_err-number.ensures.taken)

pub returns-in-Stop-clause-conversation : goal.returns-in-Stop-clause-conversation
returns-in-Stop-clause-conversation g c =
    let may = g.T.Attach.may in
    let table = c.args.table.now in
    let bare = c.args.bare in
    let seen = c.loop-number.haggle.seen in
    let i0 = g.R.Read.remaining c.args.reader.now.inner in
    let i1 = g.R.Read.remaining c.loop-number.reader.inner in
    let i2 = g.R.Read.remaining c.read_option.new.reader.inner in
    let o0 = g.W.Write.contents c.args.writer.now.inner in
    let o1 = g.W.Write.contents c.loop-number.writer.inner in
    let start = HagglesOn may table bare 0 in
    let here = HagglesOn may table bare seen in
    Converses-after IsEntryTold start here i0 i1 i2 o0 o1 o1 (Ok (entries.Out c.in-Stop.end)) c.loop-number.invariant.going
    (offer_stop may table bare seen i1 i2 o1 c.in_ok-number.field-0 c.in-Stop.end c.loop-number.invariant.few c.in-Stop.is c.in_ok-number.ensures.taken)

pub returns-in-Stop-clause-asked : goal.returns-in-Stop-clause-asked
returns-in-Stop-clause-asked g c =
    let may = g.T.Attach.may in
    let table = c.args.table.now in
    let bare = c.args.bare in
    let seen = c.loop-number.haggle.seen in
    let l0 = g.T.Attach.askings c.args.attach.now in
    let l1 = g.T.Attach.askings c.loop-number.attach in
    let i0 = g.R.Read.remaining c.args.reader.now.inner in
    let i1 = g.R.Read.remaining c.loop-number.reader.inner in
    let i2 = g.R.Read.remaining c.read_option.new.reader.inner in
    stopped_by_end may table bare l0 l1 i0 i1 i2 seen c.in_ok-number.field-0 c.in-Stop.end c.loop-number.invariant.asked c.in-Stop.is c.in_ok-number.ensures.taken

pub returns-in_err-end-clause-conversation : goal.returns-in_err-end-clause-conversation
returns-in_err-end-clause-conversation g c =
    let p = err_from_is_err_and c.from_residual-in_err-end.result c.from_residual-in_err-end.ensures.1 in
    let may = g.T.Attach.may in
    let table = c.args.table.now in
    let bare = c.args.bare in
    let seen = c.loop-number.haggle.seen in
    let i0 = g.R.Read.remaining c.args.reader.now.inner in
    let i1 = g.R.Read.remaining c.loop-number.reader.inner in
    let i2 = g.R.Read.remaining c.read_option.new.reader.inner in
    let o0 = g.W.Write.contents c.args.writer.now.inner in
    let o1 = g.W.Write.contents c.loop-number.writer.inner in
    let start = HagglesOn may table bare 0 in
    let here = HagglesOn may table bare seen in
    let o2 = g.W.Write.contents c.answer.new.writer.inner in
    let l1 = g.T.Attach.askings c.loop-number.attach in
    let l2 = g.T.Attach.askings c.answer.new.attach in
    let n = c.in-Whole.number in
    let items = c.in-Whole.content.items in
    let got = got_option seen i1 i2 c.in_ok-number.field-0 n c.in-Whole.content c.in-Whole.is c.in_ok-number.ensures.taken in
    let o : ClientOption = record { number = n; content = items } in
    let done : Answers may table bare o l1 l2 o1 o2 (Err c.in_err-end.field-0.0) = subst (λ (t : List ℕ). Answers may table bare (record { number = n; content = t }) l1 l2 o1 o2 (Err c.in_err-end.field-0.0)) c.deref.ensures.value c.in_err-end.ensures.answered in
    let a : Asked = record { option = o; answer = done.answer } in
    let asked : IsAsked may table a = record { number = got.fits; short = got.short; answer = done.may_be } in
    rw (p.1, p.2) (Converses-after IsEntryTold start here i0 i1 i2 o0 o1 o2 (Err c.in_err-end.field-0.0) c.loop-number.invariant.going
    (asked_fault may table bare seen i1 i2 o1 o2 a c.in_err-end.field-0.0 asked got.few got.took done.said.1 done.said.0))

pub returns-in_err-end-clause-asked : goal.returns-in_err-end-clause-asked
returns-in_err-end-clause-asked g c =
    let p = err_from_is_err_and c.from_residual-in_err-end.result c.from_residual-in_err-end.ensures.1 in
    let may = g.T.Attach.may in
    let table = c.args.table.now in
    let bare = c.args.bare in
    let seen = c.loop-number.haggle.seen in
    let i0 = g.R.Read.remaining c.args.reader.now.inner in
    let i1 = g.R.Read.remaining c.loop-number.reader.inner in
    let i2 = g.R.Read.remaining c.read_option.new.reader.inner in
    let o1 = g.W.Write.contents c.loop-number.writer.inner in
    let o2 = g.W.Write.contents c.answer.new.writer.inner in
    let l0 = g.T.Attach.askings c.args.attach.now in
    let l1 = g.T.Attach.askings c.loop-number.attach in
    let l2 = g.T.Attach.askings c.answer.new.attach in
    let n = c.in-Whole.number in
    let items = c.in-Whole.content.items in
    let got = got_option seen i1 i2 c.in_ok-number.field-0 n c.in-Whole.content c.in-Whole.is c.in_ok-number.ensures.taken in
    let o : ClientOption = record { number = n; content = items } in
    let done : Answers may table bare o l1 l2 o1 o2 (Err c.in_err-end.field-0.0) = subst (λ (t : List ℕ). Answers may table bare (record { number = n; content = t }) l1 l2 o1 o2 (Err c.in_err-end.field-0.0)) c.deref.ensures.value c.in_err-end.ensures.answered in
    let a : Asked = record { option = o; answer = done.answer } in
    let asked : IsAsked may table a = record { number = got.fits; short = got.short; answer = done.may_be } in
    rw (p.1, p.2) (asked_last_of may table bare l0 l1 l2 i0 i1 i2 seen a (Err c.in_err-end.field-0.0) c.loop-number.invariant.asked got.took done.noted (asked, refl, done.said.0))

pub returns-in-Some-clause-conversation : goal.returns-in-Some-clause-conversation
returns-in-Some-clause-conversation g c =
    let may = g.T.Attach.may in
    let table = c.args.table.now in
    let bare = c.args.bare in
    let seen = c.loop-number.haggle.seen in
    let i0 = g.R.Read.remaining c.args.reader.now.inner in
    let i1 = g.R.Read.remaining c.loop-number.reader.inner in
    let i2 = g.R.Read.remaining c.read_option.new.reader.inner in
    let o0 = g.W.Write.contents c.args.writer.now.inner in
    let o1 = g.W.Write.contents c.loop-number.writer.inner in
    let start = HagglesOn may table bare 0 in
    let here = HagglesOn may table bare seen in
    let o2 = g.W.Write.contents c.answer.new.writer.inner in
    let l1 = g.T.Attach.askings c.loop-number.attach in
    let l2 = g.T.Attach.askings c.answer.new.attach in
    let n = c.in-Whole.number in
    let items = c.in-Whole.content.items in
    let got = got_option seen i1 i2 c.in_ok-number.field-0 n c.in-Whole.content c.in-Whole.is c.in_ok-number.ensures.taken in
    let o : ClientOption = record { number = n; content = items } in
    let done : Answers may table bare o l1 l2 o1 o2 (Ok (Some c.in-Some.end)) =
    subst (λ (t : List ℕ). Answers may table bare (record { number = n; content = t }) l1 l2 o1 o2 (Ok (Some c.in-Some.end))) c.deref.ensures.value
    (subst (λ (e : Option HaggleEnd). Answers may table bare (record { number = n; content = c.deref.result.now }) l1 l2 o1 o2 (Ok e)) c.in-Some.is c.in_ok-end.ensures.answered) in
    let a : Asked = record { option = o; answer = done.answer } in
    let asked : IsAsked may table a = record { number = got.fits; short = got.short; answer = done.may_be } in
    rw c.entry_after.ensures (Converses-after IsEntryTold start here i0 i1 i2 o0 o1 o2 (Ok (entry_after c.in-Some.end)) c.loop-number.invariant.going
    (asked_left may table bare seen i1 i2 o1 o2 a (text_to table bare a) c.in-Some.end asked got.few (same_said _ c.in-Some.end done.said.0) got.took done.said.1 (told_after i2 c.in-Some.end)))

pub returns-in-Some-clause-asked : goal.returns-in-Some-clause-asked
returns-in-Some-clause-asked g c =
    let may = g.T.Attach.may in
    let table = c.args.table.now in
    let bare = c.args.bare in
    let seen = c.loop-number.haggle.seen in
    let i0 = g.R.Read.remaining c.args.reader.now.inner in
    let i1 = g.R.Read.remaining c.loop-number.reader.inner in
    let i2 = g.R.Read.remaining c.read_option.new.reader.inner in
    let o1 = g.W.Write.contents c.loop-number.writer.inner in
    let o2 = g.W.Write.contents c.answer.new.writer.inner in
    let l0 = g.T.Attach.askings c.args.attach.now in
    let l1 = g.T.Attach.askings c.loop-number.attach in
    let l2 = g.T.Attach.askings c.answer.new.attach in
    let n = c.in-Whole.number in
    let items = c.in-Whole.content.items in
    let got = got_option seen i1 i2 c.in_ok-number.field-0 n c.in-Whole.content c.in-Whole.is c.in_ok-number.ensures.taken in
    let o : ClientOption = record { number = n; content = items } in
    let done : Answers may table bare o l1 l2 o1 o2 (Ok (Some c.in-Some.end)) =
    subst (λ (t : List ℕ). Answers may table bare (record { number = n; content = t }) l1 l2 o1 o2 (Ok (Some c.in-Some.end))) c.deref.ensures.value
    (subst (λ (e : Option HaggleEnd). Answers may table bare (record { number = n; content = c.deref.result.now }) l1 l2 o1 o2 (Ok e)) c.in-Some.is c.in_ok-end.ensures.answered) in
    let a : Asked = record { option = o; answer = done.answer } in
    let asked : IsAsked may table a = record { number = got.fits; short = got.short; answer = done.may_be } in
    rw c.entry_after.ensures (asked_last_of may table bare l0 l1 l2 i0 i1 i2 seen a (Ok (entry_after c.in-Some.end)) c.loop-number.invariant.asked got.took done.noted (asked, refl, c.in-Some.end, done.said.0, refl))

pub loop-number-preserved : goal.loop-number-preserved
loop-number-preserved g c =
    let may = g.T.Attach.may in
    let table = c.args.table.now in
    let bare = c.args.bare in
    let seen = c.loop-number.haggle.seen in
    let i0 = g.R.Read.remaining c.args.reader.now.inner in
    let i1 = g.R.Read.remaining c.loop-number.reader.inner in
    let i2 = g.R.Read.remaining c.read_option.new.reader.inner in
    let o0 = g.W.Write.contents c.args.writer.now.inner in
    let o1 = g.W.Write.contents c.loop-number.writer.inner in
    let start = HagglesOn may table bare 0 in
    let here = HagglesOn may table bare seen in
    let o2 = g.W.Write.contents c.answer.new.writer.inner in
    let l1 = g.T.Attach.askings c.loop-number.attach in
    let l2 = g.T.Attach.askings c.answer.new.attach in
    let n = c.in-Whole.number in
    let items = c.in-Whole.content.items in
    let got = got_option seen i1 i2 c.in_ok-number.field-0 n c.in-Whole.content c.in-Whole.is c.in_ok-number.ensures.taken in
    let o : ClientOption = record { number = n; content = items } in
    let done : Answers may table bare o l1 l2 o1 o2 (Ok None) =
    subst (λ (t : List ℕ). Answers may table bare (record { number = n; content = t }) l1 l2 o1 o2 (Ok None)) c.deref.ensures.value
    (subst (λ (e : Option HaggleEnd). Answers may table bare (record { number = n; content = c.deref.result.now }) l1 l2 o1 o2 (Ok e)) c.in_default.is c.in_ok-end.ensures.answered) in
    let a : Asked = record { option = o; answer = done.answer } in
    let asked : IsAsked may table a = record { number = got.fits; short = got.short; answer = done.may_be } in
    let next : c.read_option.new.haggle.seen ≡ seen + 1 = seen_one seen c.read_option.new.haggle.seen c.in_ok-number.field-0 n c.in-Whole.content c.in-Whole.is c.in_ok-number.ensures.seen in
    record {
      going = Going-after start here (HagglesOn may table bare c.read_option.new.haggle.seen) i0 i1 i2 o0 o1 o2 c.loop-number.invariant.going
          (subst (λ (k : ℕ). Going here (HagglesOn may table bare k) i1 i2 o1 o2) (sym next) (asked_on may table bare seen i1 i2 o1 o2 a (record { asked = asked; on = done.said.0 }) got.took done.said.1));
      few = omega (arith, got.few, next);
      asked = asked_more may table bare (g.T.Attach.askings c.args.attach.now) l1 l2 i0 i1 i2 seen c.read_option.new.haggle.seen a next c.loop-number.invariant.asked
          (record { asked = asked; on = done.said.0 }) got.took done.noted;
      read_kept = c.in_ok-number.ensures.kept ∙ c.loop-number.invariant.read_kept;
      write_kept = c.in_ok-end.ensures.kept ∙ c.loop-number.invariant.write_kept;
    }
