use Rattle.std.proofs.Common.{◌≡◌, ap, ◌∙◌}
use Rattle.std.proofs.lemmas.Result.{err_from_is_err_and}
use Rattle.nbd_options.specs.Counting.{Counting}
use Rattle.nbd_options.specs.Replies.{ClientOption}
use Rattle.nbd_options.specs.Haggled.{Said}
use Rattle.nbd_session.proofs.HaggleLemmas.{may_after, asked_after, nothing_said, part_said, all_said, said_is}
use Rattle.nbd_session.proofs.haggling.answer.Goals as goal

pub returns-in_err-replies-clause-answered : goal.returns-in_err-replies-clause-answered
returns-in_err-replies-clause-answered g c =
    let p = err_from_is_err_and c.from_residual.result c.from_residual.ensures.1 in
    let may = g.T.Attach.may in
    let table = c.args.table.now in
    let o : ClientOption = record { number = c.args.number; content = c.args.content.now } in
    let answer = c.attached_to-attached.result in
    let old = g.T.Attach.askings c.args.attach.now in
    let new = g.T.Attach.askings c.attached_to-attached.new.attach in
    let same : c.new-haggle.result.table ≡ table = ap (λ (h : Counting). h.table) c.new-haggle.ensures in
    rw (p.1, p.2) (nothing_said may table c.args.bare o answer old new (g.W.Write.contents c.args.writer.now.inner)
    (may_after may table c.args.bare o answer c.new-haggle.result c.next-next.result same c.next-next.ensures.value c.attached_to-attached.ensures.may)
    (asked_after may table c.args.bare o answer old new c.new-haggle.result c.next-next.result same c.next-next.ensures.value c.attached_to-attached.ensures.noted))

pub returns-in_err-text-clause-answered : goal.returns-in_err-text-clause-answered
returns-in_err-text-clause-answered g c =
    let p = err_from_is_err_and c.from_residual-in_err-text.result c.from_residual-in_err-text.ensures.1 in
    let may = g.T.Attach.may in
    let table = c.args.table.now in
    let o : ClientOption = record { number = c.args.number; content = c.args.content.now } in
    let answer = c.attached_to-attached.result in
    let old = g.T.Attach.askings c.args.attach.now in
    let new = g.T.Attach.askings c.attached_to-attached.new.attach in
    let same : c.new-haggle.result.table ≡ table = ap (λ (h : Counting). h.table) c.new-haggle.ensures in
    rw (p.1, p.2) (nothing_said may table c.args.bare o answer old new (g.W.Write.contents c.args.writer.now.inner)
    (may_after may table c.args.bare o answer c.new-haggle.result c.next-next.result same c.next-next.ensures.value c.attached_to-attached.ensures.may)
    (asked_after may table c.args.bare o answer old new c.new-haggle.result c.next-next.result same c.next-next.ensures.value c.attached_to-attached.ensures.noted))

pub returns-in_err-put-clause-answered : goal.returns-in_err-put-clause-answered
returns-in_err-put-clause-answered g c =
    let p = err_from_is_err_and c.from_residual-in_err-put.result c.from_residual-in_err-put.ensures.1 in
    let may = g.T.Attach.may in
    let table = c.args.table.now in
    let o : ClientOption = record { number = c.args.number; content = c.args.content.now } in
    let answer = c.attached_to-attached.result in
    let old = g.T.Attach.askings c.args.attach.now in
    let new = g.T.Attach.askings c.attached_to-attached.new.attach in
    let same : c.new-haggle.result.table ≡ table = ap (λ (h : Counting). h.table) c.new-haggle.ensures in
    let is = said_is may table c.args.bare o answer c.new-haggle.result c.in_ok-replies.next c.deref.result.now same c.in_ok-replies.ensures.next (c.deref.ensures.value ∙ c.in_ok-replies.ensures.replies) in
    rw (p.1, p.2) (part_said may table c.args.bare o answer old new (g.W.Write.contents c.args.writer.now.inner) (g.W.Write.contents c.put.new.writer.inner) c.deref-2.result.now
    (may_after may table c.args.bare o answer c.new-haggle.result c.next-next.result same c.next-next.ensures.value c.attached_to-attached.ensures.may)
    (asked_after may table c.args.bare o answer old new c.new-haggle.result c.next-next.result same c.next-next.ensures.value c.attached_to-attached.ensures.noted)
    (c.deref-2.ensures.value ∙ (c.in_ok-text.ensures.text ∙ ap (λ (s : Said). s.text) is)) c.in_err-put.ensures.err)

pub returns-clause-answered : goal.returns-clause-answered
returns-clause-answered g c =
    let may = g.T.Attach.may in
    let table = c.args.table.now in
    let o : ClientOption = record { number = c.args.number; content = c.args.content.now } in
    let answer = c.attached_to-attached.result in
    let old = g.T.Attach.askings c.args.attach.now in
    let new = g.T.Attach.askings c.attached_to-attached.new.attach in
    let same : c.new-haggle.result.table ≡ table = ap (λ (h : Counting). h.table) c.new-haggle.ensures in
    let is = said_is may table c.args.bare o answer c.new-haggle.result c.in_ok-replies.next c.deref.result.now same c.in_ok-replies.ensures.next (c.deref.ensures.value ∙ c.in_ok-replies.ensures.replies) in
    all_said may table c.args.bare o answer old new (g.W.Write.contents c.args.writer.now.inner) (g.W.Write.contents c.put.new.writer.inner) c.deref-2.result.now c.in_ok-text.end
    (may_after may table c.args.bare o answer c.new-haggle.result c.next-next.result same c.next-next.ensures.value c.attached_to-attached.ensures.may)
    (asked_after may table c.args.bare o answer old new c.new-haggle.result c.next-next.result same c.next-next.ensures.value c.attached_to-attached.ensures.noted)
    (c.deref-2.ensures.value ∙ (c.in_ok-text.ensures.text ∙ ap (λ (s : Said). s.text) is)) (c.in_ok-text.ensures.end ∙ ap (λ (s : Said). s.end) is) c.in_ok-put.ensures.ok
