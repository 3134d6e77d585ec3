use Rattle.std.proofs.Common.{◌≡◌, Some, ap, sym, refl, ◌∙◌}
use Rattle.export_queue.specs.declared.Numbered.{Numbered}
use Rattle.export_queue.specs.Queue.{Queue, item_held, after_finish}
use Rattle.export_queue.proofs.Rows.{out_held, rows_of-remove, IsQueue-finish, finish_view}
use Rattle.export_queue.proofs.ExportQueue.finish.Goals as goal

pub remove-row-requires : goal.remove-row-requires
remove-row-requires g c =
    let e : item_held c.args.self.now c.args.slot c.args.number ≡ Some c.in-Some._item.now = sym c.in-Some.ensures in
    let h = out_held c.self.inside.out c.args.slot c.args.number c.in-Some._item.now (ap (λ (q : Queue g.row.T.Denot). item_held q c.args.slot c.args.number) c.self.view_is ∙ e) in
    rw h refl

pub invariant_of-self : goal.invariant_of-self
invariant_of-self g c =
    let e : item_held c.args.self.now c.args.slot c.args.number ≡ Some c.in-Some._item.now = sym c.in-Some.ensures in
    let h = out_held c.self.inside.out c.args.slot c.args.number c.in-Some._item.now (ap (λ (q : Queue g.row.T.Denot). item_held q c.args.slot c.args.number) c.self.view_is ∙ e) in
    let ends = c.remove-row.ensures in
    let i = c.self.inside in
    IsQueue-finish i.out _ i.picked _ i.inflight c.args.slot c.args.number c.in-Some._item.now c.self.invariant h ends.updates ends.len ends.capacity

pub returns-clause-item : goal.returns-clause-item
returns-clause-item g c =
    let e : item_held c.args.self.now c.args.slot c.args.number ≡ Some c.in-Some._item.now = sym c.in-Some.ensures in
    let h = out_held c.self.inside.out c.args.slot c.args.number c.in-Some._item.now (ap (λ (q : Queue g.row.T.Denot). item_held q c.args.slot c.args.number) c.self.view_is ∙ e) in
    let both : Some c.remove-row.result ≡ Some (record { number = c.args.number; item = c.in-Some._item.now }) = sym c.remove-row.ensures.value ∙ h in
    let one : ◌≡◌ {A = Numbered g.row.T.Denot} c.remove-row.result (record { number = c.args.number; item = c.in-Some._item.now }) = cc in
    ap (λ (r : Numbered g.row.T.Denot). Some r.item) one ∙ c.in-Some.ensures

pub returns-clause-some : goal.returns-clause-some
returns-clause-some g c =
    let e : item_held c.args.self.now c.args.slot c.args.number ≡ Some c.in-Some._item.now = sym c.in-Some.ensures in
    let h = out_held c.self.inside.out c.args.slot c.args.number c.in-Some._item.now (ap (λ (q : Queue g.row.T.Denot). item_held q c.args.slot c.args.number) c.self.view_is ∙ e) in
    let i = c.self.inside in
    finish_view i.ring i.out c.remove-row.new.self i.picked i.inflight c.args.number
    (rows_of-remove i.out _ c.args.slot c.args.number c.in-Some._item.now c.self.invariant.differ h c.remove-row.ensures.updates)
    ∙ ap (λ (q : Queue g.row.T.Denot). after_finish q c.args.number) c.self.view_is
