use Rattle.std.proofs.Common.{◌≡◌, Some, None, ap, sym, ◌∙◌}
use Rattle.slab.specs.Slab.{get}
use Rattle.export_queue.specs.declared.Numbered.{Numbered}
use Rattle.export_queue.specs.Queue.{Queue, item_held}
use Rattle.export_queue.proofs.Rows.{out_some, out_none}
use Rattle.export_queue.proofs.ExportQueue.held.Goals as goal

pub returns-in_default : goal.returns-in_default
returns-in_default g c =
    sym (ap (λ (q : Queue g.row.T.Denot). item_held q c.args.slot c.args.number) (sym c.self.view_is)
    ∙ out_none c.self.inside.out c.args.slot c.args.number (λ x h. let bad : None ≡ Some (record { number = c.args.number; item = x }) = c.in_default.ensures ∙ h in absurd (cc)))

pub returns-then-row-number : goal.returns-then-row-number
returns-then-row-number g c =
    let here : get c.self.inside.out c.args.slot ≡ Some (record { number = c.args.number; item = c.in-Some.row.now.item }) =
    sym c.in-Some.ensures ∙ (λ i. Some (record { number = c.if-row-number.true i; item = c.in-Some.row.now.item })) in
    sym (ap (λ (q : Queue g.row.T.Denot). item_held q c.args.slot c.args.number) (sym c.self.view_is)
    ∙ out_some c.self.inside.out c.self.invariant.differ c.args.slot c.args.number c.in-Some.row.now.item here)

pub returns-else-row-number : goal.returns-else-row-number
returns-else-row-number g c =
    sym (ap (λ (q : Queue g.row.T.Denot). item_held q c.args.slot c.args.number) (sym c.self.view_is)
    ∙ out_none c.self.inside.out c.args.slot c.args.number (λ x h.
    let both : Some c.in-Some.row.now ≡ Some (record { number = c.args.number; item = x }) = c.in-Some.ensures ∙ h in
    let same : ◌≡◌ {A = Numbered g.row.T.Denot} c.in-Some.row.now (record { number = c.args.number; item = x }) = cc in
    absurd (c.if-row-number.false (ap (λ (r : Numbered g.row.T.Denot). r.number) same))))
