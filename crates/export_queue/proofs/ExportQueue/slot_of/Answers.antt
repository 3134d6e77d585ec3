use Rattle.std.proofs.Common.{ℕ, ap, sym, inl, inr, ◌∙◌, refl, arith}
use Rattle.std.specs.FinMap as fin
use Rattle.slab.proofs.SlabLemmas.{Contains-cons, Contains-cons_cases, Contains-entries}
use Rattle.export_queue.specs.declared.Numbered.{Numbered}
use Rattle.export_queue.specs.Queue.{Queue, slot_in}
use Rattle.export_queue.proofs.Rows.{row_found, found_row, no_value}
use Rattle.export_queue.proofs.ExportQueue.slot_of.Goals as goal

pub loop-slot-init : goal.loop-slot-init
loop-slot-init g c =
    let left = c.into_iter-slot-iterator.ensures.into_iter_gives ∙ c.iter-slot-items.ensures.rest in
    let s = c.self.inside.out in
    let seen = λ (n : ℕ). ap (λ (q : Queue g.row.T.Denot). fin.get q.out n) c.self.view_is in (
      λ k x found. rw left ((Contains-entries s k _).1 (row_found s c.args.number k x (seen c.args.number ∙ found))),
      λ k r there. sym (seen r.number) ∙ found_row s c.self.invariant.differ r.number k r.item ((Contains-entries s k r).0 (rw left at there)),
    )

pub returns-then-entry-number : goal.returns-then-entry-number
returns-then-entry-number g c =
    let out = c.args.self.now.out in
    let held = c.loop-slot.invariant.1 c.in-Some.slot c.in-Some.entry.now (rw c.in-Some.ensures.steps (0, omega arith, refl)) in
    sym (ap slot_in (ap (λ n. fin.get out n) (sym c.if-entry-number.true) ∙ held))

pub loop-slot-preserved : goal.loop-slot-preserved
loop-slot-preserved g c =
    let at = c.in-Some.ensures.steps in (
      λ k x found. elim (Contains-cons_cases _ _ _ (rw at at (c.loop-slot.invariant.0 k x found))) [
        | inl same ↦ absurd (c.if-entry-number.false (ap (λ (e : ℕ × Numbered g.row.T.Denot). e.1.number) same))
        | inr rest ↦ rest
      ],
      λ k r there. c.loop-slot.invariant.1 k r (rw at (Contains-cons _ _ _ there)),
    )

pub returns : goal.returns
returns g c =
    sym (ap slot_in (no_value _ (λ p found.
    let left = rw c.in-None.ensures.steps.0 at (c.loop-slot.invariant.0 p.0 p.1 found) in
    absurd (omega (arith, left.1)))))
