use Rattle.std.proofs.Common.{subst, ◌<◌, length, ap, sym, ◌∙◌}
use Rattle.std.specs.FinMap as fin
use Rattle.export_queue.specs.Queue.{Queue, after_pick, IsFresh}
use Rattle.export_queue.proofs.Rows.{pick_view, free_slot, rows_of-put, IsQueue-pick, front_length, fresh_first}
use Rattle.export_queue.proofs.ExportQueue.pick.Goals as goal

pub invariant_of-self-2 : goal.invariant_of-self-2
invariant_of-self-2 g c =
    let i = c.self.inside in
    let e = c.insert_reserved-slot.ensures in
    IsQueue-pick i.out _ i.picked (length i.ring.items) _ i.inflight c.insert_reserved-slot.result c.in-Some.item c.self.invariant e.was_vacant e.updates e.len e.capacity
    (front_length i.ring c.pop_front.new.self c.in-Some.item c.in-Some.ensures.value c.in-Some.ensures.items)
    (subst (λ (q : Queue g.row.T.Denot). fin.len q.out < q.inflight) (sym c.self.view_is) c.requires)

pub returns-clause-some : goal.returns-clause-some
returns-clause-some g c =
    let i = c.self.inside in
    let e = c.insert_reserved-slot.ensures in
    let is = c.self.invariant in (
      rw (← c.self.view_is) (free_slot i.out i.ring i.picked i.inflight c.insert_reserved-slot.result e.was_vacant),
      pick_view i.ring c.pop_front.new.self i.out c.insert_reserved-slot.new.self c.in-Some.item i.picked i.inflight c.insert_reserved-slot.result c.in-Some.ensures.value c.in-Some.ensures.items
          (rows_of-put i.out _ c.insert_reserved-slot.result i.picked c.in-Some.item is.differ is.below e.was_vacant e.updates)
          ∙ ap (λ (q : Queue g.row.T.Denot). after_pick q c.insert_reserved-slot.result) c.self.view_is,
    )

pub returns-clause-fresh : goal.returns-clause-fresh
returns-clause-fresh g c =
    let i = c.self.inside in
    subst (λ (q : Queue g.row.T.Denot). IsFresh q) c.self.view_is (fresh_first i.ring i.out i.picked _ i.inflight c.self.invariant)
