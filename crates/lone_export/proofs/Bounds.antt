-- What is true of every export, from its parts.
use Rattle.std.proofs.Common.{◌≡◌, ℕ, Option, Some, None, refl, sym, subst, ◌∙◌, arith}
use Rattle.std.specs.FinMap as fin
use Rattle.reply_box.specs.Box as box
use Rattle.export_queue.specs.Queue.{slot_in, IsInOrder}
use Rattle.lone_export.specs.Lone.{Whole, slot_at, IsInBounds}
use Rattle.lone_export.specs.Parts.{Parts, job_of, out_job, slot_of, whole_of, IsLone}
use Rattle.lone_export.specs.declared.row.Row.{Row}
use Rattle.std.proofs.lemmas.List.{length-map}
use Rattle.lone_export.proofs.Kept.{outstanding_is}
use Rattle.lone_export.proofs.Done.{slot_is}

module _ {A : Type 0} where
  in_slot : (o : Option (ℕ × Row A)) (slot : ℕ) → slot_in o ≡ Some slot → (row : Row A) × (o ≡ Some (slot, row))
  in_slot None slot h = absurd (cc)
  in_slot (Some r) slot h = let same : r.0 ≡ slot = cc in (r.1, λ i. Some (same i, r.1))

  slot_got : (p : Parts A) (n slot : ℕ) → IsLone p → slot_at (whole_of p) n ≡ Some slot → (row : Row A) × (fin.get p.queue.out n ≡ Some (slot, row))
  slot_got p n slot is h = in_slot (fin.get p.queue.out n) slot (slot_is p n (whole_of p) is refl ∙ h)

  pub lone_bounds : (p : Parts A) (w : Whole) → IsLone p → whole_of p ≡ w → IsInOrder p.queue → box.IsInBounds p.sessions → IsInBounds w
  lone_bounds p w is e queued boxed =
      subst IsInBounds e
      (record {
        slotted = length-map (fin.entries p.queue.out) slot_of ∙ sym (length-map (fin.entries p.queue.out) out_job);
        slots_differ = λ m n slot f g.
            let x = slot_got p m slot is f in
            let y = slot_got p n slot is g in
            queued.slots_differ m n slot x.0 y.0 x.1 y.1;
        sized = is.sized;
        few_wait = let a = length-map p.queue.waiting job_of in let b = queued.few_wait in omega arith;
        few_out =
            let a = length-map (fin.entries p.queue.out) out_job in
            let b = fin.len-entries p.queue.out in
            let c = queued.few_out in
            omega arith;
        few_outstanding = λ s here. let a = outstanding_is p s is here in let b = boxed.within s in omega arith;
        few_here = boxed.few;
        few_steps = let a = is.bounded.budget in let b = is.bounded.asked_few in omega arith;
      })
