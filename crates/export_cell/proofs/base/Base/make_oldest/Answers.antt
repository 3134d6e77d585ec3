use Rattle.std.proofs.Common.{◌≡◌, List, ◌∷◌, ◌-◌, ap, sym, subst, ◌∙◌}
use Rattle.lone_export.specs.declared.step.Step.{Step}
use Rattle.step_log.specs.Steps.{kept_step, kept_log}
use Rattle.export_cell.specs.Based.{Based, IsBased, shorter}
use Rattle.export_cell.proofs.Kept.{goes_makes}
use Rattle.export_cell.proofs.Queues.{based-make, value-make}
use Rattle.export_cell.proofs.base.Base.make_oldest.Goals as goal

pub invariant_of-self-2 : goal.invariant_of-self-2
invariant_of-self-2 g c =
    let A = g.row.I-Alloc.Denot in
    let i = c.self.inside in
    let one = c.in-Some.step in
    let rest = kept_log c.pop_front.new.self.items in
    let split : kept_log i.queue.items ≡ kept_step one ∷ rest = ap (λ (xs : List (Step A)). kept_log xs) c.in-Some.ensures.items in
    subst (λ n. IsBased c.replay.new.self rest (i.payload - n)) (sym c.payload_of-bytes.ensures.bytes)
    (based-make i.replica c.replay.new.self (kept_step one) _ (goes_makes A i.replica c.replay.new.self one c.in_default-replay.ensures.ok) (kept_log i.queue.items) rest i.payload c.self.invariant split)

pub returns-clause-ok : goal.returns-clause-ok
returns-clause-ok g c =
    let A = g.row.I-Alloc.Denot in
    let i = c.self.inside in
    let one = c.in-Some.step in
    let rest = kept_log c.pop_front.new.self.items in
    let split : kept_log i.queue.items ≡ kept_step one ∷ rest = ap (λ (xs : List (Step A)). kept_log xs) c.in-Some.ensures.items in (
      value-make i.replica c.replay.new.self (kept_step one) _ (goes_makes A i.replica c.replay.new.self one c.in_default-replay.ensures.ok) (kept_log i.queue.items) rest split
          ∙ ap (λ (b : Based). shorter 1 b) c.self.view_is,
      c.work_of-work.ensures,
    )
