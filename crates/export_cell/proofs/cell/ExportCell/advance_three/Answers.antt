use Rattle.std.proofs.Common.{◌≡◌, ◌+◌, ◌≤◌, ◌++◌, length, sym, ap, refl, subst, ◌∙◌, arith}
use Rattle.step_log.specs.declared.rest.Rest.{Rest}
use Rattle.export_cell.specs.Based.{whole_of}
use Rattle.export_cell.specs.Past.{serving}
use Rattle.export_cell.specs.Journal.{IsCell}
use Rattle.step_log.specs.Log.{StepLog, rest_steps, steps_of, room_of}
use Rattle.export_cell.proofs.Logs.{cell-advance-all}
use Rattle.export_cell.proofs.cell.ExportCell.advance_three.Goals as goal

pub invariant_of-self-2 : goal.invariant_of-self-2
invariant_of-self-2 g c =
    let i = c.self.inside in
    let new = c.add_serving.new.self in
    let behind = i.log.behind in
    let made = c.in-Some.ensures.made in
    let split : steps_of i.log ≡ serving c.in-Serving.number c.in-Serving.session ++ behind = ap (λ (r : Rest). rest_steps r ++ behind) (sym c.rest.ensures ∙ c.in-Serving.is) in
    let fewer = ap length split in
    let room : room_of i.log ≤ (length behind + i.log.spare) + 3 = omega arith in
    subst (λ (v : StepLog). IsCell i.live (whole_of new) (steps_of v) i.payload (room_of v)) (sym c.set_rest.ensures)
    (cell-advance-all i.live (whole_of i.base) (whole_of new) (serving c.in-Serving.number c.in-Serving.session) (steps_of i.log) behind i.payload (room_of i.log) (length behind + i.log.spare)
    c.self.invariant split made.state made.terms made.inflight refl room)
