use Rattle.std.proofs.Common.{◌≡◌, ◌+◌, ◌-◌, ◌≤◌, ◌++◌, ◌∷◌, List, length, sym, ap, subst, ◌∙◌, arith}
use Rattle.step_log.specs.declared.rest.Rest.{Rest}
use Rattle.export_cell.specs.Based.{whole_of}
use Rattle.step_log.specs.Steps.{KeptStep, kept_step, payload_of}
use Rattle.export_cell.specs.Journal.{IsCell}
use Rattle.step_log.specs.Log.{StepLog, rest_steps, steps_of, room_of}
use Rattle.export_cell.proofs.Logs.{cell-advance, oldest_logged}
use Rattle.export_cell.proofs.Queues.{follows_makes}
use Rattle.export_cell.proofs.cell.ExportCell.advance_one.Goals as goal

pub invariant_of-self-in-Some : goal.invariant_of-self-in-Some
invariant_of-self-in-Some g c =
    let i = c.self.inside in
    let new = c.add.new.self in
    let one = kept_step c.in-Some.step in
    let left = rest_steps c.in-Some.rest ++ i.log.behind in
    let split : steps_of i.log ≡ one ∷ left = ap (λ (r : Rest). rest_steps r ++ i.log.behind) (sym c.rest.ensures) ∙ ap (λ (l : List KeptStep). l ++ i.log.behind) c.in-Some.ensures.some in
    let fewer = ap length split in
    let room : room_of i.log ≤ (length left + i.log.spare) + 1 = omega arith in
    let light : payload_of one ≡ 0 = c.in-Some.ensures.light in
    let same : i.payload - payload_of one ≡ i.payload = omega arith in
    let logged = oldest_logged i.live (whole_of i.base) one (steps_of i.log) left i.payload (room_of i.log) c.self.invariant split in
    let does = follows_makes i.base new one c.in-Ok.ensures.ok logged.counted in
    let gone = cell-advance i.live (whole_of i.base) (whole_of new) one (steps_of i.log) left i.payload (room_of i.log) (length left + i.log.spare) c.self.invariant split does room in
    subst (λ (v : StepLog). IsCell i.live (whole_of new) (steps_of v) i.payload (room_of v)) (sym c.set_rest.ensures)
    (subst (λ n. IsCell i.live (whole_of new) left n (length left + i.log.spare)) same gone)

pub invariant_of-self-in-Ok-add : goal.invariant_of-self-in-Ok-add
invariant_of-self-in-Ok-add g c =
    let i = c.self.inside in
    let new = c.add-2.new.self in
    let log = c.pop.new.self in
    let one = kept_step c.in-Some-pop.step in
    let left = steps_of log in
    let none = ap rest_steps (sym c.rest.ensures) ∙ c.in_default.ensures.none in
    let split : steps_of i.log ≡ one ∷ left = ap (λ (l : List KeptStep). l ++ i.log.behind) none ∙ c.in-Some-pop.ensures.some in
    let fewer = ap length split in
    let spare = c.in-Some-pop.ensures.spare in
    let room : room_of i.log ≤ room_of log + 1 = omega arith in
    let logged = oldest_logged i.live (whole_of i.base) one (steps_of i.log) left i.payload (room_of i.log) c.self.invariant split in
    let does = follows_makes i.base new one c.in-Ok-add.ensures.ok logged.counted in
    subst (λ n. IsCell i.live (whole_of new) left (i.payload - n) (room_of log)) (sym c.payload_of-bytes.ensures.bytes)
    (cell-advance i.live (whole_of i.base) (whole_of new) one (steps_of i.log) left i.payload (room_of i.log) (room_of log) c.self.invariant split does room)
