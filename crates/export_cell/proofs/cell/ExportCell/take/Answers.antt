use Rattle.std.proofs.Common.{◌∙◌, ap, refl, Ok}
use Rattle.lone_export.specs.Calls.{is_counted}
use Rattle.lone_export.specs.Lone.{step_answer_of_take}
use Rattle.lone_export.specs.declared.step.Step.TheVariants.{Take}
use Rattle.export_cell.specs.Based.{whole_of}
use Rattle.export_cell.specs.Journal.{Cell, noted}
use Rattle.step_log.specs.Log.{steps_of, room_of}
use Rattle.export_cell.proofs.Kept.{pushed, makes}
use Rattle.export_cell.proofs.Logs.{cell-light, room_for, spare_for}
use Rattle.export_cell.proofs.cell.ExportCell.take.Goals as goal

pub push-requires : goal.push-requires
push-requires g c =
    let i = c.self.inside in
    let does = makes g.row.I-Alloc.Denot i.live c.take.new.self (Take c.args.session) _ _ c.in-Ok-Reply.ensures.step (ap (λ t. is_counted (step_answer_of_take (Ok t))) c.in-Ok-Reply.field-0-is) in
    spare_for i.log (room_for i.live c.take.new.self (whole_of i.base) (steps_of i.log) (Take c.args.session) i.payload (room_of i.log) c.self.invariant does refl)

pub invariant_of-self : goal.invariant_of-self
invariant_of-self g c =
    let i = c.self.inside in
    let longer = c.push.new.self in
    let does = makes g.row.I-Alloc.Denot i.live c.take.new.self (Take c.args.session) _ _ c.in-Ok-Reply.ensures.step (ap (λ t. is_counted (step_answer_of_take (Ok t))) c.in-Ok-Reply.field-0-is) in
    cell-light i.live c.take.new.self (whole_of i.base) (steps_of i.log) (steps_of longer) (Take c.args.session) i.payload (room_of i.log) (room_of longer) c.self.invariant does (λ p. absurd (cc)) refl refl
    c.push.ensures.steps c.push.ensures.room

pub returns-in-Ok-Reply-clause-journal : goal.returns-in-Ok-Reply-clause-journal
returns-in-Ok-Reply-clause-journal g c =
    let i = c.self.inside in
    pushed i.base.state (steps_of i.log) (steps_of c.push.new.self) (Take c.args.session) c.push.ensures.steps ∙ ap (λ (v : Cell). noted (Take c.args.session) v.journal) c.self.view_is
