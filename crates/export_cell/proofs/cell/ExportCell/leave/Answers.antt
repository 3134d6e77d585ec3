use Rattle.std.proofs.Common.{◌∙◌, ap, refl}
use Rattle.lone_export.specs.declared.step.Step.TheVariants.{Leave}
use Rattle.export_cell.specs.Based.{whole_of}
use Rattle.export_cell.specs.Journal.{Cell, noted}
use Rattle.step_log.specs.Log.{steps_of, room_of}
use Rattle.export_cell.proofs.Kept.{pushed, makes}
use Rattle.export_cell.proofs.Logs.{cell-light, room_for, spare_for}
use Rattle.export_cell.proofs.cell.ExportCell.leave.Goals as goal

pub push-requires : goal.push-requires
push-requires g c =
    let i = c.self.inside in
    let does = makes g.row.I-Alloc.Denot i.live c.leave.new.self (Leave c.args.session) _ _ c.in_default.ensures.step refl in
    spare_for i.log (room_for i.live c.leave.new.self (whole_of i.base) (steps_of i.log) (Leave c.args.session) i.payload (room_of i.log) c.self.invariant does refl)

pub invariant_of-self-2 : goal.invariant_of-self-2
invariant_of-self-2 g c =
    let i = c.self.inside in
    let longer = c.push.new.self in
    let does = makes g.row.I-Alloc.Denot i.live c.leave.new.self (Leave c.args.session) _ _ c.in_default.ensures.step refl in
    cell-light i.live c.leave.new.self (whole_of i.base) (steps_of i.log) (steps_of longer) (Leave c.args.session) i.payload (room_of i.log) (room_of longer) c.self.invariant does (λ p. absurd (cc)) refl refl
    c.push.ensures.steps c.push.ensures.room

pub returns-clause-journal : goal.returns-clause-journal
returns-clause-journal g c =
    let i = c.self.inside in
    pushed i.base.state (steps_of i.log) (steps_of c.push.new.self) (Leave c.args.session) c.push.ensures.steps ∙ ap (λ (v : Cell). noted (Leave c.args.session) v.journal) c.self.view_is
