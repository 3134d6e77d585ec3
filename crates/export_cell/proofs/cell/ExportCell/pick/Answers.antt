use Rattle.std.proofs.Common.{subst, sym, ◌<◌, ◌∙◌, ap, length, refl}
use Rattle.lone_export.specs.declared.step.Step.TheVariants.{Pick}
use Rattle.export_cell.specs.Based.{whole_of}
use Rattle.export_cell.specs.Journal.{Cell, noted}
use Rattle.step_log.specs.Log.{steps_of, room_of}
use Rattle.export_cell.proofs.Kept.{pushed, makes}
use Rattle.export_cell.proofs.Logs.{cell-light, room_for, spare_for}
use Rattle.export_cell.proofs.cell.ExportCell.pick.Goals as goal

pub push-requires : goal.push-requires
push-requires g c =
    let i = c.self.inside in
    let does = makes g.row.I-Alloc.Denot i.live c.pick.new.self Pick _ _ c.in-Some.ensures.step refl in
    spare_for i.log (room_for i.live c.pick.new.self (whole_of i.base) (steps_of i.log) Pick i.payload (room_of i.log) c.self.invariant does refl)

pub invariant_of-self-2 : goal.invariant_of-self-2
invariant_of-self-2 g c =
    let i = c.self.inside in
    let longer = c.push.new.self in
    let does = makes g.row.I-Alloc.Denot i.live c.pick.new.self Pick _ _ c.in-Some.ensures.step refl in
    cell-light i.live c.pick.new.self (whole_of i.base) (steps_of i.log) (steps_of longer) Pick i.payload (room_of i.log) (room_of longer) c.self.invariant does
    (λ _. subst (λ (v : Cell). length v.live.state.out < v.live.inflight) (sym c.self.view_is) c.requires) refl refl
    c.push.ensures.steps c.push.ensures.room

pub returns-clause-journal : goal.returns-clause-journal
returns-clause-journal g c =
    let i = c.self.inside in
    pushed i.base.state (steps_of i.log) (steps_of c.push.new.self) Pick c.push.ensures.steps ∙ ap (λ (v : Cell). noted Pick v.journal) c.self.view_is
