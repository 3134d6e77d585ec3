use Rattle.std.proofs.Common.{refl, subst, sym, ap, ◌∙◌, arith}
use Rattle.lone_export.specs.declared.step.Step.TheVariants.{Retune}
use Rattle.export_cell.specs.Based.{whole_of}
use Rattle.export_cell.specs.Journal.{Journal, Cell, IsCell, HasRoom, noted}
use Rattle.step_log.specs.Log.{steps_of, room_of}
use Rattle.export_cell.proofs.Kept.{pushed, makes}
use Rattle.export_cell.proofs.Moves.{retune_made}
use Rattle.export_cell.proofs.Logs.{cell-heavy, room_for_one, spare_for}
use Rattle.export_cell.proofs.cell.ExportCell.retune.Goals as goal

pub push-requires : goal.push-requires
push-requires g c =
    let i = c.self-2.inside in
    let has = subst (λ (v : Cell). HasRoom 0 v) (sym c.self-2.view_is) c.in-Ok.ensures.room in
    spare_for i.log (room_for_one i.live (whole_of i.base) (steps_of i.log) 0 (room_of i.log) has)

pub invariant_of-self : goal.invariant_of-self
invariant_of-self g c =
    let i = c.self-2.inside in
    let longer = c.push.new.self in
    let has = subst (λ (v : Cell). HasRoom 0 v) (sym c.self-2.view_is) c.in-Ok.ensures.room in
    let does = makes g.row.I-Alloc.Denot i.live c.retune.new.self (Retune c.args.rates) _ _ c.in-Ok-retune.ensures.step refl in
    subst (λ n. IsCell c.retune.new.self (whole_of i.base) (steps_of longer) n (room_of longer)) (omega arith)
    (cell-heavy i.live c.retune.new.self (whole_of i.base) (steps_of i.log) (steps_of longer) (Retune c.args.rates) 0 i.payload (room_of i.log) (room_of longer) c.self-2.invariant has
    refl (omega arith) does (λ p. absurd (cc)) c.push.ensures.steps c.push.ensures.room)

pub returns-clause-journal : goal.returns-clause-journal
returns-clause-journal g c =
    let i = c.self-2.inside in
    pushed i.base.state (steps_of i.log) (steps_of c.push.new.self) (Retune c.args.rates) c.push.ensures.steps
    ∙ ap (λ (v : Cell). noted (Retune c.args.rates) v.journal) c.self-2.view_is ∙ ap (λ (j : Journal). noted (Retune c.args.rates) j) c.in-Ok.ensures.journal

pub unreachable-requires : goal.unreachable-requires
unreachable-requires g c =
    retune_made g.row.I-Alloc.Denot c.self.inside.live c.self-2.inside.live c.retune.new.self c.args.rates c.in_default-retune.field-0
    (ap (λ (v : Cell). v.live) c.self-2.view_is ∙ c.in-Ok.ensures.live ∙ sym (ap (λ (v : Cell). v.live) c.self.view_is))
    c.in_default.ensures c.in_default-retune.ensures.step
