use Rattle.std.proofs.Common.{◌≡◌, true, ap, sym, ◌∙◌, subst, length, arith}
use Rattle.nbd_wire.specs.Grammar.{RequestMessage}
use Rattle.lone_export.specs.declared.step.Step.TheVariants.{Arrive}
use Rattle.export_cell.specs.Based.{whole_of}
use Rattle.export_cell.specs.Journal.{Cell, HasRoom, IsReserved, cell_of, noted}
use Rattle.step_log.specs.Log.{steps_of, room_of}
use Rattle.export_cell.proofs.Kept.{Makes, pushed, makes}
use Rattle.export_cell.proofs.Logs.{cell-heavy, room_for_one, spare_for}
use Rattle.export_cell.proofs.Moves.{arrived_counted}
use Rattle.export_cell.proofs.cell.ExportCell.enter.Goals as goal

pub admit-arrived-requires : goal.admit-arrived-requires
admit-arrived-requires g c =
    let has = subst (λ (v : Cell). IsReserved {A = g.row.I-Alloc.Denot} v c.args.session c.args.request c.args.place) (sym c.self.view_is) c.requires in
    has.admitted

pub push-requires : goal.push-requires
push-requires g c =
    let i = c.self.inside in
    let q = c.args.request in
    let has = subst (λ (v : Cell). IsReserved {A = g.row.I-Alloc.Denot} v c.args.session q c.args.place) (sym c.self.view_is) c.requires in
    spare_for i.log (room_for_one i.live (whole_of i.base) (steps_of i.log) (length q.payload) (room_of i.log) has.room)

pub invariant_of-self : goal.invariant_of-self
invariant_of-self g c =
    let i = c.self.inside in
    let A = g.row.I-Alloc.Denot in
    let s = c.args.session in
    let q = c.args.request in
    let kept = c.args.place.kept in
    let live = c.admit-arrived.new.self in
    let longer = c.push.new.self in
    let has = subst (λ (v : Cell). IsReserved {A = A} v s q c.args.place) (sym c.self.view_is) c.requires in
    let bytes : c.len-bytes.result ≡ length q.payload = c.len-bytes.ensures ∙ ap length c.payload.ensures.value in
    let does = makes A i.live live (Arrive s c.args.moment q) _ true c.admit-arrived.ensures.step (arrived_counted A c.admit-arrived.result) in
    let does_kept : Makes i.live live (Arrive s c.args.moment kept) true = subst (λ (k : RequestMessage). Makes i.live live (Arrive s c.args.moment k) true) (sym has.same) does in
    cell-heavy i.live live (whole_of i.base) (steps_of i.log) (steps_of longer) (Arrive s c.args.moment kept) c.len-bytes.result i.payload (room_of i.log) (room_of longer) c.self.invariant
    (subst (λ n. HasRoom n (cell_of i.live (whole_of i.base) (steps_of i.log) (room_of i.log))) (sym bytes) has.room)
    (ap (λ (k : RequestMessage). length k.payload) has.same ∙ sym bytes) (omega arith) does_kept (λ p. absurd (cc))
    c.push.ensures.steps c.push.ensures.room

pub returns-clause-journal : goal.returns-clause-journal
returns-clause-journal g c =
    let i = c.self.inside in
    let s = c.args.session in
    let t = c.args.moment in
    pushed i.base.state (steps_of i.log) (steps_of c.push.new.self) (Arrive s t c.args.place.kept) c.push.ensures.steps
    ∙ ap (λ (v : Cell). noted (Arrive s t c.args.place.kept) v.journal) c.self.view_is
    ∙ ap (λ (k : RequestMessage). noted (Arrive s t k) c.args.self.now.journal) c.requires.same
