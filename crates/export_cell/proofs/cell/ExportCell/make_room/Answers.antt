use Rattle.std.proofs.Common.{◌≡◌, ◌+◌, ◌≤◌, ◌∙◌, ◌++◌, ap, length, drop, arith}
use Rattle.lone_export.specs.Calls.{to_come}
use Rattle.export_cell.specs.Based.{whole_of}
use Rattle.export_cell.specs.Journal.{Journal, Cell, surplus}
use Rattle.step_log.specs.Log.{rest_steps, steps_of, room_of}
use Rattle.export_cell.proofs.Logs.{has-room}
use Rattle.export_cell.proofs.cell.ExportCell.make_room.Goals as goal

pub returns-clause-room : goal.returns-clause-room
returns-clause-room g c =
    let i = c.self.inside in
    let more = c.widen.new.self in
    let old = c.args.self.now in
    let bytes = c.args.bytes in
    let room : length (steps_of more) + (to_come i.live.state + 4) ≤ room_of more = (let a = c.in_default-widen.ensures.room in let b = c.steps_brought-more.ensures in omega arith) in
    let same : steps_of more ≡ steps_of i.log = λ j. rest_steps (c.widen.ensures.rest j) ++ c.widen.ensures.behind j in
    has-room old i.live (whole_of i.base) (steps_of i.log) (steps_of more) bytes (room_of more) c.requires
    (ap (λ (v : Cell). v.journal.log) c.self.view_is ∙ ap (λ (j : Journal). j.log) c.in_default.ensures.ok.journal
    ∙ ap (λ (v : Cell). drop (surplus bytes v.journal.log) v.journal.log) c.work_off-left.ensures)
    same room
