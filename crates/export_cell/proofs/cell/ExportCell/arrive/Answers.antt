use Rattle.export_cell.proofs.Moves.{entered_moves, turned_does, turned_moves, turned_let_in}
use Rattle.export_cell.proofs.cell.ExportCell.arrive.Goals as goal

pub returns-in-Ok-clause-journal : goal.returns-in-Ok-clause-journal
returns-in-Ok-clause-journal g c =
    entered_moves g.row.I-Alloc.Denot c.args.self.now.live.terms c.args.self.now.journal c.reserve.new.self.journal c.enter.new.self.journal c.args.session c.args.moment c.args.request c.enter.result
    c.in-Ok.ensures.journal c.enter.ensures.journal

pub returns-in-Err-clause-step : goal.returns-in-Err-clause-step
returns-in-Err-clause-step g c =
    turned_does g.row.I-Alloc.Denot c.args.self.now c.reserve.new.self c.args.session c.args.moment c.args.request c.in-Err.fault c.reserve.ensures.live c.in-Err.ensures.fault

pub returns-in-Err-clause-journal : goal.returns-in-Err-clause-journal
returns-in-Err-clause-journal g c = turned_moves g.row.I-Alloc.Denot c.args.self.now c.reserve.new.self c.args.session c.args.moment c.args.request c.in-Err.fault c.in-Err.ensures.fault

pub returns-in-Err-clause-no_memory : goal.returns-in-Err-clause-no_memory
returns-in-Err-clause-no_memory g c = turned_let_in c.args.self.now c.reserve.new.self c.args.session c.args.request c.in-Err.fault c.in-Err.ensures.fault
