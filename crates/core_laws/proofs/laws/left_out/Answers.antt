use Rattle.server_table.specs.Table.{opening_table}
use Rattle.core_laws.proofs.Made.{left_out_from}
use Rattle.core_laws.proofs.laws.left_out.Goals as goal

pub returns-clause-answers : goal.returns-clause-answers
returns-clause-answers g c = λ run. (left_out_from run.setup run.events (opening_table run.setup) run.marks).answers

pub returns-clause-table : goal.returns-clause-table
returns-clause-table g c = λ run. (left_out_from run.setup run.events (opening_table run.setup) run.marks).table
