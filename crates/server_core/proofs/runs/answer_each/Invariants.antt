use Rattle.std.proofs.Common.{◌≡◌, length}
use Rattle.server_table.specs.Table.{opening_table}
use Rattle.server_table.specs.Steps.{answers_of, table_after}
use Rattle.server_table.specs.Shares.{marks_of}
use Rattle.server_core.specs.Served.{setup_for}
use Rattle.server_core.proofs.runs.answer_each.Given as goal

-- the answers so far are those to the events so far
abbrev pub invariant-loop-event : goal.invariant-loop-event
invariant-loop-event g l = record {
  told : l.told.items ≡ answers_of (setup_for l.config) (opening_table (setup_for l.config)) l.yielded (marks_of l.told.items);
  table : l.server.table ≡ table_after (setup_for l.config) (opening_table (setup_for l.config)) l.yielded (marks_of l.told.items);
  setup : l.server.setup ≡ setup_for l.config;
  long : length (marks_of l.told.items) ≡ length l.yielded;
}
