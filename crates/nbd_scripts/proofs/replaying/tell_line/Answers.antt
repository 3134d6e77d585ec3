use Rattle.std.proofs.Common.{Some, [], rules}
use Rattle.nbd_scripts.specs.declared.outcome.Outcome.TheVariants as outcome
use Rattle.nbd_scripts.specs.Replayed.{IsMade}
use Rattle.nbd_scripts.specs.Told.{Writes}
use Rattle.nbd_scripts.proofs.ReplayLemmas.{line_told}
use Rattle.nbd_scripts.proofs.replaying.tell_line.Goals as goal

pub returns-in-Ok-clause-told : goal.returns-in-Ok-clause-told
returns-in-Ok-clause-told g c =
    let A = g.row.A.Denot in
    let old = g.W.Write.contents c.args.output.now.inner in
    let new = g.W.Write.contents c.tell_text.new.output.inner in
    let text = c.make_line.new.text.items in
    let made : IsMade {A = A} c.args.server.now c.args.line c.make_line.new.server (Some []) (Some text) = search rules in
    let told : Writes text outcome.Done old new c.tell_text.result = search rules in
    line_told A c.args.server.now c.args.line c.make_line.new.server old new c.tell_text.result text made told
