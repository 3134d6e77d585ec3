use Rattle.std.proofs.Common.{◌≡◌, Some, None, Ok, [], rules}
use Rattle.toml.specs.View.{table_view}
use Rattle.nbd_commands.specs.Refusals.{whole_refusal}
use Rattle.nbd_config.specs.Entries.{exports_at, inflight_at}
use Rattle.nbd_config.specs.Configured.{top_refusal, exports_behind}
use Rattle.nbd_config.proofs.WholeLemmas.{never_again}
use Rattle.nbd_config.proofs.reading.config_of.Goals as goal

pub returns-in-Err-new-clause-refused : goal.returns-in-Err-new-clause-refused
returns-in-Err-new-clause-refused g c =
    let members = table_view c.args.table.now in
    let list = c.in-Ok.list in
    let top : top_refusal members ≡ None = search rules in
    let whole : exports_behind [] (exports_at members) ≡ Ok list = rw (← c.exports_at.ensures) c.in-Ok.ensures.read in
    let again : whole_refusal list (inflight_at members) ≡ Some c.in-Err-new.refusal = rw (← c.inflight_at.ensures) c.in-Err-new.ensures.refused in
    absurd (never_again members list c.in-Err-new.refusal top whole again)
