use Rattle.std.proofs.Common.{◌≡◌, sym, ◌∙◌}
use Rattle.std.specs.Prelude.{None}
use Rattle.nbd_commands.specs.Refusals.{asked, first_refusal}
use Rattle.nbd_commands.proofs.ExportLemmas.{not_refused}
use Rattle.nbd_commands.proofs.config.ExportList.add.Goals as goal

pub put-requires : goal.put-requires
put-requires g c =
    let none : first_refusal c.deref.result.now (asked c.args.settings.now) ≡ None = sym c.first_refusal.ensures ∙ c.in_default.is in
    not_refused c.deref.result.now (asked c.args.settings.now) none
