use Rattle.std.proofs.Common.{◌≡◌, sym, ◌∙◌}
use Rattle.std.specs.Prelude.{None}
use Rattle.nbd_commands.specs.Refusals.{rates_refusal}
use Rattle.nbd_commands.proofs.ExportLemmas.{rates_not_refused}
use Rattle.nbd_commands.proofs.rates.Rates.new.Goals as goal

pub tuning_of-requires : goal.tuning_of-requires
tuning_of-requires c =
    let none : rates_refusal c.args.reservation c.args.limit c.args.weight ≡ None = sym c.rates_refusal.ensures ∙ c.in_default.is in
    rates_not_refused c.args.reservation c.args.limit c.args.weight none
