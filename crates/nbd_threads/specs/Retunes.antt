-- The rates in force.
use Rattle.std.specs.Prelude.{ℕ, List, slice_set}
use Rattle.turn_order.specs.declared.Rates.{Rates}
use Rattle.nbd_commands.specs.Exports.{Export}

-- as an export is configured
abbrev pub rates_of : Export → Rates
rates_of e = record { reservation = e.reservation; limit = e.limit; weight = e.weight }

-- one export has others; where there is no such export, all stay
abbrev pub put_in_force : ℕ → Rates → List Rates → List Rates
put_in_force export rates all = slice_set all export rates
