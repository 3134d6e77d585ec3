use Rattle.std.proofs.Common.{◌≡◌, map, take}
use Rattle.nbd_threads.specs.Retunes.{rates_of}
use Rattle.nbd_threads.proofs.retunes.configured_rates.Given as goal

abbrev pub invariant-loop-export : goal.invariant-loop-export
invariant-loop-export l = l.rates.items ≡ map rates_of (take l.export-index l.exports)
