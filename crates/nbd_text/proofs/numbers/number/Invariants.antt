use Rattle.std.proofs.Common.{◌≡◌, ◌<◌, ◌^◌, drop}
use Rattle.nbd_text.specs.Numbers.{number_behind}
use Rattle.nbd_text.proofs.numbers.number.Given as goal

abbrev pub invariant-loop-digit : goal.invariant-loop-digit
invariant-loop-digit l = record {
  so_far : number_behind l.value (drop l.digit-index l.digits) ≡ number_behind 0 l.digits;
  fits : l.value < 2 ^ 64;
}
