-- What a client haggles over, and how many options it sent.
use Rattle.std.specs.Prelude.{ℕ, List}
use Rattle.nbd_options.specs.Exports.{ExportFacts}

pub record Counting : Type 0 where
  pub table : List ExportFacts
  pub seen : ℕ
