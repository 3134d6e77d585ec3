-- A request in service: its export, its number there, and its slot.
use Rattle.std.specs.Prelude.{ℕ}

pub record Place : Type 0 where
  pub export : ℕ
  pub number : ℕ
  pub slot : ℕ
