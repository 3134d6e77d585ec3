-- Words for what is read step by step.
use Rattle.std.specs.Prelude.{Option, Some, None, option_and_then, Result, Ok, Err}

infixl 10 ◌>>=◌
abbrev pub ◌>>=◌ : {A B : Type 0} → Option A → (A → Option B) → Option B
option >>= next = option_and_then next option

module _ {A E : Type 0} where
  -- why it went wrong, if it did
  abbrev pub fault_in : Result A E → Option E
  fault_in (Ok x) = None
  fault_in (Err e) = Some e
