-- What the code that reads a body gives.
use Rattle.std.specs.Prelude.{ℕ, List}
use Rattle.nbd_scripts.specs.declared.fault.LineFault.TheVariants as fault
use Rattle.nbd_scripts.specs.declared.events.Lines.{Lines}
use Rattle.nbd_scripts.specs.declared.events.Lines.TheVariants as bodies
use Rattle.nbd_scripts.specs.Lines.{lines_in}
use Rattle.nbd_scripts.specs.Events.{Asks, MissesLine}

module _ {A : Type 0} where
  -- a body with so many lines above was read, or a line of it is refused. Want of memory may be told of any body
  abbrev pub IsBody : ℕ → List ℕ → Lines A → Type 0
  IsBody above text (bodies.Read asked) = Asks (lines_in text) asked.items
  IsBody above text (bodies.Refused number fault.NoMemory) = Unit {0}
  IsBody above text (bodies.Refused number refused) = MissesLine A above text number refused
