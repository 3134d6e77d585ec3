-- What the code that reads a head keeps, and gives.
use Rattle.std.specs.Prelude.{ℕ, List}
use Rattle.std.specs.Option.{option_copied}
use Rattle.nbd_scripts.specs.declared.fault.LineFault.TheVariants as fault
use Rattle.nbd_scripts.specs.declared.head.Draft.{Draft}
use Rattle.nbd_scripts.specs.declared.settings.Written.{Written}
use Rattle.nbd_scripts.specs.declared.head.Head.{Head}
use Rattle.nbd_scripts.specs.declared.head.Head.TheVariants as heads
use Rattle.nbd_scripts.specs.Settings.{Settings}
use Rattle.nbd_scripts.specs.Head.{Plan, HasHead, HeadRefused}

abbrev pub settings_of : Written → Settings
settings_of w = record { description = option_copied w.description; read_only = w.read_only; reservation = w.reservation; limit = w.limit; weight = w.weight; depth = w.depth; window = w.window }

module _ {A : Type 0} where
  abbrev pub plan_of : Draft A → Plan
  plan_of draft = record { exports = draft.exports; inflight = draft.inflight }

  -- a head was read, or a line of it is refused. Want of memory may be told of any script
  abbrev pub IsHead : List ℕ → Head A → Type 0
  IsHead script (heads.Read config body) = HasHead script config body.above body.text.now
  IsHead script (heads.Refused number fault.NoMemory) = Unit {0}
  IsHead script (heads.Refused number refused) = HeadRefused script number refused
