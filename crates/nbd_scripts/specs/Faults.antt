-- Why a line isn't taken.
use Rattle.std.specs.Prelude.{◌≡◌, Option, None, Result, Err}
use Rattle.nbd_commands.specs.declared.settings.ConfigError.{ConfigError}
use Rattle.nbd_commands.specs.declared.settings.ConfigError.TheVariants as config
use Rattle.nbd_scripts.specs.declared.fault.LineFault.{LineFault}
use Rattle.nbd_scripts.specs.declared.fault.LineFault.TheVariants as fault

-- an export that can't be added, as a fault of its line
abbrev pub fault_of : ConfigError → LineFault
fault_of (config.Refused refusal) = fault.Value refusal
fault_of config.NoMemory = fault.NoMemory

-- this is told of a text that has none of the forms of a line. Want of memory may be told of any text
abbrev pub IsMissed : {X : Type 0} → Option X → LineFault → Type 0
IsMissed read fault.Form = read ≡ None
IsMissed read (fault.Value refusal) = ⊥
IsMissed read fault.NoMemory = Unit {0}

-- this is told of what is refused for it. Want of memory may be told of anything
abbrev pub IsRefused : {X : Type 0} → Result X LineFault → LineFault → Type 0
IsRefused read fault.Form = read ≡ Err fault.Form
IsRefused read (fault.Value refusal) = read ≡ Err (fault.Value refusal)
IsRefused read fault.NoMemory = Unit {0}
