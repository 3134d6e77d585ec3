-- Why settings are refused: the first case that fits.
use Rattle.std.specs.Prelude.{ℕ, Bool, ◌||◌, ◌&&◌, nat_lt, if◌then◌else◌, List, length, Option, Some, None, Result, Ok, Err}
use Rattle.std.specs.List.{list_any}
use Rattle.std.specs.Option.{option_copied, option_map_or}
use Rattle.std.specs.Str.{bytes_eq}
use Rattle.nbd_base.specs.Words.{when_some}
use Rattle.tag_clock.specs.Intervals.{Intervals, intervals_of}
use Rattle.nbd_commands.specs.Exports.{Export}
use Rattle.nbd_commands.specs.declared.settings.ExportSettings.{ExportSettings}
use Rattle.nbd_commands.specs.declared.settings.Refusal.{Refusal}
use Rattle.nbd_commands.specs.declared.settings.Refusal.TheVariants.{ExportCount, BadName, RepeatedName, BadDescription, BadSize, BadReservation, BadLimit, BadWeight, BadDepth, BadWindow, BadInflight, ReservationAboveLimit}
use Rattle.nbd_commands.specs.declared.settings.ConfigError.{ConfigError}
use Rattle.nbd_commands.specs.declared.settings.ConfigError.TheVariants.{Refused, NoMemory}

-- the export that settings ask for
abbrev pub asked : ExportSettings → Export
asked s = record { name = s.name.now; description = option_copied s.description; size = s.size; read_only = s.read_only; reservation = s.reservation; limit = s.limit; weight = s.weight; depth = s.depth; window = s.window }

abbrev pub is_outside : ℕ → ℕ → Bool
is_outside most n = nat_lt n 1 || nat_lt most n

abbrev pub is_name_taken : List Export → List ℕ → Bool
is_name_taken exports name = list_any (λ e. bytes_eq e.name name) exports

-- of the numbers of an export
abbrev pub number_refusal : Export → Option Refusal
number_refusal e =
    if is_outside 1099511627776 e.size then Some BadSize
    else (if nat_lt 1000000 e.reservation then Some BadReservation
    else (if nat_lt 1000000 e.limit then Some BadLimit
    else (if is_outside 1000000 e.weight then Some BadWeight
    else (if is_outside 4096 e.depth then Some BadDepth
    else (if is_outside 4096 e.window then Some BadWindow
    else (if nat_lt 0 e.limit && nat_lt e.limit e.reservation then Some ReservationAboveLimit
    else None))))))

-- of rates that an export is given while it runs
abbrev pub rates_refusal : ℕ → ℕ → ℕ → Option Refusal
rates_refusal reservation limit weight =
    if nat_lt 1000000 reservation then Some BadReservation
    else (if nat_lt 1000000 limit then Some BadLimit
    else (if is_outside 1000000 weight then Some BadWeight
    else (if nat_lt 0 limit && nat_lt limit reservation then Some ReservationAboveLimit
    else None)))

-- the intervals of such rates, or why they are refused
abbrev pub rates_told : ℕ → ℕ → ℕ → Result Intervals ConfigError
rates_told reservation limit weight =
    when_some (rates_refusal reservation limit weight) (λ refusal. Err (Refused refusal)) (Ok (intervals_of reservation limit weight))

-- of an export that comes after those that there are
abbrev pub first_refusal : List Export → Export → Option Refusal
first_refusal exports e =
    if is_outside 255 (length e.name) then Some BadName
    else (if is_name_taken exports e.name then Some RepeatedName
    else (if nat_lt 4096 (option_map_or length e.description 0) then Some BadDescription
    else number_refusal e))

-- of the whole: a bad number of exports, or of requests in service
abbrev pub whole_refusal : List Export → ℕ → Option Refusal
whole_refusal exports inflight =
    if is_outside 64 (length exports) then Some ExportCount
    else (if is_outside 4096 inflight then Some BadInflight
    else None)

-- what a result tells of a refusal. Want of memory is none
module _ {A : Type 0} where
  abbrev pub refusal_told : Result A ConfigError → Option Refusal
  refusal_told (Ok x) = None
  refusal_told (Err (Refused refusal)) = Some refusal
  refusal_told (Err NoMemory) = None

-- the number of a refusal's kind
abbrev pub code_of : Refusal → ℕ
code_of ExportCount = 3
code_of BadName = 4
code_of RepeatedName = 4
code_of BadDescription = 4
code_of BadSize = 5
code_of BadReservation = 6
code_of BadLimit = 6
code_of BadWeight = 7
code_of BadDepth = 8
code_of BadWindow = 8
code_of BadInflight = 8
code_of ReservationAboveLimit = 9
