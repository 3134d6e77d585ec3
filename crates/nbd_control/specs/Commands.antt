-- The command that a line spells, or why it is refused: by the first case that fits.
use Rattle.std.specs.Prelude.{◌≡◌, ℕ, ◌^◌, Bool, true, not, ◌&&◌, nat_lt, if◌then◌else◌, List, [], ◌∷◌, length, drop, codes, Option, Some, None, Result, Ok, Err}
use Rattle.std.specs.List.{before_first, after_first, prefix_len}
use Rattle.std.specs.Str.{bytes_eq, is_utf8}
use Rattle.toml_parser.specs.Strings.{starts_string, quoted}
use Rattle.nbd_base.specs.Words.{when_some}
use Rattle.nbd_commands.specs.declared.settings.Refusal.{Refusal}
use Rattle.nbd_commands.specs.declared.settings.Refusal.TheVariants.{BadReservation, BadLimit, BadWeight, ReservationAboveLimit}
use Rattle.nbd_commands.specs.Refusals.{is_outside}
use Rattle.nbd_text.specs.Fields.{fields_in, is_space}
use Rattle.nbd_text.specs.Numbers.{number_below}
use Rattle.nbd_control.specs.declared.command.Rates.{Rates}
use Rattle.nbd_control.specs.declared.command.Command.{Command}
use Rattle.nbd_control.specs.declared.command.Command.TheVariants.{Stats, Metrics, Retune, Sessions, DropSession, Stop, StopNow}
use Rattle.nbd_control.specs.declared.refusal.Refused.{Refused}
use Rattle.nbd_control.specs.declared.refusal.Refused.TheVariants as why
use Rattle.nbd_control.specs.declared.refusal.CommandError.{CommandError}
use Rattle.nbd_control.specs.declared.refusal.CommandError.TheVariants as errors
use Rattle.nbd_control.specs.declared.verbs.Verb.{Verb}
use Rattle.nbd_control.specs.declared.verbs.Verb.TheVariants as verbs
use Rattle.nbd_control.specs.Verbs.{verb_of}

module _ {X Y : Type 0} where
  infixl 10 ◌>>=◌
  -- the next step, unless an earlier one was refused
  abbrev pub ◌>>=◌ : Result X Refused → (X → Result Y Refused) → Result Y Refused
  Ok x >>= next = next x
  Err cause >>= next = Err cause

module _ {X : Type 0} where
  -- what is there, or else the refusal
  abbrev pub or_refused : Option X → Refused → Result X Refused
  or_refused (Some x) cause = Ok x
  or_refused None cause = Err cause

-- behind the spaces in front
abbrev pub trimmed : List ℕ → List ℕ
trimmed text = drop (prefix_len is_space text) text

-- the word in front, which a space ends, and what stands behind that
abbrev pub front_word : List ℕ → List ℕ × List ℕ
front_word text = (before_first is_space text, after_first is_space text)

-- behind a quoted name the line ends, or a space comes
abbrev pub ends_field : List ℕ → Bool
ends_field [] = true
ends_field (byte ∷ more) = is_space byte

-- a name in quotes of TOML, and what stands behind it
abbrev pub quoted_name : Option (List ℕ × List ℕ) → Result (List ℕ × List ℕ) Refused
quoted_name None = Err why.BadQuotes
quoted_name (Some (name, rest)) = if ends_field rest then Ok (name, rest) else Err why.BadQuotes

-- the name in front, in quotes of TOML or a word, and what stands behind it
unfoldable pub front_name : List ℕ → Result (List ℕ × List ℕ) Refused
front_name text =
    if starts_string text then quoted_name (quoted text)
    else (if nat_lt 0 (length text) then Ok (front_word text) else Err why.FieldCount)

-- a number in decimal digits
abbrev pub spelled_number : List ℕ → Result ℕ Refused
spelled_number digits = or_refused (number_below (2 ^ 64) digits) why.NotANumber

-- why rates are refused
abbrev pub rates_refusal : Rates → Option Refusal
rates_refusal rates =
    if nat_lt 1000000 rates.reservation then Some BadReservation
    else (if nat_lt 1000000 rates.limit then Some BadLimit
    else (if is_outside 1000000 rates.weight then Some BadWeight
    else (if nat_lt 0 rates.limit && nat_lt rates.limit rates.reservation then Some ReservationAboveLimit
    else None)))

abbrev pub allowed_rates : Rates → Result Rates Refused
allowed_rates rates = when_some (rates_refusal rates) (λ refusal. Err (why.Rates refusal)) (Ok rates)

-- a reservation, a limit and a weight
abbrev pub spelled_rates : List (List ℕ) → Result Rates Refused
spelled_rates (r ∷ l ∷ w ∷ []) = do
  reservation ← spelled_number r
  limit ← spelled_number l
  weight ← spelled_number w
  allowed_rates (record { reservation = reservation; limit = limit; weight = weight })
spelled_rates _ = Err why.FieldCount

-- the number of a session
abbrev pub spelled_session : List (List ℕ) → Result ℕ Refused
spelled_session (digits ∷ []) = spelled_number digits
spelled_session _ = Err why.FieldCount

module _ {A : Type 0} where
  -- the one command where nothing stands behind its verb, the other where this word does
  abbrev pub worded_command : List ℕ → Command A → Command A → List (List ℕ) → Result (Command A) Refused
  worded_command word bare worded [] = Ok bare
  worded_command word bare worded (field ∷ []) = if bytes_eq field word then Ok worded else Err why.UnknownCommand
  worded_command word bare worded _ = Err why.FieldCount

  -- with these fields behind the verb `sessions`
  abbrev pub sessions_command : List (List ℕ) → Result (Command A) Refused
  sessions_command [] = Ok Sessions
  sessions_command _ = Err why.FieldCount

  -- of a name and rates
  unfoldable pub retune_command : List ℕ → Result (Command A) Refused
  retune_command text = do
    named ← front_name text
    rates ← spelled_rates (fields_in named.1)
    Ok (Retune named.0 rates)

  -- of a name and the number of a session
  unfoldable pub drop_command : List ℕ → Result (Command A) Refused
  drop_command text = do
    named ← front_name text
    session ← spelled_session (fields_in named.1)
    Ok (DropSession named.0 session)

  -- what a verb asks for with this text behind it
  abbrev pub asked_by : Option Verb → List ℕ → Result (Command A) Refused
  asked_by (Some verbs.Stats) text = worded_command (codes "prometheus") Stats Metrics (fields_in text)
  asked_by (Some verbs.Retune) text = retune_command (trimmed text)
  asked_by (Some verbs.Sessions) text = sessions_command (fields_in text)
  asked_by (Some verbs.Drop) text = drop_command (trimmed text)
  asked_by (Some verbs.Stop) text = worded_command (codes "now") Stop StopNow (fields_in text)
  asked_by None text = Err why.UnknownCommand

  -- of a text: its first word, and what stands behind that
  abbrev pub spelled_command : List ℕ → Result (Command A) Refused
  spelled_command text = let (verb, rest) = front_word (trimmed text) in asked_by (verb_of verb) rest

  -- of a line of at most 4,096 bytes, without its line feed
  abbrev pub command_of : List ℕ → Result (Command A) Refused
  command_of line =
      if nat_lt 4096 (length line) then Err why.LineTooLong
      else (if is_utf8 line then spelled_command line
      else Err why.NotUtf8)

-- of what a call answers as refused. Want of memory is no refusal
abbrev pub IfRefused : (Refused → Type 0) → CommandError → Type 0
IfRefused P (errors.Refused cause) = P cause
IfRefused P errors.NoMemory = Unit {0}
