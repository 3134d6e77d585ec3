-- What the words of the command line ask for.
use Rattle.std.specs.Prelude.{◌≡◌, ◌≢◌, ℕ, ◌<◌, ◌^◌, Bool, true, false, not, List, [], codes, Option, Some, None, option_map, option_and_then, string_bytes}
use Rattle.std.specs.Str.{bytes_eq}
use Rattle.std.specs.Str.Parse.{IsNumeral, digits_value, without_leading_plus}
use Rattle.clap.specs.Kinds.{or_else}
use Rattle.clap.specs.Words.{Kinds, Row, Text, fault_of, first_of, one_of, subcommand_of}
use Rattle.nbdq_cli.specs.declared.command_line.Job.{Job}
use Rattle.nbdq_cli.specs.declared.command_line.Job.TheVariants as jobs
use Rattle.nbdq_cli.specs.declared.command_line.Task.TheVariants as tasks
use Rattle.nbdq_cli.specs.declared.command_line.ServeTask.{ServeTask}
use Rattle.nbdq_cli.specs.declared.command_line.ControlTask.{ControlTask}
use Rattle.nbdq_cli.specs.declared.crew.Sessions.{Sessions}
use Rattle.nbdq_cli.specs.declared.crew.Sessions.TheVariants.{Count, Forever}
use Rattle.nbdq_cli.specs.Commands.{counting_program, program}

-- a number in decimal digits that fits 64 bits
abbrev pub IsNumber : Text → Type 0
IsNumber text = IsNumeral 10 (without_leading_plus text) × (digits_value 10 (without_leading_plus text) < 2 ^ 64)

-- the number that a text says, or this one where there is no text
abbrev pub IsCount : Option Text → ℕ → ℕ → Type 0
IsCount None default count = count ≡ default
IsCount (Some text) default count = IsNumber text → count ≡ digits_value 10 (without_leading_plus text)

-- how many connections a text asks for: as many as it says, or without end
abbrev pub IsSessions : Option Text → Sessions → Type 0
IsSessions None asked = asked ≡ Count 100000
IsSessions (Some text) Forever = text ≡ codes "forever"
IsSessions (Some text) (Count count) = (text ≢ codes "forever") × (IsNumber text → count ≡ digits_value 10 (without_leading_plus text))

-- the same as a count: the greatest of 64 bits where it has no end
abbrev pub most_sessions : Sessions → ℕ
most_sessions (Count count) = count
most_sessions Forever = 18446744073709551615

-- what the options behind `serve` say
pub record IsServe (options : List Row) (task : ServeTask) : Type 0 where
  pub tcp : option_map string_bytes task.tcp ≡ first_of (codes "tcp") options
  pub unix : option_map string_bytes task.unix ≡ first_of (codes "unix") options
  pub control : option_map string_bytes task.control ≡ first_of (codes "control") options
  pub workers : IsCount (one_of (codes "workers") options) 4 task.crew.workers
  pub sessions : IsSessions (first_of (codes "sessions") options) task.crew.sessions

-- what the options behind `control` say
abbrev pub IsControl : List Row → ControlTask → Type 0
IsControl options task = option_map string_bytes task.unix ≡ first_of (codes "unix") options

-- A command and its options ask for this. A command that is none of the others is `talk`.
abbrev pub IsJob : Option Text → Option (List Row) → Job → Type 0
IsJob name options (jobs.Task tasks.Check) = name ≡ Some (codes "check")
IsJob name options (jobs.Task tasks.Replay) = name ≡ Some (codes "replay")
IsJob name options (jobs.Task tasks.Talk) =
    (name ≢ Some (codes "check")) × (name ≢ Some (codes "replay")) × (name ≢ Some (codes "serve")) × (name ≢ Some (codes "control"))
IsJob name options (jobs.Serve task) = (name ≡ Some (codes "serve")) × (given : List Row) × (options ≡ Some given) × IsServe given task
IsJob name options (jobs.Control task) = (name ≡ Some (codes "control")) × (given : List Row) × (options ≡ Some given) × IsControl given task

-- the command that words name, with its options
unfoldable pub command_in : List Text → Option (Text × List Row)
command_in words = subcommand_of program words

-- what stands behind `--sessions`, and whether it has to be a number
abbrev pub sessions_text : Option (Text × List Row) → Option Text
sessions_text said = option_and_then (λ s. first_of (codes "sessions") s.1) said

abbrev pub wants_number : Option Text → Bool
wants_number None = false
wants_number (Some text) = not (bytes_eq text (codes "forever"))

-- the faults of words where that number is wanted
unfoldable pub number_faults : Bool → List Text → Kinds
number_faults false words = []
number_faults true words = fault_of counting_program words

-- The faults of words, of which the program tells one: those of the words with any text behind `--sessions`, and where there are
-- none, those of the words with a number there, if it has to be one.
unfoldable pub faults_in : List Text → Kinds
faults_in words = or_else (fault_of program words) (number_faults (wants_number (sessions_text (command_in words))) words)

-- the words ask for this
abbrev pub AsksFor : List Text → Job → Type 0
AsksFor words job = IsJob (option_map (λ said. said.0) (command_in words)) (option_map (λ said. said.1) (command_in words)) job
