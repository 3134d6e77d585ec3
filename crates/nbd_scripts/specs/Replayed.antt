-- What `replay` writes of a run of a server: the line of each answer, what waits where its tags are asked for, and how many
-- steps were counted.
use Rattle.std.specs.Prelude.{◌≡◌, ℕ, List, [], ◌∷◌, ◌++◌, codes, Option}
use Rattle.std.specs.List.{sum_by}
use Rattle.std.specs.Fmt.{decimal}
use Rattle.std.specs.Io.KnownBytes.{Appends}
use Rattle.server_table.specs.declared.event.Event.{Event}
use Rattle.server_table.specs.declared.event.Answer.{Answer}
use Rattle.server_table.specs.Table.{Table, Setup, opening_table}
use Rattle.server_table.specs.Steps.{step, last_table}
use Rattle.server_table.specs.Shares.{mark_of, marks_of}
use Rattle.server_core.specs.Run.{IsAnswered}
use Rattle.server_core.specs.Served.{Served, Stepped}
use Rattle.nbd_scripts.specs.declared.replay_line.ReplayLine.{ReplayLine}
use Rattle.nbd_scripts.specs.declared.replay_line.ReplayLine.TheVariants as asked
use Rattle.nbd_scripts.specs.declared.outcome.Outcome.{Outcome}
use Rattle.nbd_scripts.specs.declared.outcome.Outcome.TheVariants as outcome
use Rattle.nbd_scripts.specs.Answers.{line_of}
use Rattle.nbd_scripts.specs.Told.{CutShort}
use Rattle.nbd_scripts.specs.Waiting.{tags_text}

-- how many steps changed something, of all exports together
abbrev pub steps_in : Table → ℕ
steps_in table = sum_by (λ side. side.count) table.sides

abbrev pub steps_line : ℕ → List ℕ
steps_line steps = codes "steps " ++ decimal steps ++ codes "\n"

module _ {A : Type 0} where
  -- the events among the lines
  unfoldable pub events_of : List (ReplayLine A) → List (Event A)
  events_of [] = []
  events_of (asked.Event event ∷ lines) = event ∷ events_of lines
  events_of (asked.Tags export ∷ lines) = events_of lines

  -- what is written of the lines from a table on, where these are the answers to the events among them: the line of each
  -- answer, and the tags of what waits at that point
  unfoldable pub text_of : Setup → Table → List (ReplayLine A) → List (Answer A) → List ℕ
  text_of setup table [] answers = []
  text_of setup table (asked.Event event ∷ lines) [] = []
  text_of setup table (asked.Event event ∷ lines) (answer ∷ answers) = line_of answer ++ text_of setup (step setup table event (mark_of answer)).table lines answers
  text_of setup table (asked.Tags export ∷ lines) answers = tags_text setup table export ++ text_of setup table lines answers

  -- the answers that the definition of a server gives to the events are written, with the tags that were asked for between
  -- them, and the steps that it counts
  pub record Replays (setup : Setup) (lines : List (ReplayLine A)) (old new : Option (List ℕ)) : Type 0 where
    pub answers : List (Answer A)
    pub answered : IsAnswered setup (events_of lines) answers
    pub written : Appends old new (text_of setup (opening_table setup) lines answers ++ steps_line (steps_in (last_table setup (events_of lines) (marks_of answers))))

  -- what the first of the lines are answered is written, and nothing of the lines behind them
  pub record ReplaysFirst (setup : Setup) (lines : List (ReplayLine A)) (old new : Option (List ℕ)) : Type 0 where
    pub first : List (ReplayLine A)
    pub behind : List (ReplayLine A)
    pub are : lines ≡ first ++ behind
    pub answers : List (Answer A)
    pub answered : IsAnswered setup (events_of first) answers
    pub written : Appends old new (text_of setup (opening_table setup) first answers)

  -- a line was made: its event is one step of the server, or the server stays, and what is told is written
  abbrev pub IsMade : Served → ReplayLine A → Served → Option (List ℕ) → Option (List ℕ) → Type 0
  IsMade before (asked.Event event) after old new = (said : Answer A) × (Stepped before event after said) × (Appends old new (line_of said))
  IsMade before (asked.Tags export) after old new = (after ≡ before) × (Appends old new (tags_text before.setup before.table export))

  -- the same, or memory was refused and nothing is written, or a write failed and a beginning is written of what is told
  abbrev pub TellsLine : Served → ReplayLine A → Served → Option (List ℕ) → Option (List ℕ) → Outcome → Type 0
  TellsLine before line after old new outcome.Done = IsMade before line after old new
  TellsLine before line after old new outcome.NoMemory = new ≡ old
  TellsLine before line after old new outcome.WriteFailed = CutShort (IsMade before line after old) old new
  TellsLine before line after old new outcome.Refused = ⊥
  TellsLine before line after old new outcome.ReadFailed = ⊥
