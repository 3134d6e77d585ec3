-- What a command of the program reads and writes, by how it went.
use Rattle.std.specs.Prelude.{◌≡◌, ◌≢◌, ℕ, ◌⊎◌, List, ◌++◌, codes, Option}
use Rattle.std.specs.Fmt.{decimal}
use Rattle.std.specs.Io.KnownBytes.{append_known, Appends, Consumes, IsAtEnd}
use Rattle.nbd_commands.specs.Refusals.{code_of}
use Rattle.nbd_stream.specs.Streams.{Rises, WritesPart}
use Rattle.nbd_scripts.specs.declared.fault.LineFault.{LineFault}
use Rattle.nbd_scripts.specs.declared.fault.LineFault.TheVariants.{Form, Value}
use Rattle.nbd_scripts.specs.declared.fault.LineFault.TheVariants as fault
use Rattle.nbd_scripts.specs.declared.outcome.Outcome.{Outcome}
use Rattle.nbd_scripts.specs.declared.outcome.Outcome.TheVariants.{Refused, ReadFailed, WriteFailed}
use Rattle.nbd_scripts.specs.declared.outcome.Outcome.TheVariants as outcome

-- the script is all that the input had left
pub record IsWhole (old new : Option (List ℕ)) (script : List ℕ) : Type 0 where
  pub took : Consumes old new script
  pub end : IsAtEnd new

-- how many calls of the input had failed and have: one more where the command tells that a read failed, and else as many
abbrev pub CountsRead : Outcome → ℕ → ℕ → Type 0
CountsRead went before now = (went ≡ ReadFailed → Rises before now) × (went ≢ ReadFailed → now ≡ before)

-- the same of the output
abbrev pub CountsWrite : Outcome → ℕ → ℕ → Type 0
CountsWrite went before now = (went ≡ WriteFailed → Rises before now) × (went ≢ WriteFailed → now ≡ before)

-- the line of a refusal
abbrev pub refusal_line : ℕ → LineFault → List ℕ
refusal_line number Form = codes "line " ++ decimal number ++ codes " refused\n"
refusal_line number (Value refusal) = codes "line " ++ decimal number ++ codes " C" ++ decimal (code_of refusal) ++ codes "\n"
refusal_line number fault.NoMemory = codes ""

-- the text is written and the command went so; or memory was refused and nothing is written; or a write failed, and a beginning
-- of the text is written
abbrev pub Writes : List ℕ → Outcome → Option (List ℕ) → Option (List ℕ) → Outcome → Type 0
Writes text well old new went = ((went ≡ well) × Appends old new text) ⊎ ((went ≡ outcome.NoMemory) × (new ≡ old)) ⊎ ((went ≡ WriteFailed) × WritesPart old new text)

-- a beginning of a text was written, and with all of it the output would be such
pub record CutShort (IsSuch : Option (List ℕ) → Type 0) (old new : Option (List ℕ)) : Type 0 where
  pub text : List ℕ
  pub whole : IsSuch (append_known old text)
  pub part : WritesPart old new text

-- the refusal of a line is written. Want of memory is none, and then nothing is
abbrev pub TellsRefusal : ℕ → LineFault → Option (List ℕ) → Option (List ℕ) → Outcome → Type 0
TellsRefusal number Form old new went = Writes (refusal_line number Form) Refused old new went
TellsRefusal number (Value refusal) old new went = Writes (refusal_line number (Value refusal)) Refused old new went
TellsRefusal number fault.NoMemory old new went = (went ≡ outcome.NoMemory) × (new ≡ old)
