-- What the commands that read all of standard input do, by which one is asked for.
use Rattle.std.specs.Prelude.{◌≡◌, ℕ, ◌⊎◌, List, Option, Some, None}
use Rattle.std.specs.Io.KnownBytes.{Keeps}
use Rattle.nbd_scripts.specs.declared.outcome.Outcome.{Outcome}
use Rattle.nbd_scripts.specs.declared.outcome.Outcome.TheVariants as outcomes
use Rattle.nbd_scripts.specs.Scripts.{Streams, TellsTalk, TellsReplay}
use Rattle.nbdq_cli.specs.declared.command_line.Task.{Task}
use Rattle.nbdq_cli.specs.declared.command_line.Task.TheVariants as tasks
use Rattle.nbdq_cli.specs.Checked.{Checks, ChecksPart}

-- what `check` read and wrote, by how it went
abbrev pub TellsCheck : Streams → Outcome → Type 0
TellsCheck s outcomes.Done = Checks s.unread s.left s.old s.new outcomes.Done
TellsCheck s outcomes.Refused = Checks s.unread s.left s.old s.new outcomes.Refused
TellsCheck s outcomes.NoMemory = s.new ≡ s.old
TellsCheck s outcomes.ReadFailed = s.new ≡ s.old
TellsCheck s outcomes.WriteFailed = ChecksPart s.unread s.left s.old s.new

-- what a command read and wrote, by which one it is and how it went
abbrev pub TellsTask : Type 0 → Task → Streams → Outcome → Type 0
TellsTask A tasks.Check s outcome = TellsCheck s outcome
TellsTask A tasks.Talk s outcome = TellsTalk s outcome
TellsTask A tasks.Replay s outcome = TellsReplay A s outcome

-- What a command read and wrote, by how it went, where its output is given back: what it wrote is there. Else there was no memory
-- for the buffer, or a write failed.
abbrev pub RunsTask : Type 0 → Task → Option (List ℕ) → Option (List ℕ) → Option (List ℕ) → Option (Option (List ℕ)) → Outcome → Type 0
RunsTask A asked unread left old None outcome = (outcome ≡ outcomes.NoMemory) ⊎ (outcome ≡ outcomes.WriteFailed)
RunsTask A asked unread left old (Some new) outcome =
    (written : Option (List ℕ)) × TellsTask A asked (record { unread = unread; left = left; old = old; new = written }) outcome × Keeps written new
