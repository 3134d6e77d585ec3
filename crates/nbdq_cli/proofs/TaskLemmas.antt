-- What a command that wrote through a buffer has in its output.
use Rattle.std.proofs.Common.{◌≡◌, ℕ, List, [], Option, Some, None, refl, ap, subst, ◌∙◌, append-nil}
use Rattle.std.specs.Io.KnownBytes.{append_known, Keeps}
use Rattle.std.specs.Io.Buffered.{writer_contents}
use Rattle.std.specs.declared.io.buffered.BufWriter.{BufWriter}
use Rattle.nbd_scripts.specs.declared.outcome.Outcome.{Outcome}
use Rattle.nbdq_cli.specs.declared.command_line.Task.{Task}
use Rattle.nbdq_cli.specs.Tasks.{RunsTask, TellsTask}

append_none : (known : Option (List ℕ)) → append_known known [] ≡ known
append_none None = refl
append_none (Some xs) = ap Some (append-nil xs)

-- a new buffer holds what is under it
pub new_buffer : (T B : Type 0) (contents : T → Option (List ℕ)) (made writer : BufWriter T B) (output : T) → made ≡ writer → writer.inner ≡ output → writer.buf.items ≡ []
    → writer_contents contents made ≡ contents output
new_buffer T B contents made writer output is inner empty =
    ap (λ (w : BufWriter T B). writer_contents contents w) is ∙ ap (λ (t : T). append_known (contents t) writer.buf.items) inner
    ∙ ap (λ (b : List ℕ). append_known (contents output) b) empty ∙ append_none (contents output)

pub runs_task : (A : Type 0) (asked : Task) (unread left old first told last new : Option (List ℕ)) (outcome : Outcome) → first ≡ old
    → TellsTask A asked (record { unread = unread; left = left; old = first; new = told }) outcome → last ≡ told → Keeps last new
    → RunsTask A asked unread left old (Some new) outcome
runs_task A asked unread left old first told last new outcome begins tells ends keeps = (
  told,
  subst (λ (o : Option (List ℕ)). TellsTask A asked (record { unread = unread; left = left; old = o; new = told }) outcome) begins tells,
  subst (λ (o : Option (List ℕ)). Keeps o new) ends keeps,
)
