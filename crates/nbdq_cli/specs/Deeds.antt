-- What the program does by what its command line asks for: which command runs, what the shell is told, and the exit status.
use Rattle.std.specs.Prelude.{◌≡◌, ℕ, Bool, true, false, List, [], ◌∷◌, ◌++◌, Option, Some, None, Result, Ok, Err}
use Rattle.clap.specs.Words.{kind_of}
use Rattle.nbd_base.specs.Logs.{Notes}
use Rattle.clap.specs.declared.error.Error.{Error}
use Rattle.nbd_scripts.specs.declared.outcome.Outcome.TheVariants.{WriteFailed}
use Rattle.nbdq_cli.specs.declared.command_line.Job.{Job}
use Rattle.nbdq_cli.specs.declared.outcome.Ending.{Ending}
use Rattle.nbdq_cli.specs.declared.outcome.Ending.TheVariants as ends
use Rattle.nbdq_cli.specs.Outcomes.{end_of_kind, status_of_end, text_of_end}

-- One thing that the program does: a command runs, and ends so; the text of the command line's parser is shown on standard output,
-- and whether it was written; that text is shown on standard error; or a line is
pub data Deed : Type 0 where
  Runs : Job → Ending → Deed
  Shows : Error → Bool → Deed
  Explains : Error → Deed
  Tells : List ℕ → Deed

-- how the program ends where the version was to be shown
abbrev pub end_shown : Bool → Ending
end_shown true = ends.Version
end_shown false = ends.Ran WriteFailed

-- what is done where the command line asks for no command, by the end that its error has, and how the program ends
abbrev pub Refuses : Ending → Error → List Deed → Ending → Type 0
Refuses ends.Version error deeds end = (written : Bool) × (deeds ≡ Shows error written ∷ []) × (end ≡ end_shown written)
Refuses ends.Usage error deeds end = (deeds ≡ Explains error ∷ []) × (end ≡ ends.Usage)
Refuses other error deeds end = (deeds ≡ []) × (end ≡ other)

-- what is done by what is asked for, and how the program ends: the one command that is asked for runs, and none where none is
abbrev pub Goes : Result Job Error → List Deed → Ending → Type 0
Goes (Ok job) deeds end = deeds ≡ Runs job end ∷ []
Goes (Err error) deeds end = Refuses (end_of_kind (kind_of error)) error deeds end

-- the line that standard error is told, if one is
abbrev pub line_told : Option (List ℕ) → List Deed
line_told None = []
line_told (Some line) = Tells line ∷ []

-- from what is asked for to the exit status: what is done, then the line of the end, and nothing else
pub record Dispatches (asked : Result Job Error) (old new : Option (List Deed)) (status : ℕ) : Type 0 where
  pub deeds : List Deed
  pub end : Ending
  pub goes : Goes asked deeds end
  pub done : Notes old new (deeds ++ line_told (text_of_end end))
  pub exit : status ≡ status_of_end end

-- the same up to the line
pub record ComesTo (asked : Result Job Error) (old new : Option (List Deed)) (end : Ending) : Type 0 where
  pub deeds : List Deed
  pub goes : Goes asked deeds end
  pub done : Notes old new deeds

-- the same where no command is asked for
pub record RefusedWith (error : Error) (old new : Option (List Deed)) (end : Ending) : Type 0 where
  pub deeds : List Deed
  pub refuses : Refuses (end_of_kind (kind_of error)) error deeds end
  pub done : Notes old new deeds
