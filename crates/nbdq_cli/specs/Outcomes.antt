-- What the shell is told of how a command went.
use Rattle.std.specs.Prelude.{ℕ, List, Option, Some, None, codes}
use Rattle.nbd_scripts.specs.declared.outcome.Outcome.{Outcome}
use Rattle.nbd_scripts.specs.declared.outcome.Outcome.TheVariants.{Done, Refused, NoMemory, ReadFailed, WriteFailed}
use Rattle.nbdq_cli.specs.declared.outcome.Ending.{Ending}
use Rattle.nbdq_cli.specs.declared.outcome.Ending.TheVariants.{Ran, Version, Usage, NoListener, BadAddress, CannotListen, NoSocket, SocketFailed}
use Rattle.clap.specs.declared.error.kind.ErrorKind.{ErrorKind}
use Rattle.clap.specs.declared.error.kind.ErrorKind.TheVariants as kind

-- the exit status
abbrev pub status_of : Outcome → ℕ
status_of Done = 0
status_of Refused = 1
status_of NoMemory = 3
status_of ReadFailed = 4
status_of WriteFailed = 4

-- the line on standard error. A refusal is told on standard output
abbrev pub text_of : Outcome → Option (List ℕ)
text_of Done = None
text_of Refused = None
text_of NoMemory = Some (codes "no memory")
text_of ReadFailed = Some (codes "read failed")
text_of WriteFailed = Some (codes "write failed")

-- the end where the words ask for no command, by the kind of their parser's error
abbrev pub end_of_kind : ErrorKind → Ending
end_of_kind kind.OutOfMemory = Ran NoMemory
end_of_kind kind.DisplayVersion = Version
end_of_kind _ = Usage

-- the same where the program ends
abbrev pub status_of_end : Ending → ℕ
status_of_end (Ran outcome) = status_of outcome
status_of_end Version = 0
status_of_end Usage = 2
status_of_end NoListener = 2
status_of_end BadAddress = 2
status_of_end CannotListen = 4
status_of_end NoSocket = 2
status_of_end SocketFailed = 4

abbrev pub text_of_end : Ending → Option (List ℕ)
text_of_end (Ran outcome) = text_of outcome
text_of_end Version = None
text_of_end Usage = None
text_of_end NoListener = Some (codes "serve: no listener")
text_of_end BadAddress = Some (codes "serve: bad address")
text_of_end CannotListen = Some (codes "cannot listen")
text_of_end NoSocket = Some (codes "control: no socket")
text_of_end SocketFailed = Some (codes "control: socket failed")
