-- The answers of one line. An empty line ends each.
use Rattle.std.specs.Prelude.{ℕ, List, ◌++◌, codes}
use Rattle.std.specs.Fmt.{decimal}
use Rattle.nbd_commands.specs.Refusals.{code_of}
use Rattle.nbd_control.specs.declared.refusal.Refused.{Refused}
use Rattle.nbd_control.specs.declared.refusal.Refused.TheVariants as why
use Rattle.nbd_control.specs.declared.answers.Answer.{Answer}
use Rattle.nbd_control.specs.declared.answers.Answer.TheVariants as said

-- why a line is refused
abbrev pub cause_text : Refused → List ℕ
cause_text why.LineTooLong = codes "line too long"
cause_text why.NotUtf8 = codes "not UTF-8"
cause_text why.UnknownCommand = codes "unknown command"
cause_text why.FieldCount = codes "wrong number of fields"
cause_text why.BadQuotes = codes "bad quotes"
cause_text why.NotANumber = codes "not a number"
cause_text (why.Rates refusal) = codes "C" ++ decimal (code_of refusal)

abbrev pub answer_line : Answer → List ℕ
answer_line said.Gone = codes "gone"
answer_line said.Stopping = codes "stopping"
answer_line said.NoExport = codes "refused no export"
answer_line said.NoSession = codes "refused no session"
answer_line said.Retuned = codes "retuned"
answer_line said.Busy = codes "busy"
answer_line said.Worn = codes "refused worn"
answer_line said.NoMemory = codes "refused no memory"
answer_line (said.Refused cause) = codes "refused " ++ cause_text cause

-- the line, and the empty one that ends the answer
abbrev pub answer_text : Answer → List ℕ
answer_text answer = answer_line answer ++ codes "\n\n"
