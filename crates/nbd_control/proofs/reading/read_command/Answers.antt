use Rattle.std.proofs.Common.{◌≡◌, IfOk, IfErr, ap, subst, sym, ◌∙◌}
use Rattle.std.specs.Prelude.{Result, Ok, Err}
use Rattle.nbd_control.specs.Commands.{command_of, spelled_command, IfRefused}
use Rattle.nbd_control.specs.declared.command.Command.{Command}
use Rattle.nbd_control.specs.declared.refusal.Refused.{Refused}
use Rattle.nbd_control.proofs.TextLemmas.{command_of_text, command_of_no_text}
use Rattle.nbd_control.proofs.reading.read_command.Goals as goal

pub returns-in-Ok-clause-read : goal.returns-in-Ok-clause-read
returns-in-Ok-clause-read g c =
    let is = ap (spelled_command {A = g.row.A.Denot}) c.in-Ok.ensures.cases.0 ∙ sym (command_of_text {A = g.row.A.Denot} c.args.line.now c.if-line-gt-MAX_LINE.false c.in-Ok.ensures.cases.1) in
    let P : Result (Command g.row.A.Denot) Refused → Type 0 = λ said. IfOk c.read_text.result (λ command. said ≡ Ok command) in
    subst P is c.read_text.ensures.read

pub returns-in-Ok-clause-refused : goal.returns-in-Ok-clause-refused
returns-in-Ok-clause-refused g c =
    let is = ap (spelled_command {A = g.row.A.Denot}) c.in-Ok.ensures.cases.0 ∙ sym (command_of_text {A = g.row.A.Denot} c.args.line.now c.if-line-gt-MAX_LINE.false c.in-Ok.ensures.cases.1) in
    let P : Result (Command g.row.A.Denot) Refused → Type 0 = λ said. IfErr c.read_text.result (IfRefused (λ cause. said ≡ Err cause)) in
    subst P is c.read_text.ensures.refused

pub returns-in-Err-clause-refused : goal.returns-in-Err-clause-refused
returns-in-Err-clause-refused g c = command_of_no_text c.args.line.now c.if-line-gt-MAX_LINE.false c.in-Err.ensures.cases.0
