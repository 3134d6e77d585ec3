use Rattle.std.proofs.Common.{Bool, length, if◌then◌else◌, ap, ◌∙◌, arith}
use Rattle.std.proofs.lemmas.List.{nil_from_length}
use Rattle.nbd_stream.proofs.IntakeLemmas.{takes_begun}
use Rattle.nbd_stream.proofs.intake.take_in.Goals as goal

pub returns-in-Ok-Some-clause-taken : goal.returns-in-Ok-Some-clause-taken
returns-in-Ok-Some-clause-taken g c =
    let is = rw c.in-Ok-Some.field-0-is at c.in-Ok-Some.ensures in
    let held = c.args.decoder.now.held in
    let rest = c.rest.ensures.count ∙ ap (λ (failed : Bool). if failed then 0 else length held) c.requires.well in
    takes_begun held c.args.piece.now c.in-Ok-Some.write c.args.ready.now.items (nil_from_length held (omega (arith, rest, c.if-rest-ne0.false))) is.0 is.1 c.requires.none
