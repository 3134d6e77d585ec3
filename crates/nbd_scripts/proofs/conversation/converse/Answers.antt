use Rattle.std.proofs.Common.{codes, inl, inr, rules, List, ℕ, Option}
use Rattle.std.specs.Prelude.{IsErr}
use Rattle.std.specs.Io.KnownBytes.{Appends}
use Rattle.hex.specs.Hex.{decode_of}
use Rattle.nbd_scripts.specs.declared.outcome.Outcome.TheVariants as outcome
use Rattle.nbd_scripts.specs.Output.{digits_of, Prints}
use Rattle.nbd_scripts.specs.Told.{Writes}
use Rattle.nbd_scripts.proofs.PartLemmas.{cut_short}
use Rattle.nbd_scripts.proofs.ToldLemmas.{part_written}
use Rattle.nbd_scripts.proofs.conversation.converse.Goals as goal

pub returns-in-Err-clause-write_failed : goal.returns-in-Err-clause-write_failed
returns-in-Err-clause-write_failed g c = λ is.
    let old = g.W.Write.contents c.args.output.now.inner in
    let new = g.W.Write.contents c.refuse_hex.new.output.inner in
    let part = c.refuse_hex.ensures.write_failed is in
    let other = part.0 in
    let no_bytes : IsErr (decode_of (digits_of c.args.body.now)) = search rules in
    cut_short _ old new (codes "hex refused\n") (λ all written. inr (no_bytes, written)) part.1

pub returns-in-Ok-spelled-clause-write_failed : goal.returns-in-Ok-spelled-clause-write_failed
returns-in-Ok-spelled-clause-write_failed g c = λ is.
    let old = g.W.Write.contents c.args.output.now.inner in
    let new = g.W.Write.contents c.tell_text.new.output.inner in
    let text = c.in-Ok-spelled.text.items in
    let told : Writes text outcome.Done old new c.tell_text.result = search rules in
    let prints : (all : Option (List ℕ)) → Appends old all text → Prints c.args.config.now.exports c.args.body.now old all = λ all written. search rules in
    cut_short _ old new text (λ all written. inl (prints all written)) (part_written text old new c.tell_text.result told is)
