use Rattle.std.proofs.Common.{Err, subst, sym, ◌∙◌}
use Rattle.nbd_wire.specs.Pieces.{Decoding}
use Rattle.nbd_stream.specs.declared.ending.Ending.TheVariants as ends
use Rattle.nbd_stream.specs.Frames.{Fetches}
use Rattle.nbd_stream.proofs.FrameLemmas.{no_piece}
use Rattle.nbd_stream.proofs.IntakeLemmas.{not_begun}
use Rattle.nbd_stream.proofs.intake.read_afresh.Goals as goal

pub returns-in-Err-clause-fetched : goal.returns-in-Err-clause-fetched
returns-in-Err-clause-fetched g c =
    let left = g.R.Read.remaining c.args.reader.now.inner in
    let before = c.args.reader.now.failures in
    let old = c.args.decoder.now in
    let ready = c.args.ready.now.items in
    subst (λ (d : Decoding). Fetches left left before before old.held ready d (Err ends.NoMemory))
    (sym (not_begun c.args.begun.now c.take_begun.new.self c.requires.not_begun ∙ c.in-Err.ensures.kept))
    (no_piece left before old ready c.requires.none c.requires.well)
