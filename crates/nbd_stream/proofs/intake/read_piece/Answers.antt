use Rattle.std.proofs.Common.{Err, subst, sym}
use Rattle.nbd_wire.specs.Pieces.{Decoding}
use Rattle.nbd_stream.specs.declared.ending.Ending.TheVariants as ends
use Rattle.nbd_stream.specs.Frames.{Fetches}
use Rattle.nbd_stream.proofs.FrameLemmas.{read_failed}
use Rattle.nbd_stream.proofs.IntakeLemmas.{not_begun}
use Rattle.nbd_stream.proofs.intake.read_piece.Goals as goal

pub returns-in-Err-clause-fetched : goal.returns-in-Err-clause-fetched
returns-in-Err-clause-fetched g c =
    let left = g.R.Read.remaining c.args.reader.now.inner in
    let later = g.R.Read.remaining c.read.new.self.inner in
    let before = c.args.reader.now.failures in
    let now = c.read.new.self.failures in
    let held = c.args.decoder.now in
    let ready = c.args.ready.now.items in
    subst (λ (d : Decoding). Fetches left later before now held.held ready d (Err ends.ReadFailed)) (sym (not_begun c.args.begun.now held c.requires.not_begun))
    (read_failed left later before now held ready c.in-Err.ensures.bytes c.in-Err.ensures.failed c.requires.none c.requires.well)
