use Rattle.std.proofs.Common.{Err, subst, sym}
use Rattle.nbd_wire.specs.Grammar.{request_text, RequestMessage}
use Rattle.nbd_wire.specs.Pieces.{Decoding}
use Rattle.nbd_stream.specs.Frames.{Fetches}
use Rattle.nbd_stream.specs.Intake.{nothing_held, taken_in}
use Rattle.nbd_stream.proofs.IntakeLemmas.{written, ended_within, not_begun, went_on, went_longer}
use Rattle.nbd_stream.proofs.long_write.read_by_buffer.Goals as goal

pub returns-in-Err-clause-fetched : goal.returns-in-Err-clause-fetched
returns-in-Err-clause-fetched g c =
    let left = g.R.Read.remaining c.args.reader.now.inner in
    let later = g.R.Read.remaining c.read_behind.new.reader.inner in
    let before = c.args.reader.now.failures in
    let now = c.read_behind.new.reader.failures in
    let ready = c.args.ready.now.items in
    let e = c.in-Err.ending in
    let write : RequestMessage = written c.args.head c.args.payload in
    subst (λ (d : Decoding). Fetches left later before now (request_text write) ready d (Err e)) (sym (not_begun c.args.begun.now nothing_held c.requires.not_begun))
    (ended_within left later before now write ready e c.requires.unfinished c.requires.none c.in-Err.ensures.ended)

pub returns-in-Ok-clause-fetched : goal.returns-in-Ok-clause-fetched
returns-in-Ok-clause-fetched g c =
    let left = g.R.Read.remaining c.args.reader.now.inner in
    let later = g.R.Read.remaining c.read_behind.new.reader.inner in
    let before = c.args.reader.now.failures in
    let now = c.read_behind.new.reader.failures in
    let ready = c.go_on.new.ready.items in
    let kept = taken_in c.go_on.new.begun nothing_held in
    went_on left later before now (written c.args.head c.args.payload) _ ready kept c.go_on.result c.in-Ok.ensures.came c.go_on.ensures.taken c.in-Ok.ensures.kept

pub returns-in-Ok-clause-more : goal.returns-in-Ok-clause-more
returns-in-Ok-clause-more g c =
    let left = g.R.Read.remaining c.args.reader.now.inner in
    let later = g.R.Read.remaining c.read_behind.new.reader.inner in
    let before = c.args.reader.now.failures in
    let now = c.read_behind.new.reader.failures in
    let ready = c.go_on.new.ready.items in
    let kept = taken_in c.go_on.new.begun nothing_held in λ none empty.
    went_longer left later before now (written c.args.head c.args.payload) _ ready kept c.go_on.result c.in-Ok.ensures.came c.go_on.ensures.taken none empty
