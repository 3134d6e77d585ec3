use Rattle.std.proofs.Common.{arith}
use Rattle.nbd_stream.proofs.IntakeLemmas.{lengthened}
use Rattle.nbd_stream.proofs.long_write.read_behind.Goals as goal

pub returns-in-Ok-clause-came : goal.returns-in-Ok-clause-came
returns-in-Ok-clause-came g c =
    lengthened (g.R.Read.remaining c.args.reader.now.inner) (g.R.Read.remaining c.read.new.self.inner) c.args.payload.now c.read.new.buf c.in-Ok.count c.args.whole
    c.in-Ok.ensures.bound.0 (omega (arith, c.in-Ok.count-test.1)) (omega (arith, c.requires.missing, c.read.auto.buf)) c.in-Ok.ensures.bytes.0 (λ i. (c.type_inv.room i).fits)
