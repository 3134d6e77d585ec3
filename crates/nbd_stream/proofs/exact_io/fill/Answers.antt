use Rattle.std.proofs.Common.{length, ◌≤◌, take, sym, subst, ◌∙◌}
use Rattle.std.specs.Io.KnownBytes.{Consumes}
use Rattle.nbd_stream.proofs.KnownLemmas.{Consumes-then}
use Rattle.nbd_stream.proofs.BufferLemmas.{put_more, put_long}
use Rattle.nbd_stream.proofs.exact_io.fill.Goals as goal

pub loop-at-preserved : goal.loop-at-preserved
loop-at-preserved g c =
    let before = c.loop-at in
    let n = c.in-Ok.count in
    let part = c.read.new.buf in
    let short : n ≤ length part = c.in-Ok.ensures.bound.0 in
    let both = Consumes-then (g.R.Read.remaining c.args.reader.now.inner) (g.R.Read.remaining before.reader.inner) (g.R.Read.remaining c.read.new.self.inner) (take before.at before.buf) (take n part) before.invariant.took c.in-Ok.ensures.bytes.0 in
    record {
      in_range = put_long before.buf part before.at _ n before.invariant.in_range short;
      took = subst (Consumes (g.R.Read.remaining c.args.reader.now.inner) (g.R.Read.remaining c.read.new.self.inner)) (sym (put_more before.buf part before.at _ n before.invariant.in_range short)) both;
      kept = c.in-Ok.ensures.kept ∙ before.invariant.kept;
    }
