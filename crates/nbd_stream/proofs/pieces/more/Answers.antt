use Rattle.std.proofs.Common.{rules, ◌≡◌, ◌++◌, [], None, Ok, arith, ◌∙◌, sym, ap, append_assoc}
use Rattle.std.proofs.lemmas.Grind.{common_steps}
use Rattle.nbd_stream.proofs.KnownLemmas.{Consumes-then}
use Rattle.nbd_stream.proofs.FrameLemmas.{short_unfinished, fetched_after, append_bytes, longer_by}
use Rattle.nbd_stream.proofs.pieces.more.Goals as goal

pub returns-then-is_some-clause-fetched : goal.returns-then-is_some-clause-fetched
returns-then-is_some-clause-fetched g c =
    let i = c.loop-fault.invariant in
    fetched_after (g.R.Read.remaining c.args.reader.now.inner) (g.R.Read.remaining c.loop-fault.reader.inner) (g.R.Read.remaining c.fetch.new.reader.inner)
    c.args.reader.now.failures c.loop-fault.reader.failures c.fetch.new.reader.failures c.args.intake.now.held c.loop-fault.intake.held i.read.0 c.fetch.new.ready.items c.fetch.new.self (Ok c.in-Ok.fault)
    i.read.1 i.read.2 i.read.3 i.kept c.in-Ok.ensures.fetched

pub loop-fault-smaller : goal.loop-fault-smaller
loop-fault-smaller g c =
    let none : c.in-Ok.fault ≡ None = search rules in
    let empty : c.fetch.new.ready.items ≡ [] = grind (arith, common_steps) in
    omega (arith, short_unfinished c.loop-fault.intake.held c.loop-fault.invariant.well.1, c.in-Ok.ensures.more none empty)

pub loop-fault-preserved : goal.loop-fault-preserved
loop-fault-preserved g c =
    let i = c.loop-fault.invariant in
    let none : c.in-Ok.fault ≡ None = search rules in
    let empty : c.fetch.new.ready.items ≡ [] = grind (arith, common_steps) in
    let on = longer_by (g.R.Read.remaining c.loop-fault.reader.inner) (g.R.Read.remaining c.fetch.new.reader.inner) c.loop-fault.reader.failures c.fetch.new.reader.failures c.loop-fault.intake.held c.fetch.new.ready.items c.fetch.new.self c.in-Ok.fault none empty c.in-Ok.ensures.fetched in
    record {
      room = i.room;
      none = empty;
      well = on.well;
      read = (
        i.read.0 ++ on.bytes,
        Consumes-then (g.R.Read.remaining c.args.reader.now.inner) (g.R.Read.remaining c.loop-fault.reader.inner) (g.R.Read.remaining c.fetch.new.reader.inner) i.read.0 on.bytes i.read.1 on.took,
        append_bytes i.read.0 on.bytes i.read.2 on.are_bytes,
        sym (append_assoc c.args.intake.now.held i.read.0 on.bytes) ∙ (ap (λ t. t ++ on.bytes) i.read.3 ∙ on.longer),
      );
      kept = on.none_failed ∙ i.kept;
    }
