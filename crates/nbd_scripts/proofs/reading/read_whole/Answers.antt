use Rattle.std.proofs.Common.{◌≡◌, ◌++◌, ℕ, take, arith, rules, refl, sym, ◌∙◌, subst}
use Rattle.std.specs.Io.KnownBytes.{Consumes}
use Rattle.nbd_stream.proofs.KnownLemmas.{Consumes-then}
use Rattle.nbd_scripts.proofs.ReadLemmas.{nothing_read, all_read}
use Rattle.nbd_scripts.proofs.reading.read_whole.Goals as goal

pub loop-text-init : goal.loop-text-init
loop-text-init g c =
    let left = g.R.Read.remaining c.args.input.now.inner in
    record {
      room = search rules;
      took = subst (Consumes left left) (sym c.new-text.ensures.items) (nothing_read left);
      kept = refl;
    }

pub loop-text-preserved : goal.loop-text-preserved
loop-text-preserved g c =
    let old = g.R.Read.remaining c.args.input.now.inner in
    let between = g.R.Read.remaining c.loop-text.input.inner in
    let new = g.R.Read.remaining c.read.new.self.inner in
    let bytes = take c.in-Ok-read.count c.read.new.buf in
    let longer : c.extend_from_slice.new.self.items ≡ c.loop-text.text.items ++ bytes = search rules in
    record {
      room = omega (arith, c.in-Ok-read.ensures.bound.1, c.loop-text.invariant.room);
      took = subst (Consumes old new) (sym longer) (Consumes-then old between new c.loop-text.text.items bytes c.loop-text.invariant.took c.in-Ok-read.ensures.bytes.0);
      kept = c.in-Ok-read.ensures.kept ∙ c.loop-text.invariant.kept;
    }

pub returns-in-Ok-eq0-clause-whole : goal.returns-in-Ok-eq0-clause-whole
returns-in-Ok-eq0-clause-whole g c =
    let old = g.R.Read.remaining c.args.input.now.inner in
    let between = g.R.Read.remaining c.loop-text.input.inner in
    let new = g.R.Read.remaining c.read.new.self.inner in
    let none = subst (λ (n : ℕ). Consumes between new (take n c.read.new.buf)) c.in-Ok-eq0.field-0-test c.in-Ok-eq0.ensures.bytes.0 in
    all_read old between new c.loop-text.text.items c.loop-text.invariant.took none
    (c.in-Ok-eq0.ensures.bytes.1 c.in-Ok-eq0.field-0-test (omega (arith, c.in-Ok-eq0.ensures.bound.1, c.loop-text.invariant.room)))
