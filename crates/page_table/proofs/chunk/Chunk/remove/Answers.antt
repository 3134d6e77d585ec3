use Rattle.std.proofs.Common.{◌∙◌, ◌+◌, ℕ, List, Option, None, get_or, ap, arith}
use Rattle.std.proofs.lemmas.List.{get_or-set_same, get_or-set_other}
use Rattle.page_table.specs.Table.{Chunk}
use Rattle.number_sets.proofs.RangeLemmas.{put_none, put_one, put_step, put_end}
use Rattle.page_table.proofs.chunk.Chunk.remove.Goals as goal

abbrev at : Chunk → ℕ → Option (List ℕ)
at chunk k = get_or chunk k None

pub loop-place-init : goal.loop-place-init
loop-place-init g c = record { begun = omega arith; upto = omega arith; gone = put_none None (at c.args.self.now) c.args.first }

pub loop-place-preserved : goal.loop-place-preserved
loop-place-preserved g c =
    let before = c.loop-place.invariant in
    let after = c.take.ensures in
    let place : ℕ = c.loop-place.place in
    record {
      begun = omega (arith, before.begun);
      upto = omega (arith, before.upto, c.loop-place-test.true);
      gone = put_step None (at c.args.self.now) (at c.loop-place.self) (at c.take.new.self) c.args.first place (place + 1) before.begun (omega arith) before.gone
          (put_one None (at c.loop-place.self) (at c.take.new.self) place
          (ap (λ (chunk : Chunk). at chunk place) after.after
          ∙ get_or-set_same c.loop-place.self place None None (omega (arith, after.long, before.upto, c.loop-place-test.true, c.requires)))
          (λ k apart. ap (λ (chunk : Chunk). at chunk k) after.after ∙ get_or-set_other c.loop-place.self place k None None apart));
    }

pub returns : goal.returns
returns g c =
    let before = c.loop-place.invariant in
    put_end None (at c.args.self.now) (at c.loop-place.self) c.args.first c.loop-place.place c.args.end before.begun before.upto c.loop-place-test.false before.gone
