use Rattle.std.proofs.Common.{◌+◌, ◌-◌, ◌*◌, ◌/◌, ◌<◌, ℕ, Option, refl, sym, subst, arith}
use Rattle.std.specs.Prelude.{IsSome}
use Rattle.page_table.specs.Table.{Chunk}
use Rattle.page_table.proofs.RegionsLemmas.{chunk_in, none_last}
use Rattle.page_table.proofs.regions.Regions.last.Goals as goal

pub returns-in-Some-clause-there : goal.returns-in-Some-clause-there
returns-in-Some-clause-there g c =
    let region : ℕ = (c.loop-upto.upto - 1) / 256 in
    let place : ℕ = c.in-Some.place in
    let less : place < 256 = omega (arith, c.in-Some.ensures.ends) in
    subst (λ (o : Option Chunk). IsSome o) (sym (chunk_in c.args.self.now (region * 256 + place) region place (omega arith) less)) c.in-Some.ensures.there

pub returns-in-Some-clause-last : goal.returns-in-Some-clause-last
returns-in-Some-clause-last g c = λ q above below.
    let upto : ℕ = c.loop-upto.upto in
    let region : ℕ = (upto - 1) / 256 in
    none_last c.args.self.now region (region * 256) (c.in-Some.place + 1) upto c.args.end (omega arith) (omega arith) c.loop-upto.invariant.none
    (λ k behind less. c.in-Some.ensures.last k (omega (arith, behind)) less) q (omega (arith, above)) below

pub loop-upto-preserved : goal.loop-upto-preserved
loop-upto-preserved g c =
    let upto : ℕ = c.loop-upto.upto in
    let region : ℕ = (upto - 1) / 256 in
    let first : ℕ = c.max-first.result in
    record {
      within = omega (arith, c.max-first.ensures, c.loop-upto.invariant.within, c.loop-upto-test.true);
      none = λ q above below. none_last c.args.self.now region (region * 256) (first - region * 256) upto c.args.end (omega arith) (omega arith) c.loop-upto.invariant.none
          (c.in_default.ensures.none refl) q (omega (arith, above, c.max-first.ensures)) below;
    }
