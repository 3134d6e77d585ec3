use Rattle.std.proofs.Common.{sym, ◌∙◌, refl, arith, ◌≡◌, ◌+◌, ◌*◌, ◌<◌, length}
use mathlib.Core.Logic.{⊎_elim}
use Rattle.index_heap.specs.Heap.{parent}
use Rattle.index_heap.proofs.Steps.{down_step, down_done, first_of, kids_done}
use Rattle.index_heap.proofs.sift.sift_down.Goals as goal

pub returns-then-not-is_sooner : goal.returns-then-not-is_sooner
returns-then-not-is_sooner c =
    let ch = c.sooner_child-child.ensures in
    let first = first_of c.args.keys.now c.loop-at.order c.loop-at.at (2 * c.loop-at.at + 1) c.sooner_child-child.result refl ch.child ch.first ch.second in
    down_done c.args.keys.now c.loop-at.order c.loop-at.places c.loop-at.at c.loop-at.invariant
    (kids_done c.args.keys.now c.loop-at.order c.loop-at.at c.sooner_child-child.result first (sym c.is_sooner.ensures ∙ c.if-not-is_sooner.true))

pub loop-at-preserved : goal.loop-at-preserved
loop-at-preserved c =
    let ch = c.sooner_child-child.ensures in
    let first = first_of c.args.keys.now c.loop-at.order c.loop-at.at (2 * c.loop-at.at + 1) c.sooner_child-child.result refl ch.child ch.first ch.second in
    let pos : 0 < c.sooner_child-child.result = ⊎_elim (λ k. omega (arith, k)) (λ k. omega (arith, k.0)) ch.child in
    let up : parent c.sooner_child-child.result ≡ c.loop-at.at = ⊎_elim (λ k. omega (arith, k)) (λ k. omega (arith, k.0)) ch.child in
    let inside : c.sooner_child-child.result < length c.loop-at.order = ⊎_elim (λ k. omega (arith, k, c.loop-at-test.true)) (λ k. omega (arith, k.0, k.1)) ch.child in
    down_step c.args.keys.now c.loop-at.order c.exchange.new.order c.loop-at.places c.exchange.new.places c.loop-at.at c.sooner_child-child.result c.loop-at.invariant pos up inside first (sym c.is_sooner.ensures ∙ c.if-not-is_sooner.false) c.exchange.ensures.long c.exchange.ensures.swapped c.exchange.ensures.paired
