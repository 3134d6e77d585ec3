use Rattle.std.proofs.Common.{◌≡◌, ◌∙◌, ◌+◌, ◌-◌, ◌<◌, ◌≤◌, ℕ, Option, Some, List, [], length, get_or, take, drop, if◌then◌else◌, refl, sym, ap, arith, length-drop}
use Rattle.std.proofs.lemmas.List.{drop-drop, length-take, take_all}
use Rattle.std.proofs.lemmas.Slice.{drop-put_mid}
use borrow.Rule.Slice.PartMut.{put_mid}
use Rattle.number_sets.specs.Bits.{is_between}
use Rattle.number_sets.proofs.RangeLemmas.{between_yes, between_from, between_to}
use Rattle.page_table.specs.Table.{in_chunks, put_from}
use Rattle.page_table.proofs.RunLemmas.{kept_put, put_nothing, put_next, length-put_mid, front_of, part_of}
use Rattle.page_table.proofs.chunks.Chunks.exchange_all.Goals as goal

pub loop-done-init : goal.loop-done-init
loop-done-init g c = record {
  upto = omega arith;
  long = refl;
  rest = refl;
  here = λ k. put_nothing c.args.first (take 0 c.args.pages.now) (in_chunks c.args.self.now) k refl;
}

pub exchange_in-requires-clause-stored : goal.exchange_in-requires-clause-stored
exchange_in-requires-clause-stored g c = λ k inside.
    let before = c.loop-done.invariant in
    let all : List (List ℕ) = c.args.pages.now in
    let at : ℕ = c.loop-done.done in
    let from : ℕ = c.args.first in
    let part : List (List ℕ) = take (at + c.min-count.result - at) (drop at c.loop-done.pages) in
    let begins : from + at ≤ k = between_from (from + at) (from + at + length part) k inside in
    let ends : k < from + at + length part = between_to (from + at) (from + at + length part) k inside in
    kept_put c.args.self.now c.loop-done.self from (take at all) before.here k
    (c.requires.stored k (between_yes from (from + length all) k (omega (arith, begins))
    (omega (arith, ends, length-take (at + c.min-count.result - at) (drop at c.loop-done.pages), length-drop at c.loop-done.pages, before.upto, before.long))))

pub loop-done-preserved : goal.loop-done-preserved
loop-done-preserved g c =
    let before = c.loop-done.invariant in
    let was : List (List ℕ) = c.args.pages.now in
    let now : List (List ℕ) = c.loop-done.pages in
    let at : ℕ = c.loop-done.done in
    let from : ℕ = c.args.first in
    let n : ℕ = c.min-count.result in
    let m : ℕ = at + n - at in
    let part : List (List ℕ) = take m (drop at now) in
    let fits : at + n ≤ length now = omega (arith, c.min-count.ensures, before.upto, c.loop-done-test.true) in
    let few : length part ≡ n = omega (arith, length-take m (drop at now), length-drop at now, fits) in
    let same : m ≡ n = omega arith in
    let back : length c.exchange_in.new.pages ≡ m = c.exchange_in.ensures.long ∙ few ∙ sym same in
    let long : length (put_mid at m now c.exchange_in.new.pages) ≡ length now = length-put_mid now c.exchange_in.new.pages at m (omega (arith, fits)) back in
    record {
      upto = omega (arith, long, fits);
      long = long ∙ before.long;
      rest = drop-put_mid at m now c.exchange_in.new.pages (at + n) (omega arith) (omega (arith, fits)) back
          ∙ sym (drop-drop n at now) ∙ ap (λ (pages : List (List ℕ)). drop n pages) before.rest ∙ drop-drop n at was;
      here = λ k. c.exchange_in.ensures.here k
          ∙ ap (λ (page : Option (List ℕ)). if is_between (from + at) (from + at + length part) k then Some (get_or part (k - (from + at)) []) else page) (before.here k)
          ∙ put_next from at n (from + at) (take at was) part (take (at + n) was) (in_chunks c.args.self.now) refl
          (omega (arith, length-take at was, before.long, fits)) few (omega (arith, length-take (at + n) was, before.long, fits))
          (λ i below. front_of was at (at + n) i below (omega arith))
          (λ i below. part_of was now at n m (at + n) i same refl below before.rest) k;
    }

pub returns : goal.returns
returns g c = λ k.
    let before = c.loop-done.invariant in
    let done : take c.loop-done.done c.args.pages.now ≡ c.args.pages.now = take_all c.loop-done.done c.args.pages.now (omega (arith, before.long, before.upto, c.loop-done-test.false)) in
    before.here k ∙ ap (λ (pages : List (List ℕ)). put_from c.args.first pages (in_chunks c.args.self.now) k) done
