use Rattle.std.proofs.Common.{◌≡◌, ◌++◌, List, ℕ, sym, ap, ◌∙◌, length, drop, arith, length-append, append_assoc}
use Rattle.std.specs.List.{concat}
use Rattle.std.proofs.lemmas.List.{drop-append-le}
use Rattle.payload.proofs.growing.Growing.longer.Goals as goal

-- what was there, and these bytes behind it
same_bytes : (front last left next whole : List ℕ) → next ≡ last ++ left → (front ++ last) ++ left ≡ whole → front ++ next ≡ whole
same_bytes front last left next whole is all = ap (λ (list : List ℕ). front ++ list) is ∙ sym (append_assoc front last left) ∙ all

pub invariant_of-result : goal.invariant_of-result
invariant_of-result g c =
    let before = c.self.inside in
    let old = concat before.pages.items ++ before.last.items in
    let loop = c.loop-left in
    let begun = c.in_ok-begin.ensures in
    let all = same_bytes (concat loop.pages.items) loop.last.items loop.left.now c.begin.new.last.items _ begun.bytes loop.invariant.bytes in
    record {
      whole = loop.invariant.whole;
      begun = omega (arith, ap length begun.bytes, length-append loop.last.items loop.left.now, c.loop-left-test.false, c.len.ensures.value);
      room = begun.room;
      within = omega (arith, c.self.invariant.within, c.in-Some.ensures.1);
      long = omega (arith, ap length all, length-append old c.args.bytes.now, c.self.invariant.long, c.in-Some.ensures.1);
    }

pub returns : goal.returns
returns g c =
    let before = c.self.inside in
    let old = concat before.pages.items ++ before.last.items in
    let loop = c.loop-left in
    let all = same_bytes (concat loop.pages.items) loop.last.items loop.left.now c.begin.new.last.items _ c.in_ok-begin.ensures.bytes loop.invariant.bytes in
    ap (λ (list : List ℕ). drop before.start list) all
    ∙ drop-append-le before.start old c.args.bytes.now (omega (arith, c.self.invariant.long, c.self.invariant.within))
    ∙ ap (λ (list : List ℕ). list ++ c.args.bytes.now) c.self.view_is
