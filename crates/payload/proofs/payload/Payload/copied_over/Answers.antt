use Rattle.std.proofs.Common.{◌≡◌, ◌+◌, ◌≤◌, ◌++◌, ℕ, List, length, take, ap, sym, ◌∙◌, arith, length-append}
use Rattle.std.proofs.lemmas.List.{append_assoc}
use Rattle.payload.specs.Bytes.{range_of}
use Rattle.payload.proofs.Overwriting.{range_of-in_two}
use Rattle.payload.proofs.RowLemmas.{take-range_of}
use Rattle.payload.proofs.payload.Payload.copied_over.Goals as goal

pub loop-done-preserved : goal.loop-done-preserved
loop-done-preserved g c =
    let part : List ℕ = c.from-part.result.now in
    let done : ℕ = c.loop-done.done in
    let n : ℕ = c.min-n.result in
    let at : ℕ = c.args.from + done in
    let front : List ℕ = take c.args.start c.args.page.now in
    let before : List ℕ = c.loop-done.block.items in
    let written : List ℕ = range_of c.args.self.now c.args.from done in
    let short : n ≤ length part = omega (arith, c.min-n.ensures) in
    let upto : done + n ≤ c.args.count = omega (arith, c.min-n.ensures, c.loop-done-test.true) in
    let next : take n part ≡ range_of c.args.self.now at n = ap (λ (bytes : List ℕ). take n bytes) c.from-part.ensures.bytes ∙ take-range_of c.args.self.now at (length part) n short in
    record {
      upto = upto;
      room = omega (
        arith,
        c.extend_reserved-in-loop-done.ensures.spare,
        c.loop-done.invariant.room,
        ap length c.extend_reserved-in-loop-done.ensures.items ∙ length-append before (take n part),
      );
      bytes = c.extend_reserved-in-loop-done.ensures.items
          ∙ ap (λ (bytes : List ℕ). bytes ++ take n part) c.loop-done.invariant.bytes
          ∙ append_assoc front written (take n part)
          ∙ ap (λ (bytes : List ℕ). front ++ (written ++ bytes)) next
          ∙ ap (λ (bytes : List ℕ). front ++ bytes) (sym (range_of-in_two c.args.self.now c.args.from done n (omega (arith, upto, c.requires.within))));
    }
