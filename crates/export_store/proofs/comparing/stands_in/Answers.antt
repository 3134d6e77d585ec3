use Rattle.std.proofs.Common.{◌≡◌, ◌+◌, ◌-◌, ◌≤◌, ℕ, List, length, take, drop, ap, sym, refl, ◌∙◌, arith}
use Rattle.payload.specs.Bytes.{range_of}
use Rattle.export_store.proofs.SameLemmas.{same-next, same-part}
use Rattle.payload.proofs.RowLemmas.{take-range_of}
use Rattle.export_store.proofs.comparing.stands_in.Goals as goal

pub returns-then-not-are_same : goal.returns-then-not-are_same
returns-then-not-are_same g c =
    let part : List ℕ = c.from-part.result.now in
    let done : ℕ = c.loop-done.done in
    let n : ℕ = c.min-n.result in
    let at : ℕ = c.args.from + done in
    let short : n ≤ length part = omega (arith, c.min-n.ensures) in
    let upto : done + n ≤ c.args.count = omega (arith, c.min-n.ensures, c.loop-done-test.true) in
    let mine : take n part ≡ range_of c.args.piece.now at n = ap (λ (bytes : List ℕ). take n bytes) c.from-part.ensures.bytes ∙ take-range_of c.args.piece.now at (length part) n short in
    let count : c.args.start + done + n - (c.args.start + done) ≡ n = omega arith in
    let theirs : take (c.args.start + done + n - (c.args.start + done)) (drop (c.args.start + done) c.args.bytes.now) ≡ range_of c.args.bytes.now (c.args.start + done) n =
    ap (λ (k : ℕ). take k (drop (c.args.start + done) c.args.bytes.now)) count in
    (λ no. absurd {A = range_of c.args.bytes.now c.args.start c.args.count ≡ range_of c.args.piece.now c.args.from c.args.count} (cc), λ same. c.if-not-are_same.ensures.1 (theirs ∙ same-part c.args.bytes.now c.args.piece.now c.args.start c.args.from c.args.count done n upto same ∙ sym mine))

pub loop-done-preserved : goal.loop-done-preserved
loop-done-preserved g c =
    let part : List ℕ = c.from-part.result.now in
    let done : ℕ = c.loop-done.done in
    let n : ℕ = c.min-n.result in
    let at : ℕ = c.args.from + done in
    let short : n ≤ length part = omega (arith, c.min-n.ensures) in
    let upto : done + n ≤ c.args.count = omega (arith, c.min-n.ensures, c.loop-done-test.true) in
    let mine : take n part ≡ range_of c.args.piece.now at n = ap (λ (bytes : List ℕ). take n bytes) c.from-part.ensures.bytes ∙ take-range_of c.args.piece.now at (length part) n short in
    let count : c.args.start + done + n - (c.args.start + done) ≡ n = omega arith in
    let theirs : take (c.args.start + done + n - (c.args.start + done)) (drop (c.args.start + done) c.args.bytes.now) ≡ range_of c.args.bytes.now (c.args.start + done) n =
    ap (λ (k : ℕ). take k (drop (c.args.start + done) c.args.bytes.now)) count in
    record {
      upto = upto;
      same = same-next c.args.bytes.now c.args.piece.now c.args.start c.args.from done n (omega (arith, upto, c.requires.fits)) (omega (arith, upto, c.requires.within))
          c.loop-done.invariant.same (sym theirs ∙ c.if-not-are_same.ensures.0 refl ∙ mine);
    }
