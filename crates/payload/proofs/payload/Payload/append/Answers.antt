use Rattle.std.proofs.Common.{◌≡◌, ◌+◌, ◌-◌, ◌++◌, ℕ, List, length, sym, ap, ◌∙◌, arith}
use Rattle.std.proofs.lemmas.List.{append_assoc, append-nil, take_all}
use Rattle.payload.specs.Bytes.{range_of}
use Rattle.payload.proofs.Overwriting.{range_of-next}
use Rattle.payload.proofs.payload.Payload.append.Goals as goal

pub loop-at-init : goal.loop-at-init
loop-at-init g c =
    let bytes : List ℕ = c.args.self.now in
    record {
      place = omega arith;
      room = omega (arith, c.in_ok-reserve.ensures);
      bytes = rw c.in_ok-reserve.ensures.items (ap (λ (all : List ℕ). c.args.out.now.items ++ all) (take_all (length bytes - 0) bytes (omega arith)));
    }

pub returns-in_err-extend_from_slice-clause-err : goal.returns-in_err-extend_from_slice-clause-err
returns-in_err-extend_from_slice-clause-err g c =
    grind (arith, c.in_err-extend_from_slice.ensures, c.in_err-extend_from_slice.was, c.loop-at.invariant.room, c.from-part.ensures.within)

pub loop-at-smaller : goal.loop-at-smaller
loop-at-smaller g c = omega (arith, c.from-part.ensures.some, c.from-part.ensures.within)

pub loop-at-preserved : goal.loop-at-preserved
loop-at-preserved g c =
    let bytes : List ℕ = c.args.self.now in
    let out : List ℕ = c.loop-at.out.items in
    let part : List ℕ = c.from-part.result.now in
    let at : ℕ = c.loop-at.at in
    let n : ℕ = length part in
    let tail : List ℕ = range_of bytes (at + n) (length bytes - (at + n)) in
    let more = c.in_ok-extend_from_slice.ensures in
    record {
      place = c.from-part.ensures.within;
      room = omega (arith, more.len, more.capacity, c.loop-at.invariant.room, c.from-part.ensures.within);
      bytes = ap (λ (items : List ℕ). items ++ tail) more.items
          ∙ append_assoc out part tail
          ∙ ap (λ (here : List ℕ). out ++ (here ++ tail)) c.from-part.ensures.bytes
          ∙ ap (λ (rest : List ℕ). out ++ rest) (range_of-next bytes at n (length bytes) c.from-part.ensures.within (omega arith))
          ∙ c.loop-at.invariant.bytes;
    }

pub returns-clause-ok : goal.returns-clause-ok
returns-clause-ok g c =
    let bytes : List ℕ = c.args.self.now in
    let at : ℕ = c.loop-at.at in
    let left : length bytes - at ≡ 0 = omega (arith, c.loop-at-test.false) in
    sym (append-nil c.loop-at.out.items)
    ∙ ap (λ (n : ℕ). c.loop-at.out.items ++ range_of bytes at n) (sym left)
    ∙ c.loop-at.invariant.bytes
