use Rattle.std.proofs.Common.{rules, ◌≡◌, ◌+◌, ◌++◌, ◌∷◌, [], List, ℕ, length, drop, take, ◌-◌, subst, ap, arith, Option, Ok, Some}
use Rattle.nbd_wire.specs.Grammar.{RequestMessage}
use Rattle.std.proofs.lemmas.List.{length-drop}
use Rattle.nbd_wire.specs.Pieces.{IsFirst}
use Rattle.nbd_wire.proofs.PieceLemmas.{take_rest, Takes-more, long_first_one}
use Rattle.nbd_wire.proofs.pieces.split.Goals as goal

pub loop-request-preserved : goal.loop-request-preserved
loop-request-preserved g c =
    let bytes = c.args.bytes.now in
    let at = c.loop-request.at in
    let q = c.in-Ok-Some.request in
    let push : c.push.new.self.items ≡ c.loop-request.out.items ++ q ∷ [] = search rules in
    let front : IsFirst (drop at bytes) (Ok (Some q)) = subst (λ (t : List ℕ). IsFirst t (Ok (Some q))) (take_rest at bytes) (subst (λ (o : Option RequestMessage). IsFirst (take (length bytes - at) (drop at bytes)) (Ok o)) c.in-Ok-Some.field-0-is c.in-Ok-Some.ensures) in
    let len : 28 + c.len-count.result ≡ 28 + length q.payload = omega (arith, c.len-count.ensures, ap length c.payload.ensures.value) in
    record {
      within = omega (arith, long_first_one (drop at bytes) q front, len, length-drop at bytes, c.loop-request.invariant.within);
      taken = Takes-more bytes at (28 + c.len-count.result) c.loop-request.out.items c.push.new.self.items _ q c.loop-request.invariant.taken front len push;
    }
