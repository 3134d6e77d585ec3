use Rattle.std.proofs.Common.{◌≡◌, ◌+◌, ◌++◌, length, take, drop, sym, subst, ap, List, ℕ, ◌∙◌, arith}
use Rattle.std.specs.Io.KnownBytes.{Appends}
use Rattle.std.proofs.Math.Seq.{take-add}
use Rattle.std.proofs.lemmas.List.{take-append-drop}
use Rattle.nbd_stream.specs.Streams.{WritesPart}
use Rattle.nbd_stream.proofs.KnownLemmas.{Appends-then}
use Rattle.nbd_stream.proofs.TextPartLemmas.{part_before, part_behind}
use Rattle.nbd_stream.proofs.exact_io.put_payload.Goals as goal

pub returns-in-Err-clause-err : goal.returns-in-Err-clause-err
returns-in-Err-clause-err g c =
    let t = c.args.payload.now in
    let at = c.loop-at.at in
    let part = c.from-part.result.now in
    let n = length part in
    let u = g.W.Write.contents c.args.writer.now.inner in
    let v = g.W.Write.contents c.loop-at.writer.inner in
    let w = g.W.Write.contents c.put.new.writer.inner in
    let front : take at t ++ part ≡ take (at + n) t = ap (λ (x : List ℕ). take at t ++ x) c.from-part.ensures.bytes ∙ sym (take-add at n t) in
    let whole : (take at t ++ part) ++ drop (at + n) t ≡ t = ap (λ (x : List ℕ). x ++ drop (at + n) t) front ∙ take-append-drop (at + n) t in
    subst (WritesPart u w) whole (part_before u w (take at t ++ part) (drop (at + n) t) (part_behind u v w (take at t) part c.loop-at.invariant.gave c.in-Err.ensures.err))

pub loop-at-preserved : goal.loop-at-preserved
loop-at-preserved g c =
    let t = c.args.payload.now in
    let at = c.loop-at.at in
    let part = c.from-part.result.now in
    let n = length part in
    let u = g.W.Write.contents c.args.writer.now.inner in
    let v = g.W.Write.contents c.loop-at.writer.inner in
    let w = g.W.Write.contents c.put.new.writer.inner in
    let piece : Appends v w (take n (drop at t)) = subst (Appends v w) c.from-part.ensures.bytes c.in-Ok.ensures.ok in
    record {
      in_range = omega (arith, c.from-part.ensures.within);
      gave = subst (Appends u w) (sym (take-add at n t)) (Appends-then u v w (take at t) (take n (drop at t)) c.loop-at.invariant.gave piece);
      kept = c.in-Ok.ensures.kept ∙ c.loop-at.invariant.kept;
    }
