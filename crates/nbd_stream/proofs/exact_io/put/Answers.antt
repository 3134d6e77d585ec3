use Rattle.std.proofs.Common.{arith, length, ◌<◌, ◌-◌, take, drop, sym, subst, List, ℕ, ◌∙◌}
use Rattle.std.specs.Io.KnownBytes.{Appends}
use Rattle.std.proofs.Math.Seq.{take-add}
use Rattle.std.proofs.lemmas.List.{take-append-drop, take_rest, length-take, length-drop}
use Rattle.nbd_stream.proofs.KnownLemmas.{Appends-then, Appends-kept}
use Rattle.nbd_stream.proofs.BufferLemmas.{Appends-nothing}
use Rattle.nbd_stream.proofs.exact_io.put.Goals as goal

pub returns-in-Ok-eq0-clause-err : goal.returns-in-Ok-eq0-clause-err
returns-in-Ok-eq0-clause-err g c =
    let t = c.args.text.now in
    let at = c.loop-at.at in
    let none = subst (λ (n : ℕ). Appends (g.W.Write.contents c.loop-at.writer.inner) (g.W.Write.contents c.write.new.self.inner) (take n (take (length t - at) (drop at t)))) c.in-Ok-eq0.field-0-test c.in-Ok-eq0.ensures.bytes in
    (take at t, drop at t, take-append-drop at t, Appends-nothing (g.W.Write.contents c.args.writer.now.inner) (g.W.Write.contents c.loop-at.writer.inner) (g.W.Write.contents c.write.new.self.inner) (take at t) c.loop-at.invariant.gave none)

pub returns-in-Err-clause-err : goal.returns-in-Err-clause-err
returns-in-Err-clause-err g c =
    let t = c.args.text.now in
    let at = c.loop-at.at in
    (take at t, drop at t, take-append-drop at t, Appends-kept (g.W.Write.contents c.args.writer.now.inner) (g.W.Write.contents c.loop-at.writer.inner) (g.W.Write.contents c.write.new.self.inner) (take at t) c.loop-at.invariant.gave c.in-Err.ensures.bytes)

pub loop-at-preserved : goal.loop-at-preserved
loop-at-preserved g c =
    let before = c.loop-at in
    let n = c.in-Ok.count in
    let t = c.args.text.now in
    let u = g.W.Write.contents c.args.writer.now.inner in
    let v = g.W.Write.contents before.writer.inner in
    let w = g.W.Write.contents c.write.new.self.inner in
    let piece : Appends v w (take n (drop before.at t)) = subst (λ (x : List ℕ). Appends v w (take n x)) (take_rest t before.at) c.in-Ok.ensures.bytes in
    let both = Appends-then u v w (take before.at t) (take n (drop before.at t)) before.invariant.gave piece in
    let some : 0 < n = omega (arith, c.in-Ok.count-test.1) in
    record {
      in_range = omega (arith, c.in-Ok.ensures.bound, length-take (length t - before.at) (drop before.at t), length-drop before.at t);
      gave = subst (Appends u w) (sym (take-add before.at n t)) both;
      kept = c.in-Ok.ensures.kept some ∙ before.invariant.kept;
    }
