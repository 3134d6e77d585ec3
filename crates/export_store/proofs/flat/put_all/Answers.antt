use Rattle.std.proofs.Common.{◌≡◌, ◌+◌, ◌≤◌, ℕ, List, length, take, refl, ap, ◌∙◌, arith}
use Rattle.std.proofs.lemmas.List.{take_all}
use Rattle.payload.specs.Bytes.{range_of, overwritten}
use Rattle.payload.proofs.BytesLemmas.{length-overwritten}
use Rattle.export_store.proofs.FlatLemmas.{none_written, part_written}
use Rattle.export_store.proofs.flat.put_all.Goals as goal

pub loop-at-init : goal.loop-at-init
loop-at-init g c = record {
  upto = omega arith;
  long = refl;
  written = none_written c.args.kept.now c.args.piece.now c.args.offset (omega (arith, c.requires));
}

pub loop-at-preserved : goal.loop-at-preserved
loop-at-preserved g c =
    let before = c.loop-at.invariant in
    let at : ℕ = c.loop-at.at in
    let part : List ℕ = c.from-part.result.now in
    let n : ℕ = length part in
    let kept : List ℕ = c.loop-at.kept in
    let within : c.args.offset + at + n ≤ length kept = omega (arith, before.long, c.from-part.ensures.within, c.requires) in
    record {
      upto = c.from-part.ensures.within;
      long = ap length c.put.ensures ∙ length-overwritten kept (c.args.offset + at) n part within refl ∙ before.long;
      written = c.put.ensures
          ∙ ap (λ (bytes : List ℕ). overwritten kept (c.args.offset + at) n bytes) c.from-part.ensures.bytes
          ∙ ap (λ (bytes : List ℕ). overwritten bytes (c.args.offset + at) n (range_of c.args.piece.now at n)) before.written
          ∙ part_written c.args.kept.now c.args.piece.now c.args.offset at n c.requires c.from-part.ensures.within;
    }

pub returns : goal.returns
returns g c =
    let before = c.loop-at.invariant in
    let piece = c.args.piece.now in
    let all : c.loop-at.at ≡ length piece = omega (arith, before.upto, c.loop-at-test.false, c.len.ensures) in
    before.written ∙ ap (λ (n : ℕ). overwritten c.args.kept.now c.args.offset n (take n piece)) all
    ∙ ap (λ (bytes : List ℕ). overwritten c.args.kept.now c.args.offset (length piece) bytes) (take_all (length piece) piece (omega arith))
