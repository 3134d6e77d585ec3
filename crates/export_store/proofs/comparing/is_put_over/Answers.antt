use Rattle.std.proofs.Common.{◌≡◌, ◌+◌, ◌≤◌, ℕ, List, length, ap, sym, ◌∙◌, arith}
use Rattle.payload.specs.Bytes.{range_of, overwritten}
use Rattle.payload.proofs.BytesLemmas.{length-range_of}
use Rattle.export_store.proofs.SameLemmas.{middle_of, put_together}
use Rattle.export_store.proofs.comparing.is_put_over.Goals as goal

pub returns : goal.returns
returns g c =
    let new : List ℕ = c.as_slice-new.result.now in
    let old : List ℕ = c.as_slice-old.result.now in
    let start : ℕ = c.args.start in
    let count : ℕ = c.args.count in
    let bytes : List ℕ = range_of c.args.piece.now c.args.from count in
    let long : length bytes ≡ count = length-range_of c.args.piece.now c.args.from count c.requires.within in
    let whole : length new ≡ 4096 = ap length c.as_slice-new.ensures.bytes ∙ c.as_slice-new.ensures.whole in
    let also : length old ≡ 4096 = ap length c.as_slice-old.ensures.bytes ∙ c.as_slice-old.ensures.whole in
    let fits : start + count ≤ length old = omega (arith, also, c.requires.fits) in
    let made : overwritten old start count bytes ≡ overwritten c.args.old.now start count bytes = ap (λ (xs : List ℕ). overwritten xs start count bytes) c.as_slice-old.ensures.bytes in (
      λ there. sym c.as_slice-new.ensures.bytes
          ∙ put_together old bytes start count fits long new (whole ∙ sym also) (c.are_same.ensures.0 c.if-not-are_same.false) (c.are_same-2.ensures.0 c.if-not-are_same-2.false) (c.stands_in.ensures.0 there)
          ∙ made,
      λ same. c.stands_in.ensures.1 (ap (λ (xs : List ℕ). range_of xs start count) (c.as_slice-new.ensures.bytes ∙ same ∙ sym made) ∙ middle_of old bytes start count fits long),
    )
