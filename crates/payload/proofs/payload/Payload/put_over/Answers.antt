use Rattle.std.proofs.Common.{◌≡◌, ℕ, List, length, sym, ap, ◌∙◌, arith}
use Rattle.payload.specs.Bytes.{range_of, overwritten}
use Rattle.payload.proofs.BytesLemmas.{length-range_of}
use Rattle.payload.proofs.RowLemmas.{whole_over}
use Rattle.payload.proofs.payload.Payload.put_over.Goals as goal

pub returns-in-Some-clause-bytes : goal.returns-in-Some-clause-bytes
returns-in-Some-clause-bytes g c =
    let count = c.if-count-eq-PAGE.true in
    let bytes : List ℕ = range_of c.args.self.now c.args.from 4096 in
    let long : length bytes ≡ 4096 = length-range_of c.args.self.now c.args.from 4096 (omega (arith, count, c.requires.within)) in
    c.in_ok-page.ensures.cases ∙ c.in-Some.ensures
    ∙ sym (whole_over c.args.page.now bytes c.args.start c.args.count c.as_slice-whole.ensures.whole long c.requires.fits count)
    ∙ ap (λ (n : ℕ). overwritten c.args.page.now c.args.start c.args.count (range_of c.args.self.now c.args.from n)) (sym count)
