use Rattle.std.proofs.Common.{◌≡◌, ℕ, ◌+◌, ◌-◌, ◌%◌, ◌≤◌, List, length, sym, ap, ◌∙◌, arith}
use Rattle.payload.specs.Bytes.{range_of}
use Rattle.payload.proofs.BytesLemmas.{length-range_of}
use Rattle.payload.proofs.RowLemmas.{length-payload, page_there, range_from}
use Rattle.payload.proofs.payload.Payload.from.Goals as goal

pub bounds-pages-place : goal.bounds-pages-place
bounds-pages-place g c = page_there _ _ _ c.in-Pages.ensures.0 _ c.in-Pages.ensures.1 c.args.at c.requires

pub returns-in-Pages-clause-bytes : goal.returns-in-Pages-clause-bytes
returns-in-Pages-clause-bytes g c =
    let is = c.in-Pages.ensures.0 in
    let view = c.in-Pages.ensures.1 in
    let place : ℕ = c.in-Pages.start + c.args.at in
    let begin : ℕ = place % 4096 in
    let count : ℕ = c.min-count.result in
    let page = c.index-pages-place.result in
    let width : begin + count - begin ≡ count = omega arith in
    let fits : begin + count ≤ 4096 = omega (arith, c.min-count.ensures) in
    let within : c.args.at + count ≤ length c.args.self.now = omega (arith, c.min-count.ensures, c.requires, length-payload _ _ _ is _ view) in
    let long : length (range_of page begin count) ≡ count = length-range_of page begin count (omega (arith, fits, c.as_slice-in-Pages.ensures.whole)) in
    rw (c.as_slice-in-Pages.ensures.bytes, width, long)
    (ap (λ (bytes : List ℕ). range_of bytes begin count) c.index-pages-place.is ∙ sym (range_from _ _ _ is _ view c.args.at count page c.requires within fits))
