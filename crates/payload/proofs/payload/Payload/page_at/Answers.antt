use Rattle.std.proofs.Common.{◌≡◌, ℕ, ◌+◌, ◌/◌, ◌%◌, ◌<◌, List, length, sym, ap, ◌∙◌, arith}
use Rattle.payload.specs.Bytes.{range_of}
use Rattle.payload.specs.Payload.{bytes_of}
use Rattle.payload.proofs.RowLemmas.{page_there, range_from, range_of-page}
use Rattle.payload.proofs.payload.Payload.page_at.Goals as goal

pub returns-in-Whole : goal.returns-in-Whole
returns-in-Whole g c =
    let same : c.in-Whole.page ≡ c.args.self.now = ap bytes_of (sym c.in-Whole.is) ∙ c.self.view_is in
    let long : length c.args.self.now ≡ 4096 = sym (ap length same) ∙ c.as_slice-whole.ensures.whole in
    let first : 0 ≡ c.args.at = omega (arith, c.requires, long) in
    same ∙ sym (range_of-page c.args.self.now long) ∙ ap (λ (at : ℕ). range_of c.args.self.now at 4096) first

pub bounds-pages-place : goal.bounds-pages-place
bounds-pages-place g c = page_there _ _ _ c.in-Pages.ensures.0 _ c.in-Pages.ensures.1 c.args.at (omega (arith, c.requires))

pub returns : goal.returns
returns g c =
    let is = c.in-Pages.ensures.0 in
    let view = c.in-Pages.ensures.1 in
    let place : ℕ = c.in-Pages.start + c.args.at in
    let page = c.index-pages-place.result in
    let some : c.args.at < length c.args.self.now = omega (arith, c.requires) in
    let there : place / 4096 < length c.in-Pages.pages.now = page_there _ _ _ is _ view c.args.at some in
    let whole : length page ≡ 4096 = ap length c.index-pages-place.is ∙ is.whole (place / 4096) page there in
    let begin : place % 4096 ≡ 0 = c.if-place-ne0.false in
    sym (range_from _ _ _ is _ view c.args.at 4096 page some c.requires (omega (arith, begin))
    ∙ ap (λ (bytes : List ℕ). range_of bytes (place % 4096) 4096) (sym c.index-pages-place.is)
    ∙ ap (λ (at : ℕ). range_of page at 4096) begin
    ∙ range_of-page page whole)
