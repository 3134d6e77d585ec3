use Rattle.std.proofs.Common.{◌≡◌, ◌/◌, ◌%◌, ℕ, List, length, ap, ◌∙◌, arith}
use Rattle.std.specs.List.{concat}
use Rattle.payload.proofs.RowLemmas.{all_pages}
use Rattle.payload.proofs.payload.Payload.whole_pages.Goals as goal

pub returns-clause-bytes : goal.returns-clause-bytes
returns-clause-bytes g c =
    let rows : List (List ℕ) = c.in-Pages.pages.now in
    let first : c.in-Pages.start ≡ 0 = omega (arith, c.if-start-ne0.false) in
    let paged : c.in-Pages.end % 4096 ≡ 0 = omega (arith, c.if-end-ne0.false) in
    let all : c.in-Pages.end / 4096 ≡ length rows = omega (arith, c.if-end-pages.false) in
    ap (λ (pages : List (List ℕ)). concat pages) (c.in_ok-pages.ensures.items_if_clones_equal (λ x y same. same))
    ∙ all_pages rows c.in-Pages.start c.in-Pages.end c.in-Pages.ensures.0.whole first paged all
    ∙ c.in-Pages.ensures.1
