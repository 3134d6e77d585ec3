use Rattle.std.proofs.Common.{◌≡◌, ◌/◌, ◌%◌, ℕ, List, length, ap, ◌∙◌, arith}
use Rattle.std.specs.Arc.{arc_value}
use Rattle.std.specs.List.{concat}
use Rattle.payload.proofs.RowLemmas.{all_pages}
use Rattle.payload.proofs.payload.all_of.Goals as goal

pub returns-in-Ok-clause-pages : goal.returns-in-Ok-clause-pages
returns-in-Ok-clause-pages g c =
    let rows : List (List ℕ) = (arc_value c.args.pages).items in
    let first : c.args.start ≡ 0 = omega (arith, c.if-start-ne0.false) in
    let paged : c.args.end % 4096 ≡ 0 = omega (arith, c.if-end-ne0.false) in
    let all : c.args.end / 4096 ≡ length rows = omega (arith, c.if-end-len.false, c.len.ensures, ap (λ pages. length pages.items) c.deref.ensures) in
    ap (λ pages. concat pages.items) c.in-Ok.ensures.ok ∙ all_pages rows c.args.start c.args.end c.requires.whole first paged all
