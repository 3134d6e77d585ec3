use Rattle.std.proofs.Common.{◌++◌, List, ℕ, ap, ◌∙◌}
use Rattle.std.specs.List.{concat}
use Rattle.payload.proofs.RowLemmas.{concat-next}
use Rattle.payload.proofs.growing.close.Goals as goal

pub returns-clause-bytes : goal.returns-clause-bytes
returns-clause-bytes g c =
    let pages : List (List ℕ) = c.args.pages.now.items in
    ap concat c.in_ok-push.ensures.items
    ∙ concat-next pages c.of.result
    ∙ ap (λ (page : List ℕ). concat pages ++ page) (c.of.ensures.bytes ∙ c.in_ok-bytes.ensures.ok)
