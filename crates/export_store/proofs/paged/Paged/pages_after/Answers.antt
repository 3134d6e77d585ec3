use Rattle.std.proofs.Common.{◌++◌, ◌-◌, ◌/◌, ◌∷◌, [], ◌∙◌, ap, ℕ, List, arith}
use Rattle.export_store.specs.Pages.{page_of, pages_after}
use Rattle.export_store.proofs.PieceLemmas.{next_page}
use Rattle.export_store.proofs.paged.Paged.pages_after.Goals as goal

pub loop-number-preserved : goal.loop-number-preserved
loop-number-preserved g c =
    let before = c.loop-number.invariant in
    let ready : List (List ℕ) = pages_after (page_of c.args.self.now) c.args.offset c.args.piece.now (c.args.offset / 4096) (c.loop-number.number - c.args.offset / 4096) in
    record {
      begun = omega (arith, before.begun);
      ready = c.in_ok-push.ensures.items
          ∙ ap (λ (pages : List (List ℕ)). pages ++ c.in_ok-page.page ∷ []) before.ready
          ∙ ap (λ (page : List ℕ). ready ++ page ∷ []) c.in_ok-page.ensures.bytes
          ∙ next_page (page_of c.args.self.now) c.args.offset c.args.piece.now (c.args.offset / 4096) c.loop-number.number before.begun;
    }
