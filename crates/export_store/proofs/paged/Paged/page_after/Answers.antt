use Rattle.std.proofs.Common.{◌≡◌, ◌+◌, ◌∙◌, ℕ, List, length, refl, ap}
use Rattle.export_store.specs.Pages.{page_of, page_after}
use Rattle.export_store.proofs.PieceLemmas.{page_changed, page_covered}
use Rattle.export_store.proofs.paged.Paged.page_after.Goals.{then-count-eq-PAGE, else-count-eq-PAGE+in_ok-old}
use Rattle.export_store.proofs.paged.Paged.page_after.Goals as goal

pub returns-clause-bytes : goal.returns-clause-bytes
returns-clause-bytes g c =
    let offset : ℕ = c.args.offset in
    let piece : List ℕ = c.args.piece.now in
    let number : ℕ = c.args.number in
    let was : List ℕ = page_of c.args.self.now number in
    let old : List ℕ = c.if-count-eq-PAGE.old in
    let end : c.end_of-end.result ≡ offset + length piece = c.end_of-end.ensures.end ∙ ap (λ (n : ℕ). offset + n) c.len.ensures in
    let starts = c.saturating_sub-start.ensures in
    let comes = c.saturating_sub-from.ensures in
    let goes = c.min-count.ensures in
    c.in_ok-page.ensures.bytes
    ∙ page_changed offset piece number _ _ _ _ _ c.requires.touched refl starts comes end goes old
    ∙ (elim c.if-count-eq-PAGE.branch [
      | then-count-eq-PAGE w ↦ page_covered offset piece number _ _ _ _ _ c.requires.touched refl starts comes end goes w.if-count-eq-PAGE.true old was
          (ap length w.old-is ∙ w.zeros-old.ensures.whole) (c.end_of-end.ensures.pages.whole number)
      | else-count-eq-PAGE+in_ok-old w ↦ ap (λ (page : List ℕ). page_after offset piece number page) (w.old-is ∙ w.in_ok-old.ensures.bytes)
    ])
