use Rattle.std.proofs.Common.{◌∙◌, ◌≤◌, ℕ, List, length, take, inl, inr, refl, ap, arith}
use Rattle.std.proofs.lemmas.List.{length-take, take-append-le, take_all}
use Rattle.payload.proofs.swept.Swept.take_pages.Goals as goal

pub loop-page-init : goal.loop-page-init
loop-page-init g c = record { pages = take_all (length c.args.self.now.0) c.args.self.now.0 (omega arith); chunks = refl }

pub loop-page-preserved : goal.loop-page-preserved
loop-page-preserved g c =
    let before = c.loop-page.invariant in
    let was : List (List ℕ) = c.args.self.now.0 in
    let now : List (List ℕ) = c.loop-page.self.0 in
    let fits : length was ≤ length now = omega (arith, length-take (length was) now, ap length before.pages) in
    record {
      pages = elim c.take_page.ensures.pages [
        | inl more ↦ ap (take (length was)) more ∙ take-append-le (length was) now _ fits ∙ before.pages
        | inr same ↦ ap (take (length was)) same ∙ before.pages
      ];
      chunks = c.take_page.ensures.chunks ∙ before.chunks;
    }
