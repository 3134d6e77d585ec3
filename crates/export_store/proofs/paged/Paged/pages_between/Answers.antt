use Rattle.std.proofs.Common.{◌≡◌, ◌++◌, ◌∷◌, [], ℕ, List, length, sym, ap, subst, ◌∙◌, arith}
use Rattle.std.specs.List.{concat}
use Rattle.std.proofs.lemmas.List.Elements.{All-nil, All-append, All-cons}
use Rattle.payload.specs.Rows.{AreWhole}
use Rattle.export_store.specs.Pages.{IsPaged, page_of}
use Rattle.export_store.proofs.PageLemmas.{no_pages, one_page_more}
use Rattle.export_store.proofs.paged.Paged.pages_between.Goals as goal

pub loop-number-init : goal.loop-number-init
loop-number-init g c =
    let is : IsPaged c.args.self.now = subst IsPaged c.self.view_is c.self.invariant in
    let none : c.in_ok-pages.pages.items ≡ [] = c.in_ok-pages.ensures.items in
    record {
      begun = omega arith;
      whole = subst AreWhole (sym none) (All-nil (λ (page : List ℕ). length page ≡ 4096));
      bytes = ap concat none ∙ no_pages (page_of c.args.self.now) is.whole c.args.first;
    }

pub loop-number-preserved : goal.loop-number-preserved
loop-number-preserved g c =
    let is : IsPaged c.args.self.now = subst IsPaged c.self.view_is c.self.invariant in
    let before = c.loop-number.invariant in
    let pushed : c.push.new.self.items ≡ c.loop-number.pages.items ++ c.in_ok-page.page ∷ [] = c.in_ok-push.ensures.items in
    record {
      begun = omega (arith, before.begun);
      whole = subst AreWhole (sym pushed) (All-append (λ (page : List ℕ). length page ≡ 4096) c.loop-number.pages.items (c.in_ok-page.page ∷ []) before.whole (All-cons (λ (page : List ℕ). length page ≡ 4096) c.in_ok-page.page [] c.in_ok-page.ensures.whole (All-nil (λ (page : List ℕ). length page ≡ 4096))));
      bytes = ap concat pushed ∙ one_page_more (page_of c.args.self.now) is.whole c.args.first c.loop-number.pages.items c.loop-number.number c.in_ok-page.page before.begun before.bytes c.in_ok-page.ensures.bytes;
    }
