use Rattle.std.proofs.Common.{◌≡◌, ◌∙◌, ℕ, List, Some, refl, sym, ap}
use Rattle.number_sets.specs.Bits.{is_set}
use Rattle.page_table.specs.Holes.{is_hole}
use Rattle.page_table.specs.Table.{Stored, in_table, shown}
use Rattle.page_table.proofs.ShownLemmas.{shown_same}
use Rattle.page_table.proofs.RegionsLemmas.{if_ok_so}
use Rattle.page_table.proofs.TableLemmas.{shown_is, whole_is}
use Rattle.page_table.proofs.table.Table.current.Goals as goal

pub returns-in-Some : goal.returns-in-Some
returns-in-Some g c =
    let n : ℕ = c.args.number in
    let now : Stored = c.args.self.now in
    let words : List ℕ = c.in-Some.holes.now in
    if_ok_so c.copied.result (λ (copy : List ℕ). copy ≡ shown (is_set words) 0 c.args.page.now) (λ (copy : List ℕ). Some copy ≡ in_table now n) (λ (copy : List ℕ) is.
    ap (λ (bytes : List ℕ). Some bytes) (is ∙ shown_same (is_hole now.holes n) (is_set words) 0 c.args.page.now (λ k. sym (c.in-Some.ensures.some k) ∙ ap (λ (table : Stored). is_hole table.holes n k) c.self.view_is))
    ∙ sym (shown_is now n c.args.page.now c.requires)) c.copied.ensures

pub returns-in_ok-page-in-None : goal.returns-in_ok-page-in-None
returns-in_ok-page-in-None g c =
    let n : ℕ = c.args.number in
    let now : Stored = c.args.self.now in
    ap (λ (bytes : List ℕ). Some bytes) c.in_ok-page-in-None.ensures.cases
    ∙ sym (whole_is now n c.args.page.now c.requires (λ k. ap (λ (table : Stored). is_hole table.holes n k) (sym c.self.view_is) ∙ c.in-None.ensures.none refl k))
