use Rattle.std.proofs.Common.{◌≡◌, ◌∙◌, ◌+◌, ◌-◌, ◌/◌, ℕ, Bool, ◌&&◌, not, is_some, refl, ap, arith}
use Rattle.page_table.specs.Table.{in_table}
use Rattle.export_store.specs.Pages.{lies_whole_in}
use Rattle.export_store.proofs.ZeroLemmas.{emptied, goes_whole, behind_it, before_it}
use Rattle.export_store.proofs.zeroing.emptied_pages.Goals as goal

pub returns : goal.returns
returns g c = λ k.
    let size : ℕ = c.args.size in
    let offset : ℕ = c.args.offset in
    let count : ℕ = c.args.count in
    let first : ℕ = offset / 4096 in
    let last : ℕ = (offset + count - 1) / 4096 in
    let pages = c.args.pages.now in
    let stays = λ (j : ℕ). is_some (in_table pages j) && not (lies_whole_in size offset count j) in
    let whole = c.whole_pages-whole.ensures in
    let at_first : c.stays.result ≡ stays first = c.stays.ensures ∙ ap (λ (b : Bool). is_some (in_table pages first) && not b) (whole first (omega (arith, c.requires.some, c.requires.within))) in
    let at_last : c.stays-2.result ≡ stays last = c.stays-2.ensures ∙ ap (λ (b : Bool). is_some (in_table pages last) && not b) (whole last (omega (arith, c.requires.some, c.requires.within))) in
    emptied size offset count first last c.next_if.result c.next_if-2.result k stays c.requires.some c.requires.within refl refl
    (λ j there. goes_whole (is_some (in_table pages j)) (lies_whole_in size offset count j) there)
    (behind_it c.stays.result (stays first) first c.next_if.result at_first c.next_if.ensures)
    (before_it c.stays-2.result (stays last) last c.next_if-2.result at_last c.next_if-2.ensures)
