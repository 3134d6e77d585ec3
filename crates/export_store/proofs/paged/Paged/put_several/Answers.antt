use Rattle.std.proofs.Common.{◌≡◌, ℕ, ◌+◌, ◌/◌, List, length, sym, ap, ◌∙◌}
use Rattle.std.specs.List.{concat}
use Rattle.export_store.proofs.WholeLemmas.{place_in_range}
use Rattle.export_store.proofs.paged.Paged.put_several.Goals as goal

pub put_whole-requires-clause-stored : goal.put_whole-requires-clause-stored
put_whole-requires-clause-stored g c =
    let pages : List (List ℕ) = c.in-Ok.pages.items in
    let count : c.len-count.result ≡ length (concat pages) = c.len-count.ensures ∙ ap length (sym c.replace.ensures.value ∙ sym c.in-Ok.ensures.bytes) in λ j below.
    c.in_ok-store_all.ensures.stored (c.args.offset / 4096 + j)
    (place_in_range pages c.args.offset c.len-count.result j c.in-Ok.ensures.whole c.requires.paged count below)
