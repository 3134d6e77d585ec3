use Rattle.std.proofs.Common.{◌≡◌, ℕ, ◌+◌, ◌/◌, List, length, sym, ap, subst, ◌∙◌, IfSome}
use Rattle.std.specs.List.{concat}
use Rattle.payload.specs.Rows.{AreWhole}
use Rattle.export_store.proofs.WholeLemmas.{place_in_range}
use Rattle.export_store.proofs.paged.Paged.write_whole.Goals as goal

pub put_whole-requires-clause-stored : goal.put_whole-requires-clause-stored
put_whole-requires-clause-stored g c = λ j below.
    let pages : List (List ℕ) = c.in-Some.pages.items in
    let piece : List ℕ = c.args.piece.now in
    let found = c.in_ok-pages.ensures in
    let whole : AreWhole pages = subst (λ o. IfSome o (λ p. AreWhole p.items)) c.in-Some.is found.whole in
    let bytes : concat pages ≡ piece = subst (λ o. IfSome o (λ p. concat p.items ≡ piece)) c.in-Some.is found.bytes in
    c.in_ok-store_all.ensures.stored (c.args.offset / 4096 + j)
    (place_in_range pages c.args.offset c.len-bytes.result j whole c.requires.paged (c.len-bytes.ensures ∙ ap length (sym bytes)) below)
