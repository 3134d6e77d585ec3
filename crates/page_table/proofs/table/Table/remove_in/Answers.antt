use Rattle.std.proofs.Common.{◌∙◌, ap, arith}
use Rattle.page_table.specs.Holes.{is_noted}
use Rattle.page_table.specs.Table.{Stored, is_kept}
use Rattle.page_table.proofs.TableLemmas.{split, room_removed}
use Rattle.page_table.proofs.table.Table.remove_in.Goals as goal

pub remove_pages-requires : goal.remove_pages-requires
remove_pages-requires g c =
    let i = c.self.inside in
    omega (arith, c.self.invariant.pages, c.remove_in-count.ensures.count, split (is_kept i.chunks) c.args.chunk (omega (arith, c.requires.before)))

pub invariant_of-self : goal.invariant_of-self
invariant_of-self g c =
    let i = c.self.inside in
    room_removed i.chunks c.remove_in-count.new.self i.holes c.remove_pages.new.self c.args.chunk c.args.first c.args.end c.remove_in-count.result (omega (arith, c.requires.before)) c.self.invariant
    c.remove_in-count.ensures.here c.remove_in-count.ensures.others c.remove_in-count.ensures.count c.remove_pages.ensures.rows c.remove_pages.ensures.pages
    (λ k inside. ap (λ (table : Stored). is_noted table.holes k) c.self.view_is ∙ c.requires.filled k inside)
