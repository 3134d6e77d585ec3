use Rattle.std.proofs.Common.{◌∙◌, ◌*◌, is_some, sym, ap}
use Rattle.page_table.specs.Table.{Stored, in_table, is_kept}
use Rattle.page_table.proofs.PlacesLemmas.{count_same}
use Rattle.page_table.proofs.TableLemmas.{is_stored}
use Rattle.page_table.proofs.table.Table.stored_in.Goals as goal

pub returns-clause-count : goal.returns-clause-count
returns-clause-count g c =
    let i = c.self.inside in
    let now : Stored = c.args.self.now in
    c.stored_in.ensures.count
    ∙ sym (count_same (is_kept i.chunks) (λ k. is_some (in_table now k)) (256 * c.args.chunk) 256 (λ k above. is_stored now k ∙ ap (λ (table : Stored). is_kept table.chunks k) (sym c.self.view_is)))
