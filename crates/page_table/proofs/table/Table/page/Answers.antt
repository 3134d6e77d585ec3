use Rattle.std.proofs.Common.{◌∙◌, ℕ, refl, sym, ap}
use Rattle.page_table.specs.Table.{Stored, in_chunks}
use Rattle.page_table.proofs.TableLemmas.{none_is}
use Rattle.page_table.proofs.table.Table.page.Goals as goal

pub returns-in_default : goal.returns-in_default
returns-in_default g c =
    let n : ℕ = c.args.number in
    sym (none_is c.args.self.now n (ap (λ (table : Stored). in_chunks table.chunks n) (sym c.self.view_is) ∙ c.in_default.ensures.none refl))
