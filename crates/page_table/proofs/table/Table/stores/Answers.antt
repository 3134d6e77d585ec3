use Rattle.std.proofs.Common.{◌∙◌, ℕ, nat_eq, is_some, length, refl, sym, ap}
use Rattle.page_table.specs.Table.{Stored, is_kept}
use Rattle.page_table.proofs.TableLemmas.{is_stored}
use Rattle.page_table.proofs.table.Table.stores.Goals as goal

pub returns-in-Some : goal.returns-in-Some
returns-in-Some g c =
    ap (λ (n : ℕ). nat_eq n 4096) (ap length c.as_slice.ensures.bytes ∙ c.as_slice.ensures.whole)
    ∙ sym (ap is_some c.in-Some.ensures.some)
    ∙ ap (λ (table : Stored). is_kept table.chunks c.args.number) c.self.view_is
    ∙ sym (is_stored c.args.self.now c.args.number)

pub returns-in-None : goal.returns-in-None
returns-in-None g c =
    sym (ap is_some (c.in-None.ensures.none refl))
    ∙ ap (λ (table : Stored). is_kept table.chunks c.args.number) c.self.view_is
    ∙ sym (is_stored c.args.self.now c.args.number)
