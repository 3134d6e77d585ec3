use Rattle.std.proofs.Common.{◌∙◌, sym, ap}
use Rattle.page_table.specs.Table.{Stored, in_table, is_kept, put_from}
use Rattle.page_table.proofs.TableLemmas.{is_stored}
use Rattle.page_table.proofs.RunLemmas.{table_put, room_put}
use Rattle.page_table.proofs.table.Table.exchange.Goals as goal

pub exchange_all-requires-clause-stored : goal.exchange_all-requires-clause-stored
exchange_all-requires-clause-stored g c = λ k inside.
    ap (λ (table : Stored). is_kept table.chunks k) c.self.view_is ∙ sym (is_stored c.args.self.now k) ∙ c.requires.stored k inside

pub invariant_of-self : goal.invariant_of-self
invariant_of-self g c =
    let i = c.self.inside in
    room_put (record { chunks = i.chunks; holes = i.holes.rows }) (record { chunks = c.exchange_all.new.self; holes = c.fill_all.new.self.rows }) c.args.first c.args.pages.now c.exchange_all.ensures
    (λ k inside. ap (λ (table : Stored). is_kept table.chunks k) c.self.view_is ∙ sym (is_stored c.args.self.now k) ∙ c.requires.stored k inside)
    i.holes c.fill_all.new.self c.self.invariant c.fill_all.ensures.pages c.fill_all.ensures.noted

pub returns : goal.returns
returns g c = λ k.
    let i = c.self.inside in
    table_put (record { chunks = i.chunks; holes = i.holes.rows }) (record { chunks = c.exchange_all.new.self; holes = c.fill_all.new.self.rows }) c.args.first c.args.pages.now c.exchange_all.ensures c.fill_all.ensures.holes k
    ∙ ap (λ (table : Stored). put_from c.args.first c.args.pages.now (in_table table) k) c.self.view_is
