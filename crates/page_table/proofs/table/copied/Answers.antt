use Rattle.std.proofs.Common.{◌≡◌, ◌∙◌, ℕ, List, ap}
use Rattle.number_sets.specs.Bits.{is_set}
use Rattle.page_table.specs.Table.{shown}
use Rattle.page_table.proofs.RegionsLemmas.{if_ok_so}
use Rattle.page_table.proofs.table.copied.Goals as goal

pub returns : goal.returns
returns g c =
    let hole = is_set c.args.holes.now in
    if_ok_so c.holding.result (λ (page : List ℕ). page ≡ c.show-bytes.result) (λ (copy : List ℕ). copy ≡ shown hole 0 c.args.page.now)
    (λ copy is. is ∙ c.show-bytes.ensures ∙ ap (shown hole 0) c.copy.ensures.bytes) c.holding.ensures.bytes
