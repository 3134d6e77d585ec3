use Rattle.std.proofs.Common.{◌∙◌, is_some, length, sym, ap, arith}
use Rattle.std.specs.List.{filter}
use Rattle.number_sets.specs.Bits.{is_set}
use Rattle.number_sets.proofs.CountLemmas.{count_le}
use Rattle.page_table.proofs.PlacesLemmas.{places-length, places_taken}
use Rattle.page_table.proofs.places.Places.count.Goals as goal

pub returns-clause-count : goal.returns-clause-count
returns-clause-count g c =
    let i = c.self.inside in
    omega (arith, c.len.ensures, i.items.ok.0) ∙ sym (places_taken i.marks i.items.items c.self.invariant) ∙ ap (λ all. length (filter is_some all)) c.self.view_is

pub returns-clause-few : goal.returns-clause-few
returns-clause-few g c = omega (arith, c.len.ensures, c.self.invariant, count_le (is_set c.self.inside.marks) 0 256)

pub returns-clause-long : goal.returns-clause-long
returns-clause-long g c = ap length (sym c.self.view_is) ∙ places-length c.self.inside.marks c.self.inside.items.items
