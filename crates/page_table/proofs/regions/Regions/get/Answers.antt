use Rattle.std.proofs.Common.{◌≡◌, ◌∙◌, ◌%◌, ℕ, Some, None, get_or, arith}
use Rattle.page_table.specs.Table.{chunk_of}
use Rattle.page_table.proofs.PlacesLemmas.{some_so}
use Rattle.page_table.proofs.RegionsLemmas.{Region, before_is, chunk_past}
use Rattle.page_table.proofs.regions.Regions.get.Goals as goal

pub returns-in-Some-clause-some : goal.returns-in-Some-clause-some
returns-in-Some-clause-some g c =
    let n : ℕ = c.args.number in
    let row : Region = c.in-Some.region.now in
    let found = c.in-Some.ensures.lookup in
    some_so c.get-in-Some.result (λ chunk. get_or row (n % 256) None ≡ Some chunk.now) (λ chunk. chunk_of c.args.self.now n ≡ Some chunk.now)
    (λ chunk is. before_is c.deref.result.now c.args.self.now (c.deref.ensures.value ∙ c.self.view_is) n row found.3.0 found.1 ∙ is) c.get-in-Some.ensures.some

pub returns-in-Some-clause-none : goal.returns-in-Some-clause-none
returns-in-Some-clause-none g c = λ none.
    let found = c.in-Some.ensures.lookup in
    before_is c.deref.result.now c.args.self.now (c.deref.ensures.value ∙ c.self.view_is) c.args.number c.in-Some.region.now found.3.0 found.1 ∙ c.get-in-Some.ensures.none none

pub returns-in-None-clause-none : goal.returns-in-None-clause-none
returns-in-None-clause-none g c = λ none.
    chunk_past c.deref.result.now c.args.self.now c.args.number (c.deref.ensures.value ∙ c.self.view_is) (omega (arith, c.in-None.ensures.lookup))
