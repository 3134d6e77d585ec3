use Rattle.std.proofs.Common.{◌≡◌, ◌∙◌, ◌/◌, ◌%◌, ℕ, Some, None, get_or, refl, sym, ap}
use Rattle.page_table.specs.Table.{Regions, in_chunks}
use Rattle.page_table.proofs.PlacesLemmas.{some_so}
use Rattle.page_table.proofs.ChunksLemmas.{found_is, absent_is}
use Rattle.page_table.proofs.chunks.Chunks.get.Goals as goal

pub returns-in-Some-clause-some : goal.returns-in-Some-clause-some
returns-in-Some-clause-some g c =
    let n : ℕ = c.args.number in
    some_so c.get-in-Some.result (λ page. get_or c.in-Some.chunk.now (n % 256) None ≡ Some page.now) (λ page. in_chunks c.args.self.now n ≡ Some page.now) (λ page is.
    sym (found_is c.self.inside.chunks n (n / 256) c.in-Some.chunk.now refl (sym c.in-Some.ensures.some) ∙ ap (λ (all : Regions). in_chunks all n) c.self.view_is) ∙ is)
    c.get-in-Some.ensures.some

pub returns-in-Some-clause-none : goal.returns-in-Some-clause-none
returns-in-Some-clause-none g c = λ absent.
    let n : ℕ = c.args.number in
    sym (found_is c.self.inside.chunks n (n / 256) c.in-Some.chunk.now refl (sym c.in-Some.ensures.some) ∙ ap (λ (all : Regions). in_chunks all n) c.self.view_is)
    ∙ c.get-in-Some.ensures.none absent

pub returns-in-None-clause-none : goal.returns-in-None-clause-none
returns-in-None-clause-none g c = λ absent.
    let n : ℕ = c.args.number in
    ap (λ (all : Regions). in_chunks all n) (sym c.self.view_is)
    ∙ absent_is c.self.inside.chunks n (n / 256) refl (c.in-None.ensures.none refl)
