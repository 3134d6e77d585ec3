use Rattle.std.proofs.Common.{◌∙◌, ◌/◌, ◌<◌, ℕ, Some, length, sym, ap, arith}
use Rattle.page_table.specs.Table.{Regions}
use Rattle.page_table.proofs.RegionsLemmas.{before_is, set_is, set_others, all_are}
use Rattle.page_table.proofs.regions.Regions.add.Goals as goal

pub add-requires-clause-none : goal.add-requires-clause-none
add-requires-clause-none g c =
    let n : ℕ = c.args.number in
    let rows : Regions = c.self.inside.regions.items in
    let below : n / 256 < length rows = omega (arith, c.in-Ok.ensures.long, ap length c.self.view_is) in
    sym (before_is rows c.lengthen.new.self c.self.view_is n c.index_mut.result.now below c.index_mut.ensures.value) ∙ c.in-Ok.ensures.same n ∙ c.requires.none

pub returns-in_default-add-clause-no_memory : goal.returns-in_default-add-clause-no_memory
returns-in_default-add-clause-no_memory g c =
    let n : ℕ = c.args.number in
    let rows : Regions = c.self.inside.regions.items in
    let below : n / 256 < length rows = omega (arith, c.in-Ok.ensures.long, ap length c.self.view_is) in
    all_are rows c.lengthen.new.self c.self.view_is n c.index_mut.result.now below c.index_mut.ensures.value c.add.new.self c.in_default-add.ensures.same n
    ∙ c.in-Ok.ensures.same n ∙ c.requires.none

pub returns-in_default-add-clause-others : goal.returns-in_default-add-clause-others
returns-in_default-add-clause-others g c = λ q apart.
    let n : ℕ = c.args.number in
    let rows : Regions = c.self.inside.regions.items in
    let below : n / 256 < length rows = omega (arith, c.in-Ok.ensures.long, ap length c.self.view_is) in
    all_are rows c.lengthen.new.self c.self.view_is n c.index_mut.result.now below c.index_mut.ensures.value c.add.new.self c.in_default-add.ensures.same q
    ∙ c.in-Ok.ensures.same q

pub returns-clause-here : goal.returns-clause-here
returns-clause-here g c =
    let n : ℕ = c.args.number in
    let rows : Regions = c.self.inside.regions.items in
    let below : n / 256 < length rows = omega (arith, c.in-Ok.ensures.long, ap length c.self.view_is) in
    set_is rows c.lengthen.new.self c.self.view_is n c.index_mut.result.now below c.index_mut.ensures.value c.add.new.self (Some c.args.chunk)
    c.add.ensures.long c.in-Ok-add.ensures.added

pub returns-clause-others : goal.returns-clause-others
returns-clause-others g c = λ q apart.
    let n : ℕ = c.args.number in
    let rows : Regions = c.self.inside.regions.items in
    let below : n / 256 < length rows = omega (arith, c.in-Ok.ensures.long, ap length c.self.view_is) in
    set_others rows c.lengthen.new.self c.self.view_is n c.index_mut.result.now below c.index_mut.ensures.value c.add.new.self (Some c.args.chunk)
    c.in-Ok-add.ensures.added q apart
    ∙ c.in-Ok.ensures.same q
