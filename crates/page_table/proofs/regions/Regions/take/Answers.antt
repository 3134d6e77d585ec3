use Rattle.std.proofs.Common.{◌∙◌, ◌/◌, ◌<◌, ℕ, None, length, sym, arith}
use Rattle.page_table.specs.Table.{Regions}
use Rattle.page_table.proofs.RegionsLemmas.{chunk_past, before_is, set_is, set_others}
use Rattle.page_table.proofs.regions.Regions.take.Goals as goal

pub returns-then-number-len-clause-before : goal.returns-then-number-len-clause-before
returns-then-number-len-clause-before g c =
    let i = c.self.inside in
    sym (chunk_past i.regions.items c.args.self.now c.args.number c.self.view_is (omega (arith, c.len.ensures, c.if-number-len.true, i.regions.ok.0)))

pub returns-then-number-len-clause-here : goal.returns-then-number-len-clause-here
returns-then-number-len-clause-here g c =
    let i = c.self.inside in
    chunk_past i.regions.items c.args.self.now c.args.number c.self.view_is (omega (arith, c.len.ensures, c.if-number-len.true, i.regions.ok.0))

pub returns-clause-before : goal.returns-clause-before
returns-clause-before g c =
    let n : ℕ = c.args.number in
    let rows : Regions = c.self.inside.regions.items in
    let below : n / 256 < length rows = omega (arith, c.len.ensures, c.if-number-len.false, c.self.inside.regions.ok.0) in
    c.take.ensures.before ∙ sym (before_is rows c.args.self.now c.self.view_is n c.index_mut.result.now below c.index_mut.ensures.value)

pub returns-clause-here : goal.returns-clause-here
returns-clause-here g c =
    let n : ℕ = c.args.number in
    let rows : Regions = c.self.inside.regions.items in
    let below : n / 256 < length rows = omega (arith, c.len.ensures, c.if-number-len.false, c.self.inside.regions.ok.0) in
    set_is rows c.args.self.now c.self.view_is n c.index_mut.result.now below c.index_mut.ensures.value c.take.new.self None c.take.ensures.long c.take.ensures.after

pub returns-clause-others : goal.returns-clause-others
returns-clause-others g c =
    let n : ℕ = c.args.number in
    let rows : Regions = c.self.inside.regions.items in
    let below : n / 256 < length rows = omega (arith, c.len.ensures, c.if-number-len.false, c.self.inside.regions.ok.0) in
    set_others rows c.args.self.now c.self.view_is n c.index_mut.result.now below c.index_mut.ensures.value c.take.new.self None c.take.ensures.after
