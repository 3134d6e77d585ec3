use Rattle.std.proofs.Common.{◌≡◌, ◌+◌, ◌-◌, ◌<◌, ◌≤◌, ◌/◌, ℕ, ap, subst, length, arith}
use Rattle.page_table.specs.Holes.{Holes, rows_before, AreOrdered}
use Rattle.page_table.proofs.HolesLemmas.{Row, before_within, before_more, before_less}
use Rattle.page_table.proofs.holes.Holes.find.Goals as goal

pub loop-from-init : goal.loop-from-init
loop-from-init g c =
    let i = c.self.inside in
    let same : length i.rows.items ≡ length c.args.self.now.rows = ap (λ (h : Holes). length h.rows) c.self.view_is in
    record {
      begun = omega arith;
      upto = omega (arith, before_within c.args.self.now.rows c.args.page, same, c.len-to.ensures, i.rows.ok.0);
      within = omega (arith, same, c.len-to.ensures, i.rows.ok.0);
    }

pub loop-from-preserved-then-index-page : goal.loop-from-preserved-then-index-page
loop-from-preserved-then-index-page g c =
    let i = c.self.inside in
    let before = c.loop-from.invariant in
    let page : ℕ = c.args.page in
    let row : Row = c.index.result.now in
    let middle : ℕ = c.loop-from.from + (c.loop-from.to - c.loop-from.from) / 2 in
    let same : length i.rows.items ≡ length c.args.self.now.rows = ap (λ (h : Holes). length h.rows) c.self.view_is in
    let more : middle < rows_before i.rows.items page =
    before_more row 0 i.rows.items page middle c.self.invariant.0 (omega (arith, same, before.within, c.loop-from-test.true)) (omega (arith, ap (λ (r : Row). r.0) c.index.ensures, c.if-index-page.true)) in
    record {
      begun = omega (arith, more, ap (λ (h : Holes). rows_before h.rows page) c.self.view_is);
      upto = before.upto;
      within = before.within;
    }

pub loop-from-preserved : goal.loop-from-preserved
loop-from-preserved g c =
    let i = c.self.inside in
    let before = c.loop-from.invariant in
    let page : ℕ = c.args.page in
    let row : Row = c.index.result.now in
    let middle : ℕ = c.loop-from.from + (c.loop-from.to - c.loop-from.from) / 2 in
    let same : length i.rows.items ≡ length c.args.self.now.rows = ap (λ (h : Holes). length h.rows) c.self.view_is in
    let less : rows_before i.rows.items page ≤ middle =
    before_less row i.rows.items page middle (omega (arith, same, before.within, c.loop-from-test.true)) (omega (arith, ap (λ (r : Row). r.0) c.index.ensures, c.if-index-page.false)) in
    record {
      begun = before.begun;
      upto = omega (arith, less, ap (λ (h : Holes). rows_before h.rows page) c.self.view_is);
      within = omega (arith, before.within, c.loop-from-test.true);
    }

pub returns-clause-ordered : goal.returns-clause-ordered
returns-clause-ordered g c = subst (λ (h : Holes). AreOrdered 0 h.rows) c.self.view_is c.self.invariant.0
