use Rattle.std.proofs.Common.{◌≤◌, length, List, sym, ◌∙◌, ap, subst, arith, rules}
use Rattle.std.specs.List.{All}
use Rattle.nbd_commands.specs.Exports.{Export}
use Rattle.server_core.specs.Kept.{AreShort}
use Rattle.server_core.specs.Members.{Standing}
use Rattle.server_core.specs.Served.{served_of, IsServed, opening_served, setup_for}
use Rattle.server_core.proofs.Opened.{opened, opened_served, kept_new}
use Rattle.server_core.proofs.server.Server.new.Goals as goal

pub overflow_cast-exports : goal.overflow_cast-exports
overflow_cast-exports g c =
    let n = c.exports-exports.ensures.valid.exports.greatest in
    let same = ap length c.exports-exports.ensures.value in
    search rules

pub invariant_of-result : goal.invariant_of-result
invariant_of-result g c =
    let xs = c.exports-exports.result.now in
    let n = c.exports-exports.ensures.valid.exports.greatest in
    let same = ap length c.exports-exports.ensures.value in
    let few : length xs ≤ 64 = omega arith in
    let members = c.in_ok-members.ensures.members in
    subst (λ (ms : List Standing). IsServed ms (g.E.Eligibility.contents c.in_ok-eligible.eligible) (g.E.Eligibility.asked c.in_ok-eligible.eligible) c.zero.result c.inflight-inflight.result 0) (sym members)
    (subst (λ n. IsServed (opened c.inflight-inflight.result xs) (g.E.Eligibility.contents c.in_ok-eligible.eligible) (g.E.Eligibility.asked c.in_ok-eligible.eligible) n c.inflight-inflight.result 0) (sym c.zero.ensures)
    (kept_new c.inflight-inflight.result (g.E.Eligibility.asked c.in_ok-eligible.eligible) xs (g.E.Eligibility.contents c.in_ok-eligible.eligible) few
    (subst (All (λ (m : Standing). AreShort m.part.rates)) members c.in_ok-members.ensures.short) c.in_ok-eligible.ensures.contents c.in_ok-eligible.ensures.asked))

pub returns : goal.returns
returns g c =
    let i = c.inflight-inflight.result in
    ap (λ (ms : List Standing). served_of ms c.zero.result i) c.in_ok-members.ensures.members
    ∙ ap (λ n. served_of (opened i c.exports-exports.result.now) n i) c.zero.ensures
    ∙ opened_served i c.exports-exports.result.now
    ∙ ap (λ (xs : List Export). opening_served (setup_for (record { exports = xs; inflight = i }))) c.exports-exports.ensures.value
    ∙ ap (λ n. opening_served (setup_for (record { exports = c.args.config.now.exports; inflight = n }))) c.inflight-inflight.ensures.value
