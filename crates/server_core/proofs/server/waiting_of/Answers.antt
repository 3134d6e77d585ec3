use Rattle.std.proofs.Common.{ℕ, ◌<◌, ◌≤◌, ◌+◌, ◌^◌, List, take, length, sym, ◌∙◌, ap, arith, rules}
use Rattle.std.specs.List.{sum_by}
use Rattle.std.proofs.lemmas.List.{take_all}
use Rattle.std.proofs.lemmas.List.Sums.{sum_by_more, sum_by_more_le}
use Rattle.server_core.specs.Members.{Standing}
use Rattle.server_core.proofs.server.waiting_of.Goals as goal

pub overflow_add-total : goal.overflow_add-total
overflow_add-total g c =
    let f : Standing → ℕ = λ (m : Standing). length m.part.waiting in
    let le = sum_by_more_le f c.args.members.now c.loop-member.member-index c.member-item.result c.loop-member-test.true in
    let is = ap f c.member-item.is in
    let n = c.waiting-total.ensures in
    let so_far = c.loop-member.invariant in
    let small = c.requires in
    let all : c.loop-member.total + c.waiting-total.result < 2 ^ 63 = omega arith in
    search rules

pub loop-member-preserved : goal.loop-member-preserved
loop-member-preserved g c =
    let f : Standing → ℕ = λ (m : Standing). length m.part.waiting in
    ap (λ n. n + c.waiting-total.result) c.loop-member.invariant
    ∙ ap (λ n. sum_by f (take c.loop-member.member-index c.args.members.now) + n) (c.waiting-total.ensures ∙ ap f c.member-item.is)
    ∙ sym (sum_by_more f c.args.members.now c.loop-member.member-index c.member-item.result c.loop-member-test.true)

pub returns : goal.returns
returns g c =
    let n : length c.args.members.now ≤ c.loop-member.member-index = search rules in
    c.loop-member.invariant ∙ ap (λ (l : List Standing). sum_by (λ (m : Standing). length m.part.waiting) l) (take_all c.loop-member.member-index c.args.members.now n)
