use Rattle.std.proofs.Common.{ℕ, ◌≤◌, ◌+◌, List, take, length, sym, ◌∙◌, ap, rules}
use Rattle.std.specs.List.{sum_by}
use Rattle.std.proofs.lemmas.List.{take_all}
use Rattle.std.proofs.lemmas.List.Sums.{sum_by_more}
use Rattle.server_core.specs.Members.{Standing}
use Rattle.server_core.proofs.server.steps_of.Goals as goal

pub overflow_add-total : goal.overflow_add-total
overflow_add-total g c =
    let within = c.loop-member-test.true in
    let few = c.requires in
    let so_far = c.loop-member.invariant.1 in
    search rules

pub loop-member-preserved : goal.loop-member-preserved
loop-member-preserved g c =
    let f : Standing → ℕ = λ (m : Standing). m.part.count in (
      ap (λ n. n + c.from-total.result) c.loop-member.invariant.0
          ∙ ap (λ n. sum_by f (take c.loop-member.member-index c.args.members.now) + n) (c.from-total.ensures ∙ c.steps.ensures ∙ ap f c.member-item.is)
          ∙ sym (sum_by_more f c.args.members.now c.loop-member.member-index c.member-item.result c.loop-member-test.true),
      search rules,
    )

pub returns : goal.returns
returns g c =
    let n : length c.args.members.now ≤ c.loop-member.member-index = search rules in
    c.loop-member.invariant.0 ∙ ap (λ (l : List Standing). sum_by (λ (m : Standing). m.part.count) l) (take_all c.loop-member.member-index c.args.members.now n)
