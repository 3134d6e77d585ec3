use Rattle.std.proofs.Common.{ap, subst, sym, pos, ◌≡◌, ◌∙◌, ℤ, List, Option}
use Rattle.std.specs.Prelude.{FitsSigned}
use mir.Syntax.{w128}
use Rattle.std.proofs.lemmas.Int.{to_z-of_z}
use Rattle.tag_clock.specs.declared.Tags.{Tags}
use Rattle.eligibility.specs.NextDue.{least_tag, not_before}
use Rattle.eligibility.proofs.NextDue.{IsTold, told, some_told, never_told}
use Rattle.eligibility.proofs.listed.ListedEligibility.next_due.Goals as goal

pub returns-clause-due : goal.returns-clause-due
returns-clause-due g c =
    let slots = c.args.self.now.slots.items in
    let f : FitsSigned w128 c.tag.result = record { sfits = c.tag.type_inv } in
    let limited : c.not_before.result ≡ not_before (pos c.args.now) c.least_tag.result = subst (λ (z : ℤ). c.not_before.result ≡ not_before z c.least_tag.result) (to_z-of_z w128 c.tag.result f ∙ c.tag.ensures.value) c.not_before.ensures in
    let least : c.least_tag.result ≡ least_tag slots = c.least_tag.ensures ∙ ap least_tag c.deref.ensures.value in
    some_told (pos c.args.now) slots c.not_before.result
    (subst (λ (o : Option ℤ). IsTold (pos c.args.now) slots o) (sym limited) (told (pos c.args.now) slots c.least_tag.result (sym least)))

pub returns-clause-never : goal.returns-clause-never
returns-clause-never g c =
    let slots = c.args.self.now.slots.items in
    let f : FitsSigned w128 c.tag.result = record { sfits = c.tag.type_inv } in
    let limited : c.not_before.result ≡ not_before (pos c.args.now) c.least_tag.result = subst (λ (z : ℤ). c.not_before.result ≡ not_before z c.least_tag.result) (to_z-of_z w128 c.tag.result f ∙ c.tag.ensures.value) c.not_before.ensures in
    let least : c.least_tag.result ≡ least_tag slots = c.least_tag.ensures ∙ ap least_tag c.deref.ensures.value in
    never_told (pos c.args.now) slots c.not_before.result
    (subst (λ (o : Option ℤ). IsTold (pos c.args.now) slots o) (sym limited) (told (pos c.args.now) slots c.least_tag.result (sym least)))
