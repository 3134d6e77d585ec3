use Rattle.std.proofs.Common.{ap, subst, pos, ◌≡◌, ◌∙◌, ℕ, ℤ, List, Option}
use Rattle.std.specs.Prelude.{FitsSigned}
use mir.Syntax.{w128}
use Rattle.std.proofs.lemmas.Int.{to_z-of_z}
use Rattle.tag_clock.specs.declared.Tags.{Tags}
use Rattle.eligibility.specs.Choice.{choice}
use Rattle.eligibility.specs.Indexed.{IsSplit, AllLate, chosen_of}
use Rattle.eligibility.proofs.Due.{chosen_from}
use Rattle.eligibility.proofs.heaped.HeapedEligibility.choose.Goals as goal

pub returns-clause-chosen : goal.returns-clause-chosen
returns-clause-chosen g c =
    let same : c.self.inside.slots.items ≡ c.args.self.now.0 = ap (λ (p : List (Option Tags) × ℕ). p.0) c.self.view_is in
    let f1 : FitsSigned w128 c.tag.result = record { sfits = c.tag.type_inv } in
    let f2 : FitsSigned w128 c.tag-2.result = record { sfits = c.tag-2.type_inv } in
    let split : IsSplit (pos c.args.now) c.self.inside.slots.items c.release.new.throttled c.release.new.ready
    = rw (to_z-of_z w128 c.tag.result f1, c.tag.ensures.value, c.as_slice.ensures.value) at c.release.ensures.split in
    let late : AllLate (pos c.args.now) c.release.new.throttled
    = subst (λ (z : ℤ). AllLate z c.release.new.throttled) (to_z-of_z w128 c.tag.result f1 ∙ c.tag.ensures.value) c.release.ensures.late in
    let found : c.chosen.result ≡ chosen_of c.tag-2.result c.least.result c.least-2.result = subst (λ (z : ℤ). c.chosen.result ≡ chosen_of z c.least.result c.least-2.result) (to_z-of_z w128 c.tag-2.result f2) c.chosen.ensures in
    found
    ∙ rw (c.tag-2.ensures.value, c.least.ensures, c.least-2.ensures) (chosen_from (pos c.args.now) c.self.inside.slots.items c.self.inside.reserved c.release.new.throttled c.release.new.ready split late c.self.invariant.by_r)
    ∙ ap (choice (pos c.args.now)) same
