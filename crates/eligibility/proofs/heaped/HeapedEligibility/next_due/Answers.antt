use Rattle.std.proofs.Common.{refl, ap, subst, sym, pos, ◌≡◌, ◌≤◌, ◌∙◌, ℕ, ℤ, List, Option, None, arith}
use Rattle.std.specs.Prelude.{FitsSigned}
use mir.Syntax.{w128}
use Rattle.std.proofs.lemmas.Int.{to_z-of_z}
use Rattle.tag_clock.specs.declared.Tags.{Tags}
use Rattle.index_heap.specs.Keys.{least_key}
use Rattle.eligibility.specs.NextDue.{IsNextDue, lesser, not_before, key_alone}
use Rattle.eligibility.proofs.NextDue.{IsTold, none_there, ready_due_now, told_of_heaps, some_told, never_told}
use Rattle.eligibility.proofs.heaped.HeapedEligibility.next_due.Goals as goal

pub returns-then-is_some-clause-due : goal.returns-then-is_some-clause-due
returns-then-is_some-clause-due g c =
    let i = c.self.inside in
    let same : i.slots.items ≡ c.args.self.now.0 = ap (λ (p : List (Option Tags) × ℕ). p.0) c.self.view_is in
    let asked : i.asked ≡ c.args.self.now.1 = ap (λ (p : List (Option Tags) × ℕ). p.1) c.self.view_is in
    let f : FitsSigned w128 c.tag.result = record { sfits = c.tag.type_inv } in
    let early : i.asked ≤ c.args.now = omega (arith, asked, c.requires) in
    let due = ready_due_now i.asked c.args.now i.slots.items i.reserved i.throttled i.ready c.self.invariant early (rw (← c.least.ensures) (sym c.is_some.ensures ∙ c.if-is_some.true)) in
    rw (to_z-of_z w128 c.tag.result f, c.tag.ensures.value)
    (subst (λ (ss : List (Option Tags)). IsNextDue (pos c.args.now) ss (pos c.args.now)) same due)

pub returns-clause-due : goal.returns-clause-due
returns-clause-due g c =
    let i = c.self.inside in
    let same : i.slots.items ≡ c.args.self.now.0 = ap (λ (p : List (Option Tags) × ℕ). p.0) c.self.view_is in
    let f : FitsSigned w128 c.tag-2.result = record { sfits = c.tag-2.type_inv } in
    let none = none_there (least_key i.ready) (rw (← c.least.ensures) (sym c.is_some.ensures ∙ c.if-is_some.false)) in
    let limited : c.not_before.result ≡ not_before (pos c.args.now) c.lesser_of.result = subst (λ (z : ℤ). c.not_before.result ≡ not_before z c.lesser_of.result) (to_z-of_z w128 c.tag-2.result f ∙ c.tag-2.ensures.value) c.not_before.ensures in
    let is : c.not_before.result ≡ not_before (pos c.args.now) (lesser (key_alone (least_key i.reserved)) (key_alone (least_key i.throttled)))
    = limited ∙ rw (c.lesser_of.ensures, c.key_of-reservation.ensures, c.key_of-limit.ensures, c.least-2.ensures, c.least-3.ensures) refl in
    let told = told_of_heaps i.asked c.args.now i.slots.items i.reserved i.throttled i.ready c.self.invariant none in
    some_told (pos c.args.now) c.args.self.now.0 c.not_before.result
    (subst (λ (ss : List (Option Tags)). IsTold (pos c.args.now) ss c.not_before.result) same
    (subst (λ (o : Option ℤ). IsTold (pos c.args.now) i.slots.items o) (sym is) told))

pub returns-clause-never : goal.returns-clause-never
returns-clause-never g c =
    let i = c.self.inside in
    let same : i.slots.items ≡ c.args.self.now.0 = ap (λ (p : List (Option Tags) × ℕ). p.0) c.self.view_is in
    let f : FitsSigned w128 c.tag-2.result = record { sfits = c.tag-2.type_inv } in
    let none = none_there (least_key i.ready) (rw (← c.least.ensures) (sym c.is_some.ensures ∙ c.if-is_some.false)) in
    let limited : c.not_before.result ≡ not_before (pos c.args.now) c.lesser_of.result = subst (λ (z : ℤ). c.not_before.result ≡ not_before z c.lesser_of.result) (to_z-of_z w128 c.tag-2.result f ∙ c.tag-2.ensures.value) c.not_before.ensures in
    let is : c.not_before.result ≡ not_before (pos c.args.now) (lesser (key_alone (least_key i.reserved)) (key_alone (least_key i.throttled)))
    = limited ∙ rw (c.lesser_of.ensures, c.key_of-reservation.ensures, c.key_of-limit.ensures, c.least-2.ensures, c.least-3.ensures) refl in
    let told = told_of_heaps i.asked c.args.now i.slots.items i.reserved i.throttled i.ready c.self.invariant none in
    never_told (pos c.args.now) c.args.self.now.0 c.not_before.result
    (subst (λ (ss : List (Option Tags)). IsTold (pos c.args.now) ss c.not_before.result) same
    (subst (λ (o : Option ℤ). IsTold (pos c.args.now) i.slots.items o) (sym is) told))
