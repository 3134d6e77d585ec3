use Rattle.std.proofs.Common.{Ok, refl, subst}
use Rattle.std.specs.Int.{w128}
use Rattle.std.proofs.lemmas.Int.{to_z-of_z}
use Rattle.lone_export.specs.Lone.{Admits, IsAdmission}
use Rattle.lone_export.specs.declared.refusal.Admission.{Admission}
use Rattle.lone_export.proofs.Asked.{few_numbers, tag_in_range, not_worn, let_open, told_error, admitted_is, admitted_owed, lone-answer, lone-accept, accept_does}
use Rattle.lone_export.proofs.Admitted.{let_in, served_is, never_full, answered_does}
use Rattle.lone_export.proofs.lone.Lone.admit.Goals as goal

pub put-requires : goal.put-requires
put-requires g c =
    let w = c.args.self.now in
    let s = c.args.session in
    let may = let_in g.row.I-Alloc.Denot w s c.args.request c.args.admission c.requires in
    admitted_owed _ s _ c.self.invariant (admitted_is _ s _ c.admit.result _ c.self.invariant c.self.view_is may c.admit.ensures)

pub invariant_of-self : goal.invariant_of-self
invariant_of-self g c =
    let w = c.args.self.now in
    let s = c.args.session in
    let may = let_in g.row.I-Alloc.Denot w s c.args.request c.args.admission c.requires in
    (lone-answer _ s _ _ _ c.self.invariant (not_worn _ _ c.self.invariant c.self.view_is may.1)
    (admitted_is _ s _ c.admit.result _ c.self.invariant c.self.view_is may c.admit.ensures) c.put.ensures).0

pub returns-in-Answered-clause-step : goal.returns-in-Answered-clause-step
returns-in-Answered-clause-step g c =
    let w = c.args.self.now in
    let s = c.args.session in
    let q = c.args.request in
    let may = let_in g.row.I-Alloc.Denot w s q c.args.admission c.requires in
    let asked = subst (λ (a : Admission). IsAdmission g.row.I-Alloc.Denot w s q (Ok a)) c.in-Answered.is c.requires in
    answered_does _ s c.args.moment _ q _ _ _ _ c.self.invariant c.self.view_is asked (told_error _ q _ _ c.bare.ensures c.head-cookie.ensures.value)
    (admitted_is _ s _ c.admit.result _ c.self.invariant c.self.view_is may c.admit.ensures) c.put.ensures

pub push-requires : goal.push-requires
push-requires g c = few_numbers _ c.self.invariant

pub unreachable-requires : goal.unreachable-requires
unreachable-requires g c =
    let w = c.args.self.now in
    let asked = subst (λ (a : Admission). IsAdmission g.row.I-Alloc.Denot w c.args.session c.args.request (Ok a)) c.in_default.is c.requires in
    never_full _ c.args.session c.args.request _ c.self.invariant c.self.view_is asked c.in_default-push.ensures.full.2

pub invariant_of-self-2 : goal.invariant_of-self-2
invariant_of-self-2 g c =
    let w = c.args.self.now in
    let s = c.args.session in
    let q = c.args.request in
    let may = let_in g.row.I-Alloc.Denot w s q c.args.admission c.requires in
    let asked : Admits w.terms w.state s q = subst (λ (a : Admission). IsAdmission g.row.I-Alloc.Denot w s q (Ok a)) c.in_default.is c.requires in
    lone-accept _ s c.args.moment q _ _ _ c.self.invariant (not_worn _ _ c.self.invariant c.self.view_is may.1) (let_open _ s _ c.self.invariant c.self.view_is may.0)
    (served_is _ s q _ c.self.invariant c.self.view_is asked) c.nanoseconds.ensures.below c.in-Ok.ensures.ok.1 c.admit-limit_tag.ensures.clock
    (admitted_is _ s _ c.admit.result _ c.self.invariant c.self.view_is may c.admit.ensures)

pub admit-limit_tag-requires : goal.admit-limit_tag-requires
admit-limit_tag-requires g c = tag_in_range _ c.self.invariant

pub returns-clause-step : goal.returns-clause-step
returns-clause-step g c =
    let w = c.args.self.now in
    let s = c.args.session in
    let q = c.args.request in
    let may = let_in g.row.I-Alloc.Denot w s q c.args.admission c.requires in
    let asked : Admits w.terms w.state s q = subst (λ (a : Admission). IsAdmission g.row.I-Alloc.Denot w s q (Ok a)) c.in_default.is c.requires in
    rw (to_z-of_z w128 c.admit-limit_tag.result (record { sfits = c.admit-limit_tag.type_inv }))
    (accept_does _ s c.args.moment _ _ q _ _ _ _ c.self.invariant c.self.view_is may (served_is _ s q _ c.self.invariant c.self.view_is asked) (c.in-Ok.ensures.variant.0 refl) c.in-Ok.ensures.ok.0 c.in-Ok.ensures.ok.1
    c.admit-limit_tag.ensures.tag c.admit-limit_tag.ensures.clock (admitted_is _ s _ c.admit.result _ c.self.invariant c.self.view_is may c.admit.ensures))
