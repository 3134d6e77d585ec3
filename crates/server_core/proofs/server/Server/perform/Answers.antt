use Rattle.std.proofs.Common.{◌≡◌, ◌<◌, ◌≤◌, ◌-◌, ◌+◌, [], length, set, Some, List, refl, sym, ◌∙◌, ap, subst, arith, rules}
use Rattle.server_table.specs.declared.event.Event.TheVariants.{Perform}
use Rattle.server_table.specs.declared.event.Answer.TheVariants.{Performed}
use Rattle.server_core.specs.Made.{Makes}
use Rattle.server_core.specs.Members.{Seat, Standing, slot_in}
use Rattle.server_core.specs.Tickets.{Place}
use Rattle.server_core.specs.Served.{Served, served_of, Holds, IsServed}
use Rattle.server_core.proofs.Made.{makes_performed}
use Rattle.server_core.proofs.Served.{set_back}
use Rattle.server_core.proofs.Performed.{seats_there, seats_beyond, some_is_served, kept_performs}
use Rattle.server_core.proofs.server.Server.perform.Goals as goal

pub returns-then-ticket-len-clause-none : goal.returns-then-ticket-len-clause-none
returns-then-ticket-len-clause-none g c =
    let i = c.self.inside in
    let t = c.ticket.inside in
    let le : length i.members.items ≤ t.export = search rules in
    let none : slot_in [] t.number ≡ Some t.slot → ⊥ = λ h. absurd (cc) in
    let one : Holds (served_of i.members.items i.latest i.inflight) (record { export = t.export; number = t.number; slot = t.slot }) → ⊥ =
    λ h. none (subst (λ (l : List Seat). slot_in l t.number ≡ Some t.slot) (seats_beyond i.members.items t.export le) h) in
    (subst (λ (v : Served). Holds v c.args.ticket → ⊥) c.self.view_is (subst (λ (p : Place). Holds (served_of i.members.items i.latest i.inflight) p → ⊥) c.ticket.view_is one), refl)

pub invariant_of-self : goal.invariant_of-self
invariant_of-self g c =
    let i = c.self.inside in
    subst (λ (l : List Standing). IsServed l (g.E.Eligibility.contents i.eligible) (g.E.Eligibility.asked i.eligible) i.latest i.inflight i.served)
    (sym (set_back i.members.items c.ticket.inside.export c.index_mut-member.result.now c.perform.new.self c.index_mut-member.ensures.value c.in_default.ensures.none.1)) c.self.invariant

pub returns-in_default-clause-none : goal.returns-in_default-clause-none
returns-in_default-clause-none g c =
    let i = c.self.inside in
    let t = c.ticket.inside in
    let lt : t.export < length i.members.items = search rules in
    let one : Holds (served_of i.members.items i.latest i.inflight) (record { export = t.export; number = t.number; slot = t.slot }) → ⊥ =
    λ h. c.in_default.ensures.none.0 (subst (λ (l : List Seat). slot_in l t.number ≡ Some t.slot) (seats_there i.members.items t.export c.index_mut-member.result.now lt c.index_mut-member.ensures.value) h) in (
      subst (λ (v : Served). Holds v c.args.ticket → ⊥) c.self.view_is (subst (λ (p : Place). Holds (served_of i.members.items i.latest i.inflight) p → ⊥) c.ticket.view_is one),
      ap (λ (l : List Standing). served_of l i.latest i.inflight) (set_back i.members.items t.export c.index_mut-member.result.now c.perform.new.self c.index_mut-member.ensures.value c.in_default.ensures.none.1) ∙ c.self.view_is,
    )

pub overflow_sub-self : goal.overflow_sub-self
overflow_sub-self g c =
    let i = c.self.inside in
    let lt : c.ticket.inside.export < length i.members.items = search rules in
    let some = some_is_served g.row.I-Alloc.Denot i.members.items (g.E.Eligibility.contents i.eligible) (g.E.Eligibility.asked i.eligible) i.latest i.inflight i.served c.ticket.inside.export c.ticket.inside.number c.index_mut-member.result.now c.perform.new.self c.in-Some.memory c.self.invariant lt c.index_mut-member.ensures.value c.in-Some.ensures.some.1 in
    omega arith

pub invariant_of-self-2 : goal.invariant_of-self-2
invariant_of-self-2 g c =
    let i = c.self.inside in
    let lt : c.ticket.inside.export < length i.members.items = search rules in
    let some = some_is_served g.row.I-Alloc.Denot i.members.items (g.E.Eligibility.contents i.eligible) (g.E.Eligibility.asked i.eligible) i.latest i.inflight i.served c.ticket.inside.export c.ticket.inside.number c.index_mut-member.result.now c.perform.new.self c.in-Some.memory c.self.invariant lt c.index_mut-member.ensures.value c.in-Some.ensures.some.1 in
    let one : i.served - 1 + 1 ≡ i.served = omega arith in
    kept_performs g.row.I-Alloc.Denot i.members.items (g.E.Eligibility.contents i.eligible) (g.E.Eligibility.asked i.eligible) i.latest i.inflight i.served (i.served - 1) c.ticket.inside.export c.ticket.inside.number c.index_mut-member.result.now c.perform.new.self c.in-Some.memory c.self.invariant lt c.index_mut-member.ensures.value c.in-Some.ensures.some.1 one

pub returns-clause-some : goal.returns-clause-some
returns-clause-some g c =
    let i = c.self.inside in
    let A = g.row.I-Alloc.Denot in
    let t = c.ticket.inside in
    let old = served_of i.members.items i.latest i.inflight in
    let new = served_of (set i.members.items t.export c.perform.new.self) i.latest i.inflight in
    let lt : t.export < length i.members.items = search rules in
    let at = c.index_mut-member.ensures.value in
    let held : Holds old (record { export = t.export; number = t.number; slot = t.slot }) =
    subst (λ (l : List Seat). slot_in l t.number ≡ Some t.slot) (sym (seats_there i.members.items t.export c.index_mut-member.result.now lt at)) c.in-Some.ensures.some.0 in (
      subst (λ (v : Served). Holds v c.args.ticket) c.self.view_is (subst (λ (p : Place). Holds old p) c.ticket.view_is held),
      subst (λ (p : Place). Makes {A = A} c.args.self.now (Perform p.export p.number) new (Performed c.in-Some.memory)) c.ticket.view_is
          (makes_performed {A = A} i.members.items i.latest i.inflight t.export c.self.view_is lt at c.in-Some.ensures.some.1 c.in-Some.ensures.journal),
    )
