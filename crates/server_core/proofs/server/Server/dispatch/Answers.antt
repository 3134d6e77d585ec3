use Rattle.std.proofs.Common.{◌<◌, ◌≤◌, ◌+◌, ◌∷◌, ◌++◌, [], length, set, Option, List, sym, ◌∙◌, ap, subst, arith, rules}
use Rattle.nbd_base.specs.Words.{change_at}
use Rattle.tag_clock.specs.declared.Tags.{Tags}
use Rattle.eligibility.specs.Choice.{IsActive, IsSlotInRange}
use Rattle.server_core.specs.Members.{Seat}
use Rattle.server_core.specs.Served.{Served, IsServed}
use Rattle.server_core.proofs.Dispatched.{chosen, chosen_within, makes_full, makes_nothing, makes_picked, pick_waiting, pick_room, pick_numbered, pick_range, active, first_range, kept_chosen, seats_picked, held_picked}
use Rattle.server_core.proofs.server.Server.dispatch.Goals as goal

pub returns-then-self-clause-makes : goal.returns-then-self-clause-makes
returns-then-self-clause-makes g c =
    makes_full g.row.I-Alloc.Denot c.args.moment c.self.invariant c.self.view_is c.later-self-inside.ensures c.if-self.true

pub returns-in_default-clause-makes : goal.returns-in_default-clause-makes
returns-in_default-clause-makes g c =
    makes_nothing g.row.I-Alloc.Denot c.args.moment c.self.invariant c.self.view_is c.later-self-inside.ensures c.choose.ensures.chosen c.in_default.is

pub index_mut-member-requires : goal.index_mut-member-requires
index_mut-member-requires g c =
    let ch = chosen g.row.I-Alloc.Denot c.args.moment c.self.invariant c.if-self.false c.later-self-inside.ensures c.choose.ensures.chosen c.in-Some.is in
    let lt : c.in-Some.export < length c.self.inside.members.items = chosen_within g.row.I-Alloc.Denot c.self.inside.members.items ch in
    search rules

pub pick-requires-clause-waiting : goal.pick-requires-clause-waiting
pick-requires-clause-waiting g c =
    let ch = chosen g.row.I-Alloc.Denot c.args.moment c.self.invariant c.if-self.false c.later-self-inside.ensures c.choose.ensures.chosen c.in-Some.is in
    let lt : c.in-Some.export < length c.self.inside.members.items = chosen_within g.row.I-Alloc.Denot c.self.inside.members.items ch in
    pick_waiting g.row.I-Alloc.Denot c.self.inside.members.items ch lt c.index_mut-member.ensures.value

pub pick-requires-clause-room : goal.pick-requires-clause-room
pick-requires-clause-room g c =
    let ch = chosen g.row.I-Alloc.Denot c.args.moment c.self.invariant c.if-self.false c.later-self-inside.ensures c.choose.ensures.chosen c.in-Some.is in
    let lt : c.in-Some.export < length c.self.inside.members.items = chosen_within g.row.I-Alloc.Denot c.self.inside.members.items ch in
    pick_room c.in-Some.export c.self.invariant c.if-self.false lt c.index_mut-member.ensures.value

pub pick-requires-clause-numbered : goal.pick-requires-clause-numbered
pick-requires-clause-numbered g c =
    let ch = chosen g.row.I-Alloc.Denot c.args.moment c.self.invariant c.if-self.false c.later-self-inside.ensures c.choose.ensures.chosen c.in-Some.is in
    let lt : c.in-Some.export < length c.self.inside.members.items = chosen_within g.row.I-Alloc.Denot c.self.inside.members.items ch in
    pick_numbered c.in-Some.export c.self.invariant lt c.index_mut-member.ensures.value

pub pick-requires-clause-in_range : goal.pick-requires-clause-in_range
pick-requires-clause-in_range g c =
    let ch = chosen g.row.I-Alloc.Denot c.args.moment c.self.invariant c.if-self.false c.later-self-inside.ensures c.choose.ensures.chosen c.in-Some.is in
    let lt : c.in-Some.export < length c.self.inside.members.items = chosen_within g.row.I-Alloc.Denot c.self.inside.members.items ch in
    pick_range g.row.I-Alloc.Denot c.self.invariant ch lt c.index_mut-member.ensures.value

pub renew-requires-clause-active : goal.renew-requires-clause-active
renew-requires-clause-active g c =
    let ch = chosen g.row.I-Alloc.Denot c.args.moment c.self.invariant c.if-self.false c.later-self-inside.ensures c.choose.ensures.chosen c.in-Some.is in
    subst (λ (l : List (Option Tags)). IsActive l c.in-Some.export) (sym c.choose.ensures.contents) (active g.row.I-Alloc.Denot c.self.invariant ch)

pub renew-requires-clause-in_range : goal.renew-requires-clause-in_range
renew-requires-clause-in_range g c =
    let ch = chosen g.row.I-Alloc.Denot c.args.moment c.self.invariant c.if-self.false c.later-self-inside.ensures c.choose.ensures.chosen c.in-Some.is in
    let lt : c.in-Some.export < length c.self.inside.members.items = chosen_within g.row.I-Alloc.Denot c.self.inside.members.items ch in
    subst IsSlotInRange (sym c.first-first.ensures) (first_range g.row.I-Alloc.Denot c.self.invariant ch lt c.index_mut-member.ensures.value c.in-Some-pick.ensures.picked)

pub invariant_of-self-2 : goal.invariant_of-self-2
invariant_of-self-2 g c =
    let ch = chosen g.row.I-Alloc.Denot c.args.moment c.self.invariant c.if-self.false c.later-self-inside.ensures c.choose.ensures.chosen c.in-Some.is in
    let lt : c.in-Some.export < length c.self.inside.members.items = chosen_within g.row.I-Alloc.Denot c.self.inside.members.items ch in
    let i = c.self.inside in
    let e = c.in-Some.export in
    let le : g.E.Eligibility.asked c.renew.new.eligible ≤ c.later-self-inside.result = omega (arith, c.renew.ensures.asked, c.choose.ensures.asked) in
    let contents = c.renew.ensures.contents ∙ ap (λ (l : List (Option Tags)). set l e c.first-first.result) c.choose.ensures.contents ∙ ap (set (g.E.Eligibility.contents i.eligible) e) c.first-first.ensures in
    subst (λ (l : List (Option Tags)). IsServed (set i.members.items e c.pick.new.self) l (g.E.Eligibility.asked c.renew.new.eligible) c.later-self-inside.result i.inflight (i.served + 1)) (sym contents)
    (kept_chosen g.row.I-Alloc.Denot c.self.invariant c.if-self.false ch lt c.index_mut-member.ensures.value c.in-Some-pick.ensures.picked le)

pub returns-clause-makes : goal.returns-clause-makes
returns-clause-makes g c =
    let ch = chosen g.row.I-Alloc.Denot c.args.moment c.self.invariant c.if-self.false c.later-self-inside.ensures c.choose.ensures.chosen c.in-Some.is in
    let lt : c.in-Some.export < length c.self.inside.members.items = chosen_within g.row.I-Alloc.Denot c.self.inside.members.items ch in
    makes_picked c.self.inside.members.items c.self.view_is c.later-self-inside.ensures ch lt c.index_mut-member.ensures.value c.in-Some-pick.ensures.picked c.in-Some-pick.ensures.journal

pub returns-clause-ticket : goal.returns-clause-ticket
returns-clause-ticket g c =
    let ch = chosen g.row.I-Alloc.Denot c.args.moment c.self.invariant c.if-self.false c.later-self-inside.ensures c.choose.ensures.chosen c.in-Some.is in
    let lt : c.in-Some.export < length c.self.inside.members.items = chosen_within g.row.I-Alloc.Denot c.self.inside.members.items ch in
    held_picked c.self.inside.members.items c.in-Some.export lt c.in-Some-pick.ensures.picked

pub returns-clause-seats : goal.returns-clause-seats
returns-clause-seats g c =
    let seat : Seat = record { number = c.in-Some-pick.picked.number; slot = c.in-Some-pick.picked.slot } in
    seats_picked c.self.inside.members.items c.in-Some.export c.index_mut-member.ensures.value c.in-Some-pick.ensures.picked
    ∙ ap (λ (v : Served). change_at (λ (these : List Seat). these ++ seat ∷ []) c.in-Some.export v.seats) c.self.view_is
