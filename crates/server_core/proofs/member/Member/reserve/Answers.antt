use Rattle.std.proofs.Common.{◌≡◌, length, ◌∙◌, ap, subst}
use Rattle.std.specs.Prelude.{IfErr, OnOk}
use Rattle.std.specs.Vec.{vec_capacity}
use Rattle.std.specs.VecDeque.{deque_capacity}
use Rattle.export_cell.specs.declared.place.Place.{Place}
use Rattle.export_cell.specs.declared.refusal.ArriveFault.{ArriveFault}
use Rattle.export_cell.specs.Journal.{IsReserved, IsTurnedAway, advanced, surplus}
use Rattle.server_core.specs.Members.{Kept, Standing, standing_of, with_log, IsReservedAt, IsTurnedAwayAt}
use Rattle.server_core.proofs.Members.{if_ok, if_err, same_kept, logged_standing, reserved_at, turned_at}
use Rattle.server_core.proofs.member.Member.reserve.Goals as goal

pub invariant_of-self : goal.invariant_of-self
invariant_of-self g c =
    let i = c.self.inside in
    let m : Kept = record { whole = i.cell.live; journal = i.cell.journal; room = i.cell.room; share = i.shares; waiting = i.waiting.items; waiting_room = deque_capacity i.waiting; out = i.out.items; out_room = vec_capacity i.out } in
    let new = c.reserve.new.self in
    same_kept m new.live new.journal new.room c.self.invariant c.reserve.ensures.live

pub returns-clause-standing : goal.returns-clause-standing
returns-clause-standing g c =
    let i = c.self.inside in
    let m : Kept = record { whole = i.cell.live; journal = i.cell.journal; room = i.cell.room; share = i.shares; waiting = i.waiting.items; waiting_room = deque_capacity i.waiting; out = i.out.items; out_room = vec_capacity i.out } in
    let new = c.reserve.new.self in
    logged_standing m new.live new.journal new.room c.reserve.ensures.live ∙ ap (λ (v : Standing). with_log new.journal new.room v) c.self.view_is

pub returns-clause-reserved : goal.returns-clause-reserved
returns-clause-reserved g c =
    let i = c.self.inside in
    let m : Kept = record { whole = i.cell.live; journal = i.cell.journal; room = i.cell.room; share = i.shares; waiting = i.waiting.items; waiting_room = deque_capacity i.waiting; out = i.out.items; out_room = vec_capacity i.out } in
    let new = c.reserve.new.self in
    let m' : Kept = record m { whole = new.live; journal = new.journal; room = new.room } in
    let A = g.row.I-Alloc.Denot in
    let q = c.args.request.now in
    let s = c.args.session in
    if_ok (λ (place : Place A). IsReserved {A = A} new s q place) (λ (place : Place A). IsReservedAt {A = A} (standing_of m') s q place) c.reserve.result
    (λ place h. reserved_at m' s q place (same_kept m new.live new.journal new.room c.self.invariant c.reserve.ensures.live) h) c.reserve.ensures.reserved

pub returns-clause-journal : goal.returns-clause-journal
returns-clause-journal g c =
    subst (λ (v : Standing). OnOk c.reserve.result (c.reserve.new.self.journal ≡ advanced v.part.terms (surplus (length c.args.request.now.payload) v.journal.log) v.journal)) c.self.view_is c.reserve.ensures.journal

pub returns-clause-fault : goal.returns-clause-fault
returns-clause-fault g c =
    let i = c.self.inside in
    let m : Kept = record { whole = i.cell.live; journal = i.cell.journal; room = i.cell.room; share = i.shares; waiting = i.waiting.items; waiting_room = deque_capacity i.waiting; out = i.out.items; out_room = vec_capacity i.out } in
    let new = c.reserve.new.self in
    let m' : Kept = record m { whole = new.live; journal = new.journal; room = new.room } in
    let q = c.args.request.now in
    let s = c.args.session in
    subst (λ (v : Standing). IfErr c.reserve.result (λ (f : ArriveFault). IsTurnedAwayAt v (standing_of m') s q f)) c.self.view_is
    (if_err (λ (f : ArriveFault). IsTurnedAway i.cell new s q f) (λ (f : ArriveFault). IsTurnedAwayAt (standing_of m) (standing_of m') s q f) c.reserve.result
    (λ f h. turned_at m new s q f c.self.invariant h) c.reserve.ensures.fault)
