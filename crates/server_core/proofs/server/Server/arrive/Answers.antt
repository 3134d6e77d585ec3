use Rattle.std.proofs.Common.{◌≡◌, ◌<◌, ◌≤◌, Ok, length, sym, ◌∙◌, ap, subst, arith, rules}
use Rattle.std.specs.Prelude.{pos}
use Rattle.eligibility.specs.Choice.{IsSlotInRange}
use Rattle.lone_export.specs.Lone.{IsAdmission}
use Rattle.lone_export.specs.declared.refusal.Admission.{Admission}
use Rattle.lone_export.specs.declared.step.Step.TheVariants as own
use Rattle.lone_export.proofs.Admitted.{told_never}
use Rattle.export_cell.specs.Journal.{noted}
use Rattle.std.proofs.lemmas.List.{length-set}
use Rattle.server_core.specs.Kept.{AreShort, TagsInRange}
use Rattle.server_core.specs.Members.{Standing, cell_at, AdmitsAt, IsReservedAt, Arrives}
use Rattle.server_core.proofs.Accepting.{makes_turned, part_range, rates_short, makes_refused, kept_refused, few_members, falls, way_range, found_room, length_way, slot_room, same_first, first_in_range, kept_accepted, makes_accepted}
use Rattle.server_core.proofs.Changed.{before_way}
use Rattle.server_core.proofs.Journals.{arrival_moves}
use Rattle.server_core.proofs.Made.{arrivals, makes_absent}
use Rattle.server_core.proofs.Served.{kept_logged}
use Rattle.server_core.proofs.server.Server.arrive.Goals as goal

pub returns-then-session-len-clause-makes : goal.returns-then-session-len-clause-makes
returns-then-session-len-clause-makes g c =
    let i = c.self.inside in
    let le : length c.self.inside.members.items ≤ c.args.session.export = search rules in
    makes_absent i.members.items i.latest i.inflight (arrivals c.args.session.export c.args.session.number c.args.moment c.args.request) c.self.view_is le

pub invariant_of-self : goal.invariant_of-self
invariant_of-self g c =
    let lt : c.args.session.export < length c.self.inside.members.items = search rules in
    kept_logged c.args.session.export c.self.invariant lt c.index_mut-member.ensures.value c.reserve.ensures.standing

pub returns-in-Err-clause-makes : goal.returns-in-Err-clause-makes
returns-in-Err-clause-makes g c =
    let i = c.self.inside in
    let A = g.row.I-Alloc.Denot in
    let lt : c.args.session.export < length c.self.inside.members.items = search rules in
    rw c.arrive_refusal-refusal.ensures
    (makes_turned A i.members.items i.latest i.inflight c.args.session.export c.args.session.number c.args.moment c.args.request c.reserve.new.self c.in-Err.fault c.self.view_is lt c.index_mut-member.ensures.value c.reserve.ensures.standing c.in-Err.ensures.fault)

pub arrive-requires-clause-in_range : goal.arrive-requires-clause-in_range
arrive-requires-clause-in_range g c =
    let lt : c.args.session.export < length c.self.inside.members.items = search rules in
    subst (λ (x : Standing). TagsInRange x.part) (sym c.reserve.ensures.standing) (part_range c.args.session.export c.self.invariant lt c.index_mut-member.ensures.value)

pub arrive-requires-clause-short : goal.arrive-requires-clause-short
arrive-requires-clause-short g c =
    let lt : c.args.session.export < length c.self.inside.members.items = search rules in
    subst (λ (x : Standing). AreShort x.part.rates) (sym c.reserve.ensures.standing) (rates_short c.args.session.export c.self.invariant lt c.index_mut-member.ensures.value)

pub invariant_of-self-in_default : goal.invariant_of-self-in_default
invariant_of-self-in_default g c =
    let lt : c.args.session.export < length c.self.inside.members.items = search rules in
    let A = g.row.I-Alloc.Denot in
    let rm = c.reserve.new.self in
    let s = c.args.session.number in
    let q = c.args.request in
    let never : AdmitsAt rm s q → ⊥ = told_never A (cell_at rm).live s c.in_default.field-0 q (subst (λ (a : Admission). IsAdmission A (cell_at rm).live s q (Ok a)) c.in_default.is c.in-Ok.ensures.reserved.admitted) in
    kept_refused A c.args.session.export s c.args.moment q rm c.arrive.new.self c.arrive.result c.self.invariant lt c.index_mut-member.ensures.value c.reserve.ensures.standing never c.arrive.ensures.arrives

pub returns-in_default-clause-makes : goal.returns-in_default-clause-makes
returns-in_default-clause-makes g c =
    let i = c.self.inside in
    let e = c.args.session.export in
    let t = c.args.moment in
    let lt : c.args.session.export < length c.self.inside.members.items = search rules in
    let A = g.row.I-Alloc.Denot in
    let rm = c.reserve.new.self in
    let s = c.args.session.number in
    let q = c.args.request in
    let never : AdmitsAt rm s q → ⊥ = told_never A (cell_at rm).live s c.in_default.field-0 q (subst (λ (a : Admission). IsAdmission A (cell_at rm).live s q (Ok a)) c.in_default.is c.in-Ok.ensures.reserved.admitted) in
    let m = c.index_mut-member.result.now in
    let m' = c.arrive.new.self in
    let r = c.arrive.result in
    let move = arrival_moves A m.part.terms m.journal rm.journal m'.journal s t q r c.in-Ok.ensures.journal c.arrive.ensures.journal in
    makes_refused A i.members.items i.latest i.inflight e s t q rm m' r c.self.view_is lt c.index_mut-member.ensures.value c.reserve.ensures.standing never c.arrive.ensures.arrives move

pub make_way-requires-clause-few : goal.make_way-requires-clause-few
make_way-requires-clause-few g c =
    let lt : c.args.session.export < length c.self.inside.members.items = search rules in
    let room = kept_logged c.args.session.export c.self.invariant lt c.index_mut-member.ensures.value c.reserve.ensures.standing in
    few_members room

pub make_way-requires-clause-slots : goal.make_way-requires-clause-slots
make_way-requires-clause-slots g c =
    let lt : c.args.session.export < length c.self.inside.members.items = search rules in
    let room = kept_logged c.args.session.export c.self.invariant lt c.index_mut-member.ensures.value c.reserve.ensures.standing in
    room.server.firsts

pub make_way-requires-clause-falls : goal.make_way-requires-clause-falls
make_way-requires-clause-falls g c =
    let lt : c.args.session.export < length c.self.inside.members.items = search rules in
    let room = kept_logged c.args.session.export c.self.invariant lt c.index_mut-member.ensures.value c.reserve.ensures.standing in
    falls c.args.moment room c.nanoseconds.ensures.below

pub make_way-requires-clause-before : goal.make_way-requires-clause-before
make_way-requires-clause-before g c =
    let lt : c.args.session.export < length c.self.inside.members.items = search rules in
    let room = kept_logged c.args.session.export c.self.invariant lt c.index_mut-member.ensures.value c.reserve.ensures.standing in
    let i = c.self.inside in
    before_way _ _ _ i.latest i.inflight i.served room.server

pub make_way-requires-clause-after : goal.make_way-requires-clause-after
make_way-requires-clause-after g c =
    let lt : c.args.session.export < length c.self.inside.members.items = search rules in
    let room = kept_logged c.args.session.export c.self.invariant lt c.index_mut-member.ensures.value c.reserve.ensures.standing in
    way_range c.waiting-waiting.result c.args.moment room c.nanoseconds.ensures.below

pub index_mut-member-requires-2 : goal.index_mut-member-requires-2
index_mut-member-requires-2 g c =
    let i = c.self.inside in
    let lt : c.args.session.export < length c.self.inside.members.items = search rules in
    let n : length c.make_way.new.members.items ≡ length i.members.items = ap length c.make_way.ensures.members ∙ length_way c.waiting-waiting.result (pos c.args.moment) _ ∙ length-set i.members.items c.args.session.export c.reserve.new.self in
    let more : c.args.session.export < length c.make_way.new.members.items = omega arith in
    search rules

pub arrive-arrived-requires-clause-in_range : goal.arrive-arrived-requires-clause-in_range
arrive-arrived-requires-clause-in_range g c =
    let lt : c.args.session.export < length c.self.inside.members.items = search rules in
    let d_is = found_room c.self.inside.members.items c.args.session.export c.args.moment c.waiting-waiting.result c.reserve.new.self lt c.waiting-waiting.ensures c.make_way.ensures.members c.index_mut-member-2.ensures.value in
    subst (λ (x : Standing). TagsInRange x.part) (sym (d_is ∙ c.reserve.ensures.standing)) (part_range c.args.session.export c.self.invariant lt c.index_mut-member.ensures.value)

pub arrive-arrived-requires-clause-short : goal.arrive-arrived-requires-clause-short
arrive-arrived-requires-clause-short g c =
    let lt : c.args.session.export < length c.self.inside.members.items = search rules in
    let d_is = found_room c.self.inside.members.items c.args.session.export c.args.moment c.waiting-waiting.result c.reserve.new.self lt c.waiting-waiting.ensures c.make_way.ensures.members c.index_mut-member-2.ensures.value in
    subst (λ (x : Standing). AreShort x.part.rates) (sym (d_is ∙ c.reserve.ensures.standing)) (rates_short c.args.session.export c.self.invariant lt c.index_mut-member.ensures.value)

pub arrive-arrived-requires-clause-reserved : goal.arrive-arrived-requires-clause-reserved
arrive-arrived-requires-clause-reserved g c =
    let lt : c.args.session.export < length c.self.inside.members.items = search rules in
    let d_is = found_room c.self.inside.members.items c.args.session.export c.args.moment c.waiting-waiting.result c.reserve.new.self lt c.waiting-waiting.ensures c.make_way.ensures.members c.index_mut-member-2.ensures.value in
    subst (λ (x : Standing). IsReservedAt {A = g.row.I-Alloc.Denot} x c.args.session.number c.args.request c.in-Ok.place) (sym d_is) c.in-Ok.ensures.reserved

pub put_first-requires-clause-was : goal.put_first-requires-clause-was
put_first-requires-clause-was g c =
    let lt : c.args.session.export < length c.self.inside.members.items = search rules in
    slot_room c.self.inside.members.items c.args.session.export c.args.moment c.waiting-waiting.result c.reserve.new.self lt c.waiting-waiting.ensures c.make_way.ensures.members c.make_way.ensures.slots c.first-was.ensures

pub put_first-requires-clause-same : goal.put_first-requires-clause-same
put_first-requires-clause-same g c =
    let lt : c.args.session.export < length c.self.inside.members.items = search rules in
    let a : AdmitsAt c.reserve.new.self c.args.session.number c.args.request = subst (λ (a : Admission). IsAdmission g.row.I-Alloc.Denot (cell_at c.reserve.new.self).live c.args.session.number c.args.request (Ok a)) c.in-Waits.is c.in-Ok.ensures.reserved.admitted in
    let d_is = found_room c.self.inside.members.items c.args.session.export c.args.moment c.waiting-waiting.result c.reserve.new.self lt c.waiting-waiting.ensures c.make_way.ensures.members c.index_mut-member-2.ensures.value in
    let arrives = subst (λ (x : Standing). Arrives g.row.I-Alloc.Denot x c.arrive-arrived.new.self c.args.session.number c.args.moment c.args.request c.arrive-arrived.result) d_is c.arrive-arrived.ensures.arrives in
    same_first g.row.I-Alloc.Denot c.reserve.new.self c.arrive-arrived.new.self c.args.session.number c.args.moment c.args.request c.arrive-arrived.result c.first-was.result c.first-first.result a arrives c.first-was.ensures c.first-first.ensures

pub put_first-requires-clause-in_range : goal.put_first-requires-clause-in_range
put_first-requires-clause-in_range g c =
    let lt : c.args.session.export < length c.self.inside.members.items = search rules in
    let a : AdmitsAt c.reserve.new.self c.args.session.number c.args.request = subst (λ (a : Admission). IsAdmission g.row.I-Alloc.Denot (cell_at c.reserve.new.self).live c.args.session.number c.args.request (Ok a)) c.in-Waits.is c.in-Ok.ensures.reserved.admitted in
    let d_is = found_room c.self.inside.members.items c.args.session.export c.args.moment c.waiting-waiting.result c.reserve.new.self lt c.waiting-waiting.ensures c.make_way.ensures.members c.index_mut-member-2.ensures.value in
    let arrives = subst (λ (x : Standing). Arrives g.row.I-Alloc.Denot x c.arrive-arrived.new.self c.args.session.number c.args.moment c.args.request c.arrive-arrived.result) d_is c.arrive-arrived.ensures.arrives in
    subst IsSlotInRange (sym c.first-first.ensures)
    (first_in_range g.row.I-Alloc.Denot c.args.session.export c.args.session.number c.args.moment c.args.request c.reserve.new.self c.arrive-arrived.new.self c.arrive-arrived.result c.self.invariant lt c.index_mut-member.ensures.value c.reserve.ensures.standing a arrives c.nanoseconds.ensures.below)

pub invariant_of-self-2 : goal.invariant_of-self-2
invariant_of-self-2 g c =
    let lt : c.args.session.export < length c.self.inside.members.items = search rules in
    let a : AdmitsAt c.reserve.new.self c.args.session.number c.args.request = subst (λ (a : Admission). IsAdmission g.row.I-Alloc.Denot (cell_at c.reserve.new.self).live c.args.session.number c.args.request (Ok a)) c.in-Waits.is c.in-Ok.ensures.reserved.admitted in
    let d_is = found_room c.self.inside.members.items c.args.session.export c.args.moment c.waiting-waiting.result c.reserve.new.self lt c.waiting-waiting.ensures c.make_way.ensures.members c.index_mut-member-2.ensures.value in
    let arrives = subst (λ (x : Standing). Arrives g.row.I-Alloc.Denot x c.arrive-arrived.new.self c.args.session.number c.args.moment c.args.request c.arrive-arrived.result) d_is c.arrive-arrived.ensures.arrives in
    let not_later = c.self.invariant.server.not_later in
    let le : g.E.Eligibility.asked c.put_first.new.eligible ≤ c.self.inside.latest = omega (arith, c.put_first.ensures.asked, c.make_way.ensures.asked) in
    kept_accepted g.row.I-Alloc.Denot c.args.session.export c.args.session.number c.args.moment c.waiting-waiting.result c.args.request c.reserve.new.self c.arrive-arrived.new.self c.arrive-arrived.result c.self.invariant lt c.index_mut-member.ensures.value c.reserve.ensures.standing a arrives c.nanoseconds.ensures.below
    c.waiting-waiting.ensures c.make_way.ensures.members c.make_way.ensures.slots c.first-first.ensures c.put_first.ensures.contents le

pub returns-clause-makes : goal.returns-clause-makes
returns-clause-makes g c =
    let A = g.row.I-Alloc.Denot in
    let e = c.args.session.export in
    let s = c.args.session.number in
    let t = c.args.moment in
    let q = c.args.request in
    let rm = c.reserve.new.self in
    let lt : c.args.session.export < length c.self.inside.members.items = search rules in
    let a : AdmitsAt c.reserve.new.self c.args.session.number c.args.request = subst (λ (a : Admission). IsAdmission g.row.I-Alloc.Denot (cell_at c.reserve.new.self).live c.args.session.number c.args.request (Ok a)) c.in-Waits.is c.in-Ok.ensures.reserved.admitted in
    let d_is = found_room c.self.inside.members.items c.args.session.export c.args.moment c.waiting-waiting.result c.reserve.new.self lt c.waiting-waiting.ensures c.make_way.ensures.members c.index_mut-member-2.ensures.value in
    let arrives = subst (λ (x : Standing). Arrives g.row.I-Alloc.Denot x c.arrive-arrived.new.self c.args.session.number c.args.moment c.args.request c.arrive-arrived.result) d_is c.arrive-arrived.ensures.arrives in
    let m = c.index_mut-member.result.now in
    let m' = c.arrive-arrived.new.self in
    let r = c.arrive-arrived.result in
    let noted_is = c.arrive-arrived.ensures.journal ∙ ap (λ (x : Standing). noted (own.Arrive s t q) x.journal) d_is in
    let move = arrival_moves A m.part.terms m.journal rm.journal m'.journal s t q r c.in-Ok.ensures.journal noted_is in
    makes_accepted A e s t c.waiting-waiting.result q rm m' r c.self.invariant c.self.view_is lt c.index_mut-member.ensures.value c.reserve.ensures.standing a arrives c.waiting-waiting.ensures c.make_way.ensures.members move
