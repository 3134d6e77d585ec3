use Rattle.std.proofs.Common.{ℕ, ◌≡◌, Ok, refl, sym, ◌∙◌, ap, subst, rules, to_z, of_z}
use Rattle.std.specs.Prelude.{ℤ, FitsSigned}
use mir.Syntax.{w128}
use Rattle.std.proofs.lemmas.Int.{to_z-of_z}
use Rattle.std.specs.Vec.{vec_capacity}
use Rattle.std.specs.VecDeque.{deque_capacity}
use Rattle.tag_clock.specs.declared.Tags.{Tags}
use Rattle.nbd_wire.specs.Grammar.{RequestMessage}
use Rattle.lone_export.specs.Lone.{Whole, Does, step_answer_of_arrive}
use Rattle.server_core.specs.Kept.{AreShort, TagsInRange}
use Rattle.lone_export.specs.declared.refusal.Arrived.{Arrived}
use Rattle.lone_export.specs.declared.refusal.Arrived.TheVariants as arrived
use Rattle.lone_export.specs.declared.step.Step.TheVariants.{Arrive}
use Rattle.lone_export.specs.declared.step.StepAnswer.TheVariants.{Accepted, Answered}
use Rattle.export_cell.specs.Journal.{noted}
use Rattle.server_core.specs.Members.{Kept, Standing, standing_of, AdmitsAt, IsReservedAt, Arrives, Went}
use Rattle.server_core.proofs.Members.{relogged, reserved_in, went, went_kept}
use Rattle.server_core.proofs.Arriving.{Waits, kept_waiting, has_room, was_admitted, not_admitted, admits_at, admits_whole, refuses, number_is, tag_is, tag_fits, p_fits, waits, waits_kept}
use Rattle.server_core.proofs.member.Member.arrive.Goals as goal

-- the answer of the export alone
arrived_is : {A : Type 0} (old new : Whole) (s t n : ℕ) (tag : ℤ) (q : RequestMessage) (said : Arrived) → said ≡ arrived.Accepted n tag → Does {A = A} old new (Arrive s t q) (step_answer_of_arrive (Ok said)) → Does {A = A} old new (Arrive s t q) (Accepted n tag)
arrived_is {A} old new s t n tag q said is does = subst (λ (x : Arrived). Does {A = A} old new (Arrive s t q) (step_answer_of_arrive {A = A} (Ok x))) is does

answered_is : {A : Type 0} (old new : Whole) (s t error : ℕ) (q : RequestMessage) (said : Arrived) → said ≡ arrived.Answered error → Does {A = A} old new (Arrive s t q) (step_answer_of_arrive (Ok said)) → Does {A = A} old new (Arrive s t q) (Answered error)
answered_is {A} old new s t error q said is does = subst (λ (x : Arrived). Does {A = A} old new (Arrive s t q) (step_answer_of_arrive {A = A} (Ok x))) is does

pub put_behind-requires : goal.put_behind-requires
put_behind-requires g c =
    let i = c.self.inside in
    let A = g.row.I-Alloc.Denot in
    let m0 : Kept = record { whole = i.cell.live; journal = i.cell.journal; room = i.cell.room; share = i.shares; waiting = i.waiting.items; waiting_room = deque_capacity i.waiting; out = i.out.items; out_room = vec_capacity i.out } in
    let j = c.enter.new.self.journal in
    let r = c.enter.new.self.room in
    let m : Kept = record m0 { journal = j; room = r } in
    let h = relogged m0 j r c.self.invariant in
    let s = c.args.session in
    let t = c.args.moment in
    let q = c.args.request in
    let new = c.enter.new.self.live in
    let n = c.in-Accepted.number in
    let tag = c.in-Accepted.limit_tag in
    let does = arrived_is i.cell.live new s t n tag q c.enter.result c.in-Accepted.is c.enter.ensures.step in
    let room = has_room m s q h (was_admitted A i.cell.live new s t n tag q does) in
    search rules

pub invariant_of-self : goal.invariant_of-self
invariant_of-self g c =
    let i = c.self.inside in
    let A = g.row.I-Alloc.Denot in
    let m0 : Kept = record { whole = i.cell.live; journal = i.cell.journal; room = i.cell.room; share = i.shares; waiting = i.waiting.items; waiting_room = deque_capacity i.waiting; out = i.out.items; out_room = vec_capacity i.out } in
    let j = c.enter.new.self.journal in
    let r = c.enter.new.self.room in
    let m : Kept = record m0 { journal = j; room = r } in
    let h = relogged m0 j r c.self.invariant in
    let s = c.args.session in
    let t = c.args.moment in
    let q = c.args.request in
    let new = c.enter.new.self.live in
    let n = c.in-Accepted.number in
    let tag = c.in-Accepted.limit_tag in
    let does = arrived_is i.cell.live new s t n tag q c.enter.result c.in-Accepted.is c.enter.ensures.step in
    let small = c.nanoseconds.ensures.below in
    let short = subst (λ (v : Standing). AreShort v.part.rates) (sym c.self.view_is) c.requires.short in
    let range = subst (λ (v : Standing). TagsInRange v.part) (sym c.self.view_is) c.requires.in_range in
    let l_fits = tag_fits A i.cell.live new s t n tag q does range.last_l short.limit small in
    let p = c.admit-r.result.1 in
    let p_is = ap (λ x. x.1) c.admit-r.ensures.tags in
    let fits = p_fits m t h range.last_p short.weight small in
    let p_fit : FitsSigned w128 p = subst (FitsSigned w128) (sym p_is) fits in
    let one : Tags = record { r = c.admit-r.result.0; l = to_z w128 (of_z w128 tag); p = to_z w128 (of_z w128 p) } in
    let w : Waits A m new s t n tag q c.admit-r.new.self one c.put_behind.new.waiting.items = record { does = does; slots = c.enter.ensures.slots; clock = c.admit-r.ensures.clock; r = ap (λ x. x.0) c.admit-r.ensures.tags; l = to_z-of_z w128 tag l_fits; p = to_z-of_z w128 p p_fit ∙ p_is; pushed = c.put_behind.ensures.items } in
    waits_kept A m new s t n (deque_capacity c.put_behind.new.waiting) tag q c.admit-r.new.self one c.put_behind.new.waiting.items h w c.put_behind.ensures.capacity

pub returns-in-Accepted-clause-arrives : goal.returns-in-Accepted-clause-arrives
returns-in-Accepted-clause-arrives g c =
    let i = c.self.inside in
    let A = g.row.I-Alloc.Denot in
    let m0 : Kept = record { whole = i.cell.live; journal = i.cell.journal; room = i.cell.room; share = i.shares; waiting = i.waiting.items; waiting_room = deque_capacity i.waiting; out = i.out.items; out_room = vec_capacity i.out } in
    let j = c.enter.new.self.journal in
    let r = c.enter.new.self.room in
    let m : Kept = record m0 { journal = j; room = r } in
    let h = relogged m0 j r c.self.invariant in
    let s = c.args.session in
    let t = c.args.moment in
    let q = c.args.request in
    let new = c.enter.new.self.live in
    let n = c.in-Accepted.number in
    let tag = c.in-Accepted.limit_tag in
    let does = arrived_is i.cell.live new s t n tag q c.enter.result c.in-Accepted.is c.enter.ensures.step in
    let small = c.nanoseconds.ensures.below in
    let short = subst (λ (v : Standing). AreShort v.part.rates) (sym c.self.view_is) c.requires.short in
    let range = subst (λ (v : Standing). TagsInRange v.part) (sym c.self.view_is) c.requires.in_range in
    let l_fits = tag_fits A i.cell.live new s t n tag q does range.last_l short.limit small in
    let p = c.admit-r.result.1 in
    let p_is = ap (λ x. x.1) c.admit-r.ensures.tags in
    let fits = p_fits m t h range.last_p short.weight small in
    let p_fit : FitsSigned w128 p = subst (FitsSigned w128) (sym p_is) fits in
    let one : Tags = record { r = c.admit-r.result.0; l = to_z w128 (of_z w128 tag); p = to_z w128 (of_z w128 p) } in
    let w : Waits A m new s t n tag q c.admit-r.new.self one c.put_behind.new.waiting.items = record { does = does; slots = c.enter.ensures.slots; clock = c.admit-r.ensures.clock; r = ap (λ x. x.0) c.admit-r.ensures.tags; l = to_z-of_z w128 tag l_fits; p = to_z-of_z w128 p p_fit ∙ p_is; pushed = c.put_behind.ensures.items } in
    let new_is = waits A m new s t n (deque_capacity c.put_behind.new.waiting) tag q c.admit-r.new.self one c.put_behind.new.waiting.items h w in
    let after = standing_of (kept_waiting m new c.admit-r.new.self c.put_behind.new.waiting.items (deque_capacity c.put_behind.new.waiting)) in
    let all : Arrives A (standing_of m0) after s t q (arrived.Accepted n (to_z w128 (of_z w128 tag))) = (admits_at m s q h (was_admitted A i.cell.live new s t n tag q does), new_is, number_is A i.cell.live new s t n tag q does, to_z-of_z w128 tag l_fits ∙ tag_is A i.cell.live new s t n tag q does) in
    subst (λ (v : Standing). Arrives A v after s t q (arrived.Accepted n (to_z w128 (of_z w128 tag)))) c.self.view_is all

pub invariant_of-self-in-Answered : goal.invariant_of-self-in-Answered
invariant_of-self-in-Answered g c =
    let i = c.self.inside in
    let A = g.row.I-Alloc.Denot in
    let m0 : Kept = record { whole = i.cell.live; journal = i.cell.journal; room = i.cell.room; share = i.shares; waiting = i.waiting.items; waiting_room = deque_capacity i.waiting; out = i.out.items; out_room = vec_capacity i.out } in
    let j = c.enter.new.self.journal in
    let r = c.enter.new.self.room in
    let m : Kept = record m0 { journal = j; room = r } in
    let h = relogged m0 j r c.self.invariant in
    let s = c.args.session in
    let t = c.args.moment in
    let q = c.args.request in
    let new = c.enter.new.self.live in
    let error = c.in-Answered.error in
    let does = answered_is i.cell.live new s t error q c.enter.result c.in-Answered.is c.enter.ensures.step in
    let never = not_admitted A i.cell.live new s t q (Answered error) does refl in
    let keeps = (refuses A i.cell.live.terms i.cell.live.state s t q never).0 in
    went_kept {A = A} m0 new j r (Arrive s t q) (Answered error) c.self.invariant does c.enter.ensures.slots keeps

pub returns-in-Answered-clause-arrives : goal.returns-in-Answered-clause-arrives
returns-in-Answered-clause-arrives g c =
    let i = c.self.inside in
    let A = g.row.I-Alloc.Denot in
    let m0 : Kept = record { whole = i.cell.live; journal = i.cell.journal; room = i.cell.room; share = i.shares; waiting = i.waiting.items; waiting_room = deque_capacity i.waiting; out = i.out.items; out_room = vec_capacity i.out } in
    let j = c.enter.new.self.journal in
    let r = c.enter.new.self.room in
    let m : Kept = record m0 { journal = j; room = r } in
    let h = relogged m0 j r c.self.invariant in
    let s = c.args.session in
    let t = c.args.moment in
    let q = c.args.request in
    let new = c.enter.new.self.live in
    let error = c.in-Answered.error in
    let does = answered_is i.cell.live new s t error q c.enter.result c.in-Answered.is c.enter.ensures.step in
    let never = not_admitted A i.cell.live new s t q (Answered error) does refl in
    let keeps = (refuses A i.cell.live.terms i.cell.live.state s t q never).0 in
    let went_one = went {A = A} m0 new j r (Arrive s t q) (Answered error) c.self.invariant does c.enter.ensures.slots keeps in
    subst (λ (v : Standing). (AdmitsAt v s q → ⊥) × Went {A = A} v (standing_of (record m { whole = new })) (Arrive s t q) (Answered error)) c.self.view_is ((λ a. never (admits_whole m s q h a)), went_one)

pub enter-requires : goal.enter-requires
enter-requires g c =
    let i = c.self.inside in
    let m : Kept = record { whole = i.cell.live; journal = i.cell.journal; room = i.cell.room; share = i.shares; waiting = i.waiting.items; waiting_room = deque_capacity i.waiting; out = i.out.items; out_room = vec_capacity i.out } in
    reserved_in m c.args.session c.args.request c.args.place c.self.invariant (subst (λ (v : Standing). IsReservedAt {A = g.row.I-Alloc.Denot} v c.args.session c.args.request c.args.place) (sym c.self.view_is) c.requires.reserved)

pub returns-in-Accepted-clause-journal : goal.returns-in-Accepted-clause-journal
returns-in-Accepted-clause-journal g c = c.enter.ensures.journal ∙ ap (λ (v : Standing). noted (Arrive c.args.session c.args.moment c.args.request) v.journal) c.self.view_is

pub returns-in-Answered-clause-journal : goal.returns-in-Answered-clause-journal
returns-in-Answered-clause-journal g c = c.enter.ensures.journal ∙ ap (λ (v : Standing). noted (Arrive c.args.session c.args.moment c.args.request) v.journal) c.self.view_is
