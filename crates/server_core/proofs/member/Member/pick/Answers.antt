use Rattle.std.proofs.Common.{◌≡◌, Some, ◌<◌, ◌≤◌, ◌++◌, ◌∷◌, length, sym, ap, subst, arith, rules}
use Rattle.std.specs.Vec.{vec_capacity}
use Rattle.std.specs.VecDeque.{deque_capacity}
use Rattle.std.proofs.lemmas.List.{length-map}
use Rattle.lone_export.specs.declared.step.Step.TheVariants.{Pick}
use Rattle.lone_export.specs.declared.step.StepAnswer.TheVariants.{Picked}
use Rattle.export_cell.specs.Journal.{JournalMove}
use Rattle.server_table.specs.Order.{IsNumbered}
use Rattle.server_table.specs.Picks.{part_picked}
use Rattle.server_core.specs.declared.member.Sent.{Sent}
use Rattle.server_core.specs.Kept.{TagsInRange}
use Rattle.server_core.specs.Members.{Kept, Seat, Standing, standing_of, sent_tags, IsMember, Picks}
use Rattle.server_core.proofs.Members.{relogged, sent_length}
use Rattle.server_core.proofs.Picking.{Picking, kept_is, entries_length, finds_one, picks, picks_kept, credit_in_range}
use Rattle.server_core.proofs.member.Member.pick.Goals as goal

pub pick-requires : goal.pick-requires
pick-requires g c =
    let i = c.self.inside in
    let n = entries_length i.cell.live.state.out (sent_tags i.out.items) (sent_length i.out.items i.cell.live.state.out c.self.invariant.sent) in
    let room = subst (λ (v : Standing). length v.part.out < v.inflight) (sym c.self.view_is) c.requires.room in
    subst (λ k. k < i.cell.live.inflight) n room

pub invariant_of-self-in_default-pick : goal.invariant_of-self-in_default-pick
invariant_of-self-in_default-pick g c =
    let i = c.self.inside in
    let tagged = c.self.invariant.tagged in
    let some : length i.waiting.items ≡ length (c.in-Some.tags ∷ c.pop_front.new.self.items) = ap length c.in-Some.ensures.items in
    absurd (finds_one g.row.I-Alloc.Denot i.cell.live.terms i.cell.live.state c.pick.new.self.live.state (omega arith) c.in_default-pick.ensures.step.did)

pub returns-in_default-pick-clause-some : goal.returns-in_default-pick-clause-some
returns-in_default-pick-clause-some g c =
    let i = c.self.inside in
    let tagged = c.self.invariant.tagged in
    let some : length i.waiting.items ≡ length (c.in-Some.tags ∷ c.pop_front.new.self.items) = ap length c.in-Some.ensures.items in
    absurd (finds_one g.row.I-Alloc.Denot i.cell.live.terms i.cell.live.state c.pick.new.self.live.state (omega arith) c.in_default-pick.ensures.step.did)

pub push_reserved-requires : goal.push_reserved-requires
push_reserved-requires g c =
    let i = c.self.inside in
    let n = entries_length i.cell.live.state.out (sent_tags i.out.items) (sent_length i.out.items i.cell.live.state.out c.self.invariant.sent) in
    let k = length-map i.out.items (λ (one : Sent). one.tags) in
    let same = sent_length i.out.items i.cell.live.state.out c.self.invariant.sent in
    let room = subst (λ (v : Standing). length v.part.out < v.inflight) (sym c.self.view_is) c.requires.room in
    let few : length i.cell.live.state.out < i.cell.live.inflight = subst (λ k. k < i.cell.live.inflight) n room in
    let wide = c.self.invariant.out_room in
    search rules

pub give_credit-requires-clause-waiting : goal.give_credit-requires-clause-waiting
give_credit-requires-clause-waiting g c =
    let i = c.self.inside in
    let m0 : Kept = record { whole = i.cell.live; journal = i.cell.journal; room = i.cell.room; share = i.shares; waiting = i.waiting.items; waiting_room = deque_capacity i.waiting; out = i.out.items; out_room = vec_capacity i.out } in
    let j = c.pick.new.self.journal in
    let r = c.pick.new.self.room in
    let m : Kept = record m0 { journal = j; room = r } in
    let h = relogged m0 j r c.self.invariant in
    let pick : Picking g.row.I-Alloc.Denot m c.pick.new.self.live c.in-Some-pick.picked.number c.in-Some-pick.picked.slot c.in-Some.tags c.pop_front.new.self.items = record { does = c.in-Some-pick.ensures.step; slots = c.in-Some-pick.ensures.slots; popped = c.in-Some.ensures.items } in
    credit_in_range g.row.I-Alloc.Denot m c.args.phase c.pick.new.self.live c.in-Some-pick.picked.number c.in-Some-pick.picked.slot c.in-Some.tags c.pop_front.new.self.items h pick
    (subst (λ (v : Standing). TagsInRange (part_picked c.args.phase v.part)) (sym c.self.view_is) c.requires.in_range)

pub invariant_of-self-2 : goal.invariant_of-self-2
invariant_of-self-2 g c =
    let i = c.self.inside in
    let m0 : Kept = record { whole = i.cell.live; journal = i.cell.journal; room = i.cell.room; share = i.shares; waiting = i.waiting.items; waiting_room = deque_capacity i.waiting; out = i.out.items; out_room = vec_capacity i.out } in
    let j = c.pick.new.self.journal in
    let r = c.pick.new.self.room in
    let m : Kept = record m0 { journal = j; room = r } in
    let h = relogged m0 j r c.self.invariant in
    let room = deque_capacity c.give_credit.new.waiting in
    let same = kept_is m c.args.phase c.pick.new.self.live c.in-Some-pick.picked.number c.in-Some.tags c.pop_front.new.self.items room (vec_capacity c.push_reserved.new.self) c.give_credit.new.shares c.give_credit.new.waiting.items c.push_reserved.new.self.items c.give_credit.ensures.shares c.give_credit.ensures.waiting c.push_reserved.ensures.items c.push_reserved.ensures.capacity in
    let pick : Picking g.row.I-Alloc.Denot m c.pick.new.self.live c.in-Some-pick.picked.number c.in-Some-pick.picked.slot c.in-Some.tags c.pop_front.new.self.items = record { does = c.in-Some-pick.ensures.step; slots = c.in-Some-pick.ensures.slots; popped = c.in-Some.ensures.items } in
    let more : deque_capacity i.waiting ≤ room = subst (λ n. n ≤ room) c.pop_front.ensures.capacity c.give_credit.ensures.capacity in
    subst IsMember same (picks_kept g.row.I-Alloc.Denot m c.args.phase c.pick.new.self.live c.in-Some-pick.picked.number c.in-Some-pick.picked.slot room c.in-Some.tags c.pop_front.new.self.items h pick more)

pub returns-clause-picked : goal.returns-clause-picked
returns-clause-picked g c =
    let i = c.self.inside in
    let m0 : Kept = record { whole = i.cell.live; journal = i.cell.journal; room = i.cell.room; share = i.shares; waiting = i.waiting.items; waiting_room = deque_capacity i.waiting; out = i.out.items; out_room = vec_capacity i.out } in
    let j = c.pick.new.self.journal in
    let r = c.pick.new.self.room in
    let m : Kept = record m0 { journal = j; room = r } in
    let h = relogged m0 j r c.self.invariant in
    let room = deque_capacity c.give_credit.new.waiting in
    let same = kept_is m c.args.phase c.pick.new.self.live c.in-Some-pick.picked.number c.in-Some.tags c.pop_front.new.self.items room (vec_capacity c.push_reserved.new.self) c.give_credit.new.shares c.give_credit.new.waiting.items c.push_reserved.new.self.items c.give_credit.ensures.shares c.give_credit.ensures.waiting c.push_reserved.ensures.items c.push_reserved.ensures.capacity in
    let pick : Picking g.row.I-Alloc.Denot m c.pick.new.self.live c.in-Some-pick.picked.number c.in-Some-pick.picked.slot c.in-Some.tags c.pop_front.new.self.items = record { does = c.in-Some-pick.ensures.step; slots = c.in-Some-pick.ensures.slots; popped = c.in-Some.ensures.items } in
    let numbered = subst (λ (v : Standing). IsNumbered (v.part.out ++ v.part.waiting)) (sym c.self.view_is) c.requires.numbered in
    let one = picks g.row.I-Alloc.Denot m c.args.phase c.pick.new.self.live c.in-Some-pick.picked.number c.in-Some-pick.picked.slot room c.in-Some.tags c.pop_front.new.self.items h pick numbered in
    let seat : Seat = record { number = c.in-Some-pick.picked.number; slot = c.in-Some-pick.picked.slot } in
    let last : Kept = record { whole = c.pick.new.self.live; journal = j; room = r; share = c.give_credit.new.shares; waiting = c.give_credit.new.waiting.items; waiting_room = room; out = c.push_reserved.new.self.items; out_room = vec_capacity c.push_reserved.new.self } in
    let two : Picks (standing_of m0) (standing_of last) c.args.phase seat = let o = subst (λ (k : Kept). Picks (standing_of m) (standing_of k) c.args.phase seat) same one in record { standing = o.standing; number = o.number; held = o.held } in
    subst (λ (v : Standing). Picks v (standing_of last) c.args.phase seat) c.self.view_is two

pub returns-clause-journal : goal.returns-clause-journal
returns-clause-journal g c =
    subst (λ (v : Standing). JournalMove {A = g.row.I-Alloc.Denot} v.part.terms Pick (Some (Picked c.in-Some-pick.picked.number)) v.journal c.pick.new.self.journal) c.self.view_is c.in-Some-pick.ensures.journal
