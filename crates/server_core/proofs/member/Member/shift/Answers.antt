use Rattle.std.proofs.Common.{◌≡◌, false, length, sym, ◌∙◌, ap, subst, rules}
use Rattle.std.specs.Prelude.{◌==◌}
use Rattle.std.proofs.lemmas.Int.{to_z-of_z}
use Rattle.std.specs.Vec.{vec_capacity}
use Rattle.std.specs.VecDeque.{deque_capacity, deque_len}
use Rattle.server_table.specs.Ways.{part_shifted}
use Rattle.server_core.specs.Kept.{TagsInRange}
use Rattle.server_core.specs.Members.{Kept, Standing, shifted_standing}
use Rattle.server_core.proofs.Shifting.{shifts, shift_in_range, last_in_range}
use Rattle.server_core.proofs.member.Member.shift.Goals as goal

pub shift_all-requires : goal.shift_all-requires
shift_all-requires g c =
    let i = c.self.inside in
    let m : Kept = record { whole = i.cell.live; journal = i.cell.journal; room = i.cell.room; share = i.shares; waiting = i.waiting.items; waiting_room = deque_capacity i.waiting; out = i.out.items; out_room = vec_capacity i.out } in
    let fits = c.ranges.delta in
    let range = subst (λ (v : Standing). TagsInRange (part_shifted c.args.delta v.part)) (sym c.self.view_is) c.requires in
    rw to_z-of_z (shift_in_range m c.args.delta c.self.invariant range)

pub shift-requires : goal.shift-requires
shift-requires g c =
    let i = c.self.inside in
    let m : Kept = record { whole = i.cell.live; journal = i.cell.journal; room = i.cell.room; share = i.shares; waiting = i.waiting.items; waiting_room = deque_capacity i.waiting; out = i.out.items; out_room = vec_capacity i.out } in
    let fits = c.ranges.delta in
    let range = subst (λ (v : Standing). TagsInRange (part_shifted c.args.delta v.part)) (sym c.self.view_is) c.requires in
    let n : deque_len i.waiting ≡ length i.waiting.items = search rules in
    let some : (length i.waiting.items == 0) ≡ false = ap (λ k. k == 0) (sym n) ∙ sym c.is_empty.ensures ∙ c.if-is_empty.false in
    rw to_z-of_z (last_in_range m c.args.delta c.self.invariant some range)

pub returns : goal.returns
returns g c =
    let i = c.self.inside in
    let m : Kept = record { whole = i.cell.live; journal = i.cell.journal; room = i.cell.room; share = i.shares; waiting = i.waiting.items; waiting_room = deque_capacity i.waiting; out = i.out.items; out_room = vec_capacity i.out } in
    let fits = c.ranges.delta in
    let n : deque_len i.waiting ≡ length i.waiting.items = search rules in
    let some : (length i.waiting.items == 0) ≡ false = ap (λ k. k == 0) (sym n) ∙ sym c.is_empty.ensures ∙ c.if-is_empty.false in
    shifts m c.args.delta c.shift_all.new.tags.items c.shift.new.self (deque_capacity c.shift_all.new.tags) c.self.invariant some (rw to_z-of_z at c.shift_all.ensures.tags) (rw to_z-of_z at c.shift.ensures)
    ∙ ap (shifted_standing c.args.delta) c.self.view_is
