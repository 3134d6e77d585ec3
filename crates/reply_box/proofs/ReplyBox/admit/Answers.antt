use Rattle.std.proofs.Common.{◌+◌, ◌==◌, ap, sym, ◌∙◌, refl, arith}
use Rattle.reply_box.specs.declared.seat.Seat.{Seat}
use Rattle.reply_box.specs.Sessions.{is_open_at}
use Rattle.reply_box.specs.Box.{Box, outstanding_at, after_admit}
use Rattle.reply_box.specs.Seats.{box_of}
use Rattle.reply_box.proofs.Seats.{open_absent, IsBox-write, room_in, admit_view}
use Rattle.reply_box.proofs.ReplyBox.admit.Goals as goal

pub returns-in_default-get_mut : goal.returns-in_default-get_mut
returns-in_default-get_mut g c =
    let i = c.self.inside in (
      ap (λ (b : Box). is_open_at b.sessions c.args.session) (sym c.self.view_is) ∙ open_absent i.next i.window c.args.session i.seats c.self.invariant (sym c.in_default-get_mut.ensures.value),
      ap (λ m. box_of i.next m i.window) c.get_mut.follows.holds-at-none ∙ c.self.view_is,
    )

pub overflow_add-seat : goal.overflow_add-seat
overflow_add-seat g c =
    let i = c.self.inside in
    let old = c.in-Some.seat.now in
    let apart = ap (λ (b : Box). outstanding_at b c.args.session == b.window) c.self.view_is ∙ c.in_default.ensures.1 in
    let room = room_in i.next i.window c.args.session i.seats c.self.invariant old (sym c.in-Some.ensures.value) apart in
    omega arith

pub invariant_of-self-2 : goal.invariant_of-self-2
invariant_of-self-2 g c =
    let i = c.self.inside in
    let old = c.in-Some.seat.now in
    let new : Seat g.row.A.Denot = record old { owed = old.owed + 1 } in
    let held = sym c.in-Some.ensures.value in
    let wrote = c.get_mut.follows.holds new in
    let apart = ap (λ (b : Box). outstanding_at b c.args.session == b.window) c.self.view_is ∙ c.in_default.ensures.1 in
    let room = room_in i.next i.window c.args.session i.seats c.self.invariant old held apart in
    IsBox-write i.seats (c.get_mut.follows.lender new) c.args.session i.next i.window old new c.self.invariant held (wrote.3 (rw held refl)) wrote.2
    (record { within = omega arith; room = (c.self.invariant.each c.args.session old held).room })

pub returns : goal.returns
returns g c =
    let i = c.self.inside in
    let old = c.in-Some.seat.now in
    let new : Seat g.row.A.Denot = record old { owed = old.owed + 1 } in
    let held = sym c.in-Some.ensures.value in
    let wrote = c.get_mut.follows.holds new in (
      c.in_default.ensures,
      admit_view i.seats (c.get_mut.follows.lender new) c.args.session i.next i.window old new held (wrote.3 (rw held refl)) refl ∙ ap (λ (b : Box). after_admit b c.args.session) c.self.view_is,
    )
