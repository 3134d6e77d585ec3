use Rattle.std.proofs.Common.{ap, sym, ◌∙◌, refl, true}
use Rattle.reply_box.specs.declared.seat.Seat.{Seat}
use Rattle.reply_box.specs.Sessions.{is_open_at}
use Rattle.reply_box.specs.Box.{Box, after_leave}
use Rattle.reply_box.specs.Seats.{box_of}
use Rattle.reply_box.proofs.Seats.{open_absent, IsBox-write, leave_view}
use Rattle.reply_box.proofs.ReplyBox.leave.Goals as goal

pub returns-in_default : goal.returns-in_default
returns-in_default g c =
    let i = c.self.inside in (
      ap (λ (b : Box). is_open_at b.sessions c.args.session) (sym c.self.view_is) ∙ open_absent i.next i.window c.args.session i.seats c.self.invariant (sym c.in_default.ensures.value),
      ap (λ m. box_of i.next m i.window) c.get_mut.follows.holds-at-none ∙ c.self.view_is,
    )

pub invariant_of-self-2 : goal.invariant_of-self-2
invariant_of-self-2 g c =
    let i = c.self.inside in
    let old = c.in-Some.seat.now in
    let new : Seat g.row.A.Denot = record old { left = true } in
    let held = sym c.in-Some.ensures.value in
    let wrote = c.get_mut.follows.holds new in
    let fits = c.self.invariant.each c.args.session old held in
    IsBox-write i.seats (c.get_mut.follows.lender new) c.args.session i.next i.window old new c.self.invariant held (wrote.3 (rw held refl)) wrote.2
    (record { within = fits.within; room = fits.room })

pub returns : goal.returns
returns g c =
    let i = c.self.inside in
    let old = c.in-Some.seat.now in
    let new : Seat g.row.A.Denot = record old { left = true } in
    let held = sym c.in-Some.ensures.value in
    let wrote = c.get_mut.follows.holds new in (
      sym c.is_open.ensures ∙ c.if-not-is_open.false,
      leave_view i.seats (c.get_mut.follows.lender new) c.args.session i.next i.window old new held (wrote.3 (rw held refl)) refl ∙ ap (λ (b : Box). after_leave b c.args.session) c.self.view_is,
    )
