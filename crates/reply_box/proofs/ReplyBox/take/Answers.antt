use Rattle.std.proofs.Common.{◌≡◌, ◌-◌, Ok, List, length, ap, sym, subst, ◌∙◌, refl, arith, length-drop, slice_get}
use Rattle.circular_buffer.specs.Buffer.{Buffer}
use Rattle.nbd_wire.specs.Grammar.{ReplyMessage}
use Rattle.reply_box.specs.declared.seat.Seat.{Seat}
use Rattle.reply_box.specs.Sessions.{is_here_at, outbox_at}
use Rattle.reply_box.specs.Box.{Box, Takes, after_take}
use Rattle.reply_box.specs.Seats.{box_of, quiet}
use Rattle.reply_box.proofs.Seats.{here_absent, here_seen, outbox_seen, IsBox-write, take_view, still_view, no_front, takes_quiet}
use Rattle.reply_box.proofs.ReplyBox.take.Goals as goal

pub returns-in_default : goal.returns-in_default
returns-in_default g c =
    let i = c.self.inside in (
      ap (λ (b : Box). is_here_at b.sessions c.args.session) (sym c.self.view_is) ∙ here_absent i.next i.window c.args.session i.seats c.self.invariant (sym c.in_default.ensures.value),
      ap (λ m. box_of i.next m i.window) c.get_mut.follows.holds-at-none ∙ c.self.view_is,
    )

pub invariant_of-self-in_default-pop_front : goal.invariant_of-self-in_default-pop_front
invariant_of-self-in_default-pop_front g c =
    let i = c.self.inside in
    let old = c.in-Some.seat.now in
    let held = sym c.in-Some.ensures.value in
    let new : Seat g.row.A.Denot = record { left = old.left; owed = old.owed; outbox = c.pop_front.new.self } in
    let wrote = c.get_mut.follows.holds new in
    let rest = ap (λ (b : Buffer ReplyMessage). b.items) c.in_default-pop_front.ensures.items in
    let fits = c.self.invariant.each c.args.session old held in
    let cut : length c.pop_front.new.self.items ≡ length old.outbox.items - 1 = ap length rest ∙ length-drop 1 old.outbox.items in
    IsBox-write i.seats (c.get_mut.follows.lender new) c.args.session i.next i.window old new c.self.invariant held (wrote.3 (rw held refl)) wrote.2
    (record { within = let a = fits.within in omega arith; room = ap (λ (b : Buffer ReplyMessage). b.capacity) c.in_default-pop_front.ensures.items ∙ fits.room })

pub returns-in_default-pop_front : goal.returns-in_default-pop_front
returns-in_default-pop_front g c =
    let i = c.self.inside in
    let old = c.in-Some.seat.now in
    let held = sym c.in-Some.ensures.value in
    let new : Seat g.row.A.Denot = record { left = old.left; owed = old.owed; outbox = c.pop_front.new.self } in
    let wrote = c.get_mut.follows.holds new in
    let rest = ap (λ (b : Buffer ReplyMessage). b.items) c.in_default-pop_front.ensures.items in
    let none = no_front old.outbox.items c.in_default-pop_front.ensures.value in
    let still = still_view i.seats (c.get_mut.follows.lender new) c.args.session i.next i.window old new held (wrote.3 (rw held refl)) refl refl rest none in
    let said = takes_quiet i.next i.window c.args.session i.seats (box_of i.next (c.get_mut.follows.lender new) i.window) old c.self.invariant held none still in
    subst (λ t. Takes {A = g.row.A.Denot} c.args.self.now c.args.session (box_of i.next (c.get_mut.follows.lender new) i.window) (Ok t)) (sym c.quiet.ensures)
    (subst (λ (b : Box). Takes {A = g.row.A.Denot} b c.args.session (box_of i.next (c.get_mut.follows.lender new) i.window) (Ok (quiet old))) c.self.view_is said)

pub invariant_of-self-2 : goal.invariant_of-self-2
invariant_of-self-2 g c =
    let i = c.self.inside in
    let old = c.in-Some.seat.now in
    let held = sym c.in-Some.ensures.value in
    let new : Seat g.row.A.Denot = record { left = old.left; owed = old.owed; outbox = c.pop_front.new.self } in
    let wrote = c.get_mut.follows.holds new in
    let rest = ap (λ (b : Buffer ReplyMessage). b.items) c.in-Some-pop_front.ensures.items in
    let fits = c.self.invariant.each c.args.session old held in
    let cut : length c.pop_front.new.self.items ≡ length old.outbox.items - 1 = ap length rest ∙ length-drop 1 old.outbox.items in
    IsBox-write i.seats (c.get_mut.follows.lender new) c.args.session i.next i.window old new c.self.invariant held (wrote.3 (rw held refl)) wrote.2
    (record { within = let a = fits.within in omega arith; room = ap (λ (b : Buffer ReplyMessage). b.capacity) c.in-Some-pop_front.ensures.items ∙ fits.room })

pub returns : goal.returns
returns g c =
    let i = c.self.inside in
    let old = c.in-Some.seat.now in
    let held = sym c.in-Some.ensures.value in
    let new : Seat g.row.A.Denot = record { left = old.left; owed = old.owed; outbox = c.pop_front.new.self } in
    let wrote = c.get_mut.follows.holds new in
    let rest = ap (λ (b : Buffer ReplyMessage). b.items) c.in-Some-pop_front.ensures.items in (
      ap (λ (b : Box). is_here_at b.sessions c.args.session) (sym c.self.view_is) ∙ here_seen i.next i.window c.args.session i.seats c.self.invariant old held,
      ap (λ (b : Box). slice_get (outbox_at b.sessions c.args.session) 0) (sym c.self.view_is)
          ∙ ap (λ (xs : List ReplyMessage). slice_get xs 0) (outbox_seen i.next i.window c.args.session i.seats c.self.invariant old held) ∙ sym c.in-Some-pop_front.ensures.value,
      take_view i.seats (c.get_mut.follows.lender new) c.args.session i.next i.window old new held (wrote.3 (rw held refl)) refl refl rest ∙ ap (λ (b : Box). after_take b c.args.session) c.self.view_is,
    )
