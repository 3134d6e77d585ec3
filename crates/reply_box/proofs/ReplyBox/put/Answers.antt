use Rattle.std.proofs.Common.{◌≡◌, ◌+◌, ◌-◌, ◌<◌, [], ◌∷◌, length, ap, sym, subst, ◌∙◌, refl, arith, length-append}
use Rattle.reply_box.specs.declared.seat.Seat.{Seat}
use Rattle.reply_box.specs.Sessions.{is_here_at}
use Rattle.reply_box.specs.Box.{Box, owed_at, after_put}
use Rattle.reply_box.specs.Seats.{box_of}
use Rattle.reply_box.proofs.Seats.{here_seen, owed_seen, IsBox-write, put_view, drop_view, pushed_items}
use Rattle.reply_box.proofs.ReplyBox.put.Goals as goal

pub returns-in_default : goal.returns-in_default
returns-in_default g c =
    let i = c.self.inside in
    ap (λ m. box_of i.next m i.window) c.get_mut.follows.holds-at-none ∙ drop_view i.seats c.args.session i.next i.window c.args.reply (sym c.in_default.ensures.value)
    ∙ ap (λ (b : Box). after_put b c.args.session c.args.reply) c.self.view_is

pub overflow_sub-seat : goal.overflow_sub-seat
overflow_sub-seat g c =
    let i = c.self.inside in
    let old = c.in-Some.seat.now in
    let held = sym c.in-Some.ensures.value in
    let here = ap (λ (b : Box). is_here_at b.sessions c.args.session) (sym c.self.view_is) ∙ here_seen i.next i.window c.args.session i.seats c.self.invariant old held in
    let seen = owed_seen i.next i.window c.args.session i.seats c.self.invariant old held in
    let owed = subst (λ (b : Box). 0 < owed_at b.owed c.args.session) (sym c.self.view_is) (c.requires here) in
    omega arith

pub invariant_of-self-2 : goal.invariant_of-self-2
invariant_of-self-2 g c =
    let i = c.self.inside in
    let old = c.in-Some.seat.now in
    let held = sym c.in-Some.ensures.value in
    let here = ap (λ (b : Box). is_here_at b.sessions c.args.session) (sym c.self.view_is) ∙ here_seen i.next i.window c.args.session i.seats c.self.invariant old held in
    let seen = owed_seen i.next i.window c.args.session i.seats c.self.invariant old held in
    let owed = subst (λ (b : Box). 0 < owed_at b.owed c.args.session) (sym c.self.view_is) (c.requires here) in
    let fits = c.self.invariant.each c.args.session old held in
    let pushed = pushed_items old.outbox c.put_behind.new.outbox c.args.reply c.put_behind.ensures (let a = fits.within in let b = fits.room in omega arith) in
    let new : Seat g.row.A.Denot = record { left = old.left; owed = old.owed - 1; outbox = c.put_behind.new.outbox } in
    let wrote = c.get_mut.follows.holds new in
    let longer : length c.put_behind.new.outbox.items ≡ length old.outbox.items + 1 = ap length pushed.0 ∙ length-append old.outbox.items (c.args.reply ∷ []) in
    IsBox-write i.seats (c.get_mut.follows.lender new) c.args.session i.next i.window old new c.self.invariant held (wrote.3 (rw held refl)) wrote.2
    (record { within = let a = fits.within in omega arith; room = pushed.1 ∙ fits.room })

pub returns : goal.returns
returns g c =
    let i = c.self.inside in
    let old = c.in-Some.seat.now in
    let held = sym c.in-Some.ensures.value in
    let here = ap (λ (b : Box). is_here_at b.sessions c.args.session) (sym c.self.view_is) ∙ here_seen i.next i.window c.args.session i.seats c.self.invariant old held in
    let seen = owed_seen i.next i.window c.args.session i.seats c.self.invariant old held in
    let owed = subst (λ (b : Box). 0 < owed_at b.owed c.args.session) (sym c.self.view_is) (c.requires here) in
    let fits = c.self.invariant.each c.args.session old held in
    let pushed = pushed_items old.outbox c.put_behind.new.outbox c.args.reply c.put_behind.ensures (let a = fits.within in let b = fits.room in omega arith) in
    let new : Seat g.row.A.Denot = record { left = old.left; owed = old.owed - 1; outbox = c.put_behind.new.outbox } in
    let wrote = c.get_mut.follows.holds new in
    put_view i.seats (c.get_mut.follows.lender new) c.args.session i.next i.window old new held (wrote.3 (rw held refl)) c.args.reply refl refl pushed.0
    ∙ ap (λ (b : Box). after_put b c.args.session c.args.reply) c.self.view_is
