use Rattle.std.proofs.Common.{◌≡◌, ◌+◌, ◌<◌, ◌^◌, is_some, length, ap, sym, subst, ◌∙◌, refl, arith, false, cond}
use Rattle.std.specs.Ordering.{nat_cmp}
use Rattle.std.specs.BTreeMap.{get, btree_map_len}
use Rattle.circular_buffer.specs.Buffer.{Buffer}
use Rattle.nbd_wire.specs.Grammar.{ReplyMessage}
use Rattle.reply_box.specs.Box.{Box, is_full, after_attach}
use Rattle.reply_box.specs.Seats.{session_of}
use Rattle.reply_box.proofs.Below.{length-each_below}
use Rattle.reply_box.proofs.Seats.{IsBox-same, IsBox-attach, IsSeat-new, vacant_next, room_left, attach_view}
use Rattle.reply_box.proofs.ReplyBox.attach.Goals as goal

pub invariant_of-self : goal.invariant_of-self
invariant_of-self g c = IsBox-same c.self.inside.next c.self.inside.window c.self.inside.seats c.insert.new.self c.in-Err.ensures.err c.self.invariant

pub invariant_of-self-2 : goal.invariant_of-self-2
invariant_of-self-2 g c =
    let i = c.self.inside in
    let e = c.in_default-insert.ensures in
    let more : btree_map_len c.insert.new.self ≡ btree_map_len i.seats + 1 = e.len ∙ ap (λ o. btree_map_len i.seats + cond (is_some o) 0 1) (e.old ∙ vacant_next i.seats i.next i.window c.self.invariant) in
    let open_seats : is_full c.args.self.now ≡ false = sym c.is_full.ensures ∙ c.if-is_full.false in
    let room = room_left i.next i.window i.seats c.self.invariant (ap is_full c.self.view_is ∙ open_seats) in
    let long = length-each_below (λ n. session_of (get nat_cmp i.seats n)) i.next in
    let below = subst (λ (b : Box). length b.sessions < 2 ^ 63) (sym c.self.view_is) c.requires in
    let small : i.next < 2 ^ 63 = omega arith in
    IsBox-attach i.seats c.insert.new.self i.next i.window (record { left = false; owed = 0; outbox = c.in-Ok.outbox }) c.self.invariant e.updates more room small (IsSeat-new c.in-Ok.outbox i.window c.in-Ok.ensures)

pub returns-clause-ok : goal.returns-clause-ok
returns-clause-ok g c =
    let i = c.self.inside in (
      sym c.is_full.ensures ∙ c.if-is_full.false,
      sym (length-each_below (λ n. session_of (get nat_cmp i.seats n)) i.next) ∙ ap (λ (b : Box). length b.sessions) c.self.view_is,
      attach_view i.seats c.insert.new.self i.next i.window (record { left = false; owed = 0; outbox = c.in-Ok.outbox }) c.in_default-insert.ensures.updates refl refl (ap (λ (b : Buffer ReplyMessage). b.items) c.in-Ok.ensures)
          ∙ ap (λ (b : Box). after_attach b) c.self.view_is,
    )
