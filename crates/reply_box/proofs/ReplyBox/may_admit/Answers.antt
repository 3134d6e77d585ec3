use Rattle.std.proofs.Common.{◌+◌, ◌==◌, not, ap, sym, ◌∙◌, arith}
use Rattle.std.proofs.lemmas.Bool.{eq-eqb, ne_eqb}
use Rattle.reply_box.specs.Sessions.{is_open_at}
use Rattle.reply_box.specs.Box.{Box, outstanding_at}
use Rattle.reply_box.proofs.Seats.{open_absent, open_seen, outstanding_seen}
use Rattle.reply_box.proofs.ReplyBox.may_admit.Goals as goal

pub returns-in_default : goal.returns-in_default
returns-in_default g c =
    let i = c.self.inside in
    ap (λ (b : Box). is_open_at b.sessions c.args.session) (sym c.self.view_is) ∙ open_absent i.next i.window c.args.session i.seats c.self.invariant (sym c.in_default.ensures.value)

pub returns-then-seat : goal.returns-then-seat
returns-then-seat g c =
    let i = c.self.inside in
    ap (λ (b : Box). is_open_at b.sessions c.args.session) (sym c.self.view_is)
    ∙ open_seen i.next i.window c.args.session i.seats c.self.invariant c.in-Some.seat.now (sym c.in-Some.ensures.value) ∙ ap not c.if-seat.true

pub returns-then-seat-len : goal.returns-then-seat-len
returns-then-seat-len g c =
    let i = c.self.inside in
    let held = sym c.in-Some.ensures.value in
    let counted = c.len.ensures.len in
    let seen = outstanding_seen i.next i.window c.args.session i.seats c.self.invariant c.in-Some.seat.now held in
    let all = c.if-seat-len.true in (
      ap (λ (b : Box). is_open_at b.sessions c.args.session) (sym c.self.view_is) ∙ open_seen i.next i.window c.args.session i.seats c.self.invariant c.in-Some.seat.now held ∙ ap not c.if-seat.false,
      ap (λ (b : Box). outstanding_at b c.args.session == b.window) (sym c.self.view_is) ∙ eq-eqb _ _ (seen ∙ omega arith),
    )

pub returns-else-seat-len : goal.returns-else-seat-len
returns-else-seat-len g c =
    let i = c.self.inside in
    let held = sym c.in-Some.ensures.value in
    let counted = c.len.ensures.len in
    let seen = outstanding_seen i.next i.window c.args.session i.seats c.self.invariant c.in-Some.seat.now held in (
      ap (λ (b : Box). is_open_at b.sessions c.args.session) (sym c.self.view_is) ∙ open_seen i.next i.window c.args.session i.seats c.self.invariant c.in-Some.seat.now held ∙ ap not c.if-seat.false,
      ap (λ (b : Box). outstanding_at b c.args.session == b.window) (sym c.self.view_is) ∙ ne_eqb _ _ (λ e. c.if-seat-len.false (ap (λ n. c.in-Some.seat.now.owed + n) counted ∙ sym seen ∙ e)),
    )
