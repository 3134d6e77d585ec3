-- The sessions of a map, as a box shows them.
use Rattle.std.proofs.Common.{◌≡◌, ◌≢◌, ◌⊎◌, ℕ, zero, suc, ◌+◌, ◌-◌, ◌<◌, ◌≤◌, ◌^◌, Bool, true, false, List, [], ◌∷◌, ◌++◌, length, filter, take, drop, Option, Some, None, cond, refl, sym, ap, subst, ◌∙◌, inl, inr, arith, lit≤, length-append, not, ◌==◌, ◌&&◌, Ok, slice_get, if◌then◌else◌}
use Rattle.std.proofs.lemmas.Bool.{cases_eq, cases_lt, eqb-false, eqb-true}
use Rattle.std.proofs.lemmas.List.{take_all}
use Rattle.std.specs.Ordering.{nat_cmp, eq_by_cmp}
use Rattle.std.specs.Map.{lookup}
use Rattle.std.specs.BTreeMap.{BTreeMap, get, btree_map_len, Updates}
use Rattle.circular_buffer.specs.Buffer.{Buffer, buffer, keep_last}
use Rattle.nbd_base.proofs.Numbers.{tied_same, tied_other}
use Rattle.nbd_base.proofs.Words.{filter-change_same, filter-change_less}
use Rattle.nbd_base.specs.Words.{change_at, when_some}
use Rattle.nbd_wire.specs.Grammar.{ReplyMessage}
use Rattle.reply_box.specs.declared.seat.Seat.{Seat}
use Rattle.reply_box.specs.declared.seat.Taken.TheVariants.{Empty, End}
use Rattle.reply_box.specs.declared.seat.SessionState.TheVariants.{Open, Left, Gone}
use Rattle.reply_box.specs.Sessions.{Session, posted, is_here, is_open_state, is_left_state, is_here_state, is_open_at, is_left_at, is_here_at, is_quiet_at, outbox_at, state_at, new_session}
use Rattle.reply_box.specs.Box.{Box, is_full, after_attach, after_admit, after_put, after_take, after_leave, after_gone, owed_at, outstanding_at, Takes, IsInBounds}
use Rattle.reply_box.specs.Seats.{each_below, state_of, quiet, session_of, owed_of, sessions_of, box_of, IsSeat, IsBox}
use Rattle.reply_box.proofs.Below.{length-each_below, get-each_below, past-each_below, each_below-alike, each_below-change, filter-append_one}

each_below-next : {X : Type 0} (f : ℕ → X) (n : ℕ) → each_below f (n + 1) ≡ each_below f n ++ f n ∷ []
each_below-next f n = let e : n + 1 ≡ suc n = omega arith in ap (each_below f) e

-- the only item, put at either end
pub only_kept : {X : Type 0} (n : ℕ) (xs : List X) (x : X) → (length xs == 0) ≡ true → take n (x ∷ xs) ≡ keep_last n (xs ++ x ∷ [])
only_kept zero [] x none = refl
only_kept (suc n) [] x none = let all : length (x ∷ []) - suc n ≡ 0 = omega arith in rw all (take_all (suc n) (x ∷ []) (omega arith))
only_kept n (y ∷ ys) x none = let long = eqb-true (length (y ∷ ys)) 0 none in absurd (omega arith)

-- the outbox of a session that is owed a reply isn't full
pub pushed_items : (b c : Buffer ReplyMessage) (r : ReplyMessage) → c ≡ buffer (keep_last b.capacity (b.items ++ r ∷ [])) b.capacity → length b.items < b.capacity → (c.items ≡ b.items ++ r ∷ []) × (c.capacity ≡ b.capacity)
pushed_items b c r is room =
    let whole : length (b.items ++ r ∷ []) - b.capacity ≡ 0 = omega (arith, length-append b.items (r ∷ [])) in
    (ap (λ (d : Buffer ReplyMessage). d.items) is ∙ ap (λ n. drop n (b.items ++ r ∷ [])) whole, ap (λ (d : Buffer ReplyMessage). d.capacity) is)

-- a list without a first item is empty
pub no_front : (xs : List ReplyMessage) → None ≡ slice_get xs 0 → xs ≡ []
no_front [] e = refl
no_front (x ∷ xs) e = absurd (cc)

module _ {A : Type 0} where
  -- ---- a session that is kept, as it is seen

  pub here_seat : (seat : Seat A) → is_here (session_of (Some seat)) ≡ true
  here_seat seat = by seat.left
    where
      by : (b : Bool) → is_here_state (state_of (record seat { left = b })) ≡ true
      by true = refl
      by false = refl

  pub left_seat : (seat : Seat A) → is_left_state (state_of seat) ≡ seat.left
  left_seat seat = by seat.left
    where
      by : (b : Bool) → is_left_state (state_of (record seat { left = b })) ≡ b
      by true = refl
      by false = refl

  pub open_seat : (seat : Seat A) → is_open_state (state_of seat) ≡ not seat.left
  open_seat seat = by seat.left
    where
      by : (b : Bool) → is_open_state (state_of (record seat { left = b })) ≡ not b
      by true = refl
      by false = refl

  -- ---- a map in which one number was written

  module _ (m t : BTreeMap ℕ (Seat A)) (n : ℕ) (o : Option (Seat A)) (changes : Updates nat_cmp m t n o) where
    at_n : get nat_cmp t n ≡ o
    at_n = changes.0 n ∙ ap (λ b. cond b o (get nat_cmp m n)) (tied_same n n refl)

    at_other : (q : ℕ) → q ≢ n → get nat_cmp t q ≡ get nat_cmp m q
    at_other q other = changes.0 q ∙ ap (λ b. cond b o (get nat_cmp m q)) (tied_other n q (λ e. other (sym e)))

    kept : {X : Type 0} (p : Option (Seat A) → X) (next : ℕ) → p o ≡ p (get nat_cmp m n) → each_below (λ k. p (get nat_cmp t k)) next ≡ each_below (λ k. p (get nat_cmp m k)) next
    kept p next same =
        each_below-alike next (λ k. p (get nat_cmp m k)) (λ k. p (get nat_cmp t k))
        (λ k l. elim (cases_eq k n) [
          | inl e ↦ ap (λ q. p (get nat_cmp t q)) e ∙ ap p at_n ∙ same ∙ ap (λ q. p (get nat_cmp m q)) (sym e)
          | inr other ↦ ap p (at_other k other)
        ])

    changed : {X : Type 0} (p : Option (Seat A) → X) (h : X → X) (next : ℕ) → p o ≡ h (p (get nat_cmp m n)) → each_below (λ k. p (get nat_cmp t k)) next ≡ change_at h n (each_below (λ k. p (get nat_cmp m k)) next)
    changed p h next is =
        each_below-change h next n (λ k. p (get nat_cmp m k)) (λ k. p (get nat_cmp t k)) (ap p at_n ∙ is) (λ k other. ap p (at_other k other))

    added : {X : Type 0} (p : Option (Seat A) → X) → each_below (λ k. p (get nat_cmp t k)) (n + 1) ≡ each_below (λ k. p (get nat_cmp m k)) n ++ p o ∷ []
    added p =
        each_below-next (λ k. p (get nat_cmp t k)) n
        ∙ ap (λ xs. xs ++ p (get nat_cmp t n) ∷ []) (each_below-alike n (λ k. p (get nat_cmp m k)) (λ k. p (get nat_cmp t k)) (λ k l. ap p (at_other k (λ e. absurd (omega arith)))))
        ∙ ap (λ w. each_below (λ k. p (get nat_cmp m k)) n ++ p w ∷ []) at_n

    old_or_new : (q : ℕ) (s : Seat A) → get nat_cmp t q ≡ Some s → ((q ≡ n) × (o ≡ Some s)) ⊎ ((q ≢ n) × (get nat_cmp m q ≡ Some s))
    old_or_new q s held =
        elim (cases_eq q n) [
          | inl same ↦ inl (same, sym at_n ∙ ap (get nat_cmp t) (sym same) ∙ held)
          | inr other ↦ inr (other, sym (at_other q other) ∙ held)
        ]

  -- ---- what a box shows of a session

  module _ (next window n : ℕ) (m : BTreeMap ℕ (Seat A)) (is : IsBox next m window) where
    -- of a session that is kept
    module _ (seat : Seat A) (held : get nat_cmp m n ≡ Some seat) where
      pub session_seen : slice_get (sessions_of next m) n ≡ Some (session_of (Some seat))
      session_seen = get-each_below (λ k. session_of (get nat_cmp m k)) next n (is.below n seat held) ∙ ap (λ o. Some (session_of o)) held

      pub owed_seen : owed_at (box_of next m window).owed n ≡ seat.owed
      owed_seen = ap (λ o. when_some o (λ k. k) 0) (get-each_below (λ k. owed_of (get nat_cmp m k)) next n (is.below n seat held) ∙ ap (λ o. Some (owed_of o)) held)

      pub here_seen : is_here_at (sessions_of next m) n ≡ true
      here_seen = ap (λ o. when_some o is_here false) session_seen ∙ here_seat seat

      pub left_seen : is_left_at (sessions_of next m) n ≡ seat.left
      left_seen = ap (λ (o : Option Session). when_some o (λ session. is_left_state session.state) false) session_seen ∙ left_seat seat

      pub open_seen : is_open_at (sessions_of next m) n ≡ not seat.left
      open_seen = ap (λ (o : Option Session). when_some o (λ session. is_open_state session.state) false) session_seen ∙ open_seat seat

      pub quiet_seen : is_quiet_at (sessions_of next m) n ≡ (length seat.outbox.items == 0)
      quiet_seen = ap (λ (o : Option Session). when_some o (λ session. is_here session && length session.outbox == 0) false) session_seen ∙ ap (λ b. b && length seat.outbox.items == 0) (here_seat seat)

      pub outbox_seen : outbox_at (sessions_of next m) n ≡ seat.outbox.items
      outbox_seen = ap (λ (o : Option Session). when_some o (λ session. session.outbox) []) session_seen

      pub state_seen : state_at (sessions_of next m) n ≡ Some (state_of seat)
      state_seen = ap (λ (o : Option Session). when_some o (λ session. Some session.state) None) session_seen

      pub outstanding_seen : outstanding_at (box_of next m window) n ≡ seat.owed + length seat.outbox.items
      outstanding_seen = ap (λ k. k + length (outbox_at (sessions_of next m) n)) owed_seen ∙ ap (λ (xs : List ReplyMessage). seat.owed + length xs) outbox_seen

    -- of a session that isn't
    module _ (vacant : get nat_cmp m n ≡ None) where
      absent : {B : Type 0} (p : Session → B) (d : B) → p (session_of {A = A} None) ≡ d → when_some (slice_get (sessions_of next m) n) p d ≡ d
      absent p d same = elim (cases_lt n next) [
        | inl less ↦ ap (λ o. when_some o p d) (get-each_below (λ k. session_of (get nat_cmp m k)) next n less ∙ ap (λ o. Some (session_of o)) vacant) ∙ same
        | inr more ↦ ap (λ o. when_some o p d) (past-each_below (λ k. session_of (get nat_cmp m k)) next n more)
      ]

      pub here_absent : is_here_at (sessions_of next m) n ≡ false
      here_absent = absent is_here false refl

      pub quiet_absent : is_quiet_at (sessions_of next m) n ≡ false
      quiet_absent = absent (λ session. is_here session && length session.outbox == 0) false refl

      pub open_absent : is_open_at (sessions_of next m) n ≡ false
      open_absent = absent (λ session. is_open_state session.state) false refl

      pub outbox_absent : outbox_at (sessions_of next m) n ≡ []
      outbox_absent = absent (λ session. session.outbox) [] refl

      pub owed_absent : owed_at (box_of next m window).owed n ≡ 0
      owed_absent = elim (cases_lt n next) [
        | inl less ↦ ap (λ o. when_some o (λ k. k) 0) (get-each_below (λ k. owed_of (get nat_cmp m k)) next n less ∙ ap (λ o. Some (owed_of o)) vacant)
        | inr more ↦ ap (λ o. when_some o (λ k. k) 0) (past-each_below (λ k. owed_of (get nat_cmp m k)) next n more)
      ]

      pub gone_seen : n < next → state_at (sessions_of next m) n ≡ Some Gone
      gone_seen less = ap (λ (o : Option Session). when_some o (λ session. Some session.state) None) (get-each_below (λ k. session_of (get nat_cmp m k)) next n less ∙ ap (λ o. Some (session_of o)) vacant)

  pub state_past : (next n : ℕ) (m : BTreeMap ℕ (Seat A)) → next ≤ n → state_at (sessions_of next m) n ≡ None
  state_past next n m more = ap (λ (o : Option Session). when_some o (λ session. Some session.state) None) (past-each_below (λ k. session_of (get nat_cmp m k)) next n more)

  -- ---- the invariant

  pub IsBox-new : (m : BTreeMap ℕ (Seat A)) (window : ℕ) → m.entries ≡ [] → IsBox 0 m window
  IsBox-new m window none =
      let vacant = λ (n : ℕ). let e : get nat_cmp m n ≡ None = ap (lookup (λ k. eq_by_cmp nat_cmp n k)) none in e in
      record {
        each = λ n s held. let no : None ≡ Some s = sym (vacant n) ∙ held in absurd (cc);
        below = λ n s held. let no : None ≡ Some s = sym (vacant n) ∙ held in absurd (cc);
        counted = ap length none;
        few = rw none (lit≤ tt);
        in_range = omega arith;
      }

  module _ (m t : BTreeMap ℕ (Seat A)) (n : ℕ) where
    -- a session that was there is written
    pub IsBox-write : (next window : ℕ) (old w : Seat A) → IsBox next m window → get nat_cmp m n ≡ Some old → Updates nat_cmp m t n (Some w) → btree_map_len t ≡ btree_map_len m → IsSeat window w → IsBox next t window
    IsBox-write next window old w is held changes same fits = record {
      each = λ q s at. elim (old_or_new m t n (Some w) changes q s at) [ inl a ↦ let e : w ≡ s = let f = a.1 in cc in subst (IsSeat window) e fits | inr a ↦ is.each q s a.1 ];
      below = λ q s at. elim (old_or_new m t n (Some w) changes q s at) [ inl a ↦ let b = is.below n old held in let e = a.0 in omega arith | inr a ↦ is.below q s a.1 ];
      counted =
          same ∙ is.counted
          ∙ sym (ap (λ xs. length (filter is_here xs)) (changed m t n (Some w) changes session_of (λ x. session_of (Some w)) next refl)
          ∙ filter-change_same is_here (λ x. session_of (Some w)) n (sessions_of next m)
          (λ x found.
          let both : Some (session_of (Some old)) ≡ Some x = sym (session_seen next window n m is old held) ∙ found in
          let one : session_of (Some old) ≡ x = cc in
          here_seat w ∙ sym (ap is_here (sym one) ∙ here_seat old)));
      few = let f = is.few in omega arith;
      in_range = is.in_range;
    }

    -- a session is added under the next number
    pub IsBox-attach : (window : ℕ) (w : Seat A) → IsBox n m window → Updates nat_cmp m t n (Some w) → btree_map_len t ≡ btree_map_len m + 1 → btree_map_len m < 64 → n < 2 ^ 63 → IsSeat window w → IsBox (n + 1) t window
    IsBox-attach window w is changes more room small fits = record {
      each = λ q s at. elim (old_or_new m t n (Some w) changes q s at) [ inl a ↦ let e : w ≡ s = let f = a.1 in cc in subst (IsSeat window) e fits | inr a ↦ is.each q s a.1 ];
      below = λ q s at. elim (old_or_new m t n (Some w) changes q s at) [ inl a ↦ let e = a.0 in omega arith | inr a ↦ let b = is.below q s a.1 in omega arith ];
      counted =
          more ∙ ap (λ k. k + 1) is.counted
          ∙ sym (ap (λ xs. length (filter is_here xs)) (added m t n (Some w) changes session_of) ∙ filter-append_one is_here (sessions_of n m) (session_of (Some w)) (here_seat w));
      few = omega arith;
      in_range = omega arith;
    }

    pub IsBox-remove : (next window : ℕ) (old : Seat A) → IsBox next m window → get nat_cmp m n ≡ Some old → Updates nat_cmp m t n None → btree_map_len t + 1 ≡ btree_map_len m → IsBox next t window
    IsBox-remove next window old is held changes less = record {
      each = λ q s at. is.each q s (was q s at);
      below = λ q s at. is.below q s (was q s at);
      counted =
          let fewer : length (filter is_here (sessions_of next t)) + 1 ≡ length (filter is_here (sessions_of next m)) =
          ap (λ xs. length (filter is_here xs) + 1) (changed m t n None changes session_of (λ x. session_of {A = A} None) next refl)
          ∙ filter-change_less is_here (λ x. session_of {A = A} None) n (sessions_of next m) (session_of (Some old)) (session_seen next window n m is old held) (here_seat old) refl in
          let counted = is.counted in omega arith;
      few = let f = is.few in omega arith;
      in_range = is.in_range;
    }
      where
        was : (q : ℕ) (s : Seat A) → get nat_cmp t q ≡ Some s → get nat_cmp m q ≡ Some s
        was q s at = elim (old_or_new m t n None changes q s at) [ inl a ↦ let no : None ≡ Some s = a.1 in absurd (cc) | inr a ↦ a.1 ]

  -- what was not there is removed
  module _ (m t : BTreeMap ℕ (Seat A)) (n next window : ℕ) (vacant : get nat_cmp m n ≡ None) (changes : Updates nat_cmp m t n None) where
    pub IsBox-absent : IsBox next m window → btree_map_len t + 0 ≡ btree_map_len m → IsBox next t window
    IsBox-absent is same = record {
      each = λ q s at. is.each q s (was q s at);
      below = λ q s at. is.below q s (was q s at);
      counted =
          let alike : length (filter is_here (sessions_of next t)) ≡ length (filter is_here (sessions_of next m)) =
          ap (λ xs. length (filter is_here xs)) (kept m t n None changes session_of next (ap session_of (sym vacant))) in
          let counted = is.counted in omega arith;
      few = let f = is.few in omega arith;
      in_range = is.in_range;
    }
      where
        was : (q : ℕ) (s : Seat A) → get nat_cmp t q ≡ Some s → get nat_cmp m q ≡ Some s
        was q s at = elim (old_or_new m t n None changes q s at) [ inl a ↦ let no : None ≡ Some s = a.1 in absurd (cc) | inr a ↦ a.1 ]

    pub absent_view : box_of next t window ≡ box_of next m window
    absent_view =
        let sessions = kept m t n None changes session_of next (ap session_of (sym vacant)) in
        let owed = kept m t n None changes owed_of next (ap owed_of (sym vacant)) in
        λ i. record { sessions = sessions i; owed = owed i; window = window }

  -- the next number has no session
  pub vacant_next : (m : BTreeMap ℕ (Seat A)) (n window : ℕ) → IsBox n m window → get nat_cmp m n ≡ None
  vacant_next m n window is = by (get nat_cmp m n) refl
    where
      by : (o : Option (Seat A)) → get nat_cmp m n ≡ o → o ≡ None
      by None e = refl
      by (Some s) e = let b = is.below n s e in absurd (omega arith)

  -- a box that isn't full
  pub room_left : (next window : ℕ) (m : BTreeMap ℕ (Seat A)) → IsBox next m window → is_full (box_of next m window) ≡ false → btree_map_len m < 64
  room_left next window m is room = let f = is.few in let c = is.counted in let ne = eqb-false (length (filter is_here (sessions_of next m))) 64 room in omega arith

  -- a session that may be admitted has fewer outstanding than the window
  pub room_in : (next window n : ℕ) (m : BTreeMap ℕ (Seat A)) → IsBox next m window → (seat : Seat A) → get nat_cmp m n ≡ Some seat
      → (outstanding_at (box_of next m window) n == window) ≡ false → seat.owed + length seat.outbox.items < window
  room_in next window n m is seat held apart =
      let other = eqb-false (outstanding_at (box_of next m window) n) window apart in
      let seen = outstanding_seen next window n m is seat held in
      let within = (is.each n seat held).within in
      elim (cases_lt (seat.owed + length seat.outbox.items) window) [ inl less ↦ less | inr more ↦ absurd (other (omega arith)) ]

  -- a map with the same entries
  pub IsBox-same : (next window : ℕ) (m t : BTreeMap ℕ (Seat A)) → t.entries ≡ m.entries → IsBox next m window → IsBox next t window
  IsBox-same next window m t same is =
      let at = λ (n : ℕ). let e : get nat_cmp t n ≡ get nat_cmp m n = ap (lookup (λ k. eq_by_cmp nat_cmp n k)) same in e in
      record {
        each = λ n s held. is.each n s (sym (at n) ∙ held);
        below = λ n s held. is.below n s (sym (at n) ∙ held);
        counted = ap length same ∙ is.counted ∙ ap (λ xs. length (filter is_here xs)) (sym (each_below-alike next (λ k. session_of (get nat_cmp m k)) (λ k. session_of (get nat_cmp t k)) (λ k l. ap session_of (at k))));
        few = rw same is.few;
        in_range = is.in_range;
      }

  pub box_of-same : (next window : ℕ) (m t : BTreeMap ℕ (Seat A)) → t.entries ≡ m.entries → box_of next t window ≡ box_of next m window
  box_of-same next window m t same =
      let at = λ (n : ℕ). let e : get nat_cmp t n ≡ get nat_cmp m n = ap (lookup (λ k. eq_by_cmp nat_cmp n k)) same in e in
      let sessions = each_below-alike next (λ k. session_of (get nat_cmp m k)) (λ k. session_of (get nat_cmp t k)) (λ k l. ap session_of (at k)) in
      let owed = each_below-alike next (λ k. owed_of (get nat_cmp m k)) (λ k. owed_of (get nat_cmp t k)) (λ k l. ap owed_of (at k)) in
      λ i. record { sessions = sessions i; owed = owed i; window = window }

  pub IsSeat-new : (b : Buffer ReplyMessage) (window : ℕ) → b ≡ buffer [] window → IsSeat {A = A} window (record { left = false; owed = 0; outbox = b })
  IsSeat-new b window is = record {
    within = let n : length b.items ≡ 0 = ap (λ (d : Buffer ReplyMessage). length d.items) is in omega arith;
    room = ap (λ (d : Buffer ReplyMessage). d.capacity) is;
  }

  -- ---- each call, as a box shows it

  pub attach_view : (m t : BTreeMap ℕ (Seat A)) (n window : ℕ) (w : Seat A) → Updates nat_cmp m t n (Some w) → w.left ≡ false → w.owed ≡ 0 → w.outbox.items ≡ []
      → box_of (n + 1) t window ≡ after_attach (box_of n m window)
  attach_view m t n window w changes l o x =
      let session : session_of (Some w) ≡ new_session = λ i. record { state = if l i then Left else Open; outbox = x i } in
      let sessions = added m t n (Some w) changes session_of ∙ ap (λ s. sessions_of n m ++ s ∷ []) session in
      let owed = added m t n (Some w) changes owed_of ∙ ap (λ k. (box_of n m window).owed ++ k ∷ []) o in
      λ i. record { sessions = sessions i; owed = owed i; window = window }

  module _ (m t : BTreeMap ℕ (Seat A)) (n next window : ℕ) (old w : Seat A) (held : get nat_cmp m n ≡ Some old) (changes : Updates nat_cmp m t n (Some w)) where
    pub admit_view : w ≡ record old { owed = old.owed + 1 } → box_of next t window ≡ after_admit (box_of next m window) n
    admit_view e =
        let sessions = kept m t n (Some w) changes session_of next (ap (λ s. session_of (Some s)) e ∙ ap session_of (sym held)) in
        let owed = changed m t n (Some w) changes owed_of (λ k. k + 1) next (ap (λ (s : Seat A). s.owed) e ∙ ap (λ o. owed_of o + 1) (sym held)) in
        λ i. record { sessions = sessions i; owed = owed i; window = window }

    pub leave_view : w ≡ record old { left = true } → box_of next t window ≡ after_leave (box_of next m window) n
    leave_view e =
        let sessions = changed m t n (Some w) changes session_of (λ session. record { state = Left; outbox = session.outbox }) next
        (ap (λ s. session_of (Some s)) e ∙ ap (λ o. record { state = Left; outbox = (session_of o).outbox }) (sym held)) in
        let owed = kept m t n (Some w) changes owed_of next (ap (λ (s : Seat A). s.owed) e ∙ ap owed_of (sym held)) in
        λ i. record { sessions = sessions i; owed = owed i; window = window }

    pub put_view : (r : ReplyMessage) → w.left ≡ old.left → w.owed ≡ old.owed - 1 → w.outbox.items ≡ old.outbox.items ++ r ∷ []
        → box_of next t window ≡ after_put (box_of next m window) n r
    put_view r l o items =
        let session : session_of (Some w) ≡ posted r (session_of (Some old)) =
        (λ i. record { state = if l i then Left else Open; outbox = items i })
        ∙ ap (λ b. if b then record { state = state_of old; outbox = old.outbox.items ++ r ∷ [] } else session_of (Some old)) (sym (here_seat old)) in
        let sessions = changed m t n (Some w) changes session_of (posted r) next (session ∙ ap (λ o. posted r (session_of o)) (sym held)) in
        let owed = changed m t n (Some w) changes owed_of (λ k. k - 1) next (o ∙ ap (λ o. owed_of o - 1) (sym held)) in
        λ i. record { sessions = sessions i; owed = owed i; window = window }

    -- what a session shows whose outbox has lost its first reply
    module _ (l : w.left ≡ old.left) (o : w.owed ≡ old.owed) (items : w.outbox.items ≡ drop 1 old.outbox.items) where
      pub take_view : box_of next t window ≡ after_take (box_of next m window) n
      take_view =
          let session : session_of (Some w) ≡ record { state = state_of old; outbox = drop 1 old.outbox.items } = λ i. record { state = if l i then Left else Open; outbox = items i } in
          let sessions = changed m t n (Some w) changes session_of (λ session. record { state = session.state; outbox = drop 1 session.outbox }) next
          (session ∙ ap (λ o. record { state = (session_of o).state; outbox = drop 1 (session_of o).outbox }) (sym held)) in
          let owed = kept m t n (Some w) changes owed_of next (o ∙ ap owed_of (sym held)) in
          λ i. record { sessions = sessions i; owed = owed i; window = window }

      pub still_view : old.outbox.items ≡ [] → box_of next t window ≡ box_of next m window
      still_view none =
          let session : session_of (Some w) ≡ session_of (Some old) = λ i. record { state = if l i then Left else Open; outbox = (items ∙ ap (drop 1) none ∙ sym none) i } in
          let sessions = kept m t n (Some w) changes session_of next (session ∙ ap session_of (sym held)) in
          let owed = kept m t n (Some w) changes owed_of next (o ∙ ap owed_of (sym held)) in
          λ i. record { sessions = sessions i; owed = owed i; window = window }

  -- a reply to a session that isn't kept is dropped
  pub drop_view : (m : BTreeMap ℕ (Seat A)) (n next window : ℕ) (r : ReplyMessage) → get nat_cmp m n ≡ None → box_of next m window ≡ after_put (box_of next m window) n r
  drop_view m n next window r vacant =
      let sessions = each_below-change (posted r) next n (λ k. session_of (get nat_cmp m k)) (λ k. session_of (get nat_cmp m k)) (ap session_of vacant ∙ ap (λ o. posted r (session_of o)) (sym vacant)) (λ k e. refl) in
      let owed = each_below-change (λ k. k - 1) next n (λ k. owed_of (get nat_cmp m k)) (λ k. owed_of (get nat_cmp m k)) (ap owed_of vacant ∙ ap (λ o. owed_of o - 1) (sym vacant)) (λ k e. refl) in
      λ i. record { sessions = sessions i; owed = owed i; window = window }

  pub gone_view : (m t : BTreeMap ℕ (Seat A)) (n next window : ℕ) → Updates nat_cmp m t n None → box_of next t window ≡ after_gone (box_of next m window) n
  gone_view m t n next window changes =
      let sessions = changed m t n None changes session_of (λ session. record { state = Gone; outbox = [] }) next refl in
      let owed = changed m t n None changes owed_of (λ k. 0) next refl in
      λ i. record { sessions = sessions i; owed = owed i; window = window }

  -- what `take` answers where no reply waits
  pub takes_quiet : (next window n : ℕ) (m : BTreeMap ℕ (Seat A)) (new : Box) (seat : Seat A) → IsBox next m window → get nat_cmp m n ≡ Some seat → seat.outbox.items ≡ []
      → new ≡ box_of next m window → Takes (box_of next m window) n new (Ok (quiet seat))
  takes_quiet next window n m new seat is held none same = by (seat.left && seat.owed == 0) refl
    where
      outstanding : outstanding_at (box_of next m window) n ≡ seat.owed
      outstanding = outstanding_seen next window n m is seat held ∙ ap (λ (xs : List ReplyMessage). seat.owed + length xs) none ∙ omega arith

      shown : (is_left_at (sessions_of next m) n && outstanding_at (box_of next m window) n == 0) ≡ (seat.left && seat.owed == 0)
      shown = ap (λ b. b && outstanding_at (box_of next m window) n == 0) (left_seen next window n m is seat held) ∙ ap (λ k. seat.left && k == 0) outstanding

      front : slice_get (outbox_at (sessions_of next m) n) 0 ≡ None
      front = ap (λ (xs : List ReplyMessage). slice_get xs 0) (outbox_seen next window n m is seat held ∙ none)

      by : (b : Bool) → (seat.left && seat.owed == 0) ≡ b → Takes {A = A} (box_of next m window) n new (Ok (if b then End else Empty))
      by true e = ((here_seen next window n m is seat held, front, shown ∙ e), same)
      by false e = ((here_seen next window n m is seat held, front, shown ∙ e), same)

  -- ---- what is true of every box

  pub IsBox-bounds : (next window : ℕ) (m : BTreeMap ℕ (Seat A)) → IsBox next m window → IsInBounds (box_of next m window)
  IsBox-bounds next window m is = record {
    owed_each = length-each_below (λ k. owed_of (get nat_cmp m k)) next ∙ sym (length-each_below (λ k. session_of (get nat_cmp m k)) next);
    within = λ s. within s (get nat_cmp m s) refl;
    gone_owed = λ s gone. owed s gone (get nat_cmp m s) refl;
    gone_empty = λ s gone. empty s gone (get nat_cmp m s) refl;
    few = let a = is.counted in let b = is.few in omega arith;
    in_range = let a = length-each_below (λ k. session_of (get nat_cmp m k)) next in let b = is.in_range in omega arith;
  }
    where
      within : (s : ℕ) (o : Option (Seat A)) → get nat_cmp m s ≡ o → outstanding_at (box_of next m window) s ≤ window
      within s None e =
          let nothing : outstanding_at (box_of next m window) s ≡ 0 + 0 = ap (λ k. k + length (outbox_at (sessions_of next m) s)) (owed_absent next window s m is e) ∙ ap (λ (xs : List ReplyMessage). 0 + length xs) (outbox_absent next window s m is e) in
          omega arith
      within s (Some seat) e = let a = outstanding_seen next window s m is seat e in let b = (is.each s seat e).within in omega arith

      owed : (s : ℕ) → is_here_at (sessions_of next m) s ≡ false → (o : Option (Seat A)) → get nat_cmp m s ≡ o → owed_at (box_of next m window).owed s ≡ 0
      owed s gone None e = owed_absent next window s m is e
      owed s gone (Some seat) e = let no : false ≡ true = sym gone ∙ here_seen next window s m is seat e in absurd (cc)

      empty : (s : ℕ) → is_here_at (sessions_of next m) s ≡ false → (o : Option (Seat A)) → get nat_cmp m s ≡ o → outbox_at (sessions_of next m) s ≡ []
      empty s gone None e = outbox_absent next window s m is e
      empty s gone (Some seat) e = let no : false ≡ true = sym gone ∙ here_seen next window s m is seat e in absurd (cc)
