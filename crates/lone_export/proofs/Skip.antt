-- A READ whose reply is taken at once, so that nobody looks at its data.
use Rattle.std.proofs.Common.{◌≡◌, ℕ, zero, suc, ◌+◌, Bool, true, false, ◌==◌, ◌&&◌, ◌||◌, if◌then◌else◌, List, [], ◌∷◌, length, drop, slice_get, Option, Some, None, option_map, Result, Ok, Err, refl, sym, ap, ◌∙◌, arith}
use Rattle.std.proofs.lemmas.Bool.{eqb-true}
use Rattle.std.specs.FinMap as fin
use Rattle.nbd_base.specs.Words.{when_some}
use Rattle.nbd_wire.specs.Grammar.{RequestMessage, ReplyMessage}
use Rattle.nbd_commands.specs.Terms.{Terms}
use Rattle.nbd_commands.specs.Verdict.{is_read, is_write, is_trim, is_write_zeroes}
use Rattle.nbd_commands.specs.Meaning.{image_after, data_of}
use Rattle.reply_box.specs.declared.seat.SessionState.{SessionState}
use Rattle.reply_box.specs.declared.seat.SessionState.TheVariants as place
use Rattle.reply_box.specs.Sessions.{Session, is_here, is_here_state, is_here_at, is_left_at, is_quiet_at, outbox_at, posted, post_at, take_at}
use Rattle.reply_box.specs.Box.{Box, after_put, after_take, Takes}
use Rattle.reply_box.specs.declared.fault.NotOpen.{NotOpen}
use Rattle.reply_box.specs.declared.seat.Taken.{Taken}
use Rattle.reply_box.specs.declared.seat.Taken.TheVariants as taking
use Rattle.export_queue.specs.Queue.{Queue, item_held, slot_in}
use Rattle.lone_export.specs.Alone.{Alone, Job, Moved, own_step, outstanding, moves, stays}
use Rattle.lone_export.specs.Lone.{Whole, Does, DoesAll, is_reading, head_at, is_read_next}
use Rattle.lone_export.specs.Parts.{Parts, state_at, terms_at, whole_of, IsLone, Settles}
use Rattle.lone_export.specs.declared.row.Row.{Row}
use Rattle.lone_export.specs.declared.step.Step.TheVariants as step
use Rattle.lone_export.specs.declared.step.StepAnswer.TheVariants as said
use Rattle.lone_export.proofs.Cases.{true_false}
use Rattle.lone_export.proofs.Again.{no_job}
use Rattle.lone_export.proofs.Done.{found_held, lone-perform, perform_does}
use Rattle.lone_export.proofs.Kept.{if_not, lone-take}

-- ---- tests

none_true : {A : Type 0} → false ≡ true → A
none_true e = absurd (cc)

first_so : (b c : Bool) → (b && c) ≡ true → b ≡ true
first_so true c h = refl
first_so false c h = none_true h

rest_so : (b c : Bool) → (b && c) ≡ true → c ≡ true
rest_so true c h = h
rest_so false c h = none_true h

not_empty : {X A : Type 0} (x : X) (xs : List X) → (length (x ∷ xs) == 0) ≡ true → A
not_empty x xs h = let e = eqb-true (length (x ∷ xs)) 0 h in absurd (omega arith)

-- ---- a session without replies: one is put, and taken again

abbrev is_quiet : Session → Bool
is_quiet session = is_here session && length session.outbox == 0

abbrev taken : Session → Session
taken session = record { state = session.state; outbox = drop 1 session.outbox }

module _ (reply : ReplyMessage) where
  one_still : (session : Session) → is_quiet session ≡ true → taken (posted reply session) ≡ session
  one_still session quiet = by session.state session.outbox quiet
    where
      by : (state : SessionState) (outbox : List ReplyMessage) → (is_here_state state && length outbox == 0) ≡ true → taken (posted reply (record { state = state; outbox = outbox })) ≡ record { state = state; outbox = outbox }
      by place.Open [] h = refl
      by place.Open (r ∷ rest) h = not_empty r rest h
      by place.Left [] h = refl
      by place.Left (r ∷ rest) h = not_empty r rest h
      by place.Gone outbox h = absurd (cc)

  one_here : (session : Session) → is_quiet session ≡ true → is_here (posted reply session) ≡ true
  one_here session quiet = by session.state quiet
    where
      by : (state : SessionState) → (is_here_state state && length session.outbox == 0) ≡ true → is_here (posted reply (record { state = state; outbox = session.outbox })) ≡ true
      by place.Open h = refl
      by place.Left h = refl
      by place.Gone h = absurd (cc)

  one_first : (session : Session) → is_quiet session ≡ true → slice_get (posted reply session).outbox 0 ≡ Some reply
  one_first session quiet = by session.state session.outbox quiet
    where
      by : (state : SessionState) (outbox : List ReplyMessage) → (is_here_state state && length outbox == 0) ≡ true → slice_get (posted reply (record { state = state; outbox = outbox })).outbox 0 ≡ Some reply
      by place.Open [] h = refl
      by place.Open (r ∷ rest) h = not_empty r rest h
      by place.Left [] h = refl
      by place.Left (r ∷ rest) h = not_empty r rest h
      by place.Gone outbox h = absurd (cc)

  pub post-take : (s : ℕ) (ss : List Session) → is_quiet_at ss s ≡ true → take_at s (post_at s reply ss) ≡ ss
  post-take s [] quiet = refl
  post-take zero (x ∷ ss) quiet = ap (λ (y : Session). y ∷ ss) (one_still x quiet)
  post-take (suc s) (x ∷ ss) quiet = ap (λ (ys : List Session). x ∷ ys) (post-take s ss quiet)

  pub post-here : (s : ℕ) (ss : List Session) → is_quiet_at ss s ≡ true → is_here_at (post_at s reply ss) s ≡ true
  post-here s [] quiet = absurd (cc)
  post-here zero (x ∷ ss) quiet = one_here x quiet
  post-here (suc s) (x ∷ ss) quiet = post-here s ss quiet

  pub post-first : (s : ℕ) (ss : List Session) → is_quiet_at ss s ≡ true → slice_get (outbox_at (post_at s reply ss) s) 0 ≡ Some reply
  post-first s [] quiet = absurd (cc)
  post-first zero (x ∷ ss) quiet = one_first x quiet
  post-first (suc s) (x ∷ ss) quiet = post-first s ss quiet

-- ---- a READ leaves the image

read_leaves : (image : List ℕ) (m : RequestMessage) → is_read m ≡ true → image ≡ image_after image m
read_leaves image m h =
    let kind : m.head.kind ≡ 0 = eqb-true m.head.kind 0 h in
    let no_write : is_write m ≡ false = ap (λ k. k == 1) kind in
    let no_zeroes : (is_trim m || is_write_zeroes m) ≡ false = ap (λ k. k == 4 || k == 6) kind in
    rw (no_write, no_zeroes) refl

module _ (A : Type 0) where
  -- ---- what is read of the request

  pub reading_of : (p : Parts A) (slot n : ℕ) (row : Row A) (w : Whole) → IsLone p → whole_of p ≡ w → Some row ≡ item_held p.queue slot n → is_read row.request ≡ is_reading w.state n
  reading_of p slot n row w is e h = sym (ap (λ (o : Option Job). when_some o (λ job. is_read job.request) false) (found_held p slot n row (sym h))) ∙ ap (λ (v : Whole). is_reading v.state n) e

  pub not_reading : (p : Parts A) (n : ℕ) (w : Whole) → IsLone p → whole_of p ≡ w → None ≡ slot_in (fin.get p.queue.out n) → false ≡ is_reading w.state n
  not_reading p n w is e none = sym (ap (λ (o : Option Job). when_some o (λ job. is_read job.request) false) (no_job p n none)) ∙ ap (λ (v : Whole). is_reading v.state n) e

  pub head_is : (p : Parts A) (slot n : ℕ) (row : Row A) (w : Whole) → IsLone p → whole_of p ≡ w → Some row ≡ item_held p.queue slot n → Some row.request.head ≡ head_at w.state n
  head_is p slot n row w is e h = sym (ap (λ (o : Option Job). option_map (λ job. job.request.head) o) (found_held p slot n row (sym h))) ∙ ap (λ (v : Whole). head_at v.state n) e

  pub no_head : (p : Parts A) (n : ℕ) (w : Whole) → IsLone p → whole_of p ≡ w → None ≡ slot_in (fin.get p.queue.out n) → None ≡ head_at w.state n
  no_head p n w is e none = sym (ap (λ (o : Option Job). option_map (λ job. job.request.head) o) (no_job p n none)) ∙ ap (λ (v : Whole). head_at v.state n) e

  -- whether a request's reply would be the next that session s takes
  abbrev is_next : Box → ℕ → ℕ → RequestMessage → Bool
  is_next sessions s own request = own == s && is_read request && is_quiet_at sessions.sessions s

  pub next_of : (p : Parts A) (slot n s : ℕ) (row : Row A) (w : Whole) → IsLone p → whole_of p ≡ w → Some row ≡ item_held p.queue slot n → is_next p.sessions s row.session row.request ≡ is_read_next w.state n s
  next_of p slot n s row w is e h =
      sym (ap (λ (o : Option Job). when_some o (λ job. is_next p.sessions s job.session job.request) false) (found_held p slot n row (sym h))) ∙ ap (λ (v : Whole). is_read_next v.state n s) e

  pub not_next : (p : Parts A) (n s : ℕ) (w : Whole) → IsLone p → whole_of p ≡ w → None ≡ slot_in (fin.get p.queue.out n) → false ≡ is_read_next w.state n s
  not_next p n s w is e none = sym (ap (λ (o : Option Job). when_some o (λ job. is_next p.sessions s job.session job.request) false) (no_job p n none)) ∙ ap (λ (v : Whole). is_read_next v.state n s) e

  -- ---- the reply that was just put is taken

  took_it : (b c : Box) (s : ℕ) (reply : ReplyMessage) (result : Result (Taken A) NotOpen) → is_here_at b.sessions s ≡ true → slice_get (outbox_at b.sessions s) 0 ≡ Some reply → Takes b s c result → c ≡ after_take b s
  took_it b c s reply (Ok (taking.Reply r)) here first took = took.2
  took_it b c s reply (Ok taking.Empty) here first took = let no : None ≡ Some reply = sym took.0.1 ∙ first in absurd (cc)
  took_it b c s reply (Ok taking.End) here first took = let no : None ≡ Some reply = sym took.0.1 ∙ first in absurd (cc)
  took_it b c s reply (Err refused) here first took = true_false (sym here ∙ took.0)

  taken_next : (terms : Terms) (state : Alone) (s : ℕ) (ss : List Session) (reply : ReplyMessage) → is_quiet_at ss s ≡ true → state.sessions ≡ post_at s reply ss
      → (own_step {A = A} terms state (step.Take s)).state ≡ record state { sessions = ss; count = state.count + 1 }
  taken_next terms state s ss reply quiet put =
      ap (λ (m : Moved A). m.state)
      (if_not (is_here_at state.sessions s) _ _ (ap (λ (xs : List Session). is_here_at xs s) put ∙ post-here reply s ss quiet)
      ∙ ap (λ (o : Option ReplyMessage). when_some o (λ r. moves {A = A} (record state { sessions = take_at s state.sessions }) (said.Reply r))
      (if is_left_at state.sessions s && outstanding state s == 0 then stays state said.End else stays state said.Empty)) (ap (λ (xs : List Session). slice_get (outbox_at xs s) 0) put ∙ post-first reply s ss quiet))
      ∙ ap (λ (xs : List Session). record state { sessions = xs; count = state.count + 1 }) (ap (λ (xs : List Session). take_at s xs) put ∙ post-take reply s ss quiet)

  module _ (p : Parts A) (slot n s : ℕ) (row : Row A) (q : Queue (Row A)) (b c : Box) (content : List ℕ) (result : Result (Taken A) NotOpen) (w : Whole)
      (is : IsLone p) (e : whole_of p ≡ w) (h : Some row ≡ item_held p.queue slot n) (next : is_next p.sessions s row.session row.request ≡ true)
      (settles : Settles p.queue p.sessions slot n true content q b) (takes : Takes b s c result) where
    abbrev again : Row A
    again = settles.row

    next_again : is_next p.sessions s again.session again.request ≡ true
    next_again = let both : Some row ≡ Some again = h ∙ settles.held in let same : row ≡ again = cc in ap (λ (r : Row A). is_next p.sessions s r.session r.request) (sym same) ∙ next

    own : again.session ≡ s
    own = eqb-true again.session s (first_so _ _ (first_so _ _ next_again))

    reads : is_read again.request ≡ true
    reads = rest_so (again.session == s) _ (first_so _ _ next_again)

    quiet : is_quiet_at p.sessions.sessions s ≡ true
    quiet = rest_so (again.session == s && is_read again.request) _ next_again

    -- the reply as it is put, and as it would be with the data
    abbrev bare : ReplyMessage
    bare = record { error = 0; cookie = again.request.head.cookie; content = content }

    abbrev unread : ReplyMessage
    unread = record { error = 0; cookie = again.request.head.cookie; content = data_of p.image again.request }

    put : b.sessions ≡ post_at s bare p.sessions.sessions
    put = ap (λ (x : Box). x.sessions) settles.replied ∙ ap (λ k. post_at k bare p.sessions.sessions) own

    front : slice_get (outbox_at b.sessions s) 0 ≡ Some bare
    front = ap (λ (xs : List Session). slice_get (outbox_at xs s) 0) put ∙ post-first bare s p.sessions.sessions quiet

    took : c ≡ after_take b s
    took = took_it b c s bare result (ap (λ (xs : List Session). is_here_at xs s) put ∙ post-here bare s p.sessions.sessions quiet) front takes

    pub skipped_lone : IsLone (record p { queue = q; sessions = c; count = p.count + 1 + 1 })
    skipped_lone =
        lone-take (record p { queue = q; sessions = b; count = p.count + 1 }) s c bare
        (lone-perform p slot n again p.image bare q b is settles.held refl settles.finished settles.replied) front took

    performs : Does {A = A} w (whole_of (record p { queue = q; sessions = after_put p.sessions again.session unread; count = p.count + 1 })) (step.Perform n true) (said.Performed true)
    performs = perform_does p slot n again p.image true unread q _ w is e settles.held settles.finished refl (read_leaves p.image again.request reads, refl) tt

    sessions_still : c.sessions ≡ p.sessions.sessions
    sessions_still = ap (λ (x : Box). x.sessions) took ∙ ap (λ (xs : List Session). take_at s xs) put ∙ post-take bare s p.sessions.sessions quiet

    window_still : c.window ≡ p.sessions.window
    window_still = ap (λ (x : Box). x.window) took ∙ ap (λ (x : Box). x.window) settles.replied

    pub skipped_does : DoesAll {A = A} w (whole_of (record p { queue = q; sessions = c; count = p.count + 1 + 1 })) (step.Perform n true ∷ step.Take s ∷ [])
    skipped_does = record {
      state =
          sym
          (ap (λ (m : Moved A). (own_step {A = A} w.terms m.state (step.Take s)).state) performs.did
          ∙ taken_next w.terms _ s p.sessions.sessions unread quiet (ap (λ k. post_at k unread p.sessions.sessions) own)
          ∙ ap (λ (xs : List Session). record (state_at (record p { queue = q; count = p.count + 1 + 1 })) { sessions = xs }) (sym sessions_still));
      terms = ap (λ k. record (terms_at (record p { queue = q })) { window = k }) window_still ∙ performs.terms;
      inflight = performs.inflight;
    }
