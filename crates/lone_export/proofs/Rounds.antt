-- The steps of a request that comes to an export without any other.
use Rattle.std.proofs.Common.{◌≡◌, ◌≢◌, ◌⊎◌, inl, inr, ℕ, ◌+◌, ◌<◌, ◌^◌, Bool, true, false, ◌==◌, ◌&&◌, List, [], ◌∷◌, ◌++◌, length, map, Option, Some, None, Ok, cond, refl, sym, ap, subst, ◌∙◌, arith, ℤ}
use Rattle.std.proofs.lemmas.Bool.{cases_eq, eq-eqb, eqb-true}
use Rattle.std.proofs.lemmas.Bool.Decides.{nat_tests}
use Rattle.std.proofs.lemmas.List.{length-map}
use Rattle.std.specs.Ordering.{nat_cmp, eq_by_cmp}
use Rattle.std.specs.Cmp.{nat_cmp_total}
use Rattle.std.specs.FinMap as fin
use Rattle.nbd_base.proofs.Numbers.{tied_same, tied_other}
use Rattle.nbd_wire.specs.declared.requests.RequestHead.{RequestHead}
use Rattle.nbd_wire.specs.Grammar.{RequestMessage, ReplyMessage, IsRequest}
use Rattle.nbd_commands.specs.Terms.{Terms}
use Rattle.nbd_commands.specs.Verdict.{is_read, verdict_of, verdict_at}
use Rattle.nbd_commands.specs.Meaning.{image_after, data_of}
use Rattle.nbd_commands.proofs.VerdictLemmas.{served_by_any}
use Rattle.tag_clock.specs.Clocks.{Limit, limit_after, limit_tag}
use Rattle.reply_box.specs.Sessions.{Session, is_open_at, is_quiet_at, post_at, take_at}
use Rattle.reply_box.specs.Box.{Box, after_admit, after_put, after_take, Takes}
use Rattle.reply_box.specs.declared.seat.Taken.{Taken}
use Rattle.reply_box.specs.declared.seat.Taken.TheVariants as taking
use Rattle.export_queue.specs.Queue.{Queue, item_held, item_if, first_number, after_push, after_pick, after_pick_from, after_finish, after_skip}
use Rattle.lone_export.specs.Alone.{Alone, Job, Moved, own_step, alone, outstanding}
use Rattle.lone_export.specs.Lone.{Whole, Does, DoesAll, IsIdleFor}
use Rattle.lone_export.specs.Parts.{Parts, job_of, out_job, terms_at, state_at, whole_of, IsLone, Settles}
use Rattle.lone_export.specs.declared.row.Row.{Row}
use Rattle.lone_export.specs.declared.step.Step.{Step}
use Rattle.lone_export.specs.declared.step.Step.TheVariants as step
use Rattle.lone_export.specs.declared.step.StepAnswer.{StepAnswer}
use Rattle.lone_export.specs.declared.step.StepAnswer.TheVariants as said
use Rattle.lone_export.proofs.Asked.{lone-accept, accept_does, not_worn, open_is_here, change-back}
use Rattle.lone_export.proofs.Kept.{lone-pick, out_len}
use Rattle.lone_export.proofs.Done.{lone-perform, perform_does, length-after}
use Rattle.lone_export.proofs.Skip.{post-take, post-here, post-first, skipped_lone, skipped_does}

none_of : {X : Type 0} (xs : List X) → length xs ≡ 0 → xs ≡ []
none_of [] none = refl
none_of (x ∷ xs) none = absurd (omega (arith, none))

-- a key that is put into a map without it, and taken out again
removed : {X : Type 0} (m : fin.FinMap nat_cmp X) (k : ℕ) (v : X) → fin.get m k ≡ None → fin.remove (fin.insert m k v) k ≡ m
removed m k v none =
    fin.same_map nat_cmp_total fin.nat_cmp-IsAntisymmetric _ _ (λ q.
    fin.get-remove nat_cmp_total (fin.insert m k v) k q ∙ ap (λ o. cond (eq_by_cmp nat_cmp q k) None o) (fin.get-insert nat_cmp_total m k v q) ∙ at q (cases_eq q k))
  where
    at : (q : ℕ) → ((q ≡ k) ⊎ (q ≢ k)) → cond (eq_by_cmp nat_cmp q k) None (cond (eq_by_cmp nat_cmp q k) (Some v) (fin.get m q)) ≡ fin.get m q
    at q (inl same) = rw (tied_same q k same) (sym none ∙ ap (fin.get m) (sym same))
    at q (inr other) = rw (tied_other q k other) refl

all_so : (a b c : Bool) → a ≡ true → b ≡ true → c ≡ true → (a && b && c) ≡ true
all_so a b c x y z = rw (x, y, z) refl

above : (m d : ℕ) → (m == d) ≡ false → m ≡ 0 → m < d
above m d apart none = grind (arith, nat_tests)

-- the reply that is made is the one that is told
pub done_told : (r : RequestMessage) (head : RequestHead) (content bytes : List ℕ) (reply : ReplyMessage) → reply ≡ record { error = 0; cookie = head.cookie; content = content } → head ≡ r.head → content ≡ bytes
    → reply ≡ record { error = 0; cookie = r.head.cookie; content = bytes }
done_told r head content bytes reply is same read = is ∙ (λ i. record { error = 0; cookie = (same i).cookie; content = read i })

module _ {A : Type 0} where
  -- one step more before the others
  then_all : (w v u : Whole) (one : Step A) (answer : StepAnswer A) (steps : List (Step A)) → Does w v one answer → DoesAll v u steps → DoesAll w u (one ∷ steps)
  then_all w v u one answer steps first rest = record {
    state = rest.state ∙ ap (λ (terms : Terms). alone terms v.state steps) first.terms ∙ ap (λ (m : Moved A). alone w.terms m.state steps) (sym first.did);
    terms = rest.terms ∙ first.terms;
    inflight = rest.inflight ∙ first.inflight;
  }

  only : (w v : Whole) (one : Step A) (answer : StepAnswer A) → Does w v one answer → DoesAll w v (one ∷ [])
  only w v one answer does = record { state = ap (λ (m : Moved A). m.state) (sym does.did); terms = does.terms; inflight = does.inflight }

  module _ (p : Parts A) (s t : ℕ) (r : RequestMessage) (w : Whole) (is : IsLone p) (e : whole_of p ≡ w) (idle : IsIdleFor w.terms w.state s r) (early : t < 2 ^ 62) where
    abbrev row : Row A
    row = record { session = s; request = r }

    abbrev n : ℕ
    n = p.queue.next

    number : n ≡ w.state.next
    number = ap (λ (v : Whole). v.state.next) e

    here : IsIdleFor (terms_at p) (state_at p) s r
    here = subst (λ (v : Whole). IsIdleFor v.terms v.state s r) (sym e) idle

    pub none_wait : p.queue.waiting ≡ []
    none_wait = none_of p.queue.waiting (sym (length-map p.queue.waiting job_of) ∙ here.none_wait)

    none_out : fin.get p.queue.out n ≡ None
    none_out = ap (λ m. fin.get m n) (fin.empty_of_len p.queue.out (out_len p (whole_of p) is refl ∙ here.none_out)) ∙ fin.get-empty nat_cmp n

    pub served : verdict_of (terms_at p) r ≡ 0
    served = eqb-true (verdict_of (terms_at p) r) 0 here.admits.fine

    room : length p.queue.waiting < p.queue.depth
    room = above (length p.queue.waiting) p.queue.depth (ap (λ k. k == p.queue.depth) (sym (length-map p.queue.waiting job_of)) ∙ here.admits.shallow) (ap length none_wait)

    -- it arrives
    abbrev arrived : Parts A
    arrived = record p { queue = after_push p.queue row; clock = limit_after p.clock t; sessions = after_admit p.sessions s; count = p.count + 1; asked = p.asked + 1 }

    arrived_lone : IsLone arrived
    arrived_lone = lone-accept p s t r (after_push p.queue row) (limit_after p.clock t) (after_admit p.sessions s) is here.admits.young here.admits.is_open served early refl refl refl

    arrives : Does {A = A} w (whole_of arrived) (step.Arrive s t r) (said.Accepted n (limit_tag p.clock t))
    arrives = accept_does p s t n (limit_tag p.clock t) r (after_push p.queue row) (limit_after p.clock t) (after_admit p.sessions s) w is e (idle.admits.is_open, idle.admits.young, idle.admits.spare) served room refl refl refl refl refl

    -- it is picked
    abbrev queue_picked : Queue (Row A)
    queue_picked = record p.queue { waiting = []; out = fin.insert p.queue.out n (0, row); next = n + 1 }

    abbrev picked : Parts A
    picked = record arrived { queue = queue_picked; count = p.count + 1 + 1 }

    picks_it : queue_picked ≡ after_pick (after_push p.queue row) 0
    picks_it = ap (λ (ws : List (ℕ × Row A)). after_pick_from (after_push p.queue row) (ws ++ (n, row) ∷ []) 0) (sym none_wait)

    front : Some n ≡ first_number (p.queue.waiting ++ (n, row) ∷ [])
    front = ap (λ (ws : List (ℕ × Row A)). first_number (ws ++ (n, row) ∷ [])) (sym none_wait)

    picked_lone : IsLone picked
    picked_lone = (lone-pick arrived 0 n queue_picked arrived_lone front picks_it).0

    picks : Does {A = A} (whole_of arrived) (whole_of picked) step.Pick (said.Picked n)
    picks = (lone-pick arrived 0 n queue_picked arrived_lone front picks_it).1.0

    -- it is in service, and no longer
    held : item_held queue_picked 0 n ≡ Some row
    held = ap (λ (o : Option (ℕ × Row A)). item_if o 0) (fin.get-insert nat_cmp_total p.queue.out n (0, row) n ∙ ap (λ b. cond b (Some (0, row)) (fin.get p.queue.out n)) (tied_same n n refl))

    finished : after_skip p.queue ≡ after_finish queue_picked n
    finished = λ i. record { waiting = none_wait i; out = sym (removed p.queue.out n (0, row) none_out) i; next = n + 1; depth = p.queue.depth; inflight = p.queue.inflight }

    fits : verdict_at (length p.image) false r ≡ 0
    fits = subst (λ size. verdict_at size false r ≡ 0) (sym is.sized) (served_by_any p.info.size p.info.read_only r served)

    -- ---- it is performed, and its reply is there

    module _ (image : List ℕ) (request : IsRequest r) (wrote : image ≡ image_after p.image r) where
      abbrev reply : ReplyMessage
      reply = record { error = 0; cookie = r.head.cookie; content = data_of p.image r }

      abbrev first_steps : ℕ → List (Step A)
      first_steps number = step.Arrive s t r ∷ step.Pick ∷ step.Perform number true ∷ []

      abbrev Serves : Queue (Row A) → Limit → Box → ℕ → ℕ → Type 0
      Serves q clock b count number =
          IsLone (record p { image = image; queue = q; clock = clock; sessions = b; count = count; asked = p.asked + 1 })
          × DoesAll {A = A} w (whole_of (record p { image = image; queue = q; clock = clock; sessions = b; count = count; asked = p.asked + 1 })) (first_steps number)

      serves : Serves (after_skip p.queue) (limit_after p.clock t) (after_put (after_admit p.sessions s) s reply) (p.count + 1 + 1 + 1) n
      serves = (
        lone-perform picked 0 n row image reply (after_skip p.queue) (after_put (after_admit p.sessions s) s reply) picked_lone held (ap length wrote ∙ length-after p.image r fits request) finished refl,
        then_all w (whole_of arrived) _ (step.Arrive s t r) _ _ arrives
            (then_all (whole_of arrived) (whole_of picked) _ step.Pick _ _ picks
            (only (whole_of picked) _ (step.Perform n true) _
            (perform_does picked 0 n row image true reply (after_skip p.queue) (after_put (after_admit p.sessions s) s reply) (whole_of picked) picked_lone refl held finished refl (wrote, refl) tt))),
      )

      pub serves_all : (q : Queue (Row A)) (clock : Limit) (a b : Box) (told : ReplyMessage) → q ≡ after_skip p.queue → clock ≡ limit_after p.clock t → a ≡ after_admit p.sessions s → told ≡ reply → b ≡ after_put a s told
          → Serves q clock b (p.count + 3) w.state.next
      serves_all q clock a b told skips ticks admits tells puts =
          let boxed : b ≡ after_put (after_admit p.sessions s) s reply = puts ∙ ap (λ (x : Box). after_put x s told) admits ∙ ap (λ (m : ReplyMessage). after_put (after_admit p.sessions s) s m) tells in
          let counted : p.count + 1 + 1 + 1 ≡ p.count + 3 = omega arith in
          subst (λ (x : Queue (Row A)). Serves x clock b (p.count + 3) w.state.next) (sym skips)
          (subst (λ (x : Limit). Serves (after_skip p.queue) x b (p.count + 3) w.state.next) (sym ticks)
          (subst (λ (x : Box). Serves (after_skip p.queue) (limit_after p.clock t) x (p.count + 3) w.state.next) (sym boxed)
          (subst (λ count. Serves (after_skip p.queue) (limit_after p.clock t) (after_put (after_admit p.sessions s) s reply) count w.state.next) counted
          (subst (Serves (after_skip p.queue) (limit_after p.clock t) (after_put (after_admit p.sessions s) s reply) (p.count + 1 + 1 + 1)) number serves))))

    -- ---- a READ is performed, and its reply is taken

    module _ (request : IsRequest r) (reads : is_read r ≡ true) where
      abbrev bare : ReplyMessage
      bare = record { error = 0; cookie = r.head.cookie; content = [] }

      abbrev told : Box
      told = after_put (after_admit p.sessions s) s bare

      abbrev all_steps : ℕ → List (Step A)
      all_steps number = step.Arrive s t r ∷ step.Pick ∷ step.Perform number true ∷ step.Take s ∷ []

      abbrev Passes : Queue (Row A) → Limit → Box → ℕ → ℕ → Type 0
      Passes q clock b count number =
          IsLone (record p { queue = q; clock = clock; sessions = b; count = count; asked = p.asked + 1 })
          × DoesAll {A = A} w (whole_of (record p { queue = q; clock = clock; sessions = b; count = count; asked = p.asked + 1 })) (all_steps number)

      next_is : (s == s && is_read r && is_quiet_at p.sessions.sessions s) ≡ true
      next_is = all_so (s == s) (is_read r) (is_quiet_at p.sessions.sessions s) (eq-eqb s s refl) reads here.quiet

      settles : Settles {A = A} queue_picked (after_admit p.sessions s) 0 n true [] (after_skip p.queue) told
      settles = record { row = row; held = held; request = request; finished = finished; replied = refl }

      takes : Takes {A = A} told s (after_take told s) (Ok (taking.Reply bare))
      takes = (post-here bare s p.sessions.sessions here.quiet, post-first bare s p.sessions.sessions here.quiet, refl)

      still : after_take told s ≡ p.sessions
      still = λ i. record { sessions = post-take bare s p.sessions.sessions here.quiet i; owed = change-back s p.sessions.owed i; window = p.sessions.window }

      passes : Passes (after_skip p.queue) (limit_after p.clock t) (after_take told s) (p.count + 1 + 1 + 1 + 1) n
      passes = (
        skipped_lone A picked 0 n s row (after_skip p.queue) told (after_take told s) [] (Ok (taking.Reply bare)) (whole_of picked) picked_lone refl (sym held) next_is settles takes,
        then_all w (whole_of arrived) _ (step.Arrive s t r) _ _ arrives
            (then_all (whole_of arrived) (whole_of picked) _ step.Pick _ _ picks
            (skipped_does A picked 0 n s row (after_skip p.queue) told (after_take told s) [] (Ok (taking.Reply bare)) (whole_of picked) picked_lone refl (sym held) next_is settles takes)),
      )

      pub passes_all : (q : Queue (Row A)) (clock : Limit) → q ≡ after_skip p.queue → clock ≡ limit_after p.clock t → Passes q clock p.sessions (p.count + 4) w.state.next
      passes_all q clock skips ticks =
          let counted : p.count + 1 + 1 + 1 + 1 ≡ p.count + 4 = omega arith in
          subst (λ (x : Queue (Row A)). Passes x clock p.sessions (p.count + 4) w.state.next) (sym skips)
          (subst (λ (x : Limit). Passes (after_skip p.queue) x p.sessions (p.count + 4) w.state.next) (sym ticks)
          (subst (λ (x : Box). Passes (after_skip p.queue) (limit_after p.clock t) x (p.count + 4) w.state.next) still
          (subst (λ count. Passes (after_skip p.queue) (limit_after p.clock t) (after_take told s) count w.state.next) counted
          (subst (Passes (after_skip p.queue) (limit_after p.clock t) (after_take told s) (p.count + 1 + 1 + 1 + 1)) number passes))))
