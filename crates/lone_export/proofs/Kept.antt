-- What is true of an export's parts is kept by each step.
use Rattle.std.proofs.Common.{◌≡◌, ◌≢◌, ℕ, zero, suc, ◌+◌, ◌*◌, ◌<◌, ◌≤◌, ◌^◌, Bool, true, false, not, ◌==◌, ◌&&◌, IsTrue, ◌↔◌, List, [], ◌∷◌, ◌++◌, length, map, filter, drop, slice_get, Option, Some, None, if◌then◌else◌, refl, sym, ap, subst, ◌∙◌, inl, inr, arith, length-append, append_assoc}
use Rattle.std.proofs.lemmas.Bool.{cases_eq}
use Rattle.std.specs.FinMap as fin
use Rattle.std.proofs.lemmas.List.{length-map, map-append}
use Rattle.nbd_base.specs.Words.{when_some, change_at}
use Rattle.nbd_base.proofs.Words.{length-change_at}
use Rattle.nbd_wire.specs.Grammar.{ReplyMessage}
use Rattle.nbd_commands.specs.Terms.{Terms}
use Rattle.reply_box.specs.declared.seat.SessionState.{SessionState}
use Rattle.reply_box.specs.declared.seat.SessionState.TheVariants as place
use Rattle.reply_box.specs.Sessions.{Session, is_here, is_here_state, is_open_state, is_open_at, is_here_at, is_left_at, outbox_at, take_at, sessions_worth}
use Rattle.reply_box.specs.Box.{Box, after_leave, after_gone, after_take, owed_at, outstanding_at, IsQuiet}
use Rattle.export_queue.specs.Queue.{Queue, after_pick, after_pick_from, first_number}
use Rattle.lone_export.specs.Alone.{Alone, Job, outstanding, moves, stays}
use Rattle.lone_export.specs.Calls.{to_come}
use Rattle.lone_export.specs.Lone.{Whole, Does}
use Rattle.lone_export.specs.Parts.{Parts, jobs, jobs_of, AreAbove, AreJobs, AreOwed, IsTag, IsBounded, job_of, out_job, slot_of, terms_at, state_at, whole_of, IsLone}
use Rattle.lone_export.specs.declared.row.Row.{Row}
use Rattle.lone_export.specs.declared.step.Step.TheVariants as step
use Rattle.lone_export.specs.declared.step.StepAnswer.TheVariants as said
use Rattle.lone_export.proofs.Entries.{AreBelow, entries-last}
use Rattle.lone_export.proofs.Steps.{worth-leave, worth-drop, worth-take}

-- ---- what sessions are owed

pub owed-alike : (rows new : ℕ → ℕ) (ss : List Session) (owed : List ℕ) → AreOwed rows ss owed → ((n : ℕ) → new n ≡ rows n) → AreOwed new ss owed
owed-alike rows new [] [] is alike = λ n. alike n ∙ is n
owed-alike rows new [] (o ∷ os) is alike = absurd is
owed-alike rows new (x ∷ ss) [] is alike = absurd is
owed-alike rows new (x ∷ ss) (o ∷ os) is alike = (λ here. is.0 here ∙ sym (alike 0), owed-alike (λ n. rows (suc n)) (λ n. new (suc n)) ss os is.1 (λ n. alike (suc n)))

-- one session is changed
pub owed-change : (f : Session → Session) (h : ℕ → ℕ) (s : ℕ) (rows new : ℕ → ℕ) (ss : List Session) (owed : List ℕ) → AreOwed rows ss owed
    → ((x : Session) (n : ℕ) → slice_get ss s ≡ Some x → (is_here x ≡ true → n ≡ rows s) → is_here (f x) ≡ true → h n ≡ new s)
    → (slice_get ss s ≡ None → rows s ≡ 0 → new s ≡ 0)
    → ((n : ℕ) → n ≢ s → new n ≡ rows n)
    → AreOwed new (change_at f s ss) (change_at h s owed)
owed-change f h s rows new [] [] is here none others = λ n. elim (cases_eq n s) [ inl e ↦ ap new e ∙ none refl (is s) | inr o ↦ others n o ∙ is n ]
owed-change f h s rows new [] (o ∷ os) is here none others = absurd is
owed-change f h s rows new (x ∷ ss) [] is here none others = absurd is
owed-change f h zero rows new (x ∷ ss) (o ∷ os) is here none others =
    (λ k. here x o refl is.0 k, owed-alike (λ n. rows (suc n)) (λ n. new (suc n)) ss os is.1 (λ n. others (suc n) (λ e. absurd (omega arith))))
owed-change f h (suc s) rows new (x ∷ ss) (o ∷ os) is here none others =
    (λ k. is.0 k ∙ sym (others 0 (λ e. absurd (omega arith))), owed-change f h s (λ n. rows (suc n)) (λ n. new (suc n)) ss os is.1 here none (λ n d. others (suc n) (λ e. d (omega arith))))

change-same : (s : ℕ) (owed : List ℕ) → change_at (λ n. n) s owed ≡ owed
change-same s [] = refl
change-same zero (o ∷ os) = refl
change-same (suc s) (o ∷ os) = ap (λ xs. o ∷ xs) (change-same s os)

-- one session is changed, and what it is owed stays
pub owed-session : (f : Session → Session) (s : ℕ) (rows : ℕ → ℕ) (ss : List Session) (owed : List ℕ) → AreOwed rows ss owed
    → ((x : Session) → slice_get ss s ≡ Some x → is_here (f x) ≡ true → is_here x ≡ true)
    → AreOwed rows (change_at f s ss) owed
owed-session f s rows ss owed is here =
    subst (λ os. AreOwed rows (change_at f s ss) os) (change-same s owed)
    (owed-change f (λ n. n) s rows rows ss owed is (λ x n e o k. o (here x e k)) (λ e z. z) (λ n d. refl))

pub open_here : (ss : List Session) (s : ℕ) (x : Session) → slice_get ss s ≡ Some x → is_open_at ss s ≡ true → is_here x ≡ true
open_here ss s x e is = by x.state (sym (ap (λ o. when_some o (λ (y : Session). is_open_state y.state) false) e) ∙ is)
  where
    by : (st : SessionState) → is_open_state st ≡ true → is_here_state st ≡ true
    by place.Open h = refl
    by place.Left h = absurd (cc)
    by place.Gone h = absurd (cc)

-- ---- numbers in range

pub bounded-step : (old new : Alone) (asked : ℕ) → IsBounded old asked → new.count ≡ old.count + 1 → to_come new + 1 ≤ to_come old
    → new.next ≡ old.next → new.last ≡ old.last → new.rates.l_interval < 2 ^ 30 → length new.sessions ≡ length old.sessions → IsBounded new asked
bounded-step old new asked is more less next last short seats = record {
  budget = let a = is.budget in omega arith;
  asked_counted = let a = is.asked_counted in omega arith;
  asked_few = is.asked_few;
  numbered = let a = is.numbered in omega arith;
  seated = let a = is.seated in omega arith;
  interval = short;
  tag = subst (λ n. IsTag n new.last) (sym next) (subst (IsTag old.next) (sym last) is.tag);
}

pub if_not : {B : Type 0} (c : Bool) (x y : B) → c ≡ true → (if not c then x else y) ≡ y
if_not true x y e = refl
if_not false x y e = absurd (cc)

pub jobs_of-append : (xs ys : List Job) (s : ℕ) → jobs_of (xs ++ ys) s ≡ jobs_of xs s + jobs_of ys s
jobs_of-append [] ys s = omega arith
jobs_of-append (x ∷ xs) ys s = by (x.session == s) (jobs_of-append xs ys s)
  where
    by : (b : Bool) → jobs_of (xs ++ ys) s ≡ jobs_of xs s + jobs_of ys s
        → length (if b then x ∷ filter (λ (job : Job). job.session == s) (xs ++ ys) else filter (λ (job : Job). job.session == s) (xs ++ ys))
        ≡ length (if b then x ∷ filter (λ (job : Job). job.session == s) xs else filter (λ (job : Job). job.session == s) xs) + jobs_of ys s
    by true ih = omega arith
    by false ih = ih

pub owed_read : (rows : ℕ → ℕ) (ss : List Session) (owed : List ℕ) (s : ℕ) → AreOwed rows ss owed → is_here_at ss s ≡ true → owed_at owed s ≡ rows s
owed_read rows [] owed s is here = absurd (cc)
owed_read rows (x ∷ ss) [] s is here = absurd is
owed_read rows (x ∷ ss) (o ∷ os) zero is here = is.0 here
owed_read rows (x ∷ ss) (o ∷ os) (suc s) is here = owed_read (λ n. rows (suc n)) ss os s is.1 here

-- those before a request have lesser numbers
among : (n : ℕ) (es : List Job) (job : Job) (rest : List Job) → AreAbove n (es ++ job ∷ rest) → n < job.number
among n [] job rest h = h.0
among n (e ∷ es) job rest h = among n es job rest h.1

module _ {A : Type 0} where
  -- the sessions alone are changed
  lone-sessions : (p : Parts A) (ss : List Session) (owed : List ℕ) → IsLone p → AreOwed (jobs_of (jobs (state_at p))) ss owed
      → sessions_worth ss + 1 ≤ sessions_worth p.sessions.sessions → length ss ≡ length p.sessions.sessions
      → IsLone (record p { sessions = record { sessions = ss; owed = owed; window = p.sessions.window }; count = p.count + 1 })
  lone-sessions p ss owed is owes less long = record {
    sized = is.sized;
    numbered = is.numbered;
    owed = owes;
    ticks = is.ticks;
    bounded = bounded-step (state_at p) _ p.asked is.bounded refl (omega arith) refl refl is.bounded.interval long;
    depth = is.depth;
    window = is.window;
    inflight = is.inflight;
  }

  pub lone-leave : (p : Parts A) (s : ℕ) (b : Box) → IsLone p → is_open_at p.sessions.sessions s ≡ true → b ≡ after_leave p.sessions s → IsLone (record p { sessions = b; count = p.count + 1 })
  lone-leave p s b is opened e =
      subst (λ (c : Box). IsLone (record p { sessions = c; count = p.count + 1 })) (sym e)
      (lone-sessions p _ _ is (owed-session _ s _ p.sessions.sessions _ is.owed (λ x f k. open_here p.sessions.sessions s x f opened)) (worth-leave s p.sessions.sessions opened) (length-change_at _ s p.sessions.sessions))

  pub lone-take : (p : Parts A) (s : ℕ) (b : Box) (reply : ReplyMessage) → IsLone p → slice_get (outbox_at p.sessions.sessions s) 0 ≡ Some reply → b ≡ after_take p.sessions s → IsLone (record p { sessions = b; count = p.count + 1 })
  lone-take p s b reply is first e =
      subst (λ (c : Box). IsLone (record p { sessions = c; count = p.count + 1 })) (sym e)
      (lone-sessions p _ _ is (owed-session _ s _ p.sessions.sessions _ is.owed (λ x f k. k)) (worth-take s p.sessions.sessions reply first) (length-change_at _ s p.sessions.sessions))

  pub lone-gone : (p : Parts A) (s : ℕ) (b : Box) → IsLone p → is_here_at p.sessions.sessions s ≡ true → b ≡ after_gone p.sessions s → IsLone (record p { sessions = b; count = p.count + 1 })
  lone-gone p s b is here e =
      subst (λ (c : Box). IsLone (record p { sessions = c; count = p.count + 1 })) (sym e)
      (lone-sessions p _ _ is (owed-change _ _ s _ _ p.sessions.sessions _ is.owed (λ x n f o k. absurd (cc)) (λ f z. z) (λ n d. refl)) (worth-drop s p.sessions.sessions here) (length-change_at _ s p.sessions.sessions))

  -- ---- the first request that waits is out

  front_below : (terms : Terms) (next : ℕ) (es : List (ℕ × (ℕ × Row A))) (job : Job) (rest : List Job) → AreJobs terms next (map out_job es ++ job ∷ rest) → AreBelow job.number es
  front_below terms next [] job rest h = tt
  front_below terms next (e ∷ es) job rest h = (among e.0 (map out_job es) job rest h.1.1.0, front_below terms next es job rest h.1.1.1)

  pub lone-pick : (p : Parts A) (slot n : ℕ) (q : Queue (Row A)) → IsLone p → Some n ≡ first_number p.queue.waiting → q ≡ after_pick p.queue slot
      → IsLone (record p { queue = q; count = p.count + 1 })
      × (Does {A = A} (whole_of p) (whole_of (record p { queue = q; count = p.count + 1 })) step.Pick (said.Picked n)
      × (map slot_of (fin.entries q.out) ≡ map slot_of (fin.entries p.queue.out) ++ slot ∷ []))
  lone-pick p slot n q is first e = subst P (sym e) (by p.queue.waiting refl first)
    where
      P : Queue (Row A) → Type 0
      P q = IsLone (record p { queue = q; count = p.count + 1 })
          × (Does {A = A} (whole_of p) (whole_of (record p { queue = q; count = p.count + 1 })) step.Pick (said.Picked n)
          × (map slot_of (fin.entries q.out) ≡ map slot_of (fin.entries p.queue.out) ++ slot ∷ []))

      by : (ws : List (ℕ × Row A)) → p.queue.waiting ≡ ws → Some n ≡ first_number ws → P (after_pick_from p.queue ws slot)
      by [] e f = absurd (cc)
      by (w ∷ ws) e f =
          let old = map out_job (fin.entries p.queue.out) in
          let below : AreBelow w.0 (fin.entries p.queue.out) =
          front_below (terms_at p) p.queue.next (fin.entries p.queue.out) (job_of w) (map job_of ws) (subst (λ (xs : List (ℕ × Row A)). AreJobs (terms_at p) p.queue.next (map out_job (fin.entries p.queue.out) ++ map job_of xs)) e is.numbered) in
          let last = entries-last p.queue.out w.0 (slot, w.1) below in
          let outs : map out_job (fin.entries (fin.insert p.queue.out w.0 (slot, w.1))) ≡ map out_job (fin.entries p.queue.out) ++ job_of w ∷ [] =
          ap (map out_job) last ∙ map-append out_job (fin.entries p.queue.out) ((w.0, (slot, w.1)) ∷ []) in
          let same : map out_job (fin.entries (fin.insert p.queue.out w.0 (slot, w.1))) ++ map job_of ws ≡ map out_job (fin.entries p.queue.out) ++ map job_of p.queue.waiting =
          ap (λ (xs : List Job). xs ++ map job_of ws) outs ∙ append_assoc (map out_job (fin.entries p.queue.out)) (job_of w ∷ []) (map job_of ws) ∙ ap (λ (xs : List (ℕ × Row A)). map out_job (fin.entries p.queue.out) ++ map job_of xs) (sym e) in
          let number : n ≡ w.0 = cc in
          let long_out : length (map out_job (fin.entries (fin.insert p.queue.out w.0 (slot, w.1)))) ≡ length (map out_job (fin.entries p.queue.out)) + 1 = ap length outs ∙ length-append (map out_job (fin.entries p.queue.out)) (job_of w ∷ []) in
          let long_wait : length (map job_of p.queue.waiting) ≡ suc (length (map job_of ws)) = ap (λ (xs : List (ℕ × Row A)). length (map job_of xs)) e in (
            record {
              sized = is.sized;
              numbered = subst (AreJobs (terms_at p) p.queue.next) (sym same) is.numbered;
              owed = subst (λ (js : List Job). AreOwed (jobs_of js) p.sessions.sessions p.sessions.owed) (sym same) is.owed;
              ticks = is.ticks;
              bounded = bounded-step (state_at p) _ p.asked is.bounded refl (omega arith) refl refl is.bounded.interval refl;
              depth = is.depth;
              window = is.window;
              inflight = is.inflight;
            },
            (
              record {
                did = ap (λ (xs : List (ℕ × Row A)). when_some (slice_get (map job_of xs) 0)
                    (λ job. moves {A = A} (record (state_at p) { waiting = drop 1 (map job_of xs); out = map out_job (fin.entries p.queue.out) ++ job ∷ [] }) (said.Picked job.number)) (stays (state_at p) said.Nothing)) e
                    ∙ (λ i. record { state = record (state_at p) { waiting = map job_of ws; out = sym outs i; count = p.count + 1 }; answer = said.Picked (sym number i) });
                terms = refl;
                inflight = refl;
              },
              ap (map slot_of) last ∙ map-append slot_of (fin.entries p.queue.out) ((w.0, (slot, w.1)) ∷ []),
            ),
          )

  -- the export's room for requests that are out, from its Value
  pub room_out : (p : Parts A) (w : Whole) → IsLone p → whole_of p ≡ w → length w.state.out < w.inflight → fin.len p.queue.out < p.queue.inflight
  room_out p w is e h =
      let a : length (state_at p).out < p.queue.inflight = subst (λ (v : Whole). length v.state.out < v.inflight) (sym e) h in
      let b = fin.len-entries p.queue.out in
      let c = length-map (fin.entries p.queue.out) out_job in
      omega arith

  pub pick_does : (p : Parts A) (slot n : ℕ) (q : Queue (Row A)) (w : Whole) → IsLone p → whole_of p ≡ w → Some n ≡ first_number p.queue.waiting → q ≡ after_pick p.queue slot
      → Does {A = A} w (whole_of (record p { queue = q; count = p.count + 1 })) step.Pick (said.Picked n)
  pick_does p slot n q w is e first picked = subst (λ (v : Whole). Does {A = A} v (whole_of (record p { queue = q; count = p.count + 1 })) step.Pick (said.Picked n)) e (lone-pick p slot n q is first picked).1.0

  pub pick_slots : (p : Parts A) (slot n : ℕ) (q : Queue (Row A)) (w : Whole) → IsLone p → whole_of p ≡ w → Some n ≡ first_number p.queue.waiting → q ≡ after_pick p.queue slot
      → map slot_of (fin.entries q.out) ≡ w.slots ++ slot ∷ []
  pick_slots p slot n q w is e first picked = (lone-pick p slot n q is first picked).1.1 ∙ ap (λ (v : Whole). v.slots ++ slot ∷ []) e

  -- what is outstanding is what the sessions are owed and what their outboxes hold
  pub outstanding_is : (p : Parts A) (s : ℕ) → IsLone p → is_here_at p.sessions.sessions s ≡ true → outstanding (state_at p) s ≡ outstanding_at p.sessions s
  outstanding_is p s is here =
      let a = owed_read (jobs_of (jobs (state_at p))) p.sessions.sessions p.sessions.owed s is.owed here in
      let b = jobs_of-append (state_at p).out (state_at p).waiting s in
      omega arith

  -- no reply waits for the session
  pub quiet_is : (p : Parts A) (s : ℕ) (ended : Bool) (b : Box) (w : Whole) → IsLone p → whole_of p ≡ w → IsQuiet p.sessions s ended → b ≡ p.sessions
      → Does {A = A} w (whole_of (record p { sessions = b })) (step.Take s) (if ended then said.End else said.Empty)
  quiet_is p s ended b w is e quiet same =
      subst (λ (v : Whole). Does {A = A} v (whole_of (record p { sessions = b })) (step.Take s) (if ended then said.End else said.Empty)) e
      (subst (λ (c : Box). Does {A = A} (whole_of p) (whole_of (record p { sessions = c })) (step.Take s) (if ended then said.End else said.Empty)) (sym same)
      (record {
        did =
            if_not (is_here_at p.sessions.sessions s) _ _ quiet.0
            ∙ ap (λ (o : Option ReplyMessage). when_some o (λ reply. moves {A = A} (record (state_at p) { sessions = take_at s p.sessions.sessions }) (said.Reply reply))
            (if is_left_at p.sessions.sessions s && outstanding (state_at p) s == 0 then stays (state_at p) said.End else stays (state_at p) said.Empty)) quiet.1
            ∙ ap (λ n. if is_left_at p.sessions.sessions s && n == 0 then stays {A = A} (state_at p) said.End else stays (state_at p) said.Empty) (outstanding_is p s is quiet.0)
            ∙ ap (λ (c : Bool). if c then stays {A = A} (state_at p) said.End else stays (state_at p) said.Empty) quiet.2
            ∙ ended_either ended;
        terms = refl;
        inflight = refl;
      }))
    where
      ended_either : (c : Bool) → (if c then stays {A = A} (state_at p) said.End else stays (state_at p) said.Empty) ≡ stays (state_at p) (if c then said.End else said.Empty)
      ended_either true = refl
      ended_either false = refl

  -- the queue's own test, from the Value
  pub may_pick_is : (p : Parts A) (w : Whole) (b : Bool) → IsLone p → whole_of p ≡ w → (IsTrue b ↔ (fin.len p.queue.out < p.queue.inflight)) → IsTrue b ↔ (length w.state.out < w.inflight)
  may_pick_is p w b is e h =
      let long : length (map out_job (fin.entries p.queue.out)) ≡ fin.len p.queue.out = length-map (fin.entries p.queue.out) out_job ∙ sym (fin.len-entries p.queue.out) in
      subst (λ (v : Whole). IsTrue b ↔ (length v.state.out < v.inflight)) e (subst (λ n. IsTrue b ↔ (n < p.queue.inflight)) (sym long) h)

  -- how many are in service, from the Value
  pub out_len : (p : Parts A) (w : Whole) → IsLone p → whole_of p ≡ w → fin.len p.queue.out ≡ length w.state.out
  out_len p w is e = fin.len-entries p.queue.out ∙ sym (length-map (fin.entries p.queue.out) out_job) ∙ ap (λ (v : Whole). length v.state.out) e

  -- what is still to come, from the parts
  come_of : (p : Parts A) → 3 * length p.queue.waiting + 2 * fin.len p.queue.out + sessions_worth p.sessions.sessions ≡ to_come (state_at p)
  come_of p =
      let a = length-map p.queue.waiting job_of in
      let b = length-map (fin.entries p.queue.out) out_job in
      let c = fin.len-entries p.queue.out in
      omega arith

  pub come_is : (p : Parts A) (w : Whole) → IsLone p → whole_of p ≡ w → 3 * length p.queue.waiting + 2 * fin.len p.queue.out + sessions_worth p.sessions.sessions ≡ to_come w.state
  come_is p w is e = come_of p ∙ ap (λ (v : Whole). to_come v.state) e

  pub come_few : (p : Parts A) → IsLone p → 3 * length p.queue.waiting + 2 * fin.len p.queue.out + sessions_worth p.sessions.sessions ≤ 2 ^ 58
  come_few p is =
      let a = come_of p in
      let b = is.bounded.budget in
      let c = is.bounded.asked_few in
      omega arith
