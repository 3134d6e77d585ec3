-- What is true of an export's parts is kept by an attach and by an arrival.
use Rattle.std.proofs.Common.{◌≡◌, ◌≢◌, ℕ, zero, suc, ◌+◌, ◌-◌, ◌<◌, ◌≤◌, ◌^◌, Bool, true, false, not, ◌==◌, nat_le, Result, Ok, Err, List, [], ◌∷◌, ◌++◌, length, map, filter, slice_get, Option, Some, None, if◌then◌else◌, refl, sym, ap, subst, ◌∙◌, arith, length-append, append_assoc, ℤ}
use Rattle.std.proofs.lemmas.Bool.{leb-false, eq-eqb, ne_eqb}
use Rattle.std.proofs.lemmas.Int.{ints, clamps}
use Rattle.std.specs.FinMap as fin
use Rattle.nbd_base.specs.Words.{when_some, change_at}
use Rattle.nbd_base.specs.Range.{IsOptionInRange}
use Rattle.nbd_wire.specs.declared.requests.RequestHead.{RequestHead}
use Rattle.nbd_wire.specs.Grammar.{RequestMessage, ReplyMessage}
use Rattle.nbd_commands.specs.Terms.{Terms}
use Rattle.nbd_commands.specs.Verdict.{verdict_of}
use Rattle.tag_clock.specs.Tags.{later}
use Rattle.tag_clock.specs.Clocks.{Limit, limit_after, limit_tag}
use Rattle.reply_box.specs.Sessions.{Session, new_session, is_here, is_open_state, is_open_at, is_here_at, posted, post_at}
use Rattle.reply_box.specs.Box.{Box, outstanding_at, after_attach, after_admit, after_put, owed_at, IsOwed, Admits}
use Rattle.reply_box.specs.declared.fault.AdmitFault.{AdmitFault}
use Rattle.reply_box.specs.declared.fault.AdmitFault.TheVariants as admitting
use Rattle.export_queue.specs.Queue.{Queue, after_push}
use Rattle.lone_export.specs.Alone.{Alone, Job, own_step, outstanding, refused, accepted}
use Rattle.lone_export.specs.Calls.{to_come}
use Rattle.lone_export.specs.Lone.{Whole, Does, MayAttach, MayArrive, step_answer_of_attach_refusal, step_answer_of_refusal}
use Rattle.lone_export.specs.declared.refusal.AttachRefusal.{AttachRefusal}
use Rattle.lone_export.specs.declared.refusal.AttachRefusal.TheVariants as attaching
use Rattle.lone_export.specs.declared.refusal.ArriveRefusal.{ArriveRefusal}
use Rattle.lone_export.specs.declared.refusal.ArriveRefusal.TheVariants as arriving
use Rattle.lone_export.specs.Parts.{Parts, jobs, jobs_of, AreAbove, AreJobs, AreOwed, IsTag, IsBounded, job_of, out_job, terms_at, state_at, whole_of, IsLone}
use Rattle.lone_export.specs.declared.row.Row.{Row}
use Rattle.lone_export.specs.declared.step.Step.TheVariants as step
use Rattle.lone_export.specs.declared.step.StepAnswer.TheVariants as said
use Rattle.lone_export.proofs.Steps.{worth-attach, worth-post}
use Rattle.std.proofs.lemmas.List.{length-map, map-append}
use Rattle.nbd_base.proofs.Words.{length-change_at}
use Rattle.lone_export.proofs.Kept.{owed-change, owed-session, open_here, if_not, jobs_of-append, outstanding_is}

pub if_yes : {B : Type 0} (c : Bool) (x y : B) → c ≡ true → (if c then x else y) ≡ x
if_yes true x y e = refl
if_yes false x y e = absurd (cc)

pub if_no : {B : Type 0} (c : Bool) (x y : B) → c ≡ false → (if c then x else y) ≡ y
if_no true x y e = absurd (cc)
if_no false x y e = refl

pub bounded-asked : (old new : Alone) (asked : ℕ) → IsBounded old asked → nat_le (2 ^ 56) old.count ≡ false → new.count ≡ old.count + 1 → to_come new ≤ to_come old + 3
    → new.next ≤ old.next + 1 → IsTag new.next new.last → new.rates.l_interval < 2 ^ 30 → length new.sessions ≤ length old.sessions + 1 → IsBounded new (asked + 1)
bounded-asked old new asked is fresh more less next tag short seats = record {
  budget = let a = is.budget in omega arith;
  asked_counted = let a = is.asked_counted in omega arith;
  asked_few = let a = is.asked_counted in let b = leb-false (2 ^ 56) old.count fresh in omega arith;
  numbered = let a = is.numbered in omega arith;
  seated = let a = is.seated in omega arith;
  interval = short;
  tag = tag;
}

pub open_is_here : (ss : List Session) (s : ℕ) → is_open_at ss s ≡ true → is_here_at ss s ≡ true
open_is_here [] s h = absurd (cc)
open_is_here (x ∷ ss) zero h = open_here (x ∷ ss) 0 x refl h
open_is_here (x ∷ ss) (suc s) h = open_is_here ss s h

owed-append : (rows : ℕ → ℕ) (ss : List Session) (owed : List ℕ) → AreOwed rows ss owed → AreOwed rows (ss ++ new_session ∷ []) (owed ++ 0 ∷ [])
owed-append rows [] [] is = (λ h. sym (is 0), λ s. is (suc s))
owed-append rows [] (o ∷ os) is = absurd is
owed-append rows (x ∷ ss) [] is = absurd is
owed-append rows (x ∷ ss) (o ∷ os) is = (is.0, owed-append (λ n. rows (suc n)) ss os is.1)

-- one more is owed to a session that is here
owed-more : (rows : ℕ → ℕ) (ss : List Session) (owed : List ℕ) (s : ℕ) → AreOwed rows ss owed → is_here_at ss s ≡ true → 0 < owed_at (change_at (λ n. n + 1) s owed) s
owed-more rows [] owed s is here = absurd (cc)
owed-more rows (x ∷ ss) [] s is here = absurd is
owed-more rows (x ∷ ss) (o ∷ os) zero is here = omega arith
owed-more rows (x ∷ ss) (o ∷ os) (suc s) is here = owed-more (λ n. rows (suc n)) ss os s is.1 here

pub change-back : (s : ℕ) (owed : List ℕ) → change_at (λ n. n - 1) s (change_at (λ n. n + 1) s owed) ≡ owed
change-back s [] = refl
change-back zero (o ∷ os) = let e : o + 1 - 1 ≡ o = omega arith in ap (λ n. n ∷ os) e
change-back (suc s) (o ∷ os) = ap (λ xs. o ∷ xs) (change-back s os)

pub posted_here : (reply : ReplyMessage) (x : Session) → is_here (posted reply x) ≡ true → is_here x ≡ true
posted_here reply x = by (is_here x) refl
  where
    by : (b : Bool) → is_here x ≡ b → is_here (if b then record { state = x.state; outbox = x.outbox ++ reply ∷ [] } else x) ≡ true → is_here x ≡ true
    by true e h = e
    by false e h = h

-- ---- a request waits behind the others

above-push : (n : ℕ) (js : List Job) (job : Job) → AreAbove n js → n < job.number → AreAbove n (js ++ job ∷ [])
above-push n [] job is less = (less, tt)
above-push n (j ∷ js) job is less = (is.0, above-push n js job is.1 less)

jobs-push : (terms : Terms) (next : ℕ) (js : List Job) (job : Job) → AreJobs terms next js → job.number ≡ next → verdict_of terms job.request ≡ 0 → AreJobs terms (next + 1) (js ++ job ∷ [])
jobs-push terms next [] job is number served = (served, (omega arith, (tt, tt)))
jobs-push terms next (j ∷ js) job is number served =
    let less = is.1.0 in
    (is.0, (omega arith, (above-push j.number js job is.1.1.0 (omega arith), jobs-push terms next js job is.1.1.1 number served)))

one_job : (job : Job) (s : ℕ) → (s ≡ job.session → jobs_of (job ∷ []) s ≡ 1) × (s ≢ job.session → jobs_of (job ∷ []) s ≡ 0)
one_job job s = (λ e. rw (eq-eqb job.session s (sym e)) refl, λ d. rw (ne_eqb job.session s (λ e. d (sym e))) refl)

tag-later : (interval next t : ℕ) (last : Option ℤ) → interval < 2 ^ 30 → t < 2 ^ 62 → IsTag next last → IsTag (next + 1) (Some (later last interval t))
tag-later interval next t None small early is = (omega (arith, ints), omega (arith, ints))
tag-later interval next t (Some tag) small early is = let a = is.0 in let b = is.1 in (omega (arith, ints, clamps), omega (arith, ints, clamps))

abbrev IsLet : Whole → ℕ → Type 0
IsLet w s = (is_open_at w.state.sessions s ≡ true) × (nat_le (2 ^ 56) w.state.count ≡ false) × ((outstanding w.state s == w.terms.window) ≡ false)

pub told_error : (error : ℕ) (r : RequestMessage) (reply : ReplyMessage) (head : RequestHead) → reply ≡ record { error = error; cookie = head.cookie; content = [] } → head ≡ r.head → reply ≡ record { error = error; cookie = r.head.cookie; content = [] }
told_error error r reply head is same = is ∙ ap (λ (h : RequestHead). record { error = error; cookie = h.cookie; content = [] }) same

module _ {A : Type 0} where
  pub lone-attach : (p : Parts A) (b : Box) → IsLone p → nat_le (2 ^ 56) p.count ≡ false → b ≡ after_attach p.sessions → IsLone (record p { sessions = b; count = p.count + 1; asked = p.asked + 1 })
  lone-attach p b is fresh e =
      subst (λ (c : Box). IsLone (record p { sessions = c; count = p.count + 1; asked = p.asked + 1 })) (sym e)
      (record {
        sized = is.sized;
        numbered = is.numbered;
        owed = owed-append _ p.sessions.sessions p.sessions.owed is.owed;
        ticks = is.ticks;
        bounded = bounded-asked (state_at p) _ p.asked is.bounded fresh refl (let a = worth-attach p.sessions.sessions in omega arith) (omega arith) is.bounded.tag is.bounded.interval (let a = length-append p.sessions.sessions (new_session ∷ []) in omega arith);
        depth = is.depth;
        window = is.window;
        inflight = is.inflight;
      })

  -- the numbers of sessions and requests leave room
  pub few_sessions : (p : Parts A) → IsLone p → length p.sessions.sessions < 2 ^ 63
  few_sessions p is = let a = is.bounded.budget in let b = is.bounded.asked_few in let d = is.bounded.seated in omega arith

  pub few_numbers : (p : Parts A) → IsLone p → p.queue.next < 2 ^ 63
  few_numbers p is = let a = is.bounded.budget in let b = is.bounded.asked_few in let d = is.bounded.numbered in omega arith

  pub tag_in_range : (p : Parts A) → IsLone p → IsOptionInRange p.clock.last
  tag_in_range p is = by p.clock.last is.bounded.tag
    where
      by : (o : Option ℤ) → IsTag p.queue.next o → IsOptionInRange o
      by None h = tt
      by (Some tag) h =
          let a = is.bounded.budget in
          let b = is.bounded.asked_few in
          let d = is.bounded.numbered in
          let low = h.0 in
          let high = h.1 in
          record { in_range = omega (arith, ints) }

  pub admitted_owed : (p : Parts A) (s : ℕ) (b : Box) → IsLone p → b ≡ after_admit p.sessions s → IsOwed b s
  admitted_owed p s b is e = subst (λ (c : Box). IsOwed c s) (sym e) (λ here. owed-more _ p.sessions.sessions p.sessions.owed s is.owed here)

  -- the session of a request is told an error
  pub lone-answer : (p : Parts A) (s : ℕ) (reply : ReplyMessage) (b c : Box) → IsLone p → nat_le (2 ^ 56) p.count ≡ false → b ≡ after_admit p.sessions s → c ≡ after_put b s reply
      → (IsLone (record p { sessions = c; count = p.count + 1; asked = p.asked + 1 })) × (c ≡ record { sessions = post_at s reply p.sessions.sessions; owed = p.sessions.owed; window = p.sessions.window })
  lone-answer p s reply b c is fresh admits puts =
      let whole : c ≡ record { sessions = post_at s reply p.sessions.sessions; owed = p.sessions.owed; window = p.sessions.window } =
      puts ∙ ap (λ (d : Box). after_put d s reply) admits ∙ ap (λ (owed : List ℕ). record { sessions = post_at s reply p.sessions.sessions; owed = owed; window = p.sessions.window }) (change-back s p.sessions.owed) in (
        subst (λ (d : Box). IsLone (record p { sessions = d; count = p.count + 1; asked = p.asked + 1 })) (sym whole)
            (record {
              sized = is.sized;
              numbered = is.numbered;
              owed = owed-session (posted reply) s _ p.sessions.sessions p.sessions.owed is.owed (λ x f k. posted_here reply x k);
              ticks = is.ticks;
              bounded = bounded-asked (state_at p) _ p.asked is.bounded fresh refl (let a = worth-post reply s p.sessions.sessions in omega arith) (omega arith) is.bounded.tag is.bounded.interval (let a = length-change_at (posted reply) s p.sessions.sessions in omega arith);
              depth = is.depth;
              window = is.window;
              inflight = is.inflight;
            }),
        whole,
      )

  -- the request waits behind the others
  pub lone-accept : (p : Parts A) (s t : ℕ) (r : RequestMessage) (q : Queue (Row A)) (clock : Limit) (b : Box) → IsLone p → nat_le (2 ^ 56) p.count ≡ false → is_open_at p.sessions.sessions s ≡ true → verdict_of (terms_at p) r ≡ 0 → t < 2 ^ 62
      → q ≡ after_push p.queue (record { session = s; request = r }) → clock ≡ limit_after p.clock t → b ≡ after_admit p.sessions s
      → IsLone (record p { queue = q; clock = clock; sessions = b; count = p.count + 1; asked = p.asked + 1 })
  lone-accept p s t r q clock b is fresh opened served early pushes ticks admits =
      let row : Row A = record { session = s; request = r } in
      let job : Job = record { number = p.queue.next; session = s; request = r } in
      let waits : map job_of (p.queue.waiting ++ (p.queue.next, row) ∷ []) ≡ map job_of p.queue.waiting ++ job ∷ [] = map-append job_of p.queue.waiting ((p.queue.next, row) ∷ []) in
      let same : map out_job (fin.entries p.queue.out) ++ map job_of (p.queue.waiting ++ (p.queue.next, row) ∷ []) ≡ jobs (state_at p) ++ job ∷ [] =
      ap (λ (xs : List Job). map out_job (fin.entries p.queue.out) ++ xs) waits ∙ sym (append_assoc (map out_job (fin.entries p.queue.out)) (map job_of p.queue.waiting) (job ∷ [])) in
      let long : length (map job_of (p.queue.waiting ++ (p.queue.next, row) ∷ [])) ≡ length (map job_of p.queue.waiting) + 1 = ap length waits ∙ length-append (map job_of p.queue.waiting) (job ∷ []) in
      subst (λ (x : Queue (Row A)). IsLone (record p { queue = x; clock = clock; sessions = b; count = p.count + 1; asked = p.asked + 1 })) (sym pushes)
      (subst (λ (x : Limit). IsLone (record p { queue = after_push p.queue row; clock = x; sessions = b; count = p.count + 1; asked = p.asked + 1 })) (sym ticks)
      (subst (λ (x : Box). IsLone (record p { queue = after_push p.queue row; clock = limit_after p.clock t; sessions = x; count = p.count + 1; asked = p.asked + 1 })) (sym admits)
      (record {
        sized = is.sized;
        numbered = subst (AreJobs (terms_at p) (p.queue.next + 1)) (sym same) (jobs-push (terms_at p) p.queue.next (jobs (state_at p)) job is.numbered refl served);
        owed = subst (λ (js : List Job). AreOwed (jobs_of js) p.sessions.sessions (change_at (λ n. n + 1) s p.sessions.owed)) (sym same)
            (subst (λ (ss : List Session). AreOwed (jobs_of (jobs (state_at p) ++ job ∷ [])) ss (change_at (λ n. n + 1) s p.sessions.owed)) (sessions_same s p.sessions.sessions)
            (owed-change (λ x. x) (λ n. n + 1) s (jobs_of (jobs (state_at p))) (jobs_of (jobs (state_at p) ++ job ∷ [])) p.sessions.sessions p.sessions.owed is.owed
            (λ x n f o k. let a = o k in let d = jobs_of-append (jobs (state_at p)) (job ∷ []) s in let e = (one_job job s).0 refl in omega arith)
            (λ f z. absurd (not_there f))
            (λ n d. let a = jobs_of-append (jobs (state_at p)) (job ∷ []) n in let e = (one_job job n).1 d in omega arith)));
        ticks = is.ticks;
        bounded = bounded-asked (state_at p) _ p.asked is.bounded fresh refl (omega arith) (omega arith) (tag-later p.clock.interval p.queue.next t p.clock.last (subst (λ (n : ℕ). n < 2 ^ 30) (sym is.ticks) is.bounded.interval) early is.bounded.tag) is.bounded.interval (omega arith);
        depth = is.depth;
        window = is.window;
        inflight = is.inflight;
      })))
    where
      sessions_same : (s : ℕ) (ss : List Session) → change_at (λ x. x) s ss ≡ ss
      sessions_same s [] = refl
      sessions_same zero (x ∷ ss) = refl
      sessions_same (suc s) (x ∷ ss) = ap (λ xs. x ∷ xs) (sessions_same s ss)

      not_there : slice_get p.sessions.sessions s ≡ None → ⊥
      not_there f = let e : false ≡ true = sym (ap (λ o. when_some o (λ (y : Session). is_open_state y.state) false) f) ∙ opened in cc

  -- ---- what the calls answer

  pub attach_refused : (w : Whole) (e : AttachRefusal) → MayAttach w (Err e) → Does {A = A} w w step.Attach (step_answer_of_attach_refusal e)
  attach_refused w attaching.Worn is = record { did = if_yes (nat_le (2 ^ 56) w.state.count) _ _ is; terms = refl; inflight = refl }
  attach_refused w attaching.Full is = record {
    did = if_no (nat_le (2 ^ 56) w.state.count) _ _ is.0 ∙ if_yes (length (filter is_here w.state.sessions) == 64) _ _ is.1;
    terms = refl;
    inflight = refl;
  }

  pub attach_does : (p : Parts A) (b : Box) (n : ℕ) (w : Whole) → IsLone p → whole_of p ≡ w → (nat_le (2 ^ 56) w.state.count ≡ false) × ((length (filter is_here w.state.sessions) == 64) ≡ false)
      → n ≡ length p.sessions.sessions → b ≡ after_attach p.sessions → Does {A = A} w (whole_of (record p { sessions = b; count = p.count + 1; asked = p.asked + 1 })) step.Attach (said.Session n)
  attach_does p b n w is e may number attached =
      let told = subst (λ (v : Whole). (nat_le (2 ^ 56) v.state.count ≡ false) × ((length (filter is_here v.state.sessions) == 64) ≡ false)) (sym e) may in
      subst (λ (v : Whole). Does {A = A} v (whole_of (record p { sessions = b; count = p.count + 1; asked = p.asked + 1 })) step.Attach (said.Session n)) e
      (subst (λ (c : Box). Does {A = A} (whole_of p) (whole_of (record p { sessions = c; count = p.count + 1; asked = p.asked + 1 })) step.Attach (said.Session n)) (sym attached)
      (subst (λ m. Does {A = A} (whole_of p) (whole_of (record p { sessions = after_attach p.sessions; count = p.count + 1; asked = p.asked + 1 })) step.Attach (said.Session m)) (sym number)
      (record {
        did = if_no (nat_le (2 ^ 56) p.count) _ _ told.0 ∙ if_no (length (filter is_here p.sessions.sessions) == 64) _ _ told.1;
        terms = refl;
        inflight = refl;
      })))

  pub same_whole : (p : Parts A) (b : Box) (w : Whole) → IsLone p → whole_of p ≡ w → b ≡ p.sessions → whole_of (record p { sessions = b }) ≡ w
  same_whole p b w is e same = ap (λ (c : Box). whole_of (record p { sessions = c })) same ∙ e

  pub not_worn : (p : Parts A) (w : Whole) → IsLone p → whole_of p ≡ w → nat_le (2 ^ 56) w.state.count ≡ false → nat_le (2 ^ 56) p.count ≡ false
  not_worn p w is e h = subst (λ (v : Whole). nat_le (2 ^ 56) v.state.count ≡ false) (sym e) h

  pub arrive_refused : (w : Whole) (s t : ℕ) (q : RequestMessage) (e : ArriveRefusal) → MayArrive w s (Err e) → Does {A = A} w w (step.Arrive s t q) (step_answer_of_refusal e)
  arrive_refused w s t q arriving.NotOpen is = record { did = if_yes (not (is_open_at w.state.sessions s)) _ _ (ap not is); terms = refl; inflight = refl }
  arrive_refused w s t q arriving.Worn is = record {
    did = if_not (is_open_at w.state.sessions s) _ _ is.0 ∙ if_yes (nat_le (2 ^ 56) w.state.count) _ _ is.1;
    terms = refl;
    inflight = refl;
  }
  arrive_refused w s t q arriving.Hold is = record {
    did = if_not (is_open_at w.state.sessions s) _ _ is.0 ∙ if_no (nat_le (2 ^ 56) w.state.count) _ _ is.1 ∙ if_yes (outstanding w.state s == w.terms.window) _ _ is.2;
    terms = refl;
    inflight = refl;
  }

  -- a request that isn't refused before it is looked at
  pub looked_at : (terms : Terms) (state : Alone) (s t : ℕ) (q : RequestMessage) → (is_open_at state.sessions s ≡ true) × (nat_le (2 ^ 56) state.count ≡ false) × ((outstanding state s == terms.window) ≡ false)
      → own_step {A = A} terms state (step.Arrive s t q)
      ≡ (if not (verdict_of terms q == 0) then refused state s q (verdict_of terms q) else (if length state.waiting == terms.depth then refused state s q 5 else accepted state s t q))
  looked_at terms state s t q may = if_not (is_open_at state.sessions s) _ _ may.0 ∙ if_no (nat_le (2 ^ 56) state.count) _ _ may.1 ∙ if_no (outstanding state s == terms.window) _ _ may.2

  -- the request waits
  pub accept_does : (p : Parts A) (s t n : ℕ) (tag : ℤ) (r : RequestMessage) (q : Queue (Row A)) (clock : Limit) (b : Box) (w : Whole) → IsLone p → whole_of p ≡ w → IsLet w s → verdict_of (terms_at p) r ≡ 0 → length p.queue.waiting < p.queue.depth
      → n ≡ p.queue.next → q ≡ after_push p.queue (record { session = s; request = r }) → tag ≡ limit_tag p.clock t → clock ≡ limit_after p.clock t → b ≡ after_admit p.sessions s
      → Does {A = A} w (whole_of (record p { queue = q; clock = clock; sessions = b; count = p.count + 1; asked = p.asked + 1 })) (step.Arrive s t r) (said.Accepted n tag)
  accept_does p s t n tag r q clock b w is e may served room number pushes tagged ticks admits =
      let let_in = subst (λ (v : Whole). IsLet v s) (sym e) may in
      let good : (verdict_of (terms_at p) r == 0) ≡ true = eq-eqb (verdict_of (terms_at p) r) 0 served in
      let long = length-map p.queue.waiting job_of in
      let few : (length (map job_of p.queue.waiting) == p.queue.depth) ≡ false = ne_eqb (length (map job_of p.queue.waiting)) p.queue.depth (λ z. absurd (omega arith)) in
      let ticked : later p.clock.last p.rates.l_interval t ≡ limit_tag p.clock t = ap (λ (n : ℕ). later p.clock.last n t) (sym is.ticks) in
      subst (λ (v : Whole). Does {A = A} v (whole_of (record p { queue = q; clock = clock; sessions = b; count = p.count + 1; asked = p.asked + 1 })) (step.Arrive s t r) (said.Accepted n tag)) e
      (subst (λ (x : Queue (Row A)). Does {A = A} (whole_of p) (whole_of (record p { queue = x; clock = clock; sessions = b; count = p.count + 1; asked = p.asked + 1 })) (step.Arrive s t r) (said.Accepted n tag)) (sym pushes)
      (subst (λ (x : Limit). Does {A = A} (whole_of p) (whole_of (record p { queue = after_push p.queue (record { session = s; request = r }); clock = x; sessions = b; count = p.count + 1; asked = p.asked + 1 })) (step.Arrive s t r) (said.Accepted n tag)) (sym ticks)
      (subst (λ (x : Box). Does {A = A} (whole_of p) (whole_of (record p { queue = after_push p.queue (record { session = s; request = r }); clock = limit_after p.clock t; sessions = x; count = p.count + 1; asked = p.asked + 1 })) (step.Arrive s t r) (said.Accepted n tag)) (sym admits)
      (record {
        did = looked_at (terms_at p) (state_at p) s t r let_in ∙ if_no (not (verdict_of (terms_at p) r == 0)) _ _ (ap not good) ∙ if_no (length (map job_of p.queue.waiting) == p.queue.depth) _ _ few
            ∙ (λ i. record {
              state = record (state_at p) {
                waiting = sym (map-append job_of p.queue.waiting ((p.queue.next, record { session = s; request = r }) ∷ [])) i;
                next = p.queue.next + 1;
                last = Some (ticked i);
                count = p.count + 1;
              };
              answer = said.Accepted (sym number i) ((ticked ∙ sym tagged) i);
            });
        terms = refl;
        inflight = refl;
      }))))

  -- the box's own test is that of the step
  pub held_is : (p : Parts A) (s : ℕ) (b : Bool) (w : Whole) → IsLone p → whole_of p ≡ w → is_open_at p.sessions.sessions s ≡ true → (outstanding_at p.sessions s == p.sessions.window) ≡ b → (outstanding w.state s == w.terms.window) ≡ b
  held_is p s b w is e opened h =
      subst (λ (v : Whole). (outstanding v.state s == v.terms.window) ≡ b) e
      (ap (λ n. n == p.sessions.window) (outstanding_is p s is (open_is_here p.sessions.sessions s opened)) ∙ h)

  pub open_same : (p : Parts A) (s : ℕ) (w : Whole) → IsLone p → whole_of p ≡ w → is_open_at p.sessions.sessions s ≡ true → is_open_at w.state.sessions s ≡ true
  open_same p s w is e h = subst (λ (v : Whole). is_open_at v.state.sessions s ≡ true) e h

  pub let_open : (p : Parts A) (s : ℕ) (w : Whole) → IsLone p → whole_of p ≡ w → is_open_at w.state.sessions s ≡ true → is_open_at p.sessions.sessions s ≡ true
  let_open p s w is e h = subst (λ (v : Whole). is_open_at v.state.sessions s ≡ true) (sym e) h

  -- an arrival that isn't refused is admitted
  pub admitted_is : (p : Parts A) (s : ℕ) (b : Box) (r : Result (Unit {0}) AdmitFault) (w : Whole) → IsLone p → whole_of p ≡ w → IsLet w s → Admits p.sessions s b r → b ≡ after_admit p.sessions s
  admitted_is p s b (Ok done) w is e may h = h.1
  admitted_is p s b (Err admitting.NotOpen) w is e may h = let no : true ≡ false = sym (let_open p s w is e may.0) ∙ h.0 in absurd (cc)
  admitted_is p s b (Err admitting.Hold) w is e may h = let no : true ≡ false = sym (held_is p s true w is e h.0.0 h.0.1) ∙ may.2 in absurd (cc)
