-- What is true of an export's parts is kept when a request is done.
use Rattle.std.proofs.Common.{◌≡◌, ◌≢◌, ◌⊎◌, ℕ, ◌+◌, ◌-◌, ◌≤◌, Bool, true, false, not, ◌==◌, ◌&&◌, ◌||◌, IsTrue, replicate, List, [], ◌∷◌, ◌++◌, length, map, filter, find, Option, Some, None, if◌then◌else◌, refl, sym, ap, subst, ◌∙◌, inl, inr, arith}
use Rattle.std.proofs.lemmas.Bool.{cases_eq, eq-eqb, ne_eqb, eqb-true}
use Rattle.std.proofs.lemmas.List.{length-replicate}
use Rattle.std.specs.Bool.{OnTrue, OnFalse}
use Rattle.std.specs.Ordering.{nat_cmp}
use Rattle.std.specs.FinMap as fin
use Rattle.nbd_base.specs.Words.{when_some, change_at}
use Rattle.nbd_wire.specs.Grammar.{RequestMessage, ReplyMessage, IsRequest}
use Rattle.nbd_commands.specs.Terms.{Terms}
use Rattle.nbd_commands.specs.Verdict.{verdict_of, verdict_at, refusal_at}
use Rattle.nbd_commands.specs.Verdict.{is_write, is_trim, is_write_zeroes}
use Rattle.nbd_commands.specs.Meaning.{image_after, data_of, may_want_memory}
use Rattle.nbd_commands.proofs.VerdictLemmas.{served_by_any, not_refused}
use Rattle.reply_box.specs.Sessions.{posted, post_at}
use Rattle.reply_box.specs.Box.{Box, after_put, IsOwed}
use Rattle.export_queue.specs.Queue.{Queue, after_finish, item_held, item_if, slot_in}
use Rattle.lone_export.specs.Alone.{Job, own_step, moves, stays, done, undone}
use Rattle.lone_export.specs.Lone.{Whole, Does, slot_among, slot_at, slots_without}
use Rattle.lone_export.specs.Parts.{Parts, jobs, jobs_of, AreAbove, AreJobs, AreOwed, job_of, out_job, slot_of, terms_at, state_at, whole_of, IsLone, reply_to, Settles}
use Rattle.lone_export.specs.declared.row.Row.{Row}
use Rattle.lone_export.specs.declared.step.Step.TheVariants as step
use Rattle.lone_export.specs.declared.step.StepAnswer.TheVariants as said
use Rattle.nbd_base.proofs.Numbers.{tied_same, tied_other}
use Rattle.nbd_base.proofs.Words.{length-change_at}
use Rattle.payload.proofs.BytesLemmas.{length-overwritten}
use Rattle.lone_export.proofs.Entries.{entries-remove}
use Rattle.lone_export.proofs.Cases.{if_told}
use Rattle.lone_export.proofs.Steps.{worth-post, one_out}
use Rattle.lone_export.proofs.Kept.{owed-change, owed_read, bounded-step}
use Rattle.lone_export.proofs.Asked.{posted_here}

-- ---- a request that isn't refused keeps the length of the image

inside : (size : ℕ) (m : RequestMessage) → verdict_at size false m ≡ 0 → (is_write m || is_trim m || is_write_zeroes m) ≡ true → m.head.offset + m.head.length ≤ size
inside size m served changes = from_none (not_refused size false m served)
  where
    from_none : refusal_at size false m ≡ None → m.head.offset + m.head.length ≤ size
    from_none none = grind arith

pub length-after : (image : List ℕ) (m : RequestMessage) → verdict_at (length image) false m ≡ 0 → IsRequest m → length (image_after image m) ≡ length image
length-after image m served is =
    if_told (λ (bytes : List ℕ). length bytes ≡ length image) (is_write m)
    (λ h. length-overwritten image m.head.offset m.head.length m.payload (inside (length image) m served (first h)) (is.write (eqb-true m.head.kind 1 h)))
    (λ h. if_told (λ (bytes : List ℕ). length bytes ≡ length image) (is_trim m || is_write_zeroes m)
    (λ k. length-overwritten image m.head.offset m.head.length (replicate m.head.length 0) (inside (length image) m served (rest h k)) (length-replicate m.head.length 0))
    (λ k. refl))
  where
    first : is_write m ≡ true → (is_write m || is_trim m || is_write_zeroes m) ≡ true
    first h = rw h refl

    rest : is_write m ≡ false → (is_trim m || is_write_zeroes m) ≡ true → (is_write m || is_trim m || is_write_zeroes m) ≡ true
    rest h k = grind arith

-- ---- a request that is out, found by its number

found_served : (terms : Terms) (next n : ℕ) (out rest : List Job) (job : Job) → AreJobs terms next (out ++ rest) → find (λ j. j.number == n) out ≡ Some job → verdict_of terms job.request ≡ 0
found_served terms next n [] rest job is found = absurd (cc)
found_served terms next n (j ∷ out) rest job is found = by (j.number == n) found (λ f. found_served terms next n out rest job is.1.1.1 f)
  where
    by : (b : Bool) → (if b then Some j else find (λ (k : Job). k.number == n) out) ≡ Some job → (find (λ (k : Job). k.number == n) out ≡ Some job → verdict_of terms job.request ≡ 0) → verdict_of terms job.request ≡ 0
    by true f ih = let same : j ≡ job = cc in ap (λ (k : Job). verdict_of terms k.request) (sym same) ∙ is.0
    by false f ih = ih f

-- the number is that of no other
kept_above : (n : ℕ) (out rest : List Job) → AreAbove n (out ++ rest) → filter (λ j. not (j.number == n)) out ≡ out
kept_above n [] rest is = refl
kept_above n (j ∷ out) rest is = rw (ne_eqb j.number n (λ e. absurd (let a = is.0 in omega arith))) (ap (λ xs. j ∷ xs) (kept_above n out rest is.1))

above_less : (p : Job → Bool) (n : ℕ) (out rest : List Job) → AreAbove n (out ++ rest) → AreAbove n (filter p out ++ rest)
above_less p n [] rest is = is
above_less p n (j ∷ out) rest is = by (p j) (above_less p n out rest is.1)
  where
    by : (b : Bool) → AreAbove n (filter p out ++ rest) → AreAbove n ((if b then j ∷ filter p out else filter p out) ++ rest)
    by true ih = (is.0, ih)
    by false ih = ih

jobs_less : (p : Job → Bool) (terms : Terms) (next : ℕ) (out rest : List Job) → AreJobs terms next (out ++ rest) → AreJobs terms next (filter p out ++ rest)
jobs_less p terms next [] rest is = is
jobs_less p terms next (j ∷ out) rest is = by (p j) (jobs_less p terms next out rest is.1.1.1)
  where
    by : (b : Bool) → AreJobs terms next (filter p out ++ rest) → AreJobs terms next ((if b then j ∷ filter p out else filter p out) ++ rest)
    by true ih = (is.0, (is.1.0, (above_less p j.number out rest is.1.1.0, ih)))
    by false ih = ih

abbrev one_if : ℕ → ℕ → ℕ
one_if a b = if a == b then 1 else 0

one_same : (a : ℕ) → one_if a a ≡ 1
one_same a = rw (eq-eqb a a refl) refl

one_other : (a b : ℕ) → a ≢ b → one_if a b ≡ 0
one_other a b d = rw (ne_eqb a b d) refl

-- one request less for the session of the one that is done, and none less for the others
one_less : (terms : Terms) (next n s : ℕ) (out rest : List Job) (job : Job) → AreJobs terms next (out ++ rest) → find (λ j. j.number == n) out ≡ Some job
    → jobs_of (out ++ rest) s ≡ jobs_of (filter (λ j. not (j.number == n)) out ++ rest) s + one_if job.session s
one_less terms next n s [] rest job is found = absurd (cc)
one_less terms next n s (j ∷ out) rest job is found = by (j.number == n) refl found (λ f. one_less terms next n s out rest job is.1.1.1 f)
  where
    more : (js ks : List Job) (c : ℕ) (b : Bool) → jobs_of js s ≡ jobs_of ks s + c
        → length (if b then j ∷ filter (λ (k : Job). k.session == s) js else filter (λ (k : Job). k.session == s) js) ≡ length (if b then j ∷ filter (λ (k : Job). k.session == s) ks else filter (λ (k : Job). k.session == s) ks) + c
    more js ks c true e = omega arith
    more js ks c false e = e

    told : (js : List Job) (b : Bool) → length (if b then j ∷ filter (λ (k : Job). k.session == s) js else filter (λ (k : Job). k.session == s) js) ≡ jobs_of js s + (if b then 1 else 0)
    told js true = omega arith
    told js false = omega arith

    by : (b : Bool) → (j.number == n) ≡ b → (if b then Some j else find (λ (k : Job). k.number == n) out) ≡ Some job
        → (find (λ (k : Job). k.number == n) out ≡ Some job → jobs_of (out ++ rest) s ≡ jobs_of (filter (λ (k : Job). not (k.number == n)) out ++ rest) s + one_if job.session s)
        → jobs_of (j ∷ (out ++ rest)) s ≡ jobs_of ((if not b then j ∷ filter (λ (k : Job). not (k.number == n)) out else filter (λ (k : Job). not (k.number == n)) out) ++ rest) s + one_if job.session s
    by true e f ih =
        let same : j ≡ job = cc in
        let number : j.number ≡ n = eqb-true j.number n e in
        let kept : filter (λ (k : Job). not (k.number == n)) out ≡ out = subst (λ m. filter (λ (k : Job). not (k.number == m)) out ≡ out) number (kept_above j.number out rest is.1.1.0) in
        told (out ++ rest) (j.session == s)
        ∙ ap (λ (k : Job). jobs_of (out ++ rest) s + one_if k.session s) same
        ∙ ap (λ (js : List Job). jobs_of (js ++ rest) s + one_if job.session s) (sym kept)
    by false e f ih = more (out ++ rest) (filter (λ (k : Job). not (k.number == n)) out ++ rest) (one_if job.session s) (j.session == s) (ih f)

module _ {A : Type 0} where
  -- the slot of a number
  pub slot_found : (n : ℕ) (es : List (ℕ × (ℕ × Row A))) → slot_in (fin.find nat_cmp n es) ≡ slot_among (map out_job es) (map slot_of es) n
  slot_found n [] = refl
  slot_found n (e ∷ es) = elim (cases_eq n e.0) [
    | inl same ↦ rw (tied_same n e.0 same, eq-eqb e.0 n (sym same)) refl
    | inr other ↦ rw (tied_other n e.0 other, ne_eqb e.0 n (λ s. other (sym s))) (slot_found n es)
  ]

  pub slot_is : (p : Parts A) (n : ℕ) (w : Whole) → IsLone p → whole_of p ≡ w → slot_in (fin.get p.queue.out n) ≡ slot_at w n
  slot_is p n w is e = ap slot_in (fin.get-entries p.queue.out n) ∙ slot_found n (fin.entries p.queue.out) ∙ ap (λ (v : Whole). slot_at v n) e

  found_job : (n : ℕ) (es : List (ℕ × (ℕ × Row A))) (v : ℕ × Row A) → fin.find nat_cmp n es ≡ Some v → find (λ job. job.number == n) (map out_job es) ≡ Some (out_job (n, v))
  found_job n [] v h = absurd (cc)
  found_job n (e ∷ es) v h = by (cases_eq n e.0) h (λ k. found_job n es v k)
    where
      by : ((n ≡ e.0) ⊎ (n ≢ e.0)) → fin.find nat_cmp n (e ∷ es) ≡ Some v → (fin.find nat_cmp n es ≡ Some v → find (λ job. job.number == n) (map out_job es) ≡ Some (out_job (n, v))) → find (λ job. job.number == n) (map out_job (e ∷ es)) ≡ Some (out_job (n, v))
      by (inl same) h ih =
          let here : Some e.1 ≡ Some v = rw (tied_same n e.0 same) at h in
          let value : e.1 ≡ v = cc in
          rw (eq-eqb e.0 n (sym same)) (λ i. Some (out_job (sym same i, value i)))
      by (inr other) h ih =
          let rest : fin.find nat_cmp n es ≡ Some v = rw (tied_other n e.0 other) at h in
          rw (ne_eqb e.0 n (λ s. other (sym s))) (ih rest)

  pub missing_job : (n : ℕ) (es : List (ℕ × (ℕ × Row A))) → fin.find nat_cmp n es ≡ None → find (λ job. job.number == n) (map out_job es) ≡ None
  missing_job n [] h = refl
  missing_job n (e ∷ es) h = by (cases_eq n e.0) h (λ k. missing_job n es k)
    where
      by : ((n ≡ e.0) ⊎ (n ≢ e.0)) → fin.find nat_cmp n (e ∷ es) ≡ None → (fin.find nat_cmp n es ≡ None → find (λ job. job.number == n) (map out_job es) ≡ None) → find (λ job. job.number == n) (map out_job (e ∷ es)) ≡ None
      by (inl same) h ih = let here : Some e.1 ≡ None = rw (tied_same n e.0 same) at h in absurd (cc)
      by (inr other) h ih =
          let rest : fin.find nat_cmp n es ≡ None = rw (tied_other n e.0 other) at h in
          rw (ne_eqb e.0 n (λ s. other (sym s))) (ih rest)

  map-filter : (k : ℕ) (es : List (ℕ × (ℕ × Row A))) → map out_job (filter (λ e. not (e.0 == k)) es) ≡ filter (λ job. not (job.number == k)) (map out_job es)
  map-filter k [] = refl
  map-filter k (e ∷ es) = by (e.0 == k) (map-filter k es)
    where
      by : (b : Bool) → map out_job (filter (λ (e : ℕ × (ℕ × Row A)). not (e.0 == k)) es) ≡ filter (λ job. not (job.number == k)) (map out_job es)
          → map out_job (if not b then e ∷ filter (λ (e : ℕ × (ℕ × Row A)). not (e.0 == k)) es else filter (λ (e : ℕ × (ℕ × Row A)). not (e.0 == k)) es) ≡ (if not b then out_job e ∷ filter (λ job. not (job.number == k)) (map out_job es) else filter (λ job. not (job.number == k)) (map out_job es))
      by true ih = ih
      by false ih = ap (λ xs. out_job e ∷ xs) ih

  slots-filter : (k : ℕ) (es : List (ℕ × (ℕ × Row A))) → map slot_of (filter (λ e. not (e.0 == k)) es) ≡ slots_without (map out_job es) (map slot_of es) k
  slots-filter k [] = refl
  slots-filter k (e ∷ es) = by (e.0 == k) (slots-filter k es)
    where
      by : (b : Bool) → map slot_of (filter (λ (e : ℕ × (ℕ × Row A)). not (e.0 == k)) es) ≡ slots_without (map out_job es) (map slot_of es) k
          → map slot_of (if not b then e ∷ filter (λ (e : ℕ × (ℕ × Row A)). not (e.0 == k)) es else filter (λ (e : ℕ × (ℕ × Row A)). not (e.0 == k)) es) ≡ (if not b then slot_of e ∷ slots_without (map out_job es) (map slot_of es) k else slots_without (map out_job es) (map slot_of es) k)
      by true ih = ih
      by false ih = ap (λ xs. slot_of e ∷ xs) ih

  held_get : (q : Queue (Row A)) (slot n : ℕ) (row : Row A) → item_held q slot n ≡ Some row → fin.get q.out n ≡ Some (slot, row)
  held_get q slot n row = by (fin.get q.out n)
    where
      by : (o : Option (ℕ × Row A)) → item_if o slot ≡ Some row → o ≡ Some (slot, row)
      by None h = absurd (cc)
      by (Some r) h = at (r.0 == slot) refl h
        where
          at : (b : Bool) → (r.0 == slot) ≡ b → (if b then Some r.1 else None) ≡ Some row → Some r ≡ Some (slot, row)
          at true e h = let same : r.0 ≡ slot = eqb-true r.0 slot e in let value : r.1 ≡ row = cc in λ i. Some (same i, value i)
          at false e h = absurd (cc)

  pub found_held : (p : Parts A) (slot n : ℕ) (row : Row A) → item_held p.queue slot n ≡ Some row → find (λ job. job.number == n) (map out_job (fin.entries p.queue.out)) ≡ Some (out_job (n, (slot, row)))
  found_held p slot n row h = found_job n (fin.entries p.queue.out) (slot, row) (sym (fin.get-entries p.queue.out n) ∙ held_get p.queue slot n row h)

  -- a request that is out may be performed
  pub may_apply : (p : Parts A) (slot n : ℕ) (row : Row A) → IsLone p → item_held p.queue slot n ≡ Some row → verdict_at (length p.image) false row.request ≡ 0
  may_apply p slot n row is h =
      let served = found_served (terms_at p) p.queue.next n (map out_job (fin.entries p.queue.out)) (map job_of p.queue.waiting) _ is.numbered (found_held p slot n row h) in
      subst (λ size. verdict_at size false row.request ≡ 0) (sym is.sized) (served_by_any p.info.size p.info.read_only row.request served)

  pub done_owed : (p : Parts A) (slot n : ℕ) (row : Row A) → IsLone p → item_held p.queue slot n ≡ Some row → IsOwed p.sessions row.session
  done_owed p slot n row is h here =
      let a = owed_read (jobs_of (jobs (state_at p))) p.sessions.sessions p.sessions.owed row.session is.owed here in
      let b = one_less (terms_at p) p.queue.next n row.session (map out_job (fin.entries p.queue.out)) (map job_of p.queue.waiting) _ is.numbered (found_held p slot n row h) in
      let c = one_same row.session in
      omega arith

  out_is : (q : Queue (Row A)) (n : ℕ) → map out_job (fin.entries (fin.remove q.out n)) ≡ filter (λ job. not (job.number == n)) (map out_job (fin.entries q.out))
  out_is q n = ap (map out_job) (entries-remove q.out n) ∙ map-filter n (fin.entries q.out)

  pub lone-perform : (p : Parts A) (slot n : ℕ) (row : Row A) (image : List ℕ) (reply : ReplyMessage) (q : Queue (Row A)) (b : Box) → IsLone p → item_held p.queue slot n ≡ Some row
      → length image ≡ length p.image → q ≡ after_finish p.queue n → b ≡ after_put p.sessions row.session reply
      → IsLone (record p { image = image; queue = q; sessions = b; count = p.count + 1 })
  lone-perform p slot n row image reply q b is h long finishes puts =
      let out = map out_job (fin.entries p.queue.out) in
      let found = found_held p slot n row h in
      let less = λ (s : ℕ). one_less (terms_at p) p.queue.next n s (map out_job (fin.entries p.queue.out)) (map job_of p.queue.waiting) _ is.numbered found in
      let outs = out_is p.queue n in
      let kept : ℕ → Job → Bool = λ m job. not (job.number == m) in
      let one = one_out n (map out_job (fin.entries p.queue.out)) _ found in
      let shorter : length (map out_job (fin.entries (fin.remove p.queue.out n))) + 1 ≤ length (map out_job (fin.entries p.queue.out)) = subst (λ (xs : List Job). length xs + 1 ≤ length (map out_job (fin.entries p.queue.out))) (sym outs) one in
      let w = worth-post reply row.session p.sessions.sessions in
      subst (λ (x : Queue (Row A)). IsLone (record p { image = image; queue = x; sessions = b; count = p.count + 1 })) (sym finishes)
      (subst (λ (x : Box). IsLone (record p { image = image; queue = after_finish p.queue n; sessions = x; count = p.count + 1 })) (sym puts)
      (record {
        sized = long ∙ is.sized;
        numbered = subst (λ (xs : List Job). AreJobs (terms_at p) p.queue.next (xs ++ map job_of p.queue.waiting)) (sym outs) (jobs_less (λ job. not (job.number == n)) (terms_at p) p.queue.next (map out_job (fin.entries p.queue.out)) (map job_of p.queue.waiting) is.numbered);
        owed = subst (λ (xs : List Job). AreOwed (jobs_of (xs ++ map job_of p.queue.waiting)) (post_at row.session reply p.sessions.sessions) (change_at (λ k. k - 1) row.session p.sessions.owed)) (sym outs)
            (owed-change (posted reply) (λ k. k - 1) row.session (jobs_of (jobs (state_at p))) _ p.sessions.sessions p.sessions.owed is.owed
            (λ x k f o here. let a = o (posted_here reply x here) in let d = less row.session in let c = one_same row.session in omega arith)
            (λ f z. let d = less row.session in omega arith)
            (λ k d. let a = less k in let c = one_other row.session k (λ e. d (sym e)) in omega arith));
        ticks = is.ticks;
        bounded = bounded-step (state_at p) _ p.asked is.bounded refl (omega arith) refl refl is.bounded.interval (length-change_at (posted reply) row.session p.sessions.sessions);
        depth = is.depth;
        window = is.window;
        inflight = is.inflight;
      }))

  -- the length of the image once it is performed, or no memory was there
  pub length_done : (p : Parts A) (slot n : ℕ) (row : Row A) (image : List ℕ) (memory : Bool) → IsLone p → item_held p.queue slot n ≡ Some row → IsRequest row.request
      → OnTrue memory (image ≡ image_after p.image row.request) → OnFalse memory (image ≡ p.image) → length image ≡ length p.image
  length_done p slot n row image true is h request with without = ap length with ∙ length-after p.image row.request (may_apply p slot n row is h) request
  length_done p slot n row image false is h request with without = ap length without

  pub perform_does : (p : Parts A) (slot n : ℕ) (row : Row A) (image : List ℕ) (memory : Bool) (reply : ReplyMessage) (q : Queue (Row A)) (b : Box) (w : Whole) → IsLone p → whole_of p ≡ w → item_held p.queue slot n ≡ Some row
      → q ≡ after_finish p.queue n → b ≡ after_put p.sessions row.session reply
      → OnTrue memory ((image ≡ image_after p.image row.request) × (reply ≡ record { error = 0; cookie = row.request.head.cookie; content = data_of p.image row.request }))
      → OnFalse memory ((image ≡ p.image) × (may_want_memory row.request ≡ true) × (reply ≡ record { error = 12; cookie = row.request.head.cookie; content = [] }))
      → Does {A = A} w (whole_of (record p { image = image; queue = q; sessions = b; count = p.count + 1 })) (step.Perform n memory) (said.Performed memory)
  perform_does p slot n row image memory reply q b w is e h finishes puts with without =
      subst (λ (v : Whole). Does {A = A} v (whole_of (record p { image = image; queue = q; sessions = b; count = p.count + 1 })) (step.Perform n memory) (said.Performed memory)) e
      (subst (λ (x : Queue (Row A)). Does {A = A} (whole_of p) (whole_of (record p { image = image; queue = x; sessions = b; count = p.count + 1 })) (step.Perform n memory) (said.Performed memory)) (sym finishes)
      (subst (λ (x : Box). Does {A = A} (whole_of p) (whole_of (record p { image = image; queue = after_finish p.queue n; sessions = x; count = p.count + 1 })) (step.Perform n memory) (said.Performed memory)) (sym puts)
      (record { did = by memory with without; terms = refl; inflight = refl })))
    where
      by : (m : Bool) → OnTrue m ((image ≡ image_after p.image row.request) × (reply ≡ record { error = 0; cookie = row.request.head.cookie; content = data_of p.image row.request }))
          → OnFalse m ((image ≡ p.image) × (may_want_memory row.request ≡ true) × (reply ≡ record { error = 12; cookie = row.request.head.cookie; content = [] }))
          → own_step {A = A} (terms_at p) (state_at p) (step.Perform n m) ≡ record {
            state = record (state_at p) {
              image = image;
              out = map out_job (fin.entries (fin.remove p.queue.out n));
              sessions = post_at row.session reply p.sessions.sessions;
              count = p.count + 1;
            };
            answer = said.Performed m;
          }
      by true got lost =
          ap (λ (o : Option Job). when_some o (λ job. if not true && may_want_memory job.request then moves {A = A} (undone (state_at p) job) (said.Performed false) else moves (done (state_at p) job) (said.Performed true)) (stays (state_at p) said.NotOut)) (found_held p slot n row h)
          ∙ (λ i. record {
            state = record (state_at p) {
              image = sym got.0 i;
              out = sym (out_is p.queue n) i;
              sessions = post_at row.session (sym got.1 i) p.sessions.sessions;
              count = p.count + 1;
            };
            answer = said.Performed true;
          })
      by false got lost =
          ap (λ (o : Option Job). when_some o (λ job. if not false && may_want_memory job.request then moves {A = A} (undone (state_at p) job) (said.Performed false) else moves (done (state_at p) job) (said.Performed true)) (stays (state_at p) said.NotOut)) (found_held p slot n row h)
          ∙ ap (λ c. if c then moves {A = A} (undone (state_at p) (out_job (n, (slot, row)))) (said.Performed false) else moves (done (state_at p) (out_job (n, (slot, row)))) (said.Performed true)) lost.1
          ∙ (λ i. record {
            state = record (state_at p) {
              image = sym lost.0 i;
              out = sym (out_is p.queue n) i;
              sessions = post_at row.session (sym lost.2 i) p.sessions.sessions;
              count = p.count + 1;
            };
            answer = said.Performed false;
          })

  pub perform_slots : (p : Parts A) (n : ℕ) (q : Queue (Row A)) (w : Whole) → IsLone p → whole_of p ≡ w → q ≡ after_finish p.queue n → map slot_of (fin.entries q.out) ≡ slots_without w.state.out w.slots n
  perform_slots p n q w is e finishes =
      ap (λ (x : Queue (Row A)). map slot_of (fin.entries x.out)) finishes ∙ ap (map slot_of) (entries-remove p.queue.out n) ∙ slots-filter n (fin.entries p.queue.out) ∙ ap (λ (v : Whole). slots_without v.state.out v.slots n) e

  pub perform_at : (p : Parts A) (slot n : ℕ) (row : Row A) (w : Whole) → IsLone p → whole_of p ≡ w → item_held p.queue slot n ≡ Some row → slot_at w n ≡ Some slot
  perform_at p slot n row w is e h = sym (slot_is p n w is e) ∙ ap slot_in (held_get p.queue slot n row h)

  pub not_at : (p : Parts A) (slot n : ℕ) (w : Whole) → IsLone p → whole_of p ≡ w → None ≡ item_held p.queue slot n → slot_at w n ≢ Some slot
  not_at p slot n w is e none there = by (fin.get p.queue.out n) none (slot_is p n w is e ∙ there)
    where
      by : (o : Option (ℕ × Row A)) → None ≡ item_if o slot → slot_in o ≡ Some slot → ⊥
      by None f g = cc
      by (Some r) f g =
          let same : r.0 ≡ slot = cc in
          let no : None ≡ Some r.1 = f ∙ ap (λ b. if b then Some r.1 else None) (eq-eqb r.0 slot same) in
          cc

  -- the number is in service in its slot
  pub held_at : (p : Parts A) (slot n : ℕ) → Some slot ≡ slot_in (fin.get p.queue.out n) → None ≡ item_held p.queue slot n → ⊥
  held_at p slot n there none = by (fin.get p.queue.out n) there none
    where
      by : (o : Option (ℕ × Row A)) → Some slot ≡ slot_in o → None ≡ item_if o slot → ⊥
      by None f g = cc
      by (Some r) f g =
          let same : r.0 ≡ slot = cc in
          let no : None ≡ Some r.1 = g ∙ ap (λ b. if b then Some r.1 else None) (eq-eqb r.0 slot same) in
          cc

  module _ (p : Parts A) (slot n : ℕ) (row : Row A) (image content : List ℕ) (error : ℕ) (memory : Bool) (q : Queue (Row A)) (b : Box) (w : Whole)
      (is : IsLone p) (e : whole_of p ≡ w) (h : Some row ≡ item_held p.queue slot n) (settles : Settles p.queue p.sessions slot n memory content q b)
      (with : OnTrue memory ((error ≡ 0) × (content ≡ data_of p.image row.request) × (image ≡ image_after p.image row.request)))
      (without : OnFalse memory ((error ≡ 12) × (content ≡ []) × (image ≡ p.image) × IsTrue (may_want_memory row.request))) where
    abbrev again : Row A
    again = settles.row

    same_row : row ≡ again
    same_row = let both : Some row ≡ Some again = h ∙ settles.held in cc

    long_still : length image ≡ length p.image
    long_still = length_done p slot n again image memory is settles.held settles.request (by memory with) (less memory without)
      where
        by : (m : Bool) → OnTrue m ((error ≡ 0) × (content ≡ data_of p.image row.request) × (image ≡ image_after p.image row.request)) → OnTrue m (image ≡ image_after p.image again.request)
        by true x = x.2 ∙ ap (λ (r : Row A). image_after p.image r.request) same_row
        by false x = x

        less : (m : Bool) → OnFalse m ((error ≡ 12) × (content ≡ []) × (image ≡ p.image) × IsTrue (may_want_memory row.request)) → OnFalse m (image ≡ p.image)
        less true x = x
        less false x = x.2

    pub performed_lone : IsLone (record p { image = image; queue = q; sessions = b; count = p.count + 1 })
    performed_lone = lone-perform p slot n again image _ q b is settles.held long_still settles.finished settles.replied

    pub performed_does : (slot_at w n ≡ Some slot) × Does {A = A} w (whole_of (record p { image = image; queue = q; sessions = b; count = p.count + 1 })) (step.Perform n memory) (said.Performed memory)
    performed_does = (perform_at p slot n again w is e settles.held, perform_does p slot n again image memory (reply_to memory again.request.head.cookie content) q b w is e settles.held settles.finished settles.replied (by memory with) (less memory without))
      where
        by : (m : Bool) → OnTrue m ((error ≡ 0) × (content ≡ data_of p.image row.request) × (image ≡ image_after p.image row.request))
            → OnTrue m ((image ≡ image_after p.image again.request) × (reply_to m again.request.head.cookie content ≡ record { error = 0; cookie = again.request.head.cookie; content = data_of p.image again.request }))
        by true x = (
          x.2 ∙ ap (λ (r : Row A). image_after p.image r.request) same_row,
          λ i. record { error = 0; cookie = again.request.head.cookie; content = (x.1 ∙ ap (λ (r : Row A). data_of p.image r.request) same_row) i },
        )
        by false x = x

        less : (m : Bool) → OnFalse m ((error ≡ 12) × (content ≡ []) × (image ≡ p.image) × IsTrue (may_want_memory row.request))
            → OnFalse m ((image ≡ p.image) × (may_want_memory again.request ≡ true) × (reply_to m again.request.head.cookie content ≡ record { error = 12; cookie = again.request.head.cookie; content = [] }))
        less true x = x
        less false x = (x.2, ap (λ (r : Row A). may_want_memory r.request) (sym same_row) ∙ x.3, refl)

  -- the same of a request that was taken out of service first, and then performed
  module _ (p : Parts A) (slot n : ℕ) (row : Row A) (image : List ℕ) (memory : Bool) (q : Queue (Row A)) (b : Box) (w : Whole)
      (is : IsLone p) (e : whole_of p ≡ w) (h : Some row ≡ item_held p.queue slot n) (request : IsRequest row.request) (finished : q ≡ after_finish p.queue n)
      (replied : b ≡ after_put p.sessions row.session (reply_to memory row.request.head.cookie (data_of p.image row.request)))
      (with : OnTrue memory (image ≡ image_after p.image row.request)) (without : OnFalse memory ((image ≡ p.image) × IsTrue (may_want_memory row.request))) where
    pub answered_lone : IsLone (record p { image = image; queue = q; sessions = b; count = p.count + 1 })
    answered_lone = lone-perform p slot n row image _ q b is (sym h) (length_done p slot n row image memory is (sym h) request with (stays_so memory without)) finished replied
      where
        stays_so : (m : Bool) → OnFalse m ((image ≡ p.image) × IsTrue (may_want_memory row.request)) → OnFalse m (image ≡ p.image)
        stays_so true x = x
        stays_so false x = x.0

    pub answered_does : (slot_at w n ≡ Some slot) × Does {A = A} w (whole_of (record p { image = image; queue = q; sessions = b; count = p.count + 1 })) (step.Perform n memory) (said.Performed memory)
    answered_does = (perform_at p slot n row w is e (sym h), perform_does p slot n row image memory (reply_to memory row.request.head.cookie (data_of p.image row.request)) q b w is e (sym h) finished replied (by memory with) (less memory without))
      where
        by : (m : Bool) → OnTrue m (image ≡ image_after p.image row.request)
            → OnTrue m ((image ≡ image_after p.image row.request) × (reply_to m row.request.head.cookie (data_of p.image row.request) ≡ record { error = 0; cookie = row.request.head.cookie; content = data_of p.image row.request }))
        by true x = (x, refl)
        by false x = x

        less : (m : Bool) → OnFalse m ((image ≡ p.image) × IsTrue (may_want_memory row.request))
            → OnFalse m ((image ≡ p.image) × (may_want_memory row.request ≡ true) × (reply_to m row.request.head.cookie (data_of p.image row.request) ≡ record { error = 12; cookie = row.request.head.cookie; content = [] }))
        less true x = x
        less false x = (x.0, x.1, refl)

  -- nothing was in service there: the queue is as it was
  pub nothing_lone : (p : Parts A) (q : Queue (Row A)) → IsLone p → q ≡ p.queue → IsLone (record p { queue = q })
  nothing_lone p q is same = subst (λ (x : Queue (Row A)). IsLone (record p { queue = x })) (sym same) is

  pub nothing_whole : (p : Parts A) (q : Queue (Row A)) (w : Whole) → IsLone p → whole_of p ≡ w → q ≡ p.queue → whole_of (record p { queue = q }) ≡ w
  nothing_whole p q w is e same = ap (λ (x : Queue (Row A)). whole_of (record p { queue = x })) same ∙ e
