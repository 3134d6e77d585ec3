-- What the calls of an export do for one request of its only session.
use Rattle.std.proofs.Common.{◌≡◌, ℕ, ◌+◌, ◌<◌, ◌≤◌, ◌^◌, Bool, true, false, ◌==◌, nat_le, if◌then◌else◌, List, [], ◌∷◌, ◌++◌, Option, Some, None, Result, Ok, Err, length, refl, sym, ap, subst, ◌∙◌, inl, inr, arith, rules}
use Rattle.std.specs.Prelude.{ℤ, slice_get, IsSome}
use Rattle.std.proofs.lemmas.Bool.{cases_Bool, eq-eqb, leb-true, leb-false}
use Rattle.nbd_wire.specs.Grammar.{RequestMessage, ReplyMessage}
use Rattle.nbd_commands.specs.Terms.{terms_of}
use Rattle.tag_clock.specs.Intervals.{Intervals}
use Rattle.nbd_commands.specs.Exports.{Export, IsExport}
use Rattle.nbd_commands.specs.Verdict.{verdict_of}
use Rattle.nbd_commands.specs.Meaning.{image_after, data_of}
use Rattle.reply_box.specs.Sessions.{is_here_at, outbox_at}
use Rattle.export_queue.specs.declared.Picked.{Picked}
use Rattle.lone_export.specs.Alone.{Alone, Moved, own_step, limit_tag, opening}
use Rattle.lone_export.specs.Lone.{Whole, opening_of, Does, slot_among, slot_at, slots_without, slots_picked, step_answer_of_pick, step_answer_of_refusal, step_answer_of_arrive}
use Rattle.lone_export.specs.declared.step.Step.TheVariants.{Attach, Arrive, Pick, Perform, Take}
use Rattle.lone_export.specs.declared.step.StepAnswer.{StepAnswer}
use Rattle.lone_export.specs.declared.step.StepAnswer.TheVariants as said
use Rattle.lone_export.specs.declared.refusal.ArriveRefusal.{ArriveRefusal}
use Rattle.lone_export.specs.declared.refusal.ArriveRefusal.TheVariants as arriving
use Rattle.lone_export.specs.declared.refusal.NotArrived.{NotArrived}
use Rattle.lone_export.specs.declared.refusal.Arrived.{Arrived}
use Rattle.lone_export.specs.declared.refusal.Arrived.TheVariants as arrival
use Rattle.nbd_session.specs.Requests.{opened}
use Rattle.nbd_session.specs.Plainly.{reply_of, behind, IsIdle}
use Rattle.nbd_session.proofs.Turns.{rest, holding, job_of, waiting, being_out, at_rest, arrives_worn, arrives_refused, arrives_accepted, performs, takes, opened_is, opened_rests, not_zero, done_reply, refused_reply, behind_refused, behind_accepted}

-- a request was served up to its reply
pub record IsReplied (old w : Whole) (m : RequestMessage) : Type 0 where
  pub image : List ℕ
  pub next : ℕ
  pub last : Option ℤ
  pub rates : Intervals
  pub count : ℕ
  pub holds : w.state ≡ holding image next last rates count (reply_of old.terms old.state.image m)
  pub left : rest image next last rates (count + 1) ≡ behind old.terms old.state m
  pub fresh : old.state.count < 2 ^ 56
  pub same_terms : w.terms ≡ old.terms
  pub same_inflight : w.inflight ≡ old.inflight
  pub same_slots : w.slots ≡ old.slots

-- it was accepted, and waits
pub record IsWaiting (old w : Whole) (m : RequestMessage) : Type 0 where
  pub waits : w.state ≡ waiting old.state.image old.state.next (Some (limit_tag (rest old.state.image old.state.next old.state.last old.state.rates old.state.count) 0)) old.state.rates (old.state.count + 1) m
  pub good : (verdict_of old.terms m == 0) ≡ true
  pub fresh : old.state.count < 2 ^ 56
  pub same_terms : w.terms ≡ old.terms
  pub same_inflight : w.inflight ≡ old.inflight
  pub same_slots : w.slots ≡ old.slots

-- it is out, in this slot
pub record IsOut (old w : Whole) (m : RequestMessage) (slot : ℕ) : Type 0 where
  pub is_out : w.state ≡ being_out old.state.image old.state.next (Some (limit_tag (rest old.state.image old.state.next old.state.last old.state.rates old.state.count) 0)) old.state.rates ((old.state.count + 1) + 1) m
  pub good : (verdict_of old.terms m == 0) ≡ true
  pub fresh : old.state.count < 2 ^ 56
  pub same_terms : w.terms ≡ old.terms
  pub same_inflight : w.inflight ≡ old.inflight
  pub in_slot : w.slots ≡ slot ∷ []

module _ (A : Type 0) where
  -- ---- attach

  pub opens : (old new : Whole) (n : ℕ) → old.state ≡ opening old.terms → Does {A = A} old new Attach (said.Session n) → new.slots ≡ old.slots → new ≡ record old { state = opened old.terms }
  opens old new n is d slots =
      let did = subst (λ (s : Alone). own_step {A = A} old.terms s Attach ≡ record { state = new.state; answer = said.Session n }) is d.did in
      let state : new.state ≡ opened old.terms = ap (λ (v : Moved A). v.state) (sym did ∙ opened_is A old.terms) in
      λ i. record { terms = d.terms i; inflight = d.inflight i; state = state i; slots = slots i }

  -- ---- arrive

  -- an arrival at an export at rest, as a step of that state
  moved : (old new : Whole) (m : RequestMessage) (answer : StepAnswer A) → IsIdle old → Does old new (Arrive 0 0 m) answer
      → own_step {A = A} old.terms (rest old.state.image old.state.next old.state.last old.state.rates old.state.count) (Arrive 0 0 m) ≡ record { state = new.state; answer = answer }
  moved old new m answer idle d = subst (λ (s : Alone). own_step {A = A} old.terms s (Arrive 0 0 m) ≡ record { state = new.state; answer = answer }) (at_rest old.state idle.rests) d.did

  never_answered : (error : ℕ) (refusal : ArriveRefusal) → (let a : StepAnswer A = said.Answered error in a ≡ step_answer_of_refusal refusal) → ⊥
  never_answered error arriving.NotOpen e = cc
  never_answered error arriving.Worn e = cc
  never_answered error arriving.Hold e = cc

  never_accepted : (n : ℕ) (tag : ℤ) (refusal : ArriveRefusal) → (let a : StepAnswer A = said.Accepted n tag in a ≡ step_answer_of_refusal refusal) → ⊥
  never_accepted n tag arriving.NotOpen e = cc
  never_accepted n tag arriving.Worn e = cc
  never_accepted n tag arriving.Hold e = cc

  not_answered : (n error : ℕ) (tag : ℤ) → (let a : StepAnswer A = said.Answered error in a ≡ said.Accepted n tag) → ⊥
  not_answered n error tag e = cc

  not_worn : (error : ℕ) → (let a : StepAnswer A = said.Worn in a ≡ said.Answered error) → ⊥
  not_worn error e = cc

  not_worn_accepted : (n : ℕ) (tag : ℤ) → (let a : StepAnswer A = said.Worn in a ≡ said.Accepted n tag) → ⊥
  not_worn_accepted n tag e = cc

  module _ (old new : Whole) (m : RequestMessage) (idle : IsIdle old) where
    room : (0 == old.terms.window) ≡ false
    room = not_zero old.terms.window idle.window

    deep : (0 == old.terms.depth) ≡ false
    deep = not_zero old.terms.depth idle.depth

    answer_of : (v w : Moved A) → v ≡ w → v.answer ≡ w.answer
    answer_of v w e = ap (λ (x : Moved A). x.answer) e

    state_of : (v w : Moved A) → v ≡ w → v.state ≡ w.state
    state_of v w e = ap (λ (x : Moved A). x.state) e

    refused_here : (refusal : ArriveRefusal) → Does {A = A} old new (Arrive 0 0 m) (step_answer_of_refusal refusal) → nat_le (2 ^ 56) old.state.count ≡ false → (good : Bool) → (verdict_of old.terms m == 0) ≡ good → ⊥
    refused_here refusal d fresh false bad =
        never_answered (verdict_of old.terms m) refusal (answer_of _ _ (sym (arrives_refused old.terms old.state.image old.state.next old.state.last old.state.rates old.state.count m fresh room bad) ∙ moved old new m (step_answer_of_refusal refusal) idle d))
    refused_here refusal d fresh true good =
        never_accepted _ _ refusal (answer_of _ _ (sym (arrives_accepted old.terms old.state.image old.state.next old.state.last old.state.rates old.state.count m fresh room good deep) ∙ moved old new m (step_answer_of_refusal refusal) idle d))

    pub arrived_worn : (refusal : ArriveRefusal) → Does {A = A} old new (Arrive 0 0 m) (step_answer_of_refusal refusal) → 2 ^ 56 ≤ old.state.count
    arrived_worn refusal d =
        elim (cases_Bool (nat_le (2 ^ 56) old.state.count)) [
          | inl worn ↦ leb-true (2 ^ 56) old.state.count worn
          | inr fresh ↦ absurd (refused_here refusal d fresh (verdict_of old.terms m == 0) refl)
        ]

    answered_by : (error : ℕ) → Does {A = A} old new (Arrive 0 0 m) (said.Answered error) → new.slots ≡ old.slots → nat_le (2 ^ 56) old.state.count ≡ false → (good : Bool) → (verdict_of old.terms m == 0) ≡ good → IsReplied old new m
    answered_by error d slots fresh true good =
        absurd (not_answered _ error _ (sym (answer_of _ _ (sym (arrives_accepted old.terms old.state.image old.state.next old.state.last old.state.rates old.state.count m fresh room good deep) ∙ moved old new m (said.Answered error) idle d))))
    answered_by error d slots fresh false bad = record {
      image = old.state.image;
      next = old.state.next;
      last = old.state.last;
      rates = old.state.rates;
      count = old.state.count + 1;
      holds =
          sym (state_of _ _ (sym (arrives_refused old.terms old.state.image old.state.next old.state.last old.state.rates old.state.count m fresh room bad) ∙ moved old new m (said.Answered error) idle d))
          ∙ ap (λ (r : ReplyMessage). holding old.state.image old.state.next old.state.last old.state.rates (old.state.count + 1) r) (refused_reply (verdict_of old.terms m) m.head.cookie (data_of old.state.image m) bad);
      left = subst (λ (s : Alone). rest old.state.image old.state.next old.state.last old.state.rates ((old.state.count + 1) + 1) ≡ behind old.terms s m) (sym (at_rest old.state idle.rests))
          (behind_refused old.terms old.state.image old.state.next old.state.last old.state.rates old.state.count m bad);
      fresh = leb-false (2 ^ 56) old.state.count fresh;
      same_terms = d.terms;
      same_inflight = d.inflight;
      same_slots = slots;
    }

    pub arrived_answered : (error : ℕ) → Does {A = A} old new (Arrive 0 0 m) (said.Answered error) → new.slots ≡ old.slots → IsReplied old new m
    arrived_answered error d slots =
        elim (cases_Bool (nat_le (2 ^ 56) old.state.count)) [
          | inl worn ↦ absurd (not_worn error (answer_of _ _ (sym (arrives_worn old.terms old.state.image old.state.next old.state.last old.state.rates old.state.count m worn) ∙ moved old new m (said.Answered error) idle d)))
          | inr fresh ↦ answered_by error d slots fresh (verdict_of old.terms m == 0) refl
        ]

    accepted_by : (n : ℕ) (tag : ℤ) → Does {A = A} old new (Arrive 0 0 m) (said.Accepted n tag) → new.slots ≡ old.slots → nat_le (2 ^ 56) old.state.count ≡ false → (good : Bool) → (verdict_of old.terms m == 0) ≡ good → IsWaiting old new m
    accepted_by n tag d slots fresh false bad =
        absurd (not_answered n _ tag (answer_of _ _ (sym (arrives_refused old.terms old.state.image old.state.next old.state.last old.state.rates old.state.count m fresh room bad) ∙ moved old new m (said.Accepted n tag) idle d)))
    accepted_by n tag d slots fresh true good = record {
      waits = sym (state_of _ _ (sym (arrives_accepted old.terms old.state.image old.state.next old.state.last old.state.rates old.state.count m fresh room good deep) ∙ moved old new m (said.Accepted n tag) idle d));
      good = good;
      fresh = leb-false (2 ^ 56) old.state.count fresh;
      same_terms = d.terms;
      same_inflight = d.inflight;
      same_slots = slots;
    }

    pub arrived_accepted : (n : ℕ) (tag : ℤ) → Does {A = A} old new (Arrive 0 0 m) (said.Accepted n tag) → new.slots ≡ old.slots → IsWaiting old new m
    arrived_accepted n tag d slots =
        elim (cases_Bool (nat_le (2 ^ 56) old.state.count)) [
          | inl worn ↦ absurd (not_worn_accepted n tag (answer_of _ _ (sym (arrives_worn old.terms old.state.image old.state.next old.state.last old.state.rates old.state.count m worn) ∙ moved old new m (said.Accepted n tag) idle d)))
          | inr fresh ↦ accepted_by n tag d slots fresh (verdict_of old.terms m == 0) refl
        ]

  -- ---- pick

  picked_not_nothing : (n : ℕ) → (let a : StepAnswer A = said.Picked n in a ≡ said.Nothing) → ⊥
  picked_not_nothing n e = cc

  same_picked : (n k : ℕ) → (let a : StepAnswer A = said.Picked n in a ≡ said.Picked k) → n ≡ k
  same_picked n k e = cc

  same_reply : (r q : ReplyMessage) → (let a : StepAnswer A = said.Reply r in a ≡ said.Reply q) → r ≡ q
  same_reply r q e = cc

  pub may_pick : (old w : Whole) (m : RequestMessage) → IsIdle old → IsWaiting old w m → length w.state.out < w.inflight
  may_pick old w m idle h =
      subst (λ (s : Alone). length s.out < w.inflight) (sym h.waits) (subst (λ (n : ℕ). 0 < n) (sym h.same_inflight) idle.inflight)

  picked_did : (old w new : Whole) (m : RequestMessage) (answer : StepAnswer A) → IsWaiting old w m → Does {A = A} w new Pick answer
      → (let v : Moved A = record { state = being_out old.state.image old.state.next (Some (limit_tag (rest old.state.image old.state.next old.state.last old.state.rates old.state.count) 0)) old.state.rates ((old.state.count + 1) + 1) m; answer = said.Picked old.state.next } in v ≡ record { state = new.state; answer = answer })
  picked_did old w new m answer h d = subst (λ (s : Alone). own_step {A = A} w.terms s Pick ≡ record { state = new.state; answer = answer }) h.waits d.did

  pub picked_some : (old w new : Whole) (m : RequestMessage) → IsWaiting old w m → Does {A = A} w new Pick (step_answer_of_pick None) → ⊥
  picked_some old w new m h d =
      picked_not_nothing old.state.next (ap (λ (x : Moved A). x.answer) (picked_did old w new m said.Nothing h d))

  pub picked_out : (old w new : Whole) (m : RequestMessage) (p : Picked) → IsIdle old → IsWaiting old w m → Does {A = A} w new Pick (step_answer_of_pick (Some p)) → new.slots ≡ slots_picked w.slots (Some p) → IsOut old new m p.slot × (p.number ≡ old.state.next)
  picked_out old w new m p idle h d slots =
      let did = picked_did old w new m (said.Picked p.number) h d in (
        record {
          is_out = sym (ap (λ (x : Moved A). x.state) did);
          good = h.good;
          fresh = h.fresh;
          same_terms = d.terms ∙ h.same_terms;
          same_inflight = d.inflight ∙ h.same_inflight;
          in_slot = slots ∙ ap (λ (x : List ℕ). x ++ p.slot ∷ []) (h.same_slots ∙ idle.slots);
        },
        sym (same_picked old.state.next p.number (ap (λ (x : Moved A). x.answer) did)),
      )

  -- ---- perform

  found : (n slot : ℕ) → (if n == n then Some slot else None) ≡ Some slot
  found n slot = let same : (n == n) ≡ true = eq-eqb n n refl in rw same refl

  pub out_there : (old w : Whole) (m : RequestMessage) (n slot : ℕ) → IsOut old w m slot → n ≡ old.state.next → slot_at w n ≡ Some slot
  out_there old w m n slot h is =
      subst (λ (k : ℕ). slot_at w k ≡ Some slot) (sym is)
      (subst (λ (s : Alone). slot_among s.out w.slots old.state.next ≡ Some slot) (sym h.is_out)
      (subst (λ (x : List ℕ). slot_among (job_of old.state.next m ∷ []) x old.state.next ≡ Some slot) (sym h.in_slot) (found old.state.next slot)))

  none_left : (n slot : ℕ) (m : RequestMessage) → slots_without (job_of n m ∷ []) (slot ∷ []) n ≡ []
  none_left n slot m = let same : (n == n) ≡ true = eq-eqb n n refl in rw same refl

  pub performed : (old w new : Whole) (m : RequestMessage) (n slot : ℕ) → IsIdle old → IsOut old w m slot → n ≡ old.state.next → Does {A = A} w new (Perform n true) (said.Performed true) → new.slots ≡ slots_without w.state.out w.slots n → IsReplied old new m
  performed old w new m n slot idle h is d slots =
      let tag = Some (limit_tag (rest old.state.image old.state.next old.state.last old.state.rates old.state.count) 0) in
      let at = subst (λ (k : ℕ). own_step {A = A} w.terms w.state (Perform k true) ≡ record { state = new.state; answer = said.Performed true }) is d.did in
      let did = subst (λ (s : Alone). own_step {A = A} w.terms s (Perform old.state.next true) ≡ record { state = new.state; answer = said.Performed true }) h.is_out at in
      let none : slots_without w.state.out w.slots n ≡ [] =
      subst (λ (k : ℕ). slots_without w.state.out w.slots k ≡ []) (sym is)
      (subst (λ (s : Alone). slots_without s.out w.slots old.state.next ≡ []) (sym h.is_out)
      (subst (λ (x : List ℕ). slots_without (job_of old.state.next m ∷ []) x old.state.next ≡ []) (sym h.in_slot) (none_left old.state.next slot m))) in
      record {
        image = image_after old.state.image m;
        next = old.state.next + 1;
        last = tag;
        rates = old.state.rates;
        count = ((old.state.count + 1) + 1) + 1;
        holds =
            sym (ap (λ (x : Moved A). x.state) (sym (performs {A = A} w.terms old.state.image old.state.next tag old.state.rates ((old.state.count + 1) + 1) m) ∙ did))
            ∙ ap (λ (r : ReplyMessage). holding (image_after old.state.image m) (old.state.next + 1) tag old.state.rates (((old.state.count + 1) + 1) + 1) r) (done_reply (verdict_of old.terms m) m.head.cookie (data_of old.state.image m) h.good);
        left = subst (λ (s : Alone). rest (image_after old.state.image m) (old.state.next + 1) tag old.state.rates ((((old.state.count + 1) + 1) + 1) + 1) ≡ behind old.terms s m) (sym (at_rest old.state idle.rests))
            (behind_accepted old.terms old.state.image old.state.next old.state.last old.state.rates old.state.count m h.good);
        fresh = h.fresh;
        same_terms = d.terms ∙ h.same_terms;
        same_inflight = d.inflight ∙ h.same_inflight;
        same_slots = slots ∙ (none ∙ sym idle.slots);
      }

  -- ---- take

  pub replied_here : (old w : Whole) (m : RequestMessage) → IsReplied old w m → is_here_at w.state.sessions 0 ≡ true
  replied_here old w m h = subst (λ (s : Alone). is_here_at s.sessions 0 ≡ true) (sym h.holds) refl

  pub replied_there : (old w : Whole) (m : RequestMessage) → IsReplied old w m → IsSome (slice_get (outbox_at w.state.sessions 0) 0)
  replied_there old w m h = subst (λ (s : Alone). IsSome (slice_get (outbox_at s.sessions 0) 0)) (sym h.holds) (search rules)

  pub replied_taken : (old w new : Whole) (m : RequestMessage) (reply : ReplyMessage) → IsReplied old w m → Does {A = A} w new (Take 0) (said.Reply reply) → new.slots ≡ w.slots
      → (reply ≡ reply_of old.terms old.state.image m) × (new ≡ record old { state = behind old.terms old.state m })
  replied_taken old w new m reply h d slots =
      let did = subst (λ (s : Alone). own_step {A = A} w.terms s (Take 0) ≡ record { state = new.state; answer = said.Reply reply }) h.holds d.did in
      let all = sym did ∙ takes {A = A} w.terms h.image h.next h.last h.rates h.count (reply_of old.terms old.state.image m) in
      let state : new.state ≡ behind old.terms old.state m = ap (λ (x : Moved A). x.state) all ∙ h.left in
      (same_reply reply (reply_of old.terms old.state.image m) (ap (λ (x : Moved A). x.answer) all), λ i. record { terms = (d.terms ∙ h.same_terms) i; inflight = (d.inflight ∙ h.same_inflight) i; state = state i; slots = (slots ∙ h.same_slots) i })

  -- ---- the same, by what the calls answered

  module _ (old new : Whole) (m : RequestMessage) (t : ℕ) (zero : t ≡ 0) (idle : IsIdle old) where
    abbrev Arrives : Result Arrived (NotArrived A) → Type 0
    Arrives answer = Does {A = A} old new (Arrive 0 t m) (step_answer_of_arrive answer)

    at_zero : (answer : StepAnswer A) → Does {A = A} old new (Arrive 0 t m) answer → Does {A = A} old new (Arrive 0 0 m) answer
    at_zero answer d = subst (λ (k : ℕ). Does {A = A} old new (Arrive 0 k m) answer) zero d

    pub worn_by : (e : NotArrived A) → Arrives (Err e) → 2 ^ 56 ≤ old.state.count
    worn_by e d = arrived_worn old new m idle e.refusal (at_zero (step_answer_of_refusal e.refusal) d)

    pub replied_by : (arrived : Arrived) (error : ℕ) → arrived ≡ arrival.Answered error → Arrives (Ok arrived) → new.slots ≡ old.slots → IsReplied old new m
    replied_by arrived error is d slots = arrived_answered old new m idle error (at_zero (said.Answered error) (subst (λ (a : Arrived). Arrives (Ok a)) is d)) slots

    pub waiting_by : (arrived : Arrived) (n : ℕ) (tag : ℤ) → arrived ≡ arrival.Accepted n tag → Arrives (Ok arrived) → new.slots ≡ old.slots → IsWaiting old new m
    waiting_by arrived n tag is d slots = arrived_accepted old new m idle n tag (at_zero (said.Accepted n tag) (subst (λ (a : Arrived). Arrives (Ok a)) is d)) slots

  pub out_by : (old w new : Whole) (m : RequestMessage) (p : Picked) → IsIdle old → IsWaiting old w m → Does {A = A} w new Pick (said.Picked p.number) → new.slots ≡ w.slots ++ p.slot ∷ [] → IsOut old new m p.slot × (p.number ≡ old.state.next)
  out_by old w new m p idle h d slots = picked_out old w new m p idle h d slots

  pub performed_by : (old w new : Whole) (m : RequestMessage) (n slot : ℕ) (memory : Bool) → IsIdle old → IsOut old w m slot → n ≡ old.state.next → memory ≡ true
      → Does {A = A} w new (Perform n memory) (said.Performed memory) → new.slots ≡ slots_without w.state.out w.slots n → IsReplied old new m
  performed_by old w new m n slot memory idle h is there d slots = performed old w new m n slot idle h is (subst (λ (b : Bool). Does {A = A} w new (Perform n b) (said.Performed b)) there d) slots

-- an export whose session was just attached
pub idle_at_first : (e : Export) (old new : Whole) → IsExport e → old ≡ opening_of (terms_of e) 1 → new ≡ record old { state = opened old.terms } → IsIdle new
idle_at_first e old new valid is left =
    let first : IsIdle (record { terms = terms_of e; inflight = 1; state = opened (terms_of e); slots = [] }) = record {
      rests = opened_rests (terms_of e);
      slots = refl;
      depth = omega (arith, valid.depth.least);
      window = omega (arith, valid.window.least);
      inflight = omega arith;
    } in
    let was : new ≡ record { terms = terms_of e; inflight = 1; state = opened (terms_of e); slots = [] } =
    left ∙ ap (λ (w : Whole). record w { state = opened w.terms }) is in
    subst IsIdle (sym was) first
