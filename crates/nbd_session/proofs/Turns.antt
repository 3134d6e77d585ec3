-- The steps for one request of the only session, where no other request is there.
use Rattle.std.proofs.Common.{◌≡◌, ℕ, ◌+◌, ◌<◌, ◌≤◌, ◌^◌, ◌⊎◌, Bool, true, false, ◌==◌, nat_le, if◌then◌else◌, List, [], ◌∷◌, ◌++◌, Option, Some, refl, sym, ap, subst, ◌∙◌, inl, inr, arith}
use Rattle.std.specs.Prelude.{ℤ, ◌↔◌}
use Rattle.std.proofs.lemmas.Bool.{cases_Bool, cases_lt, eq-eqb, eqb-true, ne_eqb, le-leb, lt-leb}
use Rattle.std.proofs.lemmas.List.{append-nil}
use Rattle.std.specs.List.{flat_map}
use Rattle.nbd_wire.specs.Grammar.{RequestMessage, ReplyMessage, reply_text}
use Rattle.nbd_commands.specs.Terms.{Terms}
use Rattle.tag_clock.specs.Intervals.{Intervals}
use Rattle.nbd_commands.specs.Verdict.{verdict_of}
use Rattle.nbd_commands.specs.Meaning.{image_after, data_of}
use Rattle.reply_box.specs.Sessions.{new_session}
use Rattle.reply_box.specs.declared.seat.SessionState.TheVariants as place
use Rattle.lone_export.specs.Alone.{Alone, Job, Moved, own_step, alone, answers_alone, limit_tag, opening}
use Rattle.lone_export.specs.declared.step.Step.TheVariants.{Attach, Arrive, Pick, Perform, Take}
use Rattle.lone_export.specs.declared.step.StepAnswer.{StepAnswer}
use Rattle.lone_export.specs.declared.step.StepAnswer.TheVariants as said
use Rattle.nbd_session.specs.declared.outcomes.End.{End}
use Rattle.nbd_session.specs.Requests.{opened, arriving, after, after_all, reply_to, replies, steps_behind, sent, FindsWorn, AreAnswered, Serves}
use Rattle.nbd_session.specs.Plainly.{reply_of, image_behind, image_behind_all, steps_for, steps_for_all, plain_replies, zeros, behind, IsAtRest, ArePlain, AreAnsweredInTime, ServesPlainly}

-- ---- the states on the way

abbrev pub rest : List ℕ → ℕ → Option ℤ → Intervals → ℕ → Alone
rest image next last rates count = record { image = image; waiting = []; out = []; next = next; last = last; rates = rates; sessions = new_session ∷ []; count = count }

-- one reply isn't taken
abbrev pub holding : List ℕ → ℕ → Option ℤ → Intervals → ℕ → ReplyMessage → Alone
holding image next last rates count reply = record { image = image; waiting = []; out = []; next = next; last = last; rates = rates; sessions = record { state = place.Open; outbox = reply ∷ [] } ∷ []; count = count }

-- a request waits, or is out
abbrev pub job_of : ℕ → RequestMessage → Job
job_of n m = record { number = n; session = 0; request = m }

abbrev pub waiting : List ℕ → ℕ → Option ℤ → Intervals → ℕ → RequestMessage → Alone
waiting image next last rates count m = record { image = image; waiting = job_of next m ∷ []; out = []; next = next + 1; last = last; rates = rates; sessions = new_session ∷ []; count = count }

abbrev pub being_out : List ℕ → ℕ → Option ℤ → Intervals → ℕ → RequestMessage → Alone
being_out image next last rates count m = record { image = image; waiting = []; out = job_of next m ∷ []; next = next + 1; last = last; rates = rates; sessions = new_session ∷ []; count = count }

pub at_rest : (state : Alone) → IsAtRest state → state ≡ rest state.image state.next state.last state.rates state.count
at_rest state h = λ i. record { image = state.image; waiting = h.none_waits i; out = h.none_out i; next = state.next; last = state.last; rates = state.rates; sessions = h.session i; count = state.count }

-- ---- the steps

module _ {A : Type 0} (terms : Terms) (image : List ℕ) (next : ℕ) (last : Option ℤ) (rates : Intervals) (count : ℕ) (m : RequestMessage) where
  pub arrives_worn : nat_le (2 ^ 56) count ≡ true → own_step {A = A} terms (rest image next last rates count) (Arrive 0 0 m) ≡ record { state = rest image next last rates count; answer = said.Worn }
  arrives_worn worn = rw worn refl

  pub arrives_refused : nat_le (2 ^ 56) count ≡ false → (0 == terms.window) ≡ false → (verdict_of terms m == 0) ≡ false
      → own_step {A = A} terms (rest image next last rates count) (Arrive 0 0 m)
      ≡ record { state = holding image next last rates (count + 1) (record { error = verdict_of terms m; cookie = m.head.cookie; content = [] }); answer = said.Answered (verdict_of terms m) }
  arrives_refused fresh room error = rw (fresh, room, error) refl

  pub arrives_accepted : nat_le (2 ^ 56) count ≡ false → (0 == terms.window) ≡ false → (verdict_of terms m == 0) ≡ true → (0 == terms.depth) ≡ false
      → own_step {A = A} terms (rest image next last rates count) (Arrive 0 0 m)
      ≡ record { state = waiting image next (Some (limit_tag (rest image next last rates count) 0)) rates (count + 1) m; answer = said.Accepted next (limit_tag (rest image next last rates count) 0) }
  arrives_accepted fresh room good deep = rw (fresh, room, good, deep) refl

  pub picks : own_step {A = A} terms (waiting image next last rates count m) Pick ≡ record { state = being_out image next last rates (count + 1) m; answer = said.Picked next }
  picks = refl

  pub performs : own_step {A = A} terms (being_out image next last rates count m) (Perform next true)
      ≡ record { state = holding (image_after image m) (next + 1) last rates (count + 1) (record { error = 0; cookie = m.head.cookie; content = data_of image m }); answer = said.Performed true }
  performs = let same : (next == next) ≡ true = eq-eqb next next refl in rw (same, same) refl

module _ {A : Type 0} (terms : Terms) (image : List ℕ) (next : ℕ) (last : Option ℤ) (rates : Intervals) (count : ℕ) (reply : ReplyMessage) where
  pub takes : own_step {A = A} terms (holding image next last rates count reply) (Take 0) ≡ record { state = rest image next last rates (count + 1); answer = said.Reply reply }
  takes = refl

-- ---- whether the export is worn

pub worn_or_not : (terms : Terms) (state : Alone) (m : RequestMessage) → FindsWorn terms state m ⊎ (FindsWorn terms state m → ⊥)
worn_or_not terms state m = by (arriving terms state m).answer
  where
    by : (answer : StepAnswer (Unit {0})) → (answer ≡ said.Worn) ⊎ (answer ≡ said.Worn → ⊥)
    by said.Worn = inl refl
    by answer = inr (λ e. cc)

-- ---- all steps for one request

same_count : (image : List ℕ) (next : ℕ) (last : Option ℤ) (rates : Intervals) (a b : ℕ) → a ≡ b → rest image next last rates a ≡ rest image next last rates b
same_count image next last rates a b e = ap (λ (n : ℕ). rest image next last rates n) e

-- the reply where the verdict is this
abbrev pub reply_at : ℕ → ℕ → List ℕ → ReplyMessage
reply_at v cookie content = record { error = v; cookie = cookie; content = if v == 0 then content else [] }

pub done_reply : (v cookie : ℕ) (content : List ℕ) → (v == 0) ≡ true → record { error = 0; cookie = cookie; content = content } ≡ reply_at v cookie content
done_reply v cookie content good = let e : v ≡ 0 = eqb-true v 0 good in rw e refl

pub refused_reply : (v cookie : ℕ) (content : List ℕ) → (v == 0) ≡ false → record { error = v; cookie = cookie; content = [] } ≡ reply_at v cookie content
refused_reply v cookie content bad = rw bad refl

module _ (terms : Terms) (image : List ℕ) (next : ℕ) (last : Option ℤ) (rates : Intervals) (count : ℕ) (m : RequestMessage) where
  abbrev here : Alone
  here = rest image next last rates count

  abbrev tagged : Option ℤ
  tagged = Some (limit_tag here 0)

  pub behind_refused : (verdict_of terms m == 0) ≡ false → rest image next last rates ((count + 1) + 1) ≡ behind terms here m
  unfolding behind
  behind_refused bad = rw bad (same_count image next last rates ((count + 1) + 1) (count + 2) (omega arith))

  pub behind_accepted : (verdict_of terms m == 0) ≡ true → rest (image_after image m) (next + 1) tagged rates ((((count + 1) + 1) + 1) + 1) ≡ behind terms here m
  unfolding behind
  behind_accepted good = rw good (same_count (image_after image m) (next + 1) tagged rates ((((count + 1) + 1) + 1) + 1) (count + 4) (omega arith))

  after_by : nat_le (2 ^ 56) count ≡ false → (0 == terms.window) ≡ false → (0 == terms.depth) ≡ false → (good : Bool) → (verdict_of terms m == 0) ≡ good → after terms here m ≡ behind terms here m
  unfolding after arriving
  after_by fresh room deep false bad =
      ap (λ (v : Moved (Unit {0})). alone terms v.state (steps_behind v.answer)) (arrives_refused terms image next last rates count m fresh room bad) ∙ behind_refused bad
  after_by fresh room deep true good =
      ap (λ (v : Moved (Unit {0})). alone terms v.state (steps_behind v.answer)) (arrives_accepted terms image next last rates count m fresh room good deep)
      ∙ (ap (λ (v : Moved (Unit {0})). (own_step {A = Unit {0}} terms v.state (Take 0)).state) (performs terms image next tagged rates ((count + 1) + 1) m) ∙ behind_accepted good)

  said_by : nat_le (2 ^ 56) count ≡ false → (0 == terms.window) ≡ false → (0 == terms.depth) ≡ false → (good : Bool) → (verdict_of terms m == 0) ≡ good → reply_to terms here m ≡ reply_text (reply_of terms image m)
  unfolding reply_to arriving
  said_by fresh room deep false bad =
      ap (λ (v : Moved (Unit {0})). flat_map sent (answers_alone terms v.state (steps_behind v.answer))) (arrives_refused terms image next last rates count m fresh room bad)
      ∙ (append-nil (reply_text (record { error = verdict_of terms m; cookie = m.head.cookie; content = [] })) ∙ ap reply_text (refused_reply (verdict_of terms m) m.head.cookie (data_of image m) bad))
  said_by fresh room deep true good =
      ap (λ (v : Moved (Unit {0})). flat_map sent (answers_alone terms v.state (steps_behind v.answer))) (arrives_accepted terms image next last rates count m fresh room good deep)
      ∙ (ap (λ (v : Moved (Unit {0})). flat_map sent (said.Picked next ∷ v.answer ∷ (own_step {A = Unit {0}} terms v.state (Take 0)).answer ∷ [])) (performs terms image next tagged rates ((count + 1) + 1) m)
      ∙ (append-nil (reply_text (record { error = 0; cookie = m.head.cookie; content = data_of image m })) ∙ ap reply_text (done_reply (verdict_of terms m) m.head.cookie (data_of image m) good)))

-- what a request comes to at an export at rest
pub record IsTurn (terms : Terms) (old : Alone) (m : RequestMessage) : Type 0 where
  pub said : reply_to terms old m ≡ reply_text (reply_of terms old.image m)
  pub state : after terms old m ≡ behind terms old m

pub not_zero : (n : ℕ) → 0 < n → (0 == n) ≡ false
not_zero n lt = ne_eqb 0 n (λ e. omega (arith, lt, e))

pub turn : (terms : Terms) (state : Alone) (m : RequestMessage) → 0 < terms.depth → 0 < terms.window → IsAtRest state → state.count < 2 ^ 56 → IsTurn terms state m
turn terms state m depth window rests few =
    let fresh : nat_le (2 ^ 56) state.count ≡ false = lt-leb (2 ^ 56) state.count few in
    let room = not_zero terms.window window in
    let deep = not_zero terms.depth depth in
    let is = at_rest state rests in
    let t : IsTurn terms (rest state.image state.next state.last state.rates state.count) m = record {
      said = said_by terms state.image state.next state.last state.rates state.count m fresh room deep (verdict_of terms m == 0) refl;
      state = after_by terms state.image state.next state.last state.rates state.count m fresh room deep (verdict_of terms m == 0) refl;
    } in
    subst (λ (s : Alone). IsTurn terms s m) (sym is) t

-- an export at rest is at rest behind a request
pub rests_behind : (terms : Terms) (state : Alone) (m : RequestMessage) → IsAtRest state → IsAtRest (behind terms state m)
unfolding behind
rests_behind terms state m h =
    elim (cases_Bool (verdict_of terms m == 0)) [
      | inl good ↦ rw good (record { none_waits = h.none_waits; none_out = h.none_out; session = h.session })
      | inr bad ↦ rw bad (record { none_waits = h.none_waits; none_out = h.none_out; session = h.session })
    ]

pub image_is : (terms : Terms) (state : Alone) (m : RequestMessage) → (behind terms state m).image ≡ image_behind terms state.image m
unfolding behind image_behind
image_is terms state m =
    elim (cases_Bool (verdict_of terms m == 0)) [
      | inl good ↦ rw good refl
      | inr bad ↦ rw bad refl
    ]

pub count_is : (terms : Terms) (state : Alone) (m : RequestMessage) → (behind terms state m).count ≡ state.count + steps_for terms m
unfolding behind steps_for
count_is terms state m =
    elim (cases_Bool (verdict_of terms m == 0)) [
      | inl good ↦ rw good refl
      | inr bad ↦ rw bad refl
    ]

pub few_steps : (terms : Terms) (m : RequestMessage) → (0 < steps_for terms m) × (steps_for terms m ≤ 4)
unfolding steps_for
few_steps terms m =
    elim (cases_Bool (verdict_of terms m == 0)) [
      | inl good ↦ rw good (omega arith, omega arith)
      | inr bad ↦ rw bad (omega arith, omega arith)
    ]

-- ---- worn

worn_at : (terms : Terms) (image : List ℕ) (next : ℕ) (last : Option ℤ) (rates : Intervals) (count : ℕ) (m : RequestMessage) → 2 ^ 56 ≤ count → FindsWorn terms (rest image next last rates count) m
unfolding arriving
worn_at terms image next last rates count m h = ap (λ (v : Moved (Unit {0})). v.answer) (arrives_worn terms image next last rates count m (le-leb (2 ^ 56) count h))

abbrev Answer : Type 0
Answer = StepAnswer (Unit {0})

answered_fresh : (error : ℕ) → (let a : Answer = said.Answered error in a ≡ said.Worn) → ⊥
answered_fresh error e = cc

accepted_fresh : (n : ℕ) (tag : ℤ) → (let a : Answer = said.Accepted n tag in a ≡ said.Worn) → ⊥
accepted_fresh n tag e = cc

fresh_at : (terms : Terms) (image : List ℕ) (next : ℕ) (last : Option ℤ) (rates : Intervals) (count : ℕ) (m : RequestMessage) → 0 < terms.depth → 0 < terms.window → count < 2 ^ 56 → (good : Bool) → (verdict_of terms m == 0) ≡ good
    → FindsWorn terms (rest image next last rates count) m → ⊥
unfolding arriving
fresh_at terms image next last rates count m depth window few false bad worn =
    let e = ap (λ (v : Moved (Unit {0})). v.answer) (arrives_refused {A = Unit {0}} terms image next last rates count m (lt-leb (2 ^ 56) count few) (not_zero terms.window window) bad) in
    absurd (answered_fresh (verdict_of terms m) (sym e ∙ worn))
fresh_at terms image next last rates count m depth window few true good worn =
    let e = ap (λ (v : Moved (Unit {0})). v.answer) (arrives_accepted {A = Unit {0}} terms image next last rates count m (lt-leb (2 ^ 56) count few) (not_zero terms.window window) good (not_zero terms.depth depth)) in
    absurd (accepted_fresh next (limit_tag (rest image next last rates count) 0) (sym e ∙ worn))

pub finds_worn : (terms : Terms) (state : Alone) (m : RequestMessage) → IsAtRest state → 2 ^ 56 ≤ state.count → FindsWorn terms state m
finds_worn terms state m rests h = subst (λ (s : Alone). FindsWorn terms s m) (sym (at_rest state rests)) (worn_at terms state.image state.next state.last state.rates state.count m h)

pub finds_fresh : (terms : Terms) (state : Alone) (m : RequestMessage) → 0 < terms.depth → 0 < terms.window → IsAtRest state → state.count < 2 ^ 56 → FindsWorn terms state m → ⊥
finds_fresh terms state m depth window rests few worn =
    fresh_at terms state.image state.next state.last state.rates state.count m depth window few (verdict_of terms m == 0) refl (subst (λ (s : Alone). FindsWorn terms s m) (at_rest state rests) worn)

-- ---- the session is attached

pub opened_is : (A : Type 0) (terms : Terms) → own_step {A = A} terms (opening terms) Attach ≡ record { state = opened terms; answer = said.Session 0 }
unfolding opened
opened_is A terms = refl

pub opened_rests : (terms : Terms) → IsAtRest (opened terms)
unfolding opened
opened_rests terms = record { none_waits = refl; none_out = refl; session = refl }

pub opened_image : (terms : Terms) → (opened terms).image ≡ zeros terms
unfolding opened
opened_image terms = refl

pub opened_count : (terms : Terms) → (opened terms).count ≡ 1
unfolding opened
opened_count terms = refl

-- ---- requests in a row

-- they leave an export at rest, and what they are told and do follows from its bytes and its count
record IsRow (terms : Terms) (state : Alone) (ms : List RequestMessage) : Type 0 where
  pub said : replies terms state ms ≡ plain_replies terms state.image ms
  pub image : (after_all terms state ms).image ≡ image_behind_all terms state.image ms
  pub count : (after_all terms state ms).count ≡ state.count + steps_for_all terms ms
  pub rests : IsAtRest (after_all terms state ms)

module _ (terms : Terms) (depth : 0 < terms.depth) (window : 0 < terms.window) where
  few_of : (state : Alone) (m : RequestMessage) → IsAtRest state → (FindsWorn terms state m → ⊥) → state.count < 2 ^ 56
  few_of state m rests fresh =
      elim (cases_lt state.count (2 ^ 56)) [
        | inl lt ↦ lt
        | inr ge ↦ absurd (fresh (finds_worn terms state m rests ge))
      ]

  row : (ms : List RequestMessage) (state : Alone) → IsAtRest state → AreAnswered terms state ms → IsRow terms state ms
  row [] state rests answered = record { said = refl; image = refl; count = omega arith; rests = rests }
  row (m ∷ ms) state rests answered =
      let t = turn terms state m depth window rests (few_of state m rests answered.1) in
      let next : IsAtRest (after terms state m) = subst IsAtRest (sym t.state) (rests_behind terms state m rests) in
      let more = row ms (after terms state m) next answered.2 in
      let image : (after terms state m).image ≡ image_behind terms state.image m = ap (λ (s : Alone). s.image) t.state ∙ image_is terms state m in
      let count : (after terms state m).count ≡ state.count + steps_for terms m = ap (λ (s : Alone). s.count) t.state ∙ count_is terms state m in
      record {
        said = ap (λ (x : List ℕ). x ++ replies terms (after terms state m) ms) t.said ∙ ap (λ (x : List ℕ). reply_text (reply_of terms state.image m) ++ x) (more.said ∙ ap (λ (x : List ℕ). plain_replies terms x ms) image);
        image = more.image ∙ ap (λ (x : List ℕ). image_behind_all terms x ms) image;
        count = omega (arith, more.count, count);
        rests = more.rests;
      }

pub plain : (terms : Terms) (ms : List RequestMessage) → 0 < terms.depth → 0 < terms.window → AreAnswered terms (opened terms) ms → ArePlain terms ms
plain terms ms depth window answered =
    let r = row terms depth window ms (opened terms) (opened_rests terms) answered in
    let count : (after_all terms (opened terms) ms).count ≡ 1 + steps_for_all terms ms = r.count ∙ ap (λ (n : ℕ). n + steps_for_all terms ms) (opened_count terms) in
    record {
      said = r.said ∙ ap (λ (x : List ℕ). plain_replies terms x ms) (opened_image terms);
      image = r.image ∙ ap (λ (x : List ℕ). image_behind_all terms x ms) (opened_image terms);
      count = count;
      worn = λ m. (
        λ w. elim (cases_lt (after_all terms (opened terms) ms).count (2 ^ 56)) [
          | inl lt ↦ absurd (finds_fresh terms (after_all terms (opened terms) ms) m depth window r.rests lt w)
          | inr ge ↦ omega (arith, ge, count)
        ],
        λ h. finds_worn terms (after_all terms (opened terms) ms) m r.rests (omega (arith, h, count)),
      );
    }

-- ---- the whole

module _ (terms : Terms) (depth : 0 < terms.depth) (window : 0 < terms.window) where
  counted_after : (state : Alone) (m : RequestMessage) → IsAtRest state → state.count < 2 ^ 56 → IsAtRest (after terms state m) × ((after terms state m).count ≡ state.count + steps_for terms m)
  counted_after state m rests few =
      let t = turn terms state m depth window rests few in
      (subst IsAtRest (sym t.state) (rests_behind terms state m rests), ap (λ (s : Alone). s.count) t.state ∙ count_is terms state m)

  in_time : (ms : List RequestMessage) (state : Alone) → IsAtRest state → AreAnswered terms state ms → AreAnsweredInTime terms state.count ms
  in_time [] state rests a = tt
  in_time (m ∷ ms) state rests a =
      let few = few_of terms depth window state m rests a.1 in
      let on = counted_after state m rests few in
      (a.0, few, subst (λ (n : ℕ). AreAnsweredInTime terms n ms) on.1 (in_time ms (after terms state m) on.0 a.2))

  none_worn : (ms : List RequestMessage) (state : Alone) → IsAtRest state → AreAnsweredInTime terms state.count ms → AreAnswered terms state ms
  none_worn [] state rests a = tt
  none_worn (m ∷ ms) state rests a =
      let on = counted_after state m rests a.1 in
      (a.0, finds_fresh terms state m depth window rests a.1, none_worn ms (after terms state m) on.0 (subst (λ (n : ℕ). AreAnsweredInTime terms n ms) (sym on.1) a.2))

  module _ (bytes text : List ℕ) (end : End) where
    served_plainly : Serves terms (opened terms) bytes text end → ServesPlainly terms bytes text end
    served_plainly h =
        let r = plain terms h.requests depth window h.answered in
        record {
          requests = h.requests;
          rest = h.rest;
          spelled = h.spelled;
          said = h.said ∙ r.said;
          answered = subst (λ (n : ℕ). AreAnsweredInTime terms n h.requests) (opened_count terms) (in_time h.requests (opened terms) (opened_rests terms) h.answered);
          ends = elim h.ends [
            | inl stop ↦ inl stop
            | inr (is, w) ↦ inr (is, record { message = w.message; more = w.more; spelled = w.spelled; answered = w.answered; late = (r.worn w.message).0 w.worn })
          ];
        }

    served_by_steps : ServesPlainly terms bytes text end → Serves terms (opened terms) bytes text end
    served_by_steps h =
        let answered = none_worn h.requests (opened terms) (opened_rests terms) (subst (λ (n : ℕ). AreAnsweredInTime terms n h.requests) (sym (opened_count terms)) h.answered) in
        let r = plain terms h.requests depth window answered in
        record {
          requests = h.requests;
          rest = h.rest;
          spelled = h.spelled;
          said = h.said ∙ sym r.said;
          answered = answered;
          ends = elim h.ends [
            | inl stop ↦ inl stop
            | inr (is, w) ↦ inr (is, record { message = w.message; more = w.more; spelled = w.spelled; answered = w.answered; worn = (r.worn w.message).1 w.late })
          ];
        }

pub plain_service : (terms : Terms) (bytes text : List ℕ) (end : End) → 0 < terms.depth → 0 < terms.window → Serves terms (opened terms) bytes text end ↔ ServesPlainly terms bytes text end
plain_service terms bytes text end depth window = (served_plainly terms depth window bytes text end, served_by_steps terms depth window bytes text end)
