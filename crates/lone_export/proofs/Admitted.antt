-- What becomes of a request that arrives: what was asked before, and what it is then answered.
use Rattle.std.proofs.Common.{◌≡◌, ◌≢◌, ℕ, ◌+◌, Bool, true, false, not, ◌==◌, Ok, Err, [], length, map, refl, sym, ap, subst, ◌∙◌}
use Rattle.std.proofs.lemmas.Bool.{eq-eqb, eqb-true, ne_eqb}
use Rattle.std.proofs.lemmas.List.{length-map}
use Rattle.nbd_wire.specs.Grammar.{RequestMessage, ReplyMessage}
use Rattle.nbd_commands.specs.Verdict.{verdict_of}
use Rattle.reply_box.specs.Sessions.{post_at}
use Rattle.reply_box.specs.Box.{Box, after_admit, after_put}
use Rattle.lone_export.specs.Alone.{Moved, own_step, refused, accepted}
use Rattle.lone_export.specs.Lone.{Whole, Does, MayArrive, Admits, IsAdmission}
use Rattle.lone_export.specs.Parts.{Parts, job_of, terms_at, state_at, whole_of, IsLone}
use Rattle.lone_export.specs.declared.refusal.Admission.{Admission}
use Rattle.lone_export.specs.declared.refusal.Admission.TheVariants as admission
use Rattle.lone_export.specs.declared.refusal.ArriveRefusal.{ArriveRefusal}
use Rattle.lone_export.specs.declared.refusal.ArriveRefusal.TheVariants as arriving
use Rattle.lone_export.specs.declared.step.Step.TheVariants as step
use Rattle.lone_export.specs.declared.step.StepAnswer.{StepAnswer}
use Rattle.lone_export.specs.declared.step.StepAnswer.TheVariants as said
use Rattle.lone_export.proofs.Cases.{true_false}
use Rattle.lone_export.proofs.Asked.{if_yes, if_no, looked_at, lone-answer}

-- one that waits or is told an error was let in
pub let_in : (A : Type 0) (w : Whole) (s : ℕ) (q : RequestMessage) (a : Admission) → IsAdmission A w s q (Ok a) → MayArrive w s (Ok tt)
let_in A w s q admission.Waits is = (is.is_open, is.young, is.spare)
let_in A w s q (admission.Answered error) is = is.0

-- one that is refused doesn't wait
pub refused_never : (w : Whole) (s : ℕ) (q : RequestMessage) (e : ArriveRefusal) → MayArrive w s (Err e) → Admits w.terms w.state s q → ⊥
refused_never w s q arriving.NotOpen is a = true_false (sym a.is_open ∙ is)
refused_never w s q arriving.Worn is a = true_false (sym is.1 ∙ a.young)
refused_never w s q arriving.Hold is a = true_false (sym is.2 ∙ a.spare)

abbrev is_told : {A : Type 0} → StepAnswer A → Bool
is_told (said.Answered error) = true
is_told other = false

module _ (A : Type 0) where
  -- one that waits is accepted
  pub accepts : (w : Whole) (s t : ℕ) (q : RequestMessage) → Admits w.terms w.state s q → own_step {A = A} w.terms w.state (step.Arrive s t q) ≡ accepted w.state s t q
  accepts w s t q a =
      looked_at w.terms w.state s t q (a.is_open, a.young, a.spare) ∙ if_no (not (verdict_of w.terms q == 0)) _ _ (ap not a.fine)
      ∙ if_no (length w.state.waiting == w.terms.depth) _ _ a.shallow

  -- one that is told an error doesn't wait
  pub told_never : (w : Whole) (s error : ℕ) (q : RequestMessage) → IsAdmission A w s q (Ok (admission.Answered error)) → Admits w.terms w.state s q → ⊥
  told_never w s error q is a = true_false (sym (ap (λ (m : Moved A). is_told m.answer) (sym (accepts w s 0 q a) ∙ is.1 0)))

module _ {A : Type 0} where
  -- ---- what is asked
  -- the verdict is an error
  pub judged : (p : Parts A) (s error : ℕ) (q : RequestMessage) (w : Whole) → IsLone p → whole_of p ≡ w → MayArrive w s (Ok tt) → error ≡ verdict_of (terms_at p) q → error ≢ 0 → IsAdmission A w s q (Ok (admission.Answered error))
  judged p s error q w is e may verdict wrong =
      let told : error ≡ verdict_of w.terms q = verdict ∙ ap (λ (v : Whole). verdict_of v.terms q) e in
      let bad : (verdict_of w.terms q == 0) ≡ false = ne_eqb (verdict_of w.terms q) 0 (λ z. wrong (told ∙ z)) in
      (may, λ t. looked_at w.terms w.state s t q may ∙ if_yes (not (verdict_of w.terms q == 0)) _ _ (ap not bad) ∙ ap (λ n. refused {A = A} w.state s q n) (sym told))

  -- as many wait as may
  pub crowded : (p : Parts A) (s : ℕ) (q : RequestMessage) (w : Whole) → IsLone p → whole_of p ≡ w → MayArrive w s (Ok tt) → verdict_of (terms_at p) q ≡ 0 → length p.queue.waiting ≡ p.queue.depth → IsAdmission A w s q (Ok (admission.Answered 5))
  crowded p s q w is e may served full =
      let good : (verdict_of w.terms q == 0) ≡ true = eq-eqb (verdict_of w.terms q) 0 (sym (ap (λ (v : Whole). verdict_of v.terms q) e) ∙ served) in
      let many : (length w.state.waiting == w.terms.depth) ≡ true =
      subst (λ (v : Whole). (length v.state.waiting == v.terms.depth) ≡ true) e (eq-eqb (length (map job_of p.queue.waiting)) p.queue.depth (length-map p.queue.waiting job_of ∙ full)) in
      (may, λ t. looked_at w.terms w.state s t q may ∙ if_no (not (verdict_of w.terms q == 0)) _ _ (ap not good) ∙ if_yes (length w.state.waiting == w.terms.depth) _ _ many)

  -- neither
  pub welcome : (p : Parts A) (s : ℕ) (q : RequestMessage) (w : Whole) → IsLone p → whole_of p ≡ w → MayArrive w s (Ok tt) → verdict_of (terms_at p) q ≡ 0 → length p.queue.waiting ≢ p.queue.depth → Admits w.terms w.state s q
  welcome p s q w is e may served few = record {
    is_open = may.0;
    young = may.1;
    spare = may.2;
    fine = eq-eqb (verdict_of w.terms q) 0 (sym (ap (λ (v : Whole). verdict_of v.terms q) e) ∙ served);
    shallow = subst (λ (v : Whole). (length v.state.waiting == v.terms.depth) ≡ false) e
        (ne_eqb (length (map job_of p.queue.waiting)) p.queue.depth (λ z. few (sym (length-map p.queue.waiting job_of) ∙ z)));
  }

  -- ---- what it is answered
  -- a request that waits has no error
  pub served_is : (p : Parts A) (s : ℕ) (q : RequestMessage) (w : Whole) → IsLone p → whole_of p ≡ w → Admits w.terms w.state s q → verdict_of (terms_at p) q ≡ 0
  served_is p s q w is e a = eqb-true (verdict_of (terms_at p) q) 0 (subst (λ (v : Whole). (verdict_of v.terms q == 0) ≡ true) (sym e) a.fine)

  -- and finds a place
  pub never_full : (p : Parts A) (s : ℕ) (q : RequestMessage) (w : Whole) → IsLone p → whole_of p ≡ w → Admits w.terms w.state s q → length p.queue.waiting ≢ p.queue.depth
  never_full p s q w is e a full =
      true_false (sym (eq-eqb (length (map job_of p.queue.waiting)) p.queue.depth (length-map p.queue.waiting job_of ∙ full))
      ∙ subst (λ (v : Whole). (length v.state.waiting == v.terms.depth) ≡ false) (sym e) a.shallow)

  -- its session is told an error at once
  pub answered_does : (p : Parts A) (s t error : ℕ) (q : RequestMessage) (reply : ReplyMessage) (b c : Box) (w : Whole) → IsLone p → whole_of p ≡ w → IsAdmission A w s q (Ok (admission.Answered error))
      → reply ≡ record { error = error; cookie = q.head.cookie; content = [] } → b ≡ after_admit p.sessions s → c ≡ after_put b s reply
      → Does {A = A} w (whole_of (record p { sessions = c; count = p.count + 1; asked = p.asked + 1 })) (step.Arrive s t q) (said.Answered error)
  answered_does p s t error q reply b c w is e asked told admits puts =
      let here = subst (λ (v : Whole). IsAdmission A v s q (Ok (admission.Answered error))) (sym e) asked in
      let box = (lone-answer p s reply b c is here.0.1 admits puts).1 in
      subst (λ (v : Whole). Does {A = A} v (whole_of (record p { sessions = c; count = p.count + 1; asked = p.asked + 1 })) (step.Arrive s t q) (said.Answered error)) e
      (record {
        did = here.1 t
            ∙ ap (λ (m : ReplyMessage). record { state = record (state_at p) { sessions = post_at s m p.sessions.sessions; count = p.count + 1 }; answer = said.Answered error }) (sym told)
            ∙ ap (λ (d : Box). record { state = record (state_at p) { sessions = d.sessions; count = p.count + 1 }; answer = said.Answered error }) (sym box);
        terms = ap (λ (d : Box). record (terms_at p) { window = d.window }) box;
        inflight = refl;
      })
