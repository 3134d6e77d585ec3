-- A whole arrival, over the parts.
use Rattle.std.proofs.Common.{◌≡◌, ℕ, ◌<◌, ℤ, Bool, true, false, cond, Option, Some, None, List, [], ◌∷◌, ◌++◌, map, length, set, get_or, refl, sym, ◌∙◌, ap, arith}
use Rattle.std.specs.Prelude.{not, ◌==◌, ◌^◌, ◌-ℤ◌, nat_le, pos}
use Rattle.std.proofs.lemmas.List.{length-map, get_or-map, get_or_default}
use Rattle.std.proofs.lemmas.Bool.Decides.{nat_tests}
use Rattle.tag_clock.specs.Clocks.{lowered}
use Rattle.tag_clock.specs.declared.Phase.{Phase}
use Rattle.nbd_wire.specs.Grammar.{RequestMessage}
use Rattle.lone_export.specs.declared.step.Step.TheVariants as own
use Rattle.lone_export.specs.declared.step.StepAnswer.TheVariants as alone
use Rattle.nbd_base.specs.Words.{when_some}
use Rattle.nbd_commands.specs.Verdict.{verdict_of}
use Rattle.reply_box.specs.Sessions.{is_open_at, post_at}
use Rattle.lone_export.specs.Alone.{own_step, outstanding}
use Rattle.server_table.specs.Parts.{Entry, Part, table_of, setup_of, alone_of, job_of_entry}
use Rattle.server_table.specs.declared.event.Answer.TheVariants.{Accepted}
use Rattle.server_table.specs.declared.event.Event.TheVariants.{Arrive}
use Rattle.server_table.specs.Table.{Side}
use Rattle.server_table.specs.Steps.{outcome, accepted_in, step}
use Rattle.server_table.specs.Order.{AllParts, IsRising, IsNumbered}
use Rattle.server_table.specs.Ways.{part_shifted, entry_shifted, least_first_p, parts_for, way_for, part_tags, accepted_part}
use Rattle.server_table.proofs.Rows.{side_at, terms_at}
use Rattle.lone_export.proofs.Cases.{fork}
use Rattle.server_table.specs.Kept.{as_moved}
use Rattle.server_table.proofs.Sides.{stay, move, outstanding_at}
use Rattle.server_table.proofs.Arrive.{waiting_at, shifted_way, accepted_at}

-- the request is accepted
pub record Admits (p : Part) (s : ℕ) (q : RequestMessage) : Type 0 where
  pub is_open : is_open_at p.sessions s ≡ true
  pub young : nat_le (2 ^ 56) p.count ≡ false
  pub spare : (outstanding (alone_of p) s == p.terms.window) ≡ false
  pub fine : (verdict_of p.terms q == 0) ≡ true
  pub shallow : (length p.waiting == p.terms.depth) ≡ false

turned : (b : Bool) → not b ≡ false → b ≡ true
turned true h = refl
turned false h = absurd (cc)

module _ {A : Type 0} where
  -- else the step is the export's own
  pub step_refuses : (ps : List Part) (now inflight e s t : ℕ) (q : RequestMessage) (p : Part) (phase : Phase) → e < length ps → p ≡ get_or ps e p → (Admits p s q → ⊥) → step {A = A} (setup_of ps inflight) (table_of ps now) (Arrive e s t q) true ≡ as_moved ps now e p phase (own_step p.terms (alone_of p) (own.Arrive s t q))
  step_refuses ps now inflight e s t q p phase lt at refused =
      rw (terms_at ps inflight e p lt at, outstanding_at ps now e s p lt at, waiting_at ps e 0 e p (omega arith) lt at, side_at ps now e p lt at, length-map p.waiting job_of_entry)
      (fork (as_moved ps now e p phase) (not (is_open_at p.sessions s)) (λ h. stay ps now e p phase alone.NotOpen at)
      (λ a. fork (as_moved ps now e p phase) (nat_le (2 ^ 56) p.count) (λ h. stay ps now e p phase alone.Worn at)
      (λ b. fork (as_moved ps now e p phase) (outstanding (alone_of p) s == p.terms.window) (λ h. stay ps now e p phase alone.Hold at)
      (λ c. fork (as_moved ps now e p phase) (not (verdict_of p.terms q == 0)) (λ h. move ps now e p phase (post_at s (record { error = verdict_of p.terms q; cookie = q.head.cookie; content = [] }) p.sessions) (alone.Answered (verdict_of p.terms q)) lt at)
      (λ d. fork (as_moved ps now e p phase) (length p.waiting == p.terms.depth) (λ h. move ps now e p phase (post_at s (record { error = 5; cookie = q.head.cookie; content = [] }) p.sessions) (alone.Answered 5) lt at)
      (λ f. absurd (refused (record { is_open = turned (is_open_at p.sessions s) a; young = b; spare = c; fine = turned (verdict_of p.terms q == 0) d; shallow = f }))))))))

-- the part at the export is the same once way is made
shifted_idle : (d : ℤ) (p : Part) → (length p.waiting == 0) ≡ true → part_shifted d p ≡ p
shifted_idle d p is = by_list p.waiting refl is
  where
    by_list : (w : List Entry) → p.waiting ≡ w → (length p.waiting == 0) ≡ true → part_shifted d p ≡ p
    by_list [] none is =
        ap (λ b. record p { waiting = map (entry_shifted d) p.waiting; last_p = cond b p.last_p (lowered d p.last_p) }) is
        ∙ ap (λ w. record p { waiting = w }) (ap (map (entry_shifted d)) none ∙ sym none)
    by_list (x ∷ xs) some is = absurd (let n = ap length some in grind (arith, nat_tests, is, n))

pub way_same : (t : ℤ) (ps : List Part) (e : ℕ) (p d : Part) → e < length ps → p ≡ get_or ps e p → get_or (way_for (length p.waiting) t ps) e d ≡ p
way_same t ps e p d lt at = by_test (length p.waiting == 0) refl
  where
    by_first : (o : Option (ℤ × ℕ)) → (length p.waiting == 0) ≡ true → get_or (parts_for o t ps) e d ≡ p
    by_first None is = get_or_default ps e d p lt ∙ sym at
    by_first (Some a) is = get_or-map (part_shifted (a.0 -ℤ t)) ps e p d lt ∙ ap (part_shifted (a.0 -ℤ t)) (sym at) ∙ shifted_idle (a.0 -ℤ t) p is

    by_test : (b : Bool) → (length p.waiting == 0) ≡ b → get_or (cond b (parts_for (least_first_p ps) t ps) ps) e d ≡ p
    by_test true is = by_first (least_first_p ps) is
    by_test false is = get_or_default ps e d p lt ∙ sym at

pub way_length : (n : ℕ) (t : ℤ) (ps : List Part) → length (way_for n t ps) ≡ length ps
way_length n t ps = by_test (n == 0) (least_first_p ps)
  where
    by_test : (b : Bool) (o : Option (ℤ × ℕ)) → length (cond b (parts_for o t ps) ps) ≡ length ps
    by_test true None = refl
    by_test true (Some a) = length-map ps (part_shifted (a.0 -ℤ t))
    by_test false o = refl

skip : {A : Type 0} (c : Bool) (a b : A) {x : A} → c ≡ false → b ≡ x → cond c a b ≡ x
skip true a b is h = absurd (cc)
skip false a b is h = h

some_is : {X A : Type 0} (o : Option X) {y : X} (g : X → A) (d : A) {x : A} → o ≡ Some y → g y ≡ x → when_some o g d ≡ x
some_is o g d is h = ap (λ z. when_some z g d) is ∙ h

module _ {A : Type 0} where
  pub step_accepts : (ps : List Part) (now inflight e s t : ℕ) (q : RequestMessage) (p : Part) → AllParts (λ p. IsNumbered (p.out ++ p.waiting)) ps → AllParts (λ p. IsRising p.waiting) ps → e < length ps → p ≡ get_or ps e p → Admits p s q → step {A = A} (setup_of ps inflight) (table_of ps now) (Arrive e s t q) true ≡ outcome (table_of (set (way_for (length p.waiting) (pos t) ps) e (accepted_part s q (part_tags p t) p)) now) (Accepted p.next (part_tags p t).l)
  step_accepts ps now inflight e s t q p numbered rising lt at a =
      let way = way_for (length p.waiting) (pos t) ps in
      let within : e < length way = rw (way_length (length p.waiting) (pos t) ps) lt in
      let table = table_of ps now in
      let z = side_at ps now e p lt at in
      some_is _ _ _ (terms_at ps inflight e p lt at)
      (skip _ _ _ (ap (λ (y : Side). not (is_open_at y.sessions s)) z ∙ ap not a.is_open)
      (skip _ _ _ (ap (λ (y : Side). nat_le (2 ^ 56) y.count) z ∙ a.young)
      (skip _ _ _ (ap (λ n. n == p.terms.window) (outstanding_at ps now e s p lt at) ∙ a.spare)
      (skip _ _ _ (ap not a.fine)
      (skip _ _ _ (ap (λ n. n == p.terms.depth) (waiting_at ps e 0 e p (omega arith) lt at) ∙ a.shallow)
      (ap (accepted_in e s t q) (shifted_way ps now e t p numbered rising lt at)
      ∙ accepted_at way now e s t q p within (sym (way_same (pos t) ps e p p lt at))))))))
