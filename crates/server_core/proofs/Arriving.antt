-- A request of one export arrives: what it is with its tags.
use Rattle.std.proofs.Common.{◌≡◌, ◌≢◌, ℕ, ◌+◌, ◌≤◌, ◌<◌, Bool, true, false, cond, Option, Some, None, List, [], ◌∷◌, ◌++◌, length, refl, sym, ◌∙◌, ap, subst, arith}
use Rattle.std.specs.Prelude.{not, ◌==◌, ◌^◌, nat_le, ℤ, option_map, pos, negsuc, FitsSigned}
use mir.Syntax.{w128}
use Rattle.std.proofs.lemmas.Int.{ints, clamps, fits_signed_from_abs}
use Rattle.nbd_base.specs.Range.{IsOptionInRange}
use Rattle.std.proofs.lemmas.Bool.Decides.{nat_tests}
use Rattle.std.proofs.lemmas.List.{length-append}
use Rattle.nbd_wire.specs.Grammar.{RequestMessage}
use Rattle.nbd_commands.specs.Terms.{Terms}
use Rattle.nbd_commands.specs.Verdict.{verdict_of}
use Rattle.tag_clock.specs.declared.Tags.{Tags}
use Rattle.tag_clock.specs.Tags.{later}
use Rattle.tag_clock.specs.Clocks.{Share, r_tag, p_tag, share_after}
use Rattle.reply_box.specs.Sessions.{is_open_at}
use Rattle.lone_export.specs.Alone.{Alone, Job, Moved, own_step, accepted, limit_tag, outstanding}
use Rattle.lone_export.specs.Lone.{Whole, Does, Admits}
use Rattle.lone_export.specs.declared.step.Step.TheVariants.{Arrive}
use Rattle.lone_export.specs.declared.step.StepAnswer.{StepAnswer}
use Rattle.lone_export.specs.declared.step.StepAnswer.TheVariants.{Accepted}
use Rattle.lone_export.proofs.Cases.{if_told, true_false}
use Rattle.server_table.specs.Parts.{Entry}
use Rattle.server_table.specs.Ways.{part_tags, accepted_part}
use Rattle.server_core.specs.Members.{Kept, part_of, standing_of, IsMember, AdmitsAt, accepted_standing}
use Rattle.server_core.proofs.Members.{alone_back, seated}
use Rattle.server_core.proofs.Picking.{entries_pushed}

-- ---- admitted or not
pub decided : {P : Type 0} (terms : Terms) (state : Alone) (s : ℕ) (q : RequestMessage) → (Admits terms state s q → P) → ((Admits terms state s q → ⊥) → P) → P
decided {P} terms state s q admitted refused = by (is_open_at state.sessions s) (nat_le (2 ^ 56) state.count) (outstanding state s == terms.window) (verdict_of terms q == 0) (length state.waiting == terms.depth) refl refl refl refl refl
  where
    by : (a b c d e : Bool) → is_open_at state.sessions s ≡ a → nat_le (2 ^ 56) state.count ≡ b → (outstanding state s == terms.window) ≡ c → (verdict_of terms q == 0) ≡ d → (length state.waiting == terms.depth) ≡ e → P
    by true false false true false a b c d e = admitted (record { is_open = a; young = b; spare = c; fine = d; shallow = e })
    by false x y z w a b c d e = refused (λ h. true_false (sym h.is_open ∙ a))
    by true true y z w a b c d e = refused (λ h. true_false (sym b ∙ h.young))
    by true false true z w a b c d e = refused (λ h. true_false (sym c ∙ h.spare))
    by true false false false w a b c d e = refused (λ h. true_false (sym h.fine ∙ d))
    by true false false true true a b c d e = refused (λ h. true_false (sym e ∙ h.shallow))

skip : {A : Type 0} (c : Bool) (a b : A) {x : A} → c ≡ false → b ≡ x → cond c a b ≡ x
skip true a b is h = absurd (cc)
skip false a b is h = h

module _ {A : Type 0} where
  abbrev pub is_accepted : StepAnswer A → Bool
  is_accepted (Accepted n tag) = true
  is_accepted said = false

module _ (A : Type 0) where
  pub accepts : (terms : Terms) (state : Alone) (s t : ℕ) (q : RequestMessage) → Admits terms state s q → own_step {A = A} terms state (Arrive s t q) ≡ accepted state s t q
  accepts terms state s t q a = skip _ _ _ (ap not a.is_open) (skip _ _ _ a.young (skip _ _ _ a.spare (skip _ _ _ (ap not a.fine) (skip _ _ _ a.shallow refl))))

  abbrev Refused : Alone → Moved A → Type 0
  Refused state m = (m.state ≡ seated state m.state) × (is_accepted m.answer ≡ false)

  turned : (b : Bool) → not b ≡ false → b ≡ true
  turned true h = refl
  turned false h = absurd (cc)

  pub refuses : (terms : Terms) (state : Alone) (s t : ℕ) (q : RequestMessage) → (Admits terms state s q → ⊥) → Refused state (own_step terms state (Arrive s t q))
  refuses terms state s t q never =
      if_told (Refused state) (not (is_open_at state.sessions s)) (λ h. (refl, refl))
      (λ a. if_told (Refused state) (nat_le (2 ^ 56) state.count) (λ h. (refl, refl))
      (λ b. if_told (Refused state) (outstanding state s == terms.window) (λ h. (refl, refl))
      (λ c. if_told (Refused state) (not (verdict_of terms q == 0)) (λ h. (refl, refl))
      (λ d. if_told (Refused state) (length state.waiting == terms.depth) (λ h. (refl, refl))
      (λ e. absurd (never (record { is_open = turned (is_open_at state.sessions s) a; young = b; spare = c; fine = turned (verdict_of terms q == 0) d; shallow = e })))))))

  -- an accepted request was admitted, and any other wasn't
  pub was_admitted : (old new : Whole) (s t n : ℕ) (tag : ℤ) (q : RequestMessage) → Does {A = A} old new (Arrive s t q) (Accepted n tag) → Admits old.terms old.state s q
  was_admitted old new s t n tag q does = decided old.terms old.state s q (λ a. a) (λ never.
      let other : is_accepted (own_step {A = A} old.terms old.state (Arrive s t q)).answer ≡ false = (refuses old.terms old.state s t q never).1 in
      let told : is_accepted (own_step {A = A} old.terms old.state (Arrive s t q)).answer ≡ true = ap (λ (m : Moved A). is_accepted m.answer) does.did in
      true_false (sym told ∙ other))

  pub not_admitted : (old new : Whole) (s t : ℕ) (q : RequestMessage) (answer : StepAnswer A) → Does {A = A} old new (Arrive s t q) answer → is_accepted answer ≡ false → Admits old.terms old.state s q → ⊥
  not_admitted old new s t q answer does other a =
      true_false (ap (λ (m : Moved A). is_accepted m.answer) (sym (accepts old.terms old.state s t q a) ∙ does.did) ∙ other)

-- ---- with the tags
pub admits_at : (m : Kept) (s : ℕ) (q : RequestMessage) → IsMember m → Admits m.whole.terms m.whole.state s q → AdmitsAt (standing_of m) s q
admits_at m s q h a = subst (λ (state : Alone). Admits m.whole.terms state s q) (sym (alone_back m h)) a

pub admits_whole : (m : Kept) (s : ℕ) (q : RequestMessage) → IsMember m → AdmitsAt (standing_of m) s q → Admits m.whole.terms m.whole.state s q
admits_whole m s q h a = subst (λ (state : Alone). Admits m.whole.terms state s q) (alone_back m h) a

pub has_room : (m : Kept) (s : ℕ) (q : RequestMessage) → IsMember m → Admits m.whole.terms m.whole.state s q → length m.waiting < m.waiting_room
has_room m s q h a =
    let few = h.few in
    let tagged = h.tagged in
    let wide = h.waiting_room in
    let shallow = a.shallow in
    let ne : length m.whole.state.waiting ≢ m.whole.terms.depth = λ e. true_false (sym (grind (arith, nat_tests, e)) ∙ shallow) in
    omega arith

-- the tags that are computed fit
later_fits : (last : Option ℤ) (interval t : ℕ) → IsOptionInRange last → interval ≤ 2 ^ 30 → t < 2 ^ 62 → FitsSigned w128 (later last interval t)
later_fits None interval t h short small = fits_signed_from_abs w128 (pos t) (omega arith)
later_fits (Some (pos n)) interval t h short small = let s = h.in_range in fits_signed_from_abs w128 (later (Some (pos n)) interval t) (omega (arith, ints, clamps))
later_fits (Some (negsuc n)) interval t h short small = let s = h.in_range in fits_signed_from_abs w128 (later (Some (negsuc n)) interval t) (omega (arith, ints, clamps))

-- a request that waits now, with its tags
pub record Waits (A : Type 0) (m : Kept) (new : Whole) (s t n : ℕ) (tag : ℤ) (q : RequestMessage) (share : Share) (one : Tags) (waiting : List Tags) : Type 0 where
  pub does : Does {A = A} m.whole new (Arrive s t q) (Accepted n tag)
  pub slots : new.slots ≡ m.whole.slots
  pub clock : share ≡ share_after m.share t
  pub r : one.r ≡ r_tag m.share t
  pub l : one.l ≡ tag
  pub p : one.p ≡ p_tag m.share t
  pub pushed : waiting ≡ m.waiting ++ one ∷ []

abbrev pub kept_waiting : Kept → Whole → Share → List Tags → ℕ → Kept
kept_waiting m new share waiting room = record { whole = new; journal = m.journal; room = m.room; share = share; waiting = waiting; waiting_room = room; out = m.out; out_room = m.out_room }

-- the state of the export alone
abbrev pub state_waiting : Alone → ℕ → ℕ → RequestMessage → Alone
state_waiting state s t q = record state { waiting = state.waiting ++ record { number = state.next; session = s; request = q } ∷ []; next = state.next + 1; last = Some (limit_tag state t); count = state.count + 1 }

module _ (A : Type 0) where
  accepted_is : (old new : Whole) (s t n : ℕ) (tag : ℤ) (q : RequestMessage) → Does {A = A} old new (Arrive s t q) (Accepted n tag) → record { state = new.state; answer = Accepted n tag } ≡ accepted {A = A} old.state s t q
  accepted_is old new s t n tag q does = sym does.did ∙ accepts A old.terms old.state s t q (was_admitted A old new s t n tag q does)

  abbrev number_told : StepAnswer A → ℕ
  number_told (Accepted n tag) = n
  number_told said = 0

  abbrev tag_told : StepAnswer A → ℤ
  tag_told (Accepted n tag) = tag
  tag_told said = pos 0

  pub number_is : (old new : Whole) (s t n : ℕ) (tag : ℤ) (q : RequestMessage) → Does {A = A} old new (Arrive s t q) (Accepted n tag) → n ≡ old.state.next
  number_is old new s t n tag q does = ap (λ (m : Moved A). number_told m.answer) (accepted_is old new s t n tag q does)

  pub tag_is : (old new : Whole) (s t n : ℕ) (tag : ℤ) (q : RequestMessage) → Does {A = A} old new (Arrive s t q) (Accepted n tag) → tag ≡ limit_tag old.state t
  tag_is old new s t n tag q does = ap (λ (m : Moved A). tag_told m.answer) (accepted_is old new s t n tag q does)

  pub tag_fits : (old new : Whole) (s t n : ℕ) (tag : ℤ) (q : RequestMessage) → Does {A = A} old new (Arrive s t q) (Accepted n tag) → IsOptionInRange old.state.last → old.state.rates.l_interval ≤ 2 ^ 30 → t < 2 ^ 62 → FitsSigned w128 tag
  tag_fits old new s t n tag q does range short small = subst (FitsSigned w128) (sym (tag_is old new s t n tag q does)) (later_fits old.state.last old.state.rates.l_interval t range short small)

  whole_waiting : (old new : Whole) (s t n : ℕ) (tag : ℤ) (q : RequestMessage) → Does {A = A} old new (Arrive s t q) (Accepted n tag) → new.slots ≡ old.slots → new ≡ record old { state = state_waiting old.state s t q }
  whole_waiting old new s t n tag q does slots =
      ap (λ k. record new { terms = k }) does.terms
      ∙ ap (λ i. record { terms = old.terms; inflight = i; state = new.state; slots = new.slots }) does.inflight
      ∙ ap (λ l. record { terms = old.terms; inflight = old.inflight; state = new.state; slots = l }) slots
      ∙ ap (λ (m : Moved A). record { terms = old.terms; inflight = old.inflight; state = m.state; slots = old.slots }) (accepted_is old new s t n tag q does)

  tags_are : (m : Kept) (new : Whole) (s t n : ℕ) (tag : ℤ) (q : RequestMessage) (share : Share) (one : Tags) (waiting : List Tags) → IsMember m → Waits A m new s t n tag q share one waiting → one ≡ part_tags (part_of m) t
  tags_are m new s t n tag q share one waiting h w =
      ap (λ r. record one { r = r }) (w.r ∙ ap (option_map (λ interval. later m.share.last_r interval t)) h.r_interval)
      ∙ ap (λ l. record { r = (part_tags (part_of m) t).r; l = l; p = one.p }) (w.l ∙ tag_is m.whole new s t n tag q w.does)
      ∙ ap (λ p. record { r = (part_tags (part_of m) t).r; l = (part_tags (part_of m) t).l; p = p }) (w.p ∙ ap (λ interval. later m.share.last_p interval t) h.p_interval)

  share_is : (m : Kept) (t : ℕ) → IsMember m → share_after m.share t ≡ record m.share { last_r = (part_tags (part_of m) t).r; last_p = Some (part_tags (part_of m) t).p }
  share_is m t h =
      ap (λ o. record m.share { last_r = option_map (λ interval. later m.share.last_r interval t) o; last_p = Some (p_tag m.share t) }) h.r_interval
      ∙ ap (λ interval. record m.share { last_r = (part_tags (part_of m) t).r; last_p = Some (later m.share.last_p interval t) }) h.p_interval

  kept_is : (m : Kept) (new : Whole) (s t n room : ℕ) (tag : ℤ) (q : RequestMessage) (share : Share) (one : Tags) (waiting : List Tags) → IsMember m → Waits A m new s t n tag q share one waiting → kept_waiting m new share waiting room ≡ kept_waiting m (record m.whole { state = state_waiting m.whole.state s t q }) (record m.share { last_r = (part_tags (part_of m) t).r; last_p = Some (part_tags (part_of m) t).p }) (m.waiting ++ part_tags (part_of m) t ∷ []) room
  kept_is m new s t n room tag q share one waiting h w =
      let whole = record m.whole { state = state_waiting m.whole.state s t q } in
      let after : Share = record m.share { last_r = (part_tags (part_of m) t).r; last_p = Some (part_tags (part_of m) t).p } in
      ap (λ (x : Whole). kept_waiting m x share waiting room) (whole_waiting m.whole new s t n tag q w.does w.slots)
      ∙ ap (λ (x : Share). kept_waiting m whole x waiting room) (w.clock ∙ share_is m t h)
      ∙ ap (λ (x : List Tags). kept_waiting m whole after x room) (w.pushed ∙ ap (λ (x : Tags). m.waiting ++ x ∷ []) (tags_are m new s t n tag q share one waiting h w))

  pub waits : (m : Kept) (new : Whole) (s t n room : ℕ) (tag : ℤ) (q : RequestMessage) (share : Share) (one : Tags) (waiting : List Tags) → IsMember m → Waits A m new s t n tag q share one waiting → standing_of (kept_waiting m new share waiting room) ≡ accepted_standing s t q (standing_of m)
  waits m new s t n room tag q share one waiting h w =
      ap standing_of (kept_is m new s t n room tag q share one waiting h w)
      ∙ ap (λ (l : List Entry). record (accepted_standing s t q (standing_of m)) { part = record (accepted_part s q (part_tags (part_of m) t) (part_of m)) { waiting = l } })
      (entries_pushed m.whole.state.waiting m.waiting (record { number = m.whole.state.next; session = s; request = q }) (part_tags (part_of m) t) h.tagged)

  pub waits_kept : (m : Kept) (new : Whole) (s t n room : ℕ) (tag : ℤ) (q : RequestMessage) (share : Share) (one : Tags) (waiting : List Tags) → IsMember m → Waits A m new s t n tag q share one waiting → room ≡ m.waiting_room → IsMember (kept_waiting m new share waiting room)
  waits_kept m new s t n room tag q share one waiting h w same =
      let a = length-append m.waiting (part_tags (part_of m) t ∷ []) in
      let job : Job = record { number = m.whole.state.next; session = s; request = q } in
      let b = length-append m.whole.state.waiting (job ∷ []) in
      let tagged = h.tagged in
      let few = h.few in
      let admitted = was_admitted A m.whole new s t n tag q w.does in
      let shallow = admitted.shallow in
      let ne : length m.whole.state.waiting ≢ m.whole.terms.depth = λ e. true_false (sym (grind (arith, nat_tests, e)) ∙ shallow) in
      let wide = h.waiting_room in
      subst IsMember (sym (kept_is m new s t n room tag q share one waiting h w))
      (record {
        tagged = omega arith;
        sent = h.sent;
        seated = h.seated;
        r_interval = h.r_interval;
        p_interval = h.p_interval;
        few = omega arith;
        waiting_room = omega arith;
        out_room = h.out_room;
      })

pub p_fits : (m : Kept) (t : ℕ) → IsMember m → IsOptionInRange m.share.last_p → m.whole.state.rates.p_interval ≤ 2 ^ 30 → t < 2 ^ 62 → FitsSigned w128 (p_tag m.share t)
p_fits m t h range short small = later_fits m.share.last_p m.share.p_interval t range (subst (λ n. n ≤ 2 ^ 30) (sym h.p_interval) short) small
