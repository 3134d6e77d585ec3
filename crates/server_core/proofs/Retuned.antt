-- A retune: of one export with its tags, and of the server.
use Rattle.std.proofs.Common.{◌≡◌, ℕ, zero, suc, ◌+◌, ◌^◌, ◌<◌, ◌≤◌, Bool, true, false, not, ◌==◌, nat_le, Option, Some, None, Result, Ok, Err, List, [], ◌∷◌, length, map, set, get_or, if◌then◌else◌, refl, sym, ◌∙◌, ap, subst, arith}
use Rattle.std.specs.Prelude.{IsErrOf, IfSome, ℤ}
use Rattle.tag_clock.specs.declared.Tags.{Tags}
use Rattle.tag_clock.specs.Intervals.{Intervals, IsInterval}
use Rattle.tag_clock.specs.Clocks.{Share, share_retuned, last_r_for}
use Rattle.lone_export.specs.Alone.{Alone, Moved, stays, moves}
use Rattle.lone_export.specs.Lone.{Whole, Does, DoesOr, MayRetune}
use Rattle.lone_export.specs.declared.refusal.RetuneRefusal.TheVariants as tuned
use Rattle.lone_export.specs.declared.step.Step.{Step}
use Rattle.lone_export.specs.declared.step.Step.TheVariants as own
use Rattle.lone_export.specs.declared.step.StepAnswer.{StepAnswer}
use Rattle.lone_export.specs.declared.step.StepAnswer.TheVariants as alone
use Rattle.lone_export.proofs.Asked.{if_yes, if_no}
use Rattle.export_cell.specs.Journal.{Journal, JournalMove, step_answer_of_retuned}
use Rattle.export_cell.specs.declared.refusal.NotRetuned.{NotRetuned}
use Rattle.export_cell.specs.declared.refusal.NotRetuned.TheVariants as retuning
use Rattle.server_table.specs.declared.event.Event.TheVariants.{Retune}
use Rattle.server_table.specs.declared.event.Answer.{Answer}
use Rattle.server_table.specs.declared.event.Answer.TheVariants as answer
use Rattle.server_table.specs.Steps.{outcome, step}
use Rattle.server_table.specs.Shares.{as_alone, mark_of}
use Rattle.server_table.specs.Parts.{Entry, Part, table_of, setup_of, part_retuned}
use Rattle.server_table.proofs.Retunes.{step_retune, no_room_to_retune}
use Rattle.server_core.specs.Here.{retuned}
use Rattle.server_core.specs.Kept.{AllEntries, BelowLast, IsOptionShort, IsOptionWithin, LastKind, AreShort, IsPart, IsServer, total}
use Rattle.server_core.specs.Members.{Kept, Standing, part_of, standing_of, IsMember, logged_as, Retunes}
use Rattle.server_core.specs.Served.{parts, served_of, IsServed, Stepped, answer_of_retune}
use Rattle.server_core.specs.Journals.{CellMoves}
use Rattle.server_core.proofs.Entries.{part_at}
use Rattle.server_core.proofs.Picking.{entries_length}
use Rattle.server_core.proofs.Members.{relogged}
use Rattle.server_core.proofs.Changed.{kept_change, same_slots}
use Rattle.server_core.proofs.Served.{part_there, within_parts, parts_set, parts_back, same_setup, same_seats, members_set, member_at, kept_logged}
use Rattle.server_core.proofs.Journals.{moves as journal_moves, journals_set}

-- as many wait as there are tags
none_wait : (m : Kept) (b : Bool) → IsMember m → (length m.whole.state.waiting == 0) ≡ b → (length (part_of m).waiting == 0) ≡ b
none_wait m b h is = ap (λ n. n == 0) (entries_length m.whole.state.waiting m.waiting h.tagged) ∙ is

-- ---- one export: what an answer tells
module _ {A : Type 0} where
  abbrev Told : Whole → Intervals → Bool → Bool → Moved A
  Told old rates worn none = if worn then stays old.state alone.Worn else (if not none then stays old.state alone.Waiting else moves (record old.state { rates = rates }) alone.Retuned)

  told_worn : (old new : Whole) (rates : Intervals) → Does {A = A} old new (own.Retune rates) alone.Worn → (nat_le (2 ^ 56) old.state.count ≡ true) × (new.state ≡ old.state)
  told_worn old new rates does = by (nat_le (2 ^ 56) old.state.count) (length old.state.waiting == 0) refl does.did
    where
      by : (worn none : Bool) → nat_le (2 ^ 56) old.state.count ≡ worn → Told old rates worn none ≡ record { state = new.state; answer = alone.Worn } → (nat_le (2 ^ 56) old.state.count ≡ true) × (new.state ≡ old.state)
      by true none is did = (is, sym (ap (λ (m : Moved A). m.state) did))
      by false true is did = absurd (let a : ◌≡◌ {A = StepAnswer A} alone.Retuned alone.Worn = ap (λ (m : Moved A). m.answer) did in cc)
      by false false is did = absurd (let a : ◌≡◌ {A = StepAnswer A} alone.Waiting alone.Worn = ap (λ (m : Moved A). m.answer) did in cc)

  told_waiting : (old new : Whole) (rates : Intervals) → Does {A = A} old new (own.Retune rates) alone.Waiting → (nat_le (2 ^ 56) old.state.count ≡ false) × ((length old.state.waiting == 0) ≡ false) × (new.state ≡ old.state)
  told_waiting old new rates does = by (nat_le (2 ^ 56) old.state.count) (length old.state.waiting == 0) refl refl does.did
    where
      by : (worn none : Bool) → nat_le (2 ^ 56) old.state.count ≡ worn → (length old.state.waiting == 0) ≡ none → Told old rates worn none ≡ record { state = new.state; answer = alone.Waiting } → (nat_le (2 ^ 56) old.state.count ≡ false) × ((length old.state.waiting == 0) ≡ false) × (new.state ≡ old.state)
      by true none is empty did = absurd (let a : ◌≡◌ {A = StepAnswer A} alone.Worn alone.Waiting = ap (λ (m : Moved A). m.answer) did in cc)
      by false true is empty did = absurd (let a : ◌≡◌ {A = StepAnswer A} alone.Retuned alone.Waiting = ap (λ (m : Moved A). m.answer) did in cc)
      by false false is empty did = (is, empty, sym (ap (λ (m : Moved A). m.state) did))

  told_done : (old new : Whole) (rates : Intervals) → Does {A = A} old new (own.Retune rates) alone.Retuned → (nat_le (2 ^ 56) old.state.count ≡ false) × ((length old.state.waiting == 0) ≡ true) × (new.state ≡ record old.state { rates = rates; count = old.state.count + 1 })
  told_done old new rates does = by (nat_le (2 ^ 56) old.state.count) (length old.state.waiting == 0) refl refl does.did
    where
      by : (worn none : Bool) → nat_le (2 ^ 56) old.state.count ≡ worn → (length old.state.waiting == 0) ≡ none → Told old rates worn none ≡ record { state = new.state; answer = alone.Retuned } → (nat_le (2 ^ 56) old.state.count ≡ false) × ((length old.state.waiting == 0) ≡ true) × (new.state ≡ record old.state { rates = rates; count = old.state.count + 1 })
      by true none is empty did = absurd (let a : ◌≡◌ {A = StepAnswer A} alone.Worn alone.Retuned = ap (λ (m : Moved A). m.answer) did in cc)
      by false false is empty did = absurd (let a : ◌≡◌ {A = StepAnswer A} alone.Waiting alone.Retuned = ap (λ (m : Moved A). m.answer) did in cc)
      by false true is empty did = (is, empty, sym (ap (λ (m : Moved A). m.state) did))

  -- the whole of it, by its state
  whole_is : (old new : Whole) (one : Step A) (said : StepAnswer A) (state : Alone) → Does {A = A} old new one said → new.slots ≡ old.slots → new.state ≡ state → new ≡ record old { state = state }
  whole_is old new one said state does slots is =
      ap (λ t. record new { terms = t }) does.terms
      ∙ ap (λ i. record { terms = old.terms; inflight = i; state = new.state; slots = new.slots }) does.inflight
      ∙ ap (λ l. record { terms = old.terms; inflight = old.inflight; state = new.state; slots = l }) slots
      ∙ ap (λ s. record { terms = old.terms; inflight = old.inflight; state = s; slots = old.slots }) is

  pub done_short : (old new : Whole) (rates : Intervals) → Does {A = A} old new (own.Retune rates) alone.Retuned → AreShort rates → AreShort new.state.rates
  done_short old new rates does short = subst AreShort (sym (ap (λ (s : Alone). s.rates) (told_done old new rates does).2)) short

-- ---- a retune is refused
module _ (A : Type 0) where
  -- the export and its log
  refused_whole : (old new : Whole) (rates : Intervals) (e : NotRetuned) → DoesOr {A = A} old new (own.Retune rates) (step_answer_of_retuned (Err e)) → new.slots ≡ old.slots → new ≡ old
  refused_whole old new rates (retuning.Refused tuned.Worn) does slots = whole_is {A = A} old new (own.Retune rates) alone.Worn old.state does slots (told_worn {A = A} old new rates does).1
  refused_whole old new rates (retuning.Refused tuned.Waiting) does slots = whole_is {A = A} old new (own.Retune rates) alone.Waiting old.state does slots (told_waiting {A = A} old new rates does).2
  refused_whole old new rates retuning.NoMemory same slots = same

  pub refused_kept : (m : Kept) (new : Whole) (j : Journal) (r : ℕ) (rates : Intervals) (e : NotRetuned) → IsMember m → DoesOr {A = A} m.whole new (own.Retune rates) (step_answer_of_retuned (Err e)) → new.slots ≡ m.whole.slots → IsMember (record m { whole = new; journal = j; room = r })
  refused_kept m new j r rates e h does slots =
      subst (λ (w : Whole). IsMember (record m { whole = w; journal = j; room = r })) (sym (refused_whole m.whole new rates e does slots)) (relogged m j r h)

  -- its rates stay short
  pub refused_short : (old new : Whole) (rates : Intervals) (e : NotRetuned) → DoesOr {A = A} old new (own.Retune rates) (step_answer_of_retuned (Err e)) → new.slots ≡ old.slots → AreShort old.state.rates → AreShort new.state.rates
  refused_short old new rates e does slots short = subst (λ (w : Whole). AreShort w.state.rates) (sym (refused_whole old new rates e does slots)) short

  pub refused_retunes : (m : Kept) (new : Whole) (j : Journal) (r : ℕ) (rates : Intervals) (e : NotRetuned) → IsMember m → DoesOr {A = A} m.whole new (own.Retune rates) (step_answer_of_retuned (Err e)) → (IsErrOf {T = Unit {0}} (Err e) retuning.NoMemory → MayRetune m.whole (Ok tt)) → new.slots ≡ m.whole.slots
      → Retunes (standing_of m) (standing_of (record m { whole = new; journal = j; room = r })) rates (Err e)
  refused_retunes m new j r rates (retuning.Refused tuned.Worn) h does may slots =
      ((told_worn {A = A} m.whole new rates does).0, ap (λ (w : Whole). standing_of (record m { whole = w; journal = j; room = r })) (refused_whole m.whole new rates (retuning.Refused tuned.Worn) does slots))
  refused_retunes m new j r rates (retuning.Refused tuned.Waiting) h does may slots =
      let told = told_waiting {A = A} m.whole new rates does in
      (told.0, none_wait m false h told.1, ap (λ (w : Whole). standing_of (record m { whole = w; journal = j; room = r })) (refused_whole m.whole new rates (retuning.Refused tuned.Waiting) does slots))
  refused_retunes m new j r rates retuning.NoMemory h same may slots =
      let told = may refl in
      (told.0, none_wait m true h told.1, ap (λ (w : Whole). standing_of (record m { whole = w; journal = j; room = r })) same)

-- ---- the export has other rates
abbrev tuned_kept : Kept → Intervals → Journal → ℕ → Kept
tuned_kept m rates j r = record m { whole = record m.whole { state = record m.whole.state { rates = rates; count = m.whole.state.count + 1 } }; journal = j; room = r; share = share_retuned rates.r_interval rates.p_interval m.share }

pub record HasRetuned (A : Type 0) (m : Kept) (new : Whole) (rates : Intervals) (share : Share) : Type 0 where
  pub does : Does {A = A} m.whole new (own.Retune rates) alone.Retuned
  pub slots : new.slots ≡ m.whole.slots
  pub tuning : Intervals
  pub is : tuning ≡ rates
  pub r : Option ℕ
  pub p : ℕ
  pub r_is : r ≡ tuning.r_interval
  pub p_is : p ≡ tuning.p_interval
  pub clock : share ≡ share_retuned r p m.share

module _ (A : Type 0) where
  tuned_is : (m : Kept) (new : Whole) (j : Journal) (room : ℕ) (rates : Intervals) (share : Share) → HasRetuned A m new rates share → record m { whole = new; journal = j; room = room; share = share } ≡ tuned_kept m rates j room
  tuned_is m new j room rates share h =
      let whole = record m.whole { state = record m.whole.state { rates = rates; count = m.whole.state.count + 1 } } in
      let intervals : share_retuned h.r h.p m.share ≡ share_retuned rates.r_interval rates.p_interval m.share =
      (λ i. share_retuned (h.r_is i) (h.p_is i) m.share) ∙ ap (λ (t : Intervals). share_retuned t.r_interval t.p_interval m.share) h.is in
      ap (λ (w : Whole). record m { whole = w; journal = j; room = room; share = share }) (whole_is {A = A} m.whole new (own.Retune rates) alone.Retuned (record m.whole.state { rates = rates; count = m.whole.state.count + 1 }) h.does h.slots (told_done m.whole new rates h.does).2)
      ∙ ap (λ (s : Share). record m { whole = whole; journal = j; room = room; share = s }) (h.clock ∙ intervals)

  pub retuned_kept : (m : Kept) (new : Whole) (j : Journal) (room : ℕ) (rates : Intervals) (share : Share) → IsMember m → HasRetuned A m new rates share → IsMember (record m { whole = new; journal = j; room = room; share = share })
  retuned_kept m new j room rates share h does =
      subst (λ (k : Kept). IsMember k) (sym (tuned_is m new j room rates share does))
      (record { tagged = h.tagged; sent = h.sent; seated = h.seated; r_interval = refl; p_interval = refl; few = h.few; waiting_room = h.waiting_room; out_room = h.out_room })

  pub retuned_retunes : (m : Kept) (new : Whole) (j : Journal) (room : ℕ) (rates : Intervals) (share : Share) → IsMember m → HasRetuned A m new rates share → Retunes (standing_of m) (standing_of (record m { whole = new; journal = j; room = room; share = share })) rates (Ok tt)
  retuned_retunes m new j room rates share h does =
      let told = told_done m.whole new rates does.does in
      (told.0, none_wait m true h told.1, ap standing_of (tuned_is m new j room rates share does))

-- such rates are short
short_r : (o : Option ℕ) → IfSome o IsInterval → IsOptionShort o
short_r None h = tt
short_r (Some i) h = let most = h.most in omega arith

short_l : (n : ℕ) → (0 < n → IsInterval n) → n ≤ 2 ^ 30
short_l zero h = omega arith
short_l (suc n) h = let most = (h (omega arith)).most in omega arith

pub short_rates : (rates tuning : Intervals) (r : Option ℕ) (l p : ℕ) → tuning ≡ rates → r ≡ tuning.r_interval → l ≡ tuning.l_interval → p ≡ tuning.p_interval → IfSome r IsInterval → (0 < l → IsInterval l) → IsInterval p → AreShort rates
short_rates rates tuning r l p is r_is l_is p_is r_range l_range p_range =
    subst AreShort is
    (record {
      reservation = subst IsOptionShort r_is (short_r r r_range);
      limit = subst (λ n. n ≤ 2 ^ 30) l_is (short_l l l_range);
      weight = subst (λ n. n ≤ 2 ^ 30) p_is (let most = p_range.most in omega arith);
    })

-- ---- the part
no_entries : (P : Entry → Type 0) (entries : List Entry) → length entries ≡ 0 → AllEntries P entries
no_entries P [] is = tt
no_entries P (x ∷ xs) is = absurd (omega arith)

kind_for : (o : Option ℕ) (last : Option ℤ) → LastKind o (last_r_for o last)
kind_for None last = tt
kind_for (Some i) last = tt

last_within : (low high : ℕ) (o : Option ℕ) (last : Option ℤ) → IsOptionWithin low high last → IsOptionWithin low high (last_r_for o last)
last_within low high None last h = tt
last_within low high (Some i) last h = h

retuned_part : (t : ℕ) (rates : Intervals) (p : Part) → AreShort rates → length p.waiting ≡ 0 → IsPart t p → IsPart t (part_retuned rates p)
retuned_part t rates p short none h = record {
  rates = short;
  accepted = h.accepted;
  counted = let c = h.counted in omega arith;
  waiting = h.waiting;
  rising = h.rising;
  numbered = h.numbered;
  numbers = h.numbers;
  below = no_entries (BelowLast (part_retuned rates p)) p.waiting none;
  kinds = no_entries _ p.waiting none;
  last_kind = kind_for rates.r_interval p.last_r;
  tags = h.tags;
  sent = h.sent;
  last_r = last_within _ _ rates.r_interval p.last_r h.last_r;
  last_l = h.last_l;
  last_p = h.last_p;
}

-- ---- the server
no_length : (n : ℕ) → (n == 0) ≡ true → n ≡ 0
no_length zero h = refl
no_length (suc n) h = absurd (grind (arith, h))

pub kept_retune : {ms : List Standing} {slots : List (Option Tags)} {asked now inflight served : ℕ} {m : Standing} (e : ℕ) (rates : Intervals) (m' : Standing) (r : Result (Unit {0}) NotRetuned) → IsServed ms slots asked now inflight served → e < length ms → m ≡ get_or ms e m → Retunes m m' rates r → AreShort m'.part.rates → IsServed (set ms e m') slots asked now inflight served
kept_retune {ms} {slots} {asked} {now} {inflight} {served} {m} e rates m' (Ok done) kept lt at made short =
    let q : m'.part ≡ part_retuned rates m.part = ap (λ (x : Standing). x.part) made.2 in
    let few : m'.inflight ≡ m.inflight = ap (λ (x : Standing). x.inflight) made.2 in
    let there = part_there ms e m lt at in
    record {
      server = subst (λ (l : List Part). IsServer l slots asked now inflight served) (ap (set (parts ms) e) (sym q) ∙ sym (parts_set ms e m'))
          (kept_change (parts ms) slots slots asked asked now now inflight served served e m.part (part_retuned rates m.part) kept.server (within_parts ms e lt) there refl
          (retuned_part (total (parts ms)) rates m.part (subst (λ (p : Part). AreShort p.rates) q short) (no_length (length m.part.waiting) made.1) (part_at (IsPart (total (parts ms))) (parts ms) e m.part kept.server.each (within_parts ms e lt) there))
          (same_slots (parts ms) slots e m.part kept.server.firsts there) kept.server.not_later refl kept.server.within);
      room = members_set (λ (x : Standing). x.inflight ≡ inflight) ms e m' kept.room (few ∙ member_at (λ (x : Standing). x.inflight ≡ inflight) ms e m kept.room lt at);
    }
kept_retune e rates m' (Err (retuning.Refused tuned.Worn)) kept lt at made short = kept_logged e kept lt at made.1
kept_retune e rates m' (Err (retuning.Refused tuned.Waiting)) kept lt at made short = kept_logged e kept lt at made.2
kept_retune e rates m' (Err retuning.NoMemory) kept lt at made short = kept_logged e kept lt at made.2

pub seats_retune : (ms : List Standing) (e : ℕ) (rates : Intervals) (m m' : Standing) (r : Result (Unit {0}) NotRetuned) → m ≡ get_or ms e m → Retunes m m' rates r → map (λ (x : Standing). x.seats) (set ms e m') ≡ map (λ (x : Standing). x.seats) ms
seats_retune ms e rates m m' (Ok done) at made = same_seats ms e m m' at (ap (λ (x : Standing). x.seats) made.2)
seats_retune ms e rates m m' (Err (retuning.Refused tuned.Worn)) at made = same_seats ms e m m' at (ap (λ (x : Standing). x.seats) made.1)
seats_retune ms e rates m m' (Err (retuning.Refused tuned.Waiting)) at made = same_seats ms e m m' at (ap (λ (x : Standing). x.seats) made.2)
seats_retune ms e rates m m' (Err retuning.NoMemory) at made = same_seats ms e m m' at (ap (λ (x : Standing). x.seats) made.2)

module _ {A : Type 0} where
  refused_step : (ms : List Standing) (now inflight e : ℕ) (rates : Intervals) (m m' : Standing) (said : Answer A) → m ≡ get_or ms e m → m' ≡ logged_as m' m → step {A = A} (setup_of (parts ms) inflight) (table_of (parts ms) now) (Retune e rates) (mark_of said) ≡ outcome (table_of (parts ms) now) said → Stepped (served_of ms now inflight) (Retune e rates) (served_of (set ms e m') now inflight) said
  refused_step ms now inflight e rates m m' said at same is =
      let back : parts (set ms e m') ≡ parts ms = parts_back ms e m m' at (ap (λ (x : Standing). x.part) same) in
      record {
        stepped = is ∙ ap (λ (l : List Part). record { table = table_of l now; answer = said }) (sym back);
        setup = ap (λ (l : List Part). setup_of l inflight) back;
      }

  pub stepped_retune : (ms : List Standing) (now inflight e : ℕ) (rates : Intervals) (m m' : Standing) (r : Result (Unit {0}) NotRetuned) → e < length ms → m ≡ get_or ms e m → Retunes m m' rates r → Stepped (served_of ms now inflight) (Retune e rates) (served_of (set ms e m') now inflight) (answer_of_retune {A = A} (retuned r))
  stepped_retune ms now inflight e rates m m' (Ok done) lt at made =
      let q : m'.part ≡ part_retuned rates m.part = ap (λ (x : Standing). x.part) made.2 in
      record {
        stepped = step_retune {A = A} (parts ms) now inflight e rates m.part (within_parts ms e lt) (part_there ms e m lt at)
            ∙ if_no (nat_le (2 ^ 56) m.part.count) _ _ made.0
            ∙ if_no (not (length m.part.waiting == 0)) _ _ (ap not made.1)
            ∙ ap (λ (z : Part). outcome {A = A} (table_of (set (parts ms) e z) now) answer.Retuned) (sym q)
            ∙ ap (λ (l : List Part). outcome {A = A} (table_of l now) answer.Retuned) (sym (parts_set ms e m'));
        setup = ap (λ l. record { exports = l; inflight = inflight }) (same_setup ms e m m' at (ap (λ (z : Part). z.terms) q));
      }
  stepped_retune ms now inflight e rates m m' (Err (retuning.Refused tuned.Worn)) lt at made =
      refused_step ms now inflight e rates m m' answer.Worn at made.1
      (step_retune {A = A} (parts ms) now inflight e rates m.part (within_parts ms e lt) (part_there ms e m lt at) ∙ if_yes (nat_le (2 ^ 56) m.part.count) _ _ made.0)
  stepped_retune ms now inflight e rates m m' (Err (retuning.Refused tuned.Waiting)) lt at made =
      refused_step ms now inflight e rates m m' answer.Waiting at made.2
      (step_retune {A = A} (parts ms) now inflight e rates m.part (within_parts ms e lt) (part_there ms e m lt at)
      ∙ if_no (nat_le (2 ^ 56) m.part.count) _ _ made.0 ∙ if_yes (not (length m.part.waiting == 0)) _ _ (ap not made.1))
  stepped_retune ms now inflight e rates m m' (Err retuning.NoMemory) lt at made =
      refused_step ms now inflight e rates m m' answer.NoMemory at made.2
      (no_room_to_retune {A = A} (parts ms) now inflight e rates m.part (within_parts ms e lt) (part_there ms e m lt at) made.0 made.1)

  retune_alone : (r : Result (Unit {0}) NotRetuned) → as_alone (answer_of_retune {A = A} (retuned r)) ≡ step_answer_of_retuned r
  retune_alone (Ok done) = refl
  retune_alone (Err (retuning.Refused tuned.Worn)) = refl
  retune_alone (Err (retuning.Refused tuned.Waiting)) = refl
  retune_alone (Err retuning.NoMemory) = refl

  pub moves_retune : (ms : List Standing) (now inflight e : ℕ) (rates : Intervals) (m m' : Standing) (r : Result (Unit {0}) NotRetuned) → e < length ms → m ≡ get_or ms e m → JournalMove {A = A} m.part.terms (own.Retune rates) (step_answer_of_retuned r) m.journal m'.journal → CellMoves {A = A} (served_of ms now inflight) e (own.Retune rates) (served_of (set ms e m') now inflight) (answer_of_retune (retuned r))
  moves_retune ms now inflight e rates m m' r lt at move =
      journal_moves ms now inflight e m m'.journal (own.Retune rates) (served_of (set ms e m') now inflight) (answer_of_retune (retuned r)) lt at (journals_set ms e m')
      (subst (λ (o : Option (StepAnswer A)). JournalMove m.part.terms (own.Retune rates) o m.journal m'.journal) (sym (retune_alone r)) move)
