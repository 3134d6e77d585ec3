-- The queue of a base: a step more at the end, a step less at the front.
use Rattle.std.proofs.Common.{◌≡◌, ℕ, suc, ◌+◌, ◌-◌, ◌≤◌, Bool, true, nat_lt, nat_le, ◌&&◌, List, [], ◌∷◌, ◌++◌, length, refl, sym, ap, subst, ◌∙◌, arith, length-append}
use Rattle.std.proofs.lemmas.Bool.Decides.{nat_tests}
use Rattle.nbd_commands.specs.Terms.{Terms}
use Rattle.lone_export.specs.Alone.{Alone, own_step, alone}
use Rattle.lone_export.specs.Calls.{is_counted}
use Rattle.lone_export.specs.Lone.{Whole}
use Rattle.lone_export.proofs.Steps.{steps}
use Rattle.step_log.specs.Steps.{KeptStep, payload_of, payload_in}
use Rattle.export_cell.specs.Journal.{IsLogged, IsLog}
use Rattle.export_cell.specs.Based.{Based, based, whole_of, shorter, has_place, IsBased, IsCaughtUp, Follows}
use Rattle.export_cell.proofs.Kept.{Makes}
use Rattle.export_cell.proofs.Fronts.{drop-twice}
use Rattle.export_cell.proofs.Logs.{alone-snoc, log-snoc, payload-snoc}

-- each step of a queue is counted
pub queue-counts : (terms : Terms) (inflight : ℕ) (state : Alone) (queue : List KeptStep) → IsLog terms inflight state queue → (alone terms state queue).count ≡ state.count + length queue
queue-counts terms inflight state [] is = omega arith
queue-counts terms inflight state (one ∷ queue) is =
    let first : (own_step terms state one).state.count ≡ state.count + 1 = (steps terms state one).counts is.0.counted in
    let rest = queue-counts terms inflight (own_step terms state one).state queue is.1 in
    omega arith

-- ---- a step less at the front

module _ (made new : Whole) (one : KeptStep) (counted : Bool) (does : Makes made new one counted) where
  made_first : (rest : List KeptStep) (bytes : ℕ) → IsBased made (one ∷ rest) bytes → IsBased new rest (bytes - payload_of one)
  made_first rest bytes is =
      let kept = is.payload in
      let few = is.short.few in
      let light = is.short.light in
      record {
        each = subst (λ (s : Alone). IsLog new.terms new.inflight s rest) does.state
            (subst (λ (t : Terms). IsLog t new.inflight (own_step made.terms made.state one).state rest) (sym does.terms)
            (subst (λ i. IsLog made.terms i (own_step made.terms made.state one).state rest) (sym does.inflight) is.each.1));
        payload = omega arith;
        short = record { few = omega arith; light = omega arith };
      }

  pub based-make : (queue rest : List KeptStep) (bytes : ℕ) → IsBased made queue bytes → queue ≡ one ∷ rest → IsBased new rest (bytes - payload_of one)
  based-make queue rest bytes is split = made_first rest bytes (subst (λ (l : List KeptStep). IsBased made l bytes) split is)

  front_value : (rest : List KeptStep) → based new rest ≡ shorter 1 (based made (one ∷ rest))
  front_value rest = λ i. record { terms = does.terms i; inflight = does.inflight i; state = alone (does.terms i) (sym does.state i) rest; queue = rest }

  -- what a reader of the base sees of that
  pub value-make : (queue rest : List KeptStep) → queue ≡ one ∷ rest → based new rest ≡ shorter 1 (based made queue)
  value-make queue rest split = subst (λ (l : List KeptStep). based new rest ≡ shorter 1 (based made l)) (sym split) (front_value rest)

  -- the same where the queue is empty
  pub value-made : (queue : List KeptStep) → length queue ≡ 0 → Follows (based made queue) (based new queue) one
  value-made [] none = record { state = sym does.state; terms = does.terms; inflight = does.inflight }
  value-made (first ∷ rest) none = absurd (omega arith)

-- ---- a step more at the end

place_length : (m n : ℕ) → (nat_le n 100663296 && nat_lt m 8192) ≡ true → m + 1 ≤ 8192
place_length m n h = grind (arith, nat_tests)

place_bytes : (m n : ℕ) → (nat_le n 100663296 && nat_lt m 8192) ≡ true → n ≤ 100663296
place_bytes m n h = grind (arith, nat_tests)

pub based-push : (made : Whole) (queue longer : List KeptStep) (one : KeptStep) (bytes : ℕ) → IsBased made queue bytes → IsLogged made.terms made.inflight (alone made.terms made.state queue) one
    → has_place (payload_of one) queue ≡ true → longer ≡ queue ++ one ∷ [] → IsBased made longer (bytes + payload_of one)
based-push made queue longer one bytes is logged place grown =
    let sum = payload-snoc queue one in
    let long = length-append queue (one ∷ []) in
    let kept = is.payload in
    let few = place_length (length queue) (payload_in queue + payload_of one) place in
    let light = place_bytes (length queue) (payload_in queue + payload_of one) place in
    subst (λ (l : List KeptStep). IsBased made l (bytes + payload_of one)) (sym grown) (record {
      each = log-snoc made.terms made.inflight made.state queue one is.each logged;
      payload = omega arith;
      short = record { few = omega arith; light = omega arith };
    })

pub value-push : (made : Whole) (queue longer : List KeptStep) (one : KeptStep) → longer ≡ queue ++ one ∷ [] → Follows (based made queue) (based made longer) one
value-push made queue longer one grown = record {
  state = ap (λ (l : List KeptStep). alone made.terms made.state l) grown ∙ alone-snoc made.terms made.state queue one;
  terms = refl;
  inflight = refl;
}

-- a base that is the same but for what is queued makes the same step
pub follows-same : (old mid new : Based) (one : KeptStep) → whole_of mid ≡ whole_of old → Follows mid new one → Follows old new one
follows-same old mid new one same does =
    let made = subst (λ (w : Whole). Follows (record { terms = w.terms; inflight = w.inflight; state = w.state; queue = mid.queue }) new one) same does in
    record { state = made.state; terms = made.terms; inflight = made.inflight }

pub logged-same : (old mid : Based) (one : KeptStep) → whole_of mid ≡ whole_of old → IsLogged old.terms old.inflight old.state one → IsLogged mid.terms mid.inflight mid.state one
logged-same old mid one same is = subst (λ (w : Whole). IsLogged w.terms w.inflight w.state one) (sym same) is

-- ---- on the way

-- so many steps are made, and so much work is left
pub record IsCatching (most left : ℕ) (old new : Based) : Type 0 where
  pub made : ℕ
  pub few : made + left ≤ most
  pub rest : new ≡ shorter made old

pub catching-more : (most left less : ℕ) (old mid new : Based) → IsCatching most left old mid → less + 1 ≤ left → new ≡ shorter 1 mid → IsCatching most less old new
catching-more most left less old mid new is down e =
    let few = is.few in
    record {
      made = suc is.made;
      few = omega arith;
      rest = e ∙ ap (λ (b : Based). shorter 1 b) is.rest ∙ (λ i. record old { queue = drop-twice is.made old.queue i });
    }

pub catching-over : (most left : ℕ) (old new : Based) → IsCatching most left old new → IsCaughtUp most old new
catching-over most left old new is = let few = is.few in record { made = is.made; few = omega arith; rest = is.rest }

-- ---- a step that went into the base, as the cell sees it
pub follows_makes : (old new : Based) (one : KeptStep) → Follows old new one → is_counted (own_step old.terms old.state one).answer ≡ true → Makes (whole_of old) (whole_of new) one true
follows_makes old new one does told = record { state = sym does.state; told = told; terms = does.terms; inflight = does.inflight }
