-- A step and the same step as it is kept.
use Rattle.std.proofs.Common.{◌≡◌, ◌^◌, ◌==◌, ◌&&◌, nat_le, Bool, not, List, [], ◌∷◌, ◌++◌, length, filter, find, slice_get, Option, Some, None, refl, sym, ap, ◌∙◌}
use Rattle.std.proofs.lemmas.List.{length-map}
use Rattle.nbd_base.specs.Words.{when_some}
use Rattle.nbd_commands.specs.Terms.{Terms}
use Rattle.nbd_commands.specs.Verdict.{verdict_of}
use Rattle.nbd_commands.specs.Meaning.{may_want_memory}
use Rattle.reply_box.specs.Sessions.{is_here, is_open_at, is_left_at, is_here_at, outbox_at}
use Rattle.lone_export.specs.Alone.{Alone, Moved, own_step, outstanding}
use Rattle.lone_export.specs.Calls.{is_counted}
use Rattle.lone_export.specs.Lone.{Whole, Does}
use Rattle.lone_export.specs.declared.step.Step.{Step}
use Rattle.lone_export.specs.declared.step.Step.TheVariants.{Attach, Arrive, Pick, Perform, Take, Leave, Gone, Retune}
use Rattle.lone_export.specs.declared.step.StepAnswer.{StepAnswer}
use Rattle.lone_export.proofs.Cases.{if_both}
use Rattle.step_log.specs.Steps.{KeptStep, kept_step, kept_log}
use Rattle.export_cell.specs.Journal.{noted}
use Rattle.export_cell.specs.Past.{Goes}

-- ---- lists of steps
pub kept_push : {A : Type 0} (log : List (Step A)) (one : Step A) → kept_log (log ++ one ∷ []) ≡ kept_log log ++ kept_step one ∷ []
kept_push [] one = refl
kept_push (first ∷ log) one = ap (λ (l : List KeptStep). kept_step first ∷ l) (kept_push log one)

pub kept_length : {A : Type 0} (log : List (Step A)) → length (kept_log log) ≡ length log
kept_length log = length-map log kept_step

pub kept_pushed : {A : Type 0} (log longer : List (Step A)) (one : Step A) → longer ≡ log ++ one ∷ [] → kept_log longer ≡ kept_log log ++ kept_step one ∷ []
kept_pushed {A} log longer one is = ap (λ (l : List (Step A)). kept_log l) is ∙ kept_push log one

-- a step that went to the end of the log stands at the end of the journal
pub pushed : (base : Alone) (log longer : List KeptStep) (one : KeptStep) → longer ≡ log ++ one ∷ [] → record { base = base; log = longer } ≡ noted one (record { base = base; log = log })
pushed base log longer one is = ap (λ (l : List KeptStep). record { base = base; log = l }) is

-- ---- both leave the same, and both are counted or not
record Alike {A B : Type 0} (one : Moved A) (other : Moved B) : Type 0 where
  pub state : one.state ≡ other.state
  pub counted : is_counted one.answer ≡ is_counted other.answer

some_alike : {X A B : Type 0} (P : A → B → Type 0) (o : Option X) {f : X → A} {d : A} {g : X → B} {e : B} → ((x : X) → P (f x) (g x)) → P d e → P (when_some o f d) (when_some o g e)
some_alike P None p q = q
some_alike P (Some x) p q = p x

module _ (A : Type 0) where
  alike : (terms : Terms) (state : Alone) (one : Step A) → Alike (own_step terms state (kept_step one)) (own_step terms state one)
  alike terms state Attach =
      if_both Alike (nat_le (2 ^ 56) state.count) _ refl (record { state = refl; counted = refl })
      (if_both Alike (length (filter is_here state.sessions) == 64) _ refl (record { state = refl; counted = refl }) (record { state = refl; counted = refl }))
  alike terms state (Arrive s t q) =
      if_both Alike (not (is_open_at state.sessions s)) _ refl (record { state = refl; counted = refl })
      (if_both Alike (nat_le (2 ^ 56) state.count) _ refl (record { state = refl; counted = refl })
      (if_both Alike (outstanding state s == terms.window) _ refl (record { state = refl; counted = refl })
      (if_both Alike (not (verdict_of terms q == 0)) _ refl (record { state = refl; counted = refl })
      (if_both Alike (length state.waiting == terms.depth) _ refl (record { state = refl; counted = refl }) (record { state = refl; counted = refl })))))
  alike terms state Pick = some_alike Alike (slice_get state.waiting 0) (λ job. record { state = refl; counted = refl }) (record { state = refl; counted = refl })
  alike terms state (Perform n memory) =
      some_alike Alike (find (λ job. job.number == n) state.out)
      (λ job. if_both Alike (not memory && may_want_memory job.request) _ refl (record { state = refl; counted = refl }) (record { state = refl; counted = refl }))
      (record { state = refl; counted = refl })
  alike terms state (Take s) =
      if_both Alike (not (is_here_at state.sessions s)) _ refl (record { state = refl; counted = refl })
      (some_alike Alike (slice_get (outbox_at state.sessions s) 0) (λ reply. record { state = refl; counted = refl })
      (if_both Alike (is_left_at state.sessions s && outstanding state s == 0) _ refl (record { state = refl; counted = refl }) (record { state = refl; counted = refl })))
  alike terms state (Leave s) = if_both Alike (not (is_open_at state.sessions s)) _ refl (record { state = refl; counted = refl }) (record { state = refl; counted = refl })
  alike terms state (Gone s) = if_both Alike (not (is_here_at state.sessions s)) _ refl (record { state = refl; counted = refl }) (record { state = refl; counted = refl })
  alike terms state (Retune rates) =
      if_both Alike (nat_le (2 ^ 56) state.count) _ refl (record { state = refl; counted = refl })
      (if_both Alike (not (length state.waiting == 0)) _ refl (record { state = refl; counted = refl }) (record { state = refl; counted = refl }))

-- an export makes this step, which is counted or not
pub record Makes (old new : Whole) (one : KeptStep) (counted : Bool) : Type 0 where
  pub state : (own_step old.terms old.state one).state ≡ new.state
  pub told : is_counted (own_step old.terms old.state one).answer ≡ counted
  pub terms : new.terms ≡ old.terms
  pub inflight : new.inflight ≡ old.inflight

pub makes : (A : Type 0) (old new : Whole) (one : Step A) (answer : StepAnswer A) (counted : Bool) → Does old new one answer → is_counted answer ≡ counted → Makes old new (kept_step one) counted
makes A old new one answer counted does is =
    let same = alike A old.terms old.state one in
    record {
      state = same.state ∙ ap (λ (m : Moved A). m.state) does.did;
      told = same.counted ∙ ap (λ (m : Moved A). is_counted m.answer) does.did ∙ is;
      terms = does.terms;
      inflight = does.inflight;
    }

-- the same of the base
pub goes_makes : (A : Type 0) (old new : Whole) (one : Step A) → Goes old new one → Makes old new (kept_step one) (is_counted (own_step old.terms old.state one).answer)
goes_makes A old new one goes =
    let same = alike A old.terms old.state one in
    record {
      state = same.state ∙ sym goes.state;
      told = same.counted;
      terms = goes.terms;
      inflight = goes.inflight;
    }
