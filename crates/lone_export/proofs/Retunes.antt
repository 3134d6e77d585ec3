-- What is true of an export's parts is kept by other rates.
use Rattle.std.proofs.Common.{◌≡◌, ℕ, ◌+◌, ◌<◌, ◌≤◌, ◌^◌, Bool, true, false, not, ◌==◌, nat_le, Result, Ok, Err, length, map, refl, sym, ap, subst, ◌∙◌, arith}
use Rattle.std.specs.Prelude.{if◌then◌else◌}
use Rattle.std.proofs.lemmas.List.{length-map}
use Rattle.nbd_commands.specs.Terms.{Terms}
use Rattle.tag_clock.specs.Intervals.{Intervals, IsInterval}
use Rattle.tag_clock.specs.Clocks.{Limit, limit_retuned}
use Rattle.lone_export.specs.Lone.{Whole, Does, MayRetune, step_answer_of_retune}
use Rattle.lone_export.specs.Parts.{Parts, job_of, terms_at, state_at, whole_of, IsLone}
use Rattle.lone_export.specs.declared.refusal.RetuneRefusal.{RetuneRefusal}
use Rattle.lone_export.specs.declared.refusal.RetuneRefusal.TheVariants as retuning
use Rattle.lone_export.specs.declared.row.Row.{Row}
use Rattle.lone_export.specs.declared.step.Step.TheVariants as step
use Rattle.lone_export.specs.declared.step.StepAnswer.TheVariants as said
use Rattle.lone_export.proofs.Opening.{short}
use Rattle.lone_export.proofs.Asked.{if_yes, if_no, bounded-asked}

module _ {A : Type 0} where
  pub lone-retune : (p : Parts A) (tuning : Intervals) (interval : ℕ) (clock : Limit) → IsLone p → nat_le (2 ^ 56) p.count ≡ false
      → interval ≡ tuning.l_interval → (0 < interval → IsInterval interval) → clock ≡ limit_retuned interval p.clock
      → IsLone (record p { rates = tuning; clock = clock; count = p.count + 1; asked = p.asked + 1 })
  lone-retune p tuning interval clock is fresh same range e =
      subst (λ (c : Limit). IsLone (record p { rates = tuning; clock = c; count = p.count + 1; asked = p.asked + 1 })) (sym e)
      (record {
        sized = is.sized;
        numbered = is.numbered;
        owed = is.owed;
        ticks = same;
        bounded = bounded-asked (state_at p) _ p.asked is.bounded fresh refl (omega arith) (omega arith) is.bounded.tag (subst (λ n. n < 2 ^ 30) same (short interval range)) (omega arith);
        depth = is.depth;
        window = is.window;
        inflight = is.inflight;
      })

  pub retune_refused : (w : Whole) (rates : Intervals) (e : RetuneRefusal) → MayRetune w (Err e) → Does {A = A} w w (step.Retune rates) (step_answer_of_retune (Err e))
  retune_refused w rates retuning.Worn is = record { did = if_yes (nat_le (2 ^ 56) w.state.count) _ _ is; terms = refl; inflight = refl }
  retune_refused w rates retuning.Waiting is = record {
    did = if_no (nat_le (2 ^ 56) w.state.count) _ _ is.0 ∙ if_yes (not (length w.state.waiting == 0)) _ _ (ap not is.1);
    terms = refl;
    inflight = refl;
  }

  pub retune_does : (p : Parts A) (tuning rates : Intervals) (interval : ℕ) (clock : Limit) (w : Whole) → IsLone p → whole_of p ≡ w → MayRetune w (Ok tt)
      → tuning ≡ rates → clock ≡ limit_retuned interval p.clock
      → Does {A = A} w (whole_of (record p { rates = tuning; clock = clock; count = p.count + 1; asked = p.asked + 1 })) (step.Retune rates) said.Retuned
  retune_does p tuning rates interval clock w is e may same ticks =
      let told = subst (λ (v : Whole). MayRetune v (Ok tt)) (sym e) may in
      subst (λ (v : Whole). Does {A = A} v (whole_of (record p { rates = tuning; clock = clock; count = p.count + 1; asked = p.asked + 1 })) (step.Retune rates) said.Retuned) e
      (subst (λ (c : Limit). Does {A = A} (whole_of p) (whole_of (record p { rates = tuning; clock = c; count = p.count + 1; asked = p.asked + 1 })) (step.Retune rates) said.Retuned) (sym ticks)
      (subst (λ (t : Intervals). Does {A = A} (whole_of p) (whole_of (record p { rates = t; clock = limit_retuned interval p.clock; count = p.count + 1; asked = p.asked + 1 })) (step.Retune rates) said.Retuned) (sym same)
      (record {
        did = if_no (nat_le (2 ^ 56) p.count) _ _ told.0 ∙ if_no (not (length (map job_of p.queue.waiting) == 0)) _ _ (ap not told.1);
        terms = refl;
        inflight = refl;
      })))

  pub not_worn_then : (p : Parts A) (w : Whole) → IsLone p → whole_of p ≡ w → MayRetune w (Ok tt) → nat_le (2 ^ 56) p.count ≡ false
  not_worn_then p w is e may = subst (λ (v : Whole). nat_le (2 ^ 56) v.state.count ≡ false) (sym e) may.0
