-- An export before its first step.
use Rattle.std.proofs.Common.{◌≡◌, ℕ, zero, suc, ◌<◌, ◌^◌, List, [], ◌∷◌, ◌++◌, length, map, replicate, None, refl, sym, ap, subst, ◌∙◌, arith}
use Rattle.std.proofs.lemmas.List.{length-replicate}
use Rattle.std.specs.Ordering.{nat_cmp}
use Rattle.std.specs.FinMap as fin
use Rattle.nbd_commands.specs.Exports.{Export, IsExport, IsWithin}
use Rattle.nbd_commands.specs.Terms.{terms_of}
use Rattle.nbd_commands.specs.declared.judging.ExportInfo.{ExportInfo}
use Rattle.tag_clock.specs.Intervals.{Intervals, intervals_of, IsInterval}
use Rattle.tag_clock.specs.Clocks.{Limit, fresh_limit}
use Rattle.export_queue.specs.Queue.{Queue, empty_queue}
use Rattle.reply_box.specs.Box.{Box, empty_box}
use Rattle.lone_export.specs.Lone.{opening_of}
use Rattle.lone_export.specs.Parts.{Parts, out_job, slot_of, whole_of, AreJobs, jobs_of, IsLone}
use Rattle.lone_export.specs.declared.row.Row.{Row}

no_items : {X : Type 0} (xs : List X) → length xs ≡ 0 → xs ≡ []
no_items [] e = refl
no_items (x ∷ xs) e = absurd (omega arith)

no_entries : (X : Type 0) → fin.entries (fin.empty {X = X} {R = nat_cmp}) ≡ []
no_entries X = no_items _ (sym (fin.len-entries (fin.empty {X = X} {R = nat_cmp})) ∙ fin.len-empty nat_cmp X)

pub short : (n : ℕ) → (0 < n → IsInterval n) → n < 2 ^ 30
short zero is = omega arith
short (suc n) is = let a = (is (omega arith)).most in omega arith

abbrev first_parts : {A : Type 0} → Export → Intervals → ℕ → Parts A
first_parts e tuning inflight = record {
  info = record { size = e.size; read_only = e.read_only };
  tuning = tuning;
  rates = tuning;
  image = replicate e.size 0;
  queue = empty_queue e.depth inflight;
  clock = fresh_limit tuning.l_interval;
  sessions = empty_box e.window;
  count = 0;
  asked = 0;
}

first_whole : (A : Type 0) (e : Export) (inflight : ℕ) → whole_of (first_parts {A = A} e (intervals_of e.reservation e.limit e.weight) inflight) ≡ opening_of (terms_of e) inflight
first_whole A e inflight = λ i. record {
  terms = terms_of e;
  inflight = inflight;
  state = record { image = replicate e.size 0; waiting = []; out = map out_job (no_entries (ℕ × Row A) i); next = 0; last = None; rates = intervals_of e.reservation e.limit e.weight; sessions = []; count = 0 };
  slots = map slot_of (no_entries (ℕ × Row A) i);
}

module _ {A : Type 0} where
  first_lone : (e : Export) (tuning : Intervals) (inflight : ℕ) → IsExport e → IsWithin 4096 inflight → (0 < tuning.l_interval → IsInterval tuning.l_interval) → IsLone {A = A} (first_parts e tuning inflight)
  first_lone e tuning inflight is few range = record {
    sized = length-replicate e.size 0;
    numbered = subst (λ (xs : List (ℕ × (ℕ × Row A))). AreJobs (record { size = e.size; read_only = e.read_only; depth = e.depth; window = e.window; rates = tuning }) 0 (map out_job xs ++ [])) (sym (no_entries (ℕ × Row A))) tt;
    owed = λ s. ap (λ (xs : List (ℕ × (ℕ × Row A))). jobs_of (map out_job xs ++ []) s) (no_entries (ℕ × Row A));
    ticks = refl;
    bounded = record {
      budget = let a : length (map out_job (fin.entries (fin.empty {X = ℕ × Row A} {R = nat_cmp}))) ≡ 0 = ap (λ (xs : List (ℕ × (ℕ × Row A))). length (map out_job xs)) (no_entries (ℕ × Row A)) in omega arith;
      asked_counted = omega arith;
      asked_few = omega arith;
      numbered = omega arith;
      seated = omega arith;
      interval = short tuning.l_interval range;
      tag = tt;
    };
    depth = is.depth.greatest;
    window = is.window.greatest;
    inflight = few.greatest;
  }

  module _ (e : Export) (info : ExportInfo) (tuning : Intervals) (image : List ℕ) (queue : Queue (Row A)) (clock : Limit) (sessions : Box) (inflight : ℕ)
      (size : info.size ≡ e.size) (read_only : info.read_only ≡ e.read_only) (bytes : image ≡ replicate e.size 0) (queued : queue ≡ empty_queue e.depth inflight)
      (ticks : clock ≡ fresh_limit tuning.l_interval) (boxed : sessions ≡ empty_box e.window) where
    parts_are : record { info = info; tuning = tuning; rates = tuning; image = image; queue = queue; clock = clock; sessions = sessions; count = 0; asked = 0 } ≡ first_parts e tuning inflight
    parts_are = λ i. record {
      info = record { size = size i; read_only = read_only i };
      tuning = tuning;
      rates = tuning;
      image = bytes i;
      queue = queued i;
      clock = ticks i;
      sessions = boxed i;
      count = 0;
      asked = 0;
    }

    pub lone-new : IsExport e → IsWithin 4096 inflight → (0 < tuning.l_interval → IsInterval tuning.l_interval)
        → IsLone (record { info = info; tuning = tuning; rates = tuning; image = image; queue = queue; clock = clock; sessions = sessions; count = 0; asked = 0 })
    lone-new is few range = subst IsLone (sym parts_are) (first_lone e tuning inflight is few range)

    pub new_is : tuning ≡ intervals_of e.reservation e.limit e.weight
        → whole_of (record { info = info; tuning = tuning; rates = tuning; image = image; queue = queue; clock = clock; sessions = sessions; count = 0; asked = 0 }) ≡ opening_of (terms_of e) inflight
    new_is tuned = ap whole_of parts_are ∙ ap (λ (t : Intervals). whole_of {A = A} (first_parts {A = A} e t inflight)) tuned ∙ first_whole A e inflight
