-- A request that is performed again, by the mark that it had.
use Rattle.std.proofs.Common.{◌≡◌, ℕ, Bool, true, false, not, ◌==◌, ◌&&◌, List, map, find, Option, Some, None, if◌then◌else◌, refl, sym, ap, subst, ◌∙◌}
use Rattle.std.specs.FinMap as fin
use Rattle.nbd_base.specs.Words.{when_some}
use Rattle.nbd_commands.specs.Meaning.{may_want_memory}
use Rattle.export_queue.specs.Queue.{item_held, slot_in}
use Rattle.lone_export.specs.Alone.{Alone, Job, Moved, own_step, moves, stays, done, undone}
use Rattle.lone_export.specs.Lone.{Whole, Does, mark_again, wants_memory}
use Rattle.lone_export.specs.Parts.{Parts, out_job, state_at, whole_of, IsLone}
use Rattle.lone_export.specs.declared.row.Row.{Row}
use Rattle.lone_export.specs.declared.step.Step.TheVariants as step
use Rattle.lone_export.specs.declared.step.StepAnswer.TheVariants as said
use Rattle.lone_export.proofs.Done.{found_held, missing_job}

module _ {A : Type 0} where
  -- the request isn't in service
  pub no_job : (p : Parts A) (n : ℕ) → None ≡ slot_in (fin.get p.queue.out n) → find (λ job. job.number == n) (map out_job (fin.entries p.queue.out)) ≡ None
  no_job p n none = missing_job n (fin.entries p.queue.out) (sym (fin.get-entries p.queue.out n) ∙ absent (fin.get p.queue.out n) none)
    where
      absent : (o : Option (ℕ × Row A)) → None ≡ slot_in o → o ≡ None
      absent None h = refl
      absent (Some r) h = absurd (cc)

  pub not_out : (p : Parts A) (n : ℕ) (memory : Bool) (w : Whole) → IsLone p → whole_of p ≡ w → None ≡ slot_in (fin.get p.queue.out n) → Does {A = A} w w (step.Perform n memory) said.NotOut
  not_out p n memory w is e none =
      subst (λ (v : Whole). Does {A = A} v v (step.Perform n memory) said.NotOut) e
      (record {
        did = ap (λ (o : Option Job). when_some o (λ job. if not memory && may_want_memory job.request then moves {A = A} (undone (state_at p) job) (said.Performed false) else moves (done (state_at p) job) (said.Performed true)) (stays (state_at p) said.NotOut)) (no_job p n none);
        terms = refl;
        inflight = refl;
      })

  -- the mark that it has now stands for the one that it had
  same_mark : (state : Alone) (job : Job) (memory : Bool)
      → (if not memory && may_want_memory job.request then moves {A = A} (undone state job) (said.Performed false) else moves (done state job) (said.Performed true))
      ≡ (if not (mark_again memory job.request) && may_want_memory job.request then moves {A = A} (undone state job) (said.Performed false) else moves (done state job) (said.Performed true))
  same_mark state job memory = by memory (may_want_memory job.request)
    where
      by : (m wants : Bool)
          → (if not m && wants then moves {A = A} (undone state job) (said.Performed false) else moves (done state job) (said.Performed true))
          ≡ (if not (not (not m && wants)) && wants then moves {A = A} (undone state job) (said.Performed false) else moves (done state job) (said.Performed true))
      by true true = refl
      by true false = refl
      by false true = refl
      by false false = refl

  pub done_again : (p : Parts A) (slot n : ℕ) (row : Row A) (memory mark : Bool) (w new : Whole) → IsLone p → whole_of p ≡ w → Some row ≡ item_held p.queue slot n → mark ≡ mark_again memory row.request
      → Does {A = A} w new (step.Perform n mark) (said.Performed mark) → Does {A = A} w new (step.Perform n memory) (said.Performed mark)
  done_again p slot n row memory mark w new is e held marked does =
      record {
        did = subst (λ (v : Whole). own_step {A = A} v.terms v.state (step.Perform n memory) ≡ own_step {A = A} v.terms v.state (step.Perform n mark)) e alike ∙ does.did;
        terms = does.terms;
        inflight = does.inflight;
      }
    where
      told : Bool → Option Job → Moved A
      told m o = when_some o (λ job. if not m && may_want_memory job.request then moves {A = A} (undone (state_at p) job) (said.Performed false) else moves (done (state_at p) job) (said.Performed true)) (stays (state_at p) said.NotOut)

      found : find (λ job. job.number == n) (map out_job (fin.entries p.queue.out)) ≡ Some (out_job (n, (slot, row)))
      found = found_held p slot n row (sym held)

      alike : told memory (find (λ job. job.number == n) (map out_job (fin.entries p.queue.out))) ≡ told mark (find (λ job. job.number == n) (map out_job (fin.entries p.queue.out)))
      alike = ap (told memory) found ∙ same_mark (state_at p) (out_job (n, (slot, row))) memory ∙ ap (λ m. told m (Some (out_job (n, (slot, row))))) (sym marked) ∙ ap (told mark) (sym found)

  -- memory was wanted and refused: the image is as it was
  pub wants_again : (p : Parts A) (slot n : ℕ) (row : Row A) (image : List ℕ) (memory : Bool) (w : Whole) → IsLone p → whole_of p ≡ w → Some row ≡ item_held p.queue slot n
      → image ≡ p.image → memory ≡ true → may_want_memory row.request ≡ true → (whole_of (record p { image = image }) ≡ w) × (wants_memory {A = A} w.state (step.Perform n memory) ≡ true)
  wants_again p slot n row image memory w is e held same had wants = (
    ap (λ (xs : List ℕ). whole_of (record p { image = xs })) same ∙ e,
    subst (λ (v : Whole). wants_memory {A = A} v.state (step.Perform n memory) ≡ true) e
        (ap (λ m. m && when_some (find (λ job. job.number == n) (map out_job (fin.entries p.queue.out))) (λ job. may_want_memory job.request) false) had
        ∙ ap (λ (o : Option Job). when_some o (λ job. may_want_memory job.request) false) (found_held p slot n row (sym held)) ∙ wants),
  )
