use Rattle.std.proofs.Common.{◌≡◌, ℕ, Option, Some, None, slice_get, refl, sym, ◌∙◌, ap}
use Rattle.std.specs.Prelude.{option_map}
use Rattle.std.proofs.lemmas.Option.{slice_get-map}
use Rattle.lone_export.specs.Alone.{Job}
use Rattle.lone_export.specs.Lone.{Whole}
use Rattle.lone_export.specs.Parts.{job_of}
use Rattle.lone_export.specs.declared.row.Row.{Row}
use Rattle.lone_export.proofs.lone.Lone.number_at.Goals as goal

numbers_as : {A : Type 0} (o : Option (ℕ × Row A)) → option_map (λ (row : ℕ × Row A). row.0) o ≡ option_map (λ (job : Job). job.number) (option_map job_of o)
numbers_as None = refl
numbers_as (Some row) = refl

pub returns : goal.returns
returns g c =
    let i = c.self.inside in
    c.number_at.ensures ∙ numbers_as (slice_get i.queue.waiting c.args.place) ∙ sym (ap (option_map (λ (job : Job). job.number)) (slice_get-map job_of i.queue.waiting c.args.place)) ∙ ap (λ (w : Whole). option_map (λ (job : Job). job.number) (slice_get w.state.waiting c.args.place)) c.self.view_is
