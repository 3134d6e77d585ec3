-- A retune, over the parts.
use Rattle.std.proofs.Common.{◌≡◌, ℕ, ◌<◌, ◌≤◌, Bool, true, false, List, length, get_or, refl, ap, arith}
use Rattle.std.specs.Prelude.{not, ◌==◌, ◌^◌, nat_le, if◌then◌else◌}
use Rattle.tag_clock.specs.Intervals.{Intervals}
use Rattle.server_table.specs.declared.event.Event.TheVariants.{Retune}
use Rattle.server_table.specs.declared.event.Answer.TheVariants.{NoExport, NoMemory, Worn, Waiting, Retuned}
use Rattle.server_table.specs.Table.{Table}
use Rattle.server_table.specs.Steps.{outcome, with_rates, step}
use Rattle.server_table.specs.Parts.{Part, table_of, setup_of, part_retuned}
use Rattle.server_table.specs.Kept.{IsRetune}
use Rattle.server_table.proofs.Rows.{side_at, terms_at}
use Rattle.server_table.proofs.Sides.{changed_at}
use Rattle.server_table.proofs.Arrive.{waiting_at}
use Rattle.server_table.proofs.Refused.{none_there}

module _ {A : Type 0} where
  pub step_retune : (ps : List Part) (now inflight e : ℕ) (rates : Intervals) → IsRetune A ps now inflight e rates
  step_retune ps now inflight e rates p lt at =
      rw (terms_at ps inflight e p lt at, waiting_at ps e 0 e p (omega arith) lt at, side_at ps now e p lt at)
      (ap (λ (table : Table). if nat_le (2 ^ 56) p.count then outcome {A = A} (table_of ps now) Worn
      else (if not (length p.waiting == 0) then outcome (table_of ps now) Waiting
      else outcome table Retuned)) (changed_at ps now e p (part_retuned rates p) (with_rates rates) lt at (λ n. refl) refl))

  pub no_retune : (ps : List Part) (now inflight e : ℕ) (rates : Intervals) (memory : Bool) → length ps ≤ e → step {A = A} (setup_of ps inflight) (table_of ps now) (Retune e rates) memory ≡ outcome (table_of ps now) NoExport
  no_retune ps now inflight e rates memory le = rw (none_there ps inflight e le) refl

  pub no_room_to_retune : (ps : List Part) (now inflight e : ℕ) (rates : Intervals) (p : Part) → e < length ps → p ≡ get_or ps e p → nat_le (2 ^ 56) p.count ≡ false → (length p.waiting == 0) ≡ true →
      step {A = A} (setup_of ps inflight) (table_of ps now) (Retune e rates) false ≡ outcome (table_of ps now) NoMemory
  no_room_to_retune ps now inflight e rates p lt at young none =
      rw (terms_at ps inflight e p lt at, waiting_at ps e 0 e p (omega arith) lt at, side_at ps now e p lt at, young, none) refl
