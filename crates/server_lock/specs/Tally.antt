-- What is counted of an export, by the traces of its turns.
use Rattle.std.specs.Prelude.{ℕ, ◌+◌, ◌-◌, ◌%◌, ◌^◌, ◌==◌, min, Bool, true, false, if◌then◌else◌, List, [], ◌∷◌, ◌++◌, length, get_or, slice_get, slice_set, Option, Some, None, option_map, Result, Ok, Err}
use Rattle.circular_buffer.specs.Buffer.{keep_last}
use Rattle.nbd_measures.specs.declared.holds.HoldCount.{HoldCount}
use Rattle.nbd_wire.specs.declared.requests.RequestHead.{RequestHead}
use Rattle.tag_clock.specs.declared.Phase.{Phase}
use Rattle.lone_export.specs.declared.refusal.Arrived.{Arrived}
use Rattle.lone_export.specs.declared.refusal.Arrived.TheVariants as arrival
use Rattle.server_core.specs.declared.refusal.NotArrived.{NotArrived}
use Rattle.tag_clock.specs.declared.Phase.TheVariants as phases
use Rattle.server_lock.specs.declared.counts.ExportCounts.{ExportCounts}

-- a count that so many are added to. It stops at the greatest value of 64 bits
abbrev pub raised : ℕ → ℕ → ℕ
raised count more = min (count + more) (2 ^ 64 - 1)

abbrev pub no_counts : ExportCounts
no_counts = record { by_reservation = 0; by_weight = 0; performed = 0; errors = 0; read_bytes = 0; written_bytes = 0 }

-- with the data of a request that was accepted
abbrev pub with_data : ExportCounts → RequestHead → ExportCounts
with_data c head =
    if head.kind == 0 then record c { read_bytes = raised c.read_bytes head.length }
    else (if head.kind == 1 then record c { written_bytes = raised c.written_bytes head.length } else c)

abbrev pub with_choice : ExportCounts → Phase → ExportCounts
with_choice c phases.Reservation = record c { by_reservation = raised c.by_reservation 1 }
with_choice c phases.Weight = record c { by_weight = raised c.by_weight 1 }

abbrev pub with_error : ExportCounts → ExportCounts
with_error c = record c { errors = raised c.errors 1 }

-- with a request that was performed; where no memory was there for it, it is answered with an error
abbrev pub with_performed : ExportCounts → Bool → ExportCounts
with_performed c true = record c { performed = raised c.performed 1 }
with_performed c false = with_error (record c { performed = raised c.performed 1 })

-- what is known of an export: its counts, the moments at which its latest requests arrived, by their numbers, and how long its
-- latest requests waited
pub record Known : Type 0 where
  pub counts : ExportCounts
  pub arrivals : List ℕ
  pub waits : List ℕ

-- a request with this number and head arrived at a moment, and was accepted
abbrev pub arrived : Known → ℕ → ℕ → RequestHead → Known
arrived k number moment head =
    record k { counts = with_data k.counts head; arrivals = slice_set k.arrivals (number % length k.arrivals) moment }

-- how long it has waited
abbrev pub wait_of : List ℕ → ℕ → ℕ → ℕ
wait_of arrivals number moment = moment - get_or arrivals (number % length arrivals) moment

-- it was chosen
abbrev pub chosen : Known → ℕ → ℕ → Phase → Known
chosen k number moment phase =
    record k { counts = with_choice k.counts phase; waits = keep_last 1024 (k.waits ++ wait_of k.arrivals number moment ∷ []) }

-- a request was answered with an error as it arrived
abbrev pub refused : Known → Known
refused k = record k { counts = with_error k.counts }

-- one was performed
abbrev pub performed : Known → Bool → Known
performed k memory = record k { counts = with_performed k.counts memory }

-- what is known of all exports, by number, and of the holds of the server
pub record Tallied : Type 0 where
  pub exports : List Known
  pub holds : HoldCount

-- where this is known of an export from now on; none where there is no such export
abbrev pub with_known : Tallied → ℕ → Option Known → Tallied
with_known t export None = t
with_known t export (Some known) = record t { exports = slice_set t.exports export known }

-- behind the arrival of a request with this head at a moment, which was answered so
module _ {A : Type 0} where
  abbrev pub answered : Tallied → ℕ → ℕ → RequestHead → Result Arrived (NotArrived A) → Tallied
  answered t export moment head (Ok (arrival.Accepted number tag)) =
      with_known t export (option_map (λ known. arrived known number moment head) (slice_get t.exports export))
  answered t export moment head (Ok (arrival.Answered error)) =
      with_known t export (option_map (λ known. refused known) (slice_get t.exports export))
  answered t export moment head (Err e) = t
