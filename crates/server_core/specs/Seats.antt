-- How the seats of the requests that are out move.
use Rattle.std.specs.Prelude.{◌≡◌, ℕ, [], ◌∷◌, ◌++◌, map, get_or}
use Rattle.nbd_base.specs.Words.{change_at}
use Rattle.server_table.specs.Table.{part}
use Rattle.server_table.specs.declared.event.Event.{Event}
use Rattle.server_table.specs.declared.event.Event.TheVariants.{Attach, Arrive, Dispatch, Perform, Take, Leave, Gone, Retune}
use Rattle.server_table.specs.declared.event.Answer.{Answer}
use Rattle.server_table.specs.declared.event.Answer.TheVariants.{Picked, Performed}
use Rattle.server_core.specs.Members.{seats_without}
use Rattle.server_core.specs.Served.{Served, Holds}

-- of export e, each request in service has a seat, in the same order, and no other has one; no slot holds two of them
pub record AreSeated (served : Served) (e : ℕ) : Type 0 where
  pub each : map (λ seat. seat.number) (get_or served.seats e []) ≡ map (λ job. job.number) (part e served.table).out
  pub differ : (m n slot : ℕ) → Holds served (record { export = e; number = m; slot = slot }) → Holds served (record { export = e; number = n; slot = slot }) → m ≡ n

module _ {A : Type 0} where
  -- a dispatch gives a seat to the request that it chose, if any
  abbrev pub SeatIsTaken : Served → Served → Answer A → Type 0
  SeatIsTaken old new (Picked e n phase) = (slot : ℕ) × (new.seats ≡ change_at (λ these. these ++ record { number = n; slot = slot } ∷ []) e old.seats)
  SeatIsTaken old new answer = new.seats ≡ old.seats

  -- a request that is done gives its seat back
  abbrev pub SeatIsLeft : Served → ℕ → ℕ → Served → Answer A → Type 0
  SeatIsLeft old e n new (Performed memory) = new.seats ≡ change_at (seats_without n) e old.seats
  SeatIsLeft old e n new answer = new.seats ≡ old.seats

  -- no other event moves a seat
  abbrev pub EventSeats : Served → Event A → Served → Answer A → Type 0
  EventSeats old (Attach e) new answer = new.seats ≡ old.seats
  EventSeats old (Arrive e s t q) new answer = new.seats ≡ old.seats
  EventSeats old (Dispatch t) new answer = SeatIsTaken old new answer
  EventSeats old (Perform e n) new answer = SeatIsLeft old e n new answer
  EventSeats old (Take e s) new answer = new.seats ≡ old.seats
  EventSeats old (Leave e s) new answer = new.seats ≡ old.seats
  EventSeats old (Gone e s) new answer = new.seats ≡ old.seats
  EventSeats old (Retune e rates) new answer = new.seats ≡ old.seats
