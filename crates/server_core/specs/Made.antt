-- What a call of a server does: one event.
use Rattle.std.specs.Prelude.{◌≡◌, ◌+◌}
use Rattle.server_table.specs.declared.event.Event.{Event}
use Rattle.server_table.specs.declared.event.Answer.{Answer}
use Rattle.server_core.specs.Served.{Served, Stepped}
use Rattle.server_core.specs.Journals.{EventMoves}
use Rattle.server_core.specs.Seats.{EventSeats}
use Rattle.server_core.specs.Counted.{counted_steps, rise}

module _ {A : Type 0} where
  -- the event is made with this answer: one step of the table, which moves the journal and the seats of its export, and is counted
  -- where the answer tells that something changed
  pub record Makes (old : Served) (event : Event A) (new : Served) (answer : Answer A) : Type 0 where
    pub step : Stepped old event new answer
    pub journals : EventMoves old event new answer
    pub seats : EventSeats old event new answer
    pub counted : counted_steps new ≡ counted_steps old + rise answer
