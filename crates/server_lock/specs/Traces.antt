-- Events and answers, shortened: a request to its head, a reply to its error and cookie.
use Rattle.std.specs.Prelude.{ℕ, Bool, true, false, if◌then◌else◌}
use Rattle.server_table.specs.declared.event.Event.{Event}
use Rattle.server_table.specs.declared.event.Event.TheVariants as event
use Rattle.server_table.specs.declared.event.Answer.{Answer}
use Rattle.server_table.specs.declared.event.Answer.TheVariants as answer
use Rattle.server_lock.specs.declared.trace.EventTrace.{EventTrace}
use Rattle.server_lock.specs.declared.trace.EventTrace.TheVariants.{Attach, Arrive, Dispatch, Perform, Take, Leave, Gone, Retune}
use Rattle.server_lock.specs.declared.trace.AnswerTrace.{AnswerTrace}
use Rattle.server_lock.specs.declared.trace.AnswerTrace.TheVariants.{Session, Accepted, Answered, Picked, Nothing, Performed, Reply, Empty, End, Left, Dropped, NoExport, NotOpen, Worn, Full, Hold, NotOut, Retuned, Waiting, NoMemory}
use Rattle.server_lock.specs.declared.trace.Trace.{Trace}

module _ {A : Type 0} where
  abbrev pub short_event : Event A → EventTrace
  short_event (event.Attach e) = Attach e
  short_event (event.Arrive e s t q) = Arrive e s t q.head
  short_event (event.Dispatch t) = Dispatch t
  short_event (event.Perform e n) = Perform e n
  short_event (event.Take e s) = Take e s
  short_event (event.Leave e s) = Leave e s
  short_event (event.Gone e s) = Gone e s
  short_event (event.Retune e rates) = Retune e rates

  abbrev pub short_answer : Answer A → AnswerTrace
  short_answer (answer.Session n) = Session n
  short_answer (answer.Accepted n tag) = Accepted n tag
  short_answer (answer.Answered error) = Answered error
  short_answer (answer.Picked e n phase) = Picked e n phase
  short_answer answer.Nothing = Nothing
  short_answer (answer.Performed memory) = Performed memory
  short_answer (answer.Reply reply) = Reply reply.error reply.cookie
  short_answer answer.Empty = Empty
  short_answer answer.End = End
  short_answer answer.Left = Left
  short_answer answer.Dropped = Dropped
  short_answer answer.NoExport = NoExport
  short_answer answer.NotOpen = NotOpen
  short_answer answer.Worn = Worn
  short_answer answer.Full = Full
  short_answer answer.Hold = Hold
  short_answer answer.NotOut = NotOut
  short_answer answer.Retuned = Retuned
  short_answer answer.Waiting = Waiting
  short_answer answer.NoMemory = NoMemory

  abbrev pub trace_of : Event A → Answer A → Trace
  trace_of what said = record { event = short_event what; answer = short_answer said }

-- whether a step with this answer changed something
abbrev pub is_counted_trace : AnswerTrace → Bool
is_counted_trace (Session n) = true
is_counted_trace (Accepted n tag) = true
is_counted_trace (Answered error) = true
is_counted_trace (Picked e n phase) = true
is_counted_trace Nothing = false
is_counted_trace (Performed memory) = true
is_counted_trace (Reply error cookie) = true
is_counted_trace Empty = false
is_counted_trace End = false
is_counted_trace Left = true
is_counted_trace Dropped = true
is_counted_trace NoExport = false
is_counted_trace NotOpen = false
is_counted_trace Worn = false
is_counted_trace Full = false
is_counted_trace Hold = false
is_counted_trace NotOut = false
is_counted_trace Retuned = true
is_counted_trace Waiting = false
is_counted_trace NoMemory = false

abbrev pub rise_of_trace : AnswerTrace → ℕ
rise_of_trace said = if is_counted_trace said then 1 else 0
