-- What contracts see of a pass.
use Rattle.std.specs.Prelude.{ℕ, ◌+◌, ◌-◌, ◌==◌, Bool, false, ◌&&◌, nat_lt, if◌then◌else◌, List, ◌∷◌, replicate, Option, Some, None}
use Rattle.server_table.specs.declared.event.Event.{Event}
use Rattle.server_table.specs.declared.event.Answer.{Answer}
use Rattle.server_core.specs.Tickets.{Place}
use Rattle.server_core.specs.declared.ticket.Chosen.{Chosen}
use Rattle.server_core.specs.Counted.{rise}
use Rattle.server_lock.specs.declared.trace.Trace.{Trace}
use Rattle.server_lock.specs.Traces.{trace_of}

-- its turns, its share of the counted steps, its latest turn, how many of its choices it has not performed, and its
-- latest choice until that is performed
pub record Score : Type 0 where
  pub turns : ℕ
  pub share : ℕ
  pub last : Option Trace
  pub held : ℕ
  pub choice : Option Place

-- a count that stops at the greatest value of 64 bits
abbrev pub next_count : ℕ → ℕ
next_count n = if nat_lt n 18446744073709551615 then n + 1 else n

-- a pass after a turn that counted so many steps
abbrev pub scored : Score → ℕ → Trace → Score
scored s steps turn = record { turns = next_count s.turns; share = s.share + steps; last = Some turn; held = s.held; choice = s.choice }

-- a pass that has made no turn
abbrev pub unused : ℕ → Score
unused steps = record { turns = 0; share = steps; last = None; held = 0; choice = None }

-- the n passes of a server that has counted so many steps: they are the first one's share
abbrev pub opened : ℕ → ℕ → List Score
opened steps n = unused steps ∷ replicate (n - 1) (unused 0)

module _ {A : Type 0} where
  -- a pass after a turn that was this event, with this answer
  abbrev pub noted : Score → Event A → Answer A → Score
  noted s what said = scored s (rise said) (trace_of what said)

-- a pass once it was given a ticket
abbrev pub holding : Score → Place → Score
holding s ticket = record s { held = next_count s.held; choice = Some ticket }

abbrev pub chosen_by : Score → Option Chosen → Score
chosen_by s None = s
chosen_by s (Some chosen) = holding s chosen.ticket

abbrev pub is_choice : Option Place → Place → Bool
is_choice None ticket = false
is_choice (Some one) ticket = one.export == ticket.export && one.number == ticket.number && one.slot == ticket.slot

-- a pass once it was handed a ticket to perform: where it is that of its latest choice, it is held no more
abbrev pub without : Score → Place → Score
without s ticket = if is_choice s.choice ticket then record s { held = s.held - 1; choice = None } else s
