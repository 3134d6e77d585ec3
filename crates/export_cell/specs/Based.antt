-- An export some of whose steps are queued: what it is once they are made.
use Rattle.std.specs.Prelude.{◌≡◌, ℕ, ◌+◌, ◌≤◌, Bool, ◌&&◌, nat_lt, nat_le, List, [], length, drop}
use Rattle.nbd_commands.specs.Terms.{Terms}
use Rattle.lone_export.specs.Alone.{Alone, own_step, alone, opening}
use Rattle.lone_export.specs.Lone.{Whole}
use Rattle.step_log.specs.Steps.{KeptStep, payload_in}
use Rattle.export_cell.specs.Journal.{IsLog}

-- its state once all its steps are made, and those that aren't yet, oldest first
pub record Based : Type 0 where
  pub terms : Terms
  pub inflight : ℕ
  pub state : Alone
  pub queue : List KeptStep

abbrev pub opening_based : Terms → ℕ → Based
opening_based terms inflight = record { terms = terms; inflight = inflight; state = opening terms; queue = [] }

-- nobody asks for its slots
abbrev pub whole_of : Based → Whole
whole_of base = record { terms = base.terms; inflight = base.inflight; state = base.state; slots = [] }

-- the queue of an export as far as its steps are made
abbrev pub based : Whole → List KeptStep → Based
based made queue = record { terms = made.terms; inflight = made.inflight; state = alone made.terms made.state queue; queue = queue }

-- a step has its place behind those that are queued: fewer than 8,192, and with its payload at most 96 MiB
abbrev pub has_place : ℕ → List KeptStep → Bool
has_place bytes queue = nat_le (payload_in queue + bytes) 100663296 && nat_lt (length queue) 8192

-- never more than that
pub record IsShort (queue : List KeptStep) : Type 0 where
  pub few : length queue ≤ 8192
  pub light : payload_in queue ≤ 100663296

-- each step that is queued is counted where it stands, and what they hold is known
pub record IsBased (made : Whole) (queue : List KeptStep) (bytes : ℕ) : Type 0 where
  pub each : IsLog made.terms made.inflight made.state queue
  pub payload : bytes ≡ payload_in queue
  pub short : IsShort queue

-- the n oldest steps that were queued are made
abbrev pub shorter : ℕ → Based → Based
shorter n base = record base { queue = drop n base.queue }

-- some of them are, no more than most
pub record IsCaughtUp (most : ℕ) (old new : Based) : Type 0 where
  pub made : ℕ
  pub few : made ≤ most
  pub rest : new ≡ shorter made old

-- the base makes this step, now or later
pub record Follows (old new : Based) (step : KeptStep) : Type 0 where
  pub state : new.state ≡ (own_step old.terms old.state step).state
  pub terms : new.terms ≡ old.terms
  pub inflight : new.inflight ≡ old.inflight

-- the base makes these steps, one after another
pub record FollowsAll (old new : Based) (steps : List KeptStep) : Type 0 where
  pub state : new.state ≡ alone old.terms old.state steps
  pub terms : new.terms ≡ old.terms
  pub inflight : new.inflight ≡ old.inflight
