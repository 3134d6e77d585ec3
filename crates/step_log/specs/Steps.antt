-- Steps as they are kept, and the bytes of their payload.
use Rattle.std.specs.Prelude.{ℕ, ◌+◌, List, [], ◌∷◌, map, length}
use Rattle.lone_export.specs.declared.step.Step.{Step}
use Rattle.lone_export.specs.declared.step.Step.TheVariants.{Attach, Arrive, Pick, Perform, Take, Leave, Gone, Retune}

-- a step as it is kept: the allocator of its payload is nothing to it
abbrev pub KeptStep : Type 0
KeptStep = Step (Unit {0})

abbrev pub kept_step : {A : Type 0} → Step A → KeptStep
kept_step Attach = Attach
kept_step (Arrive s t q) = Arrive s t q
kept_step Pick = Pick
kept_step (Perform n memory) = Perform n memory
kept_step (Take s) = Take s
kept_step (Leave s) = Leave s
kept_step (Gone s) = Gone s
kept_step (Retune rates) = Retune rates

abbrev pub kept_log : {A : Type 0} → List (Step A) → List KeptStep
kept_log steps = map kept_step steps

-- the bytes of payload of a step, and of a log
abbrev pub payload_of : KeptStep → ℕ
payload_of Attach = 0
payload_of (Arrive s t q) = length q.payload
payload_of Pick = 0
payload_of (Perform n memory) = 0
payload_of (Take s) = 0
payload_of (Leave s) = 0
payload_of (Gone s) = 0
payload_of (Retune rates) = 0

abbrev pub payload_in : List KeptStep → ℕ
payload_in [] = 0
payload_in (step ∷ log) = payload_of step + payload_in log
