-- What comes of a retune.
use Rattle.std.specs.Prelude.{ℕ, Bool, true, false, ◌&&◌, Result, Ok, Err}
use Rattle.server_core.specs.declared.refusal.NotRetuned.{NotRetuned}
use Rattle.server_core.specs.declared.refusal.NotRetuned.TheVariants as refused
use Rattle.nbd_service.specs.declared.retuning.RetuneOutcome.{RetuneOutcome}
use Rattle.nbd_service.specs.declared.retuning.RetuneOutcome.TheVariants as came
use Rattle.nbd_policy.specs.Policy.{still_retunes_by}

-- what came of one try
abbrev pub outcome_by : Result (Unit {0}) NotRetuned → RetuneOutcome
outcome_by (Ok done) = came.Made
outcome_by (Err refused.NoExport) = came.NoExport
outcome_by (Err refused.Worn) = came.Worn
outcome_by (Err refused.Waiting) = came.Busy
outcome_by (Err refused.NoMemory) = came.NoMemory

-- whether that may pass: requests wait, or all passes are out
abbrev pub may_pass_by : RetuneOutcome → Bool
may_pass_by came.Made = false
may_pass_by came.Busy = true
may_pass_by came.Crowded = true
may_pass_by (came.Refused refusal) = false
may_pass_by came.NoExport = false
may_pass_by came.Worn = false
may_pass_by came.NoMemory = false

-- so many nanoseconds behind the first try, within 5 seconds
abbrev pub is_tried_again_by : RetuneOutcome → ℕ → Bool
is_tried_again_by outcome passed = may_pass_by outcome && still_retunes_by passed
