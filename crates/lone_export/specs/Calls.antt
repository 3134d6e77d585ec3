-- Which steps are counted, and how many can still follow from what is there.
use Rattle.std.specs.Prelude.{◌≡◌, ℕ, ◌+◌, ◌*◌, ◌≤◌, Bool, true, false, length}
use Rattle.nbd_commands.specs.Terms.{Terms}
use Rattle.reply_box.specs.Sessions.{sessions_worth}
use Rattle.lone_export.specs.Alone.{Alone, Moved, own_step}
use Rattle.lone_export.specs.declared.step.Step.{Step}
use Rattle.lone_export.specs.declared.step.Step.TheVariants.{Attach, Arrive, Pick, Perform, Take, Leave, Gone, Retune}
use Rattle.lone_export.specs.declared.step.StepAnswer.{StepAnswer}
use Rattle.lone_export.specs.declared.step.StepAnswer.TheVariants as said

-- the most steps that what is there can still bring: a request that waits is picked and performed and its reply is taken
abbrev pub to_come : Alone → ℕ
to_come state = 3 * length state.waiting + 2 * length state.out + sessions_worth state.sessions

module _ {A : Type 0} where
  -- whether an answer tells that something changed
  abbrev pub is_counted : StepAnswer A → Bool
  is_counted (said.Session n) = true
  is_counted (said.Accepted n tag) = true
  is_counted (said.Answered error) = true
  is_counted (said.Picked n) = true
  is_counted said.Nothing = false
  is_counted (said.Performed memory) = true
  is_counted (said.Reply reply) = true
  is_counted said.Empty = false
  is_counted said.End = false
  is_counted said.Left = true
  is_counted said.Dropped = true
  is_counted said.NotOpen = false
  is_counted said.Worn = false
  is_counted said.Full = false
  is_counted said.Hold = false
  is_counted said.NotOut = false
  is_counted said.Retuned = true
  is_counted said.Waiting = false

  -- the most steps that a step can bring, itself among them
  abbrev pub brought : Step A → ℕ
  brought Attach = 3
  brought (Arrive s t q) = 4
  brought Pick = 0
  brought (Perform n memory) = 0
  brought (Take s) = 0
  brought (Leave s) = 0
  brought (Gone s) = 0
  brought (Retune rates) = 1

  -- a step that is counted adds one to the count and uses up one of the steps that were to come, or of the n that it
  -- brings; any other leaves the state
  pub record IsOneStep (n : ℕ) (old : Alone) (moved : Moved A) : Type 0 where
    pub counts : is_counted moved.answer ≡ true → moved.state.count ≡ old.count + 1
    pub stays : is_counted moved.answer ≡ false → moved.state ≡ old
    pub brings : is_counted moved.answer ≡ true → to_come moved.state + 1 ≤ to_come old + n

-- every step of an export is one of its steps to come
abbrev pub StepsToCome : Type 0 → Type 0
StepsToCome A = (terms : Terms) (old : Alone) (step : Step A) → IsOneStep (brought step) old (own_step terms old step)
