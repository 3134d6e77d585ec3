-- The limit tags that a list of steps gives, and the arrivals that are given them. What the tags are by the arrivals alone
-- stands in tag_clock (`limit_tags`).
use Rattle.std.specs.Prelude.{◌≡◌, ℕ, List, [], ◌∷◌, ◌++◌, Option, Some, None, option_map, option_to_list, ℤ}
use Rattle.nbd_base.specs.Words.{when_some}
use Rattle.nbd_commands.specs.Terms.{Terms}
use Rattle.tag_clock.specs.LimitTags.{Arrival, limit_tags}
use Rattle.lone_export.specs.Alone.{opening, answers_alone}
use Rattle.lone_export.specs.declared.step.Step.{Step}
use Rattle.lone_export.specs.declared.step.Step.TheVariants.{Arrive, Retune}
use Rattle.lone_export.specs.declared.step.StepAnswer.{StepAnswer}
use Rattle.lone_export.specs.declared.step.StepAnswer.TheVariants.{Accepted, Retuned}

module _ {A : Type 0} where
  -- the tag of an answer to an accepted arrival
  abbrev pub tag_of : StepAnswer A → Option ℤ
  tag_of (Accepted n tag) = Some tag
  tag_of said = None

  -- the moment of an arrival
  abbrev pub arrived : Step A → Option ℕ
  arrived (Arrive s t q) = Some t
  arrived step = None

  -- the interval of the limit in force after a step, where it was this one before
  abbrev pub interval_after : Step A → StepAnswer A → ℕ → ℕ
  interval_after (Retune rates) Retuned interval = rates.l_interval
  interval_after step said interval = interval

  -- the limit tags that were given
  abbrev pub given_tags : List (StepAnswer A) → List ℤ
  given_tags [] = []
  given_tags (said ∷ answers) = option_to_list (tag_of said) ++ given_tags answers

  -- the arrival of a step that was given one
  abbrev pub accepted_arrival : ℕ → Step A → StepAnswer A → Option Arrival
  accepted_arrival interval step said = when_some (tag_of said) (λ tag. option_map (λ t. record { moment = t; interval = interval }) (arrived step)) None

  -- the arrivals that were given them, where this interval was in force at first
  abbrev pub accepted_arrivals : ℕ → List (Step A) → List (StepAnswer A) → List Arrival
  accepted_arrivals interval [] answers = []
  accepted_arrivals interval (step ∷ steps) [] = []
  accepted_arrivals interval (step ∷ steps) (said ∷ answers) =
      option_to_list (accepted_arrival interval step said) ++ accepted_arrivals (interval_after step said interval) steps answers

-- the limit tags that an export gives, from its opening on, are those of its accepted arrivals
abbrev pub GivesUnrolledTags : {A : Type 0} → Terms → List (Step A) → Type 0
GivesUnrolledTags terms steps =
    given_tags (answers_alone terms (opening terms) steps) ≡
    limit_tags (accepted_arrivals terms.rates.l_interval steps (answers_alone terms (opening terms) steps))
