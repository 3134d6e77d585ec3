-- The steps of a log, those that follow another mostly with it.
use Rattle.std.specs.Prelude.{ℕ, ◌+◌, true, List, [], ◌∷◌, ◌++◌, length}
use Rattle.lone_export.specs.declared.step.Step.TheVariants.{Pick, Perform, Take}
use Rattle.step_log.specs.declared.group.Group.{Group}
use Rattle.step_log.specs.declared.rest.Rest.{Rest}
use Rattle.step_log.specs.declared.rest.Rest.TheVariants as rest
use Rattle.step_log.specs.Steps.{KeptStep, kept_step}

-- the steps that follow another
abbrev pub rest_steps : Rest → List KeptStep
rest_steps rest.Nothing = []
rest_steps rest.Pick = Pick ∷ []
rest_steps (rest.PickPerform n) = Pick ∷ Perform n true ∷ []
rest_steps (rest.Serving n s) = Pick ∷ Perform n true ∷ Take s ∷ []
rest_steps (rest.Perform n) = Perform n true ∷ []
rest_steps (rest.PerformTake n s) = Perform n true ∷ Take s ∷ []
rest_steps (rest.Take s) = Take s ∷ []

abbrev pub group_steps : {A : Type 0} → Group A → List KeptStep
group_steps group = kept_step group.step ∷ rest_steps group.rest

abbrev pub steps_in : {A : Type 0} → List (Group A) → List KeptStep
steps_in [] = []
steps_in (group ∷ groups) = group_steps group ++ steps_in groups

-- what follows a step that is gone, the steps behind that, and for how many more there is room at least
pub record StepLog : Type 0 where
  pub rest : Rest
  pub behind : List KeptStep
  pub spare : ℕ

-- its steps, oldest first
abbrev pub steps_of : StepLog → List KeptStep
steps_of log = rest_steps log.rest ++ log.behind

-- how many steps it has room for, those that it has among them
abbrev pub room_of : StepLog → ℕ
room_of log = length (steps_of log) + log.spare
