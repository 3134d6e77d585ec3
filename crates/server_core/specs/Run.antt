-- What is so of a run of a server, by its events and the answers that it gave.
use Rattle.std.specs.Prelude.{◌≡◌, List}
use Rattle.server_table.specs.declared.event.Event.{Event}
use Rattle.server_table.specs.declared.event.Answer.{Answer}
use Rattle.server_table.specs.Table.{Setup}
use Rattle.server_table.specs.Steps.{last_table, run_answers}
use Rattle.server_table.specs.Shares.{marks_of}
use Rattle.core_laws.specs.Statements.{IsToldAsAlone, EndsAsAlone, QueuesCountTheirOwn, WeightsWait, ReservationsBeforeWeights, ChoosesNoneBefore, ChoosesByLimit, ChoosesByReservation}
use Rattle.core_laws.specs.Shares.{WeightsTakeTheLeast, SharesByWeight, RisesByItsChoices, SharesByRatio}
use Rattle.core_laws.specs.Between.{SharesBetween, RatioBetween}

module _ {A : Type 0} where
  -- the answers are those of the definition, with memory there for each event as its answer tells
  abbrev pub IsAnswered : Setup → List (Event A) → List (Answer A) → Type 0
  IsAnswered setup events answers = answers ≡ run_answers setup events (marks_of answers)

  -- each export is told what it is told alone under its own steps, and ends as it does alone
  abbrev pub IsAlone : Setup → List (Event A) → List (Answer A) → Type 0
  IsAlone setup events answers = IsToldAsAlone setup events answers × EndsAsAlone setup events answers (last_table setup events (marks_of answers))

  -- an arrival is answered 5 (EIO) for the requests of its own export that wait, and for no others
  abbrev pub CountsItsOwn : Setup → List (Event A) → List (Answer A) → Type 0
  CountsItsOwn setup events answers = QueuesCountTheirOwn setup events answers (marks_of answers)

  -- no choice by weight comes before its request's limit tag
  abbrev pub WaitsForLimits : Setup → List (Event A) → List (Answer A) → Type 0
  WaitsForLimits setup events answers = WeightsWait setup events answers (marks_of answers)

  -- no choice is by weight while a reservation is due
  abbrev pub ReservedFirst : Setup → List (Event A) → List (Answer A) → Type 0
  ReservedFirst setup events answers = ReservationsBeforeWeights setup events answers (marks_of answers)

  -- none before the first accepted arrival; by weight no more than the limit allows, by reservation no more than it gives
  abbrev pub KeepsToRates : Setup → List (Event A) → List (Answer A) → Type 0
  KeepsToRates setup events answers = ChoosesNoneBefore setup events answers × ChoosesByLimit setup events answers × ChoosesByReservation setup events answers

  -- a choice by weight is of the least tag; and of two exports that wait side by side the one is chosen by weight no more
  -- often than the tag of the other's first request rises, which is by its choices where its requests arrive in time
  abbrev pub KeepsToWeights : Setup → List (Event A) → List (Answer A) → Type 0
  KeepsToWeights setup events answers = WeightsTakeTheLeast setup events answers (marks_of answers) × SharesByWeight setup events answers (marks_of answers) ×
      RisesByItsChoices setup events answers (marks_of answers) × SharesByRatio setup events answers (marks_of answers)

  -- from a choice of an export to a later one, another that waits all that time is chosen by weight once at most, and once
  -- more for each of its intervals by which the tag that is chosen rose: where requests arrive in time, the ratio of weights
  abbrev pub KeepsToWeightsBetween : Setup → List (Event A) → List (Answer A) → Type 0
  KeepsToWeightsBetween setup events answers = SharesBetween setup events answers (marks_of answers) × RatioBetween setup events answers (marks_of answers)
