use Rattle.std.proofs.Common.{List, sym, subst}
use Rattle.server_table.specs.declared.event.Event.{Event}
use Rattle.server_table.specs.declared.event.Answer.{Answer}
use Rattle.server_table.specs.Table.{Setup}
use Rattle.server_table.specs.Steps.{last_table}
use Rattle.server_table.specs.Shares.{marks_of}
use Rattle.core_laws.specs.Runs.{Run}
use Rattle.core_laws.specs.Statements.{IsToldAsAlone, EndsAsAlone, QueuesCountTheirOwn, WeightsWait, ReservationsBeforeWeights, HasUnrolledTags, ChoosesNoneBefore, ChoosesByLimit, ChoosesByReservation}
use Rattle.core_laws.specs.Shares.{WeightsTakeTheLeast, SharesByWeight, RisesByItsChoices, SharesByRatio}
use Rattle.core_laws.specs.Between.{SharesBetween, RatioBetween}
use Rattle.server_core.specs.Served.{setup_for}
use Rattle.server_core.proofs.runs.run.Goals as goal

-- the run of these events, with memory there as the answers tell
abbrev run_of : {A : Type 0} → Setup → List (Event A) → List (Answer A) → Run A
run_of setup events answers = record { setup = setup; events = events; marks = marks_of answers }

pub returns-clause-alone : goal.returns-clause-alone
returns-clause-alone g c =
    let A = g.row.I-Alloc.Denot in
    let setup = setup_for c.args.config.now in
    let events = c.args.events.items in
    let answers = c.in_ok-answers.answers.items in
    let told = c.projection.ensures.told (run_of setup events answers) in
    let last = c.projection.ensures.last (run_of setup events answers) in
    let answered = sym c.in_ok-answers.ensures in (
      subst (λ (l : List (Answer A)). IsToldAsAlone setup events l) answered told,
      subst (λ (l : List (Answer A)). EndsAsAlone setup events l (last_table setup events (marks_of answers))) answered last,
    )

pub returns-clause-queue : goal.returns-clause-queue
returns-clause-queue g c =
    let A = g.row.I-Alloc.Denot in
    let setup = setup_for c.args.config.now in
    let events = c.args.events.items in
    let answers = c.in_ok-answers.answers.items in
    subst (λ (l : List (Answer A)). QueuesCountTheirOwn setup events l (marks_of answers)) (sym c.in_ok-answers.ensures) (c.queue_refusal.ensures.run (run_of setup events answers))

pub returns-clause-weight : goal.returns-clause-weight
returns-clause-weight g c =
    let A = g.row.I-Alloc.Denot in
    let setup = setup_for c.args.config.now in
    let events = c.args.events.items in
    let answers = c.in_ok-answers.answers.items in
    subst (λ (l : List (Answer A)). WeightsWait setup events l (marks_of answers)) (sym c.in_ok-answers.ensures) (c.weight_waits_for_its_limit.ensures.run (run_of setup events answers))

pub returns-clause-reserved : goal.returns-clause-reserved
returns-clause-reserved g c =
    let A = g.row.I-Alloc.Denot in
    let setup = setup_for c.args.config.now in
    let events = c.args.events.items in
    let answers = c.in_ok-answers.answers.items in
    subst (λ (l : List (Answer A)). ReservationsBeforeWeights setup events l (marks_of answers)) (sym c.in_ok-answers.ensures) (c.reservations_first.ensures.run (run_of setup events answers))

pub returns-clause-tags : goal.returns-clause-tags
returns-clause-tags g c =
    let A = g.row.I-Alloc.Denot in
    let setup = setup_for c.args.config.now in
    let events = c.args.events.items in
    let answers = c.in_ok-answers.answers.items in
    subst (λ (l : List (Answer A)). HasUnrolledTags setup events l) (sym c.in_ok-answers.ensures) (c.limit_tags_unrolled.ensures.run (run_of setup events answers))

pub returns-clause-counts : goal.returns-clause-counts
returns-clause-counts g c =
    let A = g.row.I-Alloc.Denot in
    let setup = setup_for c.args.config.now in
    let events = c.args.events.items in
    let answers = c.in_ok-answers.answers.items in
    let run = run_of setup events answers in
    let answered = sym c.in_ok-answers.ensures in (
      subst (λ (l : List (Answer A)). ChoosesNoneBefore setup events l) answered (c.choice_count.ensures.none run),
      subst (λ (l : List (Answer A)). ChoosesByLimit setup events l) answered (c.choice_count.ensures.limit run),
      subst (λ (l : List (Answer A)). ChoosesByReservation setup events l) answered (c.choice_count.ensures.reservation run),
    )

pub returns-clause-shares : goal.returns-clause-shares
returns-clause-shares g c =
    let A = g.row.I-Alloc.Denot in
    let setup = setup_for c.args.config.now in
    let events = c.args.events.items in
    let answers = c.in_ok-answers.answers.items in
    let run = run_of setup events answers in
    let answered = sym c.in_ok-answers.ensures in (
      subst (λ (l : List (Answer A)). WeightsTakeTheLeast setup events l (marks_of answers)) answered (c.shares.ensures.least run),
      subst (λ (l : List (Answer A)). SharesByWeight setup events l (marks_of answers)) answered (c.shares.ensures.bound run),
      subst (λ (l : List (Answer A)). RisesByItsChoices setup events l (marks_of answers)) answered (c.shares.ensures.tags run),
      subst (λ (l : List (Answer A)). SharesByRatio setup events l (marks_of answers)) answered (c.shares.ensures.ratio run),
    )

pub returns-clause-between : goal.returns-clause-between
returns-clause-between g c =
    let A = g.row.I-Alloc.Denot in
    let setup = setup_for c.args.config.now in
    let events = c.args.events.items in
    let answers = c.in_ok-answers.answers.items in
    let run = run_of setup events answers in
    let answered = sym c.in_ok-answers.ensures in (
      subst (λ (l : List (Answer A)). SharesBetween setup events l (marks_of answers)) answered (c.shares.ensures.between run),
      subst (λ (l : List (Answer A)). RatioBetween setup events l (marks_of answers)) answered (c.shares.ensures.ratio_between run),
    )
