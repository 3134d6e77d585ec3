use Rattle.std.proofs.Common.{List, [], ◌∷◌, ◌++◌, refl, sym, ap, ◌∙◌, deque_len}
use Rattle.std.proofs.lemmas.List.{append_assoc}
use Rattle.step_log.specs.Steps.{KeptStep, kept_step}
use Rattle.step_log.specs.Log.{StepLog, steps_of, steps_in, rest_steps}
use Rattle.step_log.proofs.Groups.{steps-joined}
use Rattle.step_log.proofs.log.Log.joins.Goals as goal

pub returns-clause-steps : goal.returns-clause-steps
returns-clause-steps g c =
    let i = c.self.inside in
    let one = kept_step c.args.step.now in
    let there = c.in-Some.ensures.variant.0 refl in
    let joined = steps-joined i.groups.items (deque_len i.groups) c.in-Some.last.now c.in-Some-with.rest one i.groups.ok.0 there c.in-Some.ensures.value c.in-Some-with.ensures in
    ap (λ (l : List KeptStep). rest_steps i.rest ++ l) joined ∙ sym (append_assoc (rest_steps i.rest) (steps_in i.groups.items) (one ∷ []))
    ∙ ap (λ (v : StepLog). steps_of v ++ one ∷ []) c.self.view_is
