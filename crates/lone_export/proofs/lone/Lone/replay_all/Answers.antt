use Rattle.std.proofs.Common.{◌≡◌, ◌++◌, ◌∷◌, [], List, slice_index_or, ap, sym, subst, ◌∙◌, arith}
use Rattle.lone_export.specs.Lone.{IsReplayed}
use Rattle.lone_export.specs.declared.step.Step.{Step}
use Rattle.lone_export.proofs.Replays.{replayed-more, front-more}
use Rattle.lone_export.proofs.lone.Lone.replay_all.Goals as goal

pub loop-step-preserved : goal.loop-step-preserved
loop-step-preserved g c =
    let so_far = c.loop-step.invariant in
    let one = c.step-item.result in
    let count = so_far.count in
    let within = c.loop-step-test.true in
    let is : one ≡ slice_index_or c.args.steps.now c.loop-step.made one = c.step-item.is ∙ ap (λ n. slice_index_or c.args.steps.now n one) (sym count) in
    let told : c.push_reserved.new.self.items ≡ c.loop-step.answers.items ++ c.in-Ok.answer ∷ [] = c.push_reserved.ensures.items in
    record {
      count = omega arith;
      within = omega arith;
      so_far = subst (λ (xs : List (Step g.row.I-Alloc.Denot)). IsReplayed c.args.self.now c.replay.new.self xs c.args.answers.now.items c.push_reserved.new.self.items)
          (sym (front-more c.args.steps.now c.loop-step.made one (omega arith) is))
          (replayed-more c.args.self.now _ _ _ one c.in-Ok.answer _ _ _ so_far.so_far c.in-Ok.ensures.ok told);
      room = let more = c.push_reserved.ensures.len in let kept = c.push_reserved.ensures.capacity in let room = so_far.room in omega arith;
    }
