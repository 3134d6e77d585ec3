use Rattle.std.proofs.Common.{sym, ◌∙◌, ◌≡◌, true, ap, List, Option}
use Rattle.std.proofs.lemmas.Int.{to_z-of_z}
use Rattle.tag_clock.specs.declared.Tags.{Tags}
use Rattle.eligibility.specs.Choice.{all_shifted}
use Rattle.eligibility.specs.Walk.{slots_fit}
use Rattle.eligibility.proofs.Walked.{slots_range}
use Rattle.eligibility.proofs.walks.shift.Goals as goal

pub shift-requires-clause-in_range : goal.shift-requires-clause-in_range
shift-requires-clause-in_range g c =
    let fits = c.ranges.delta in
    let on : slots_fit (all_shifted c.args.delta c.args.held.now.items) ≡ true = ap (λ (ss : List (Option Tags)). slots_fit (all_shifted c.args.delta ss)) (sym c.as_slice.ensures.value) ∙ sym (rw to_z-of_z at c.all_stay_fit.ensures) ∙ c.if-not-all_stay_fit.false in
    rw to_z-of_z (slots_range (all_shifted c.args.delta (g.E.Eligibility.contents c.args.index.now)) (ap (λ (ss : List (Option Tags)). slots_fit (all_shifted c.args.delta ss)) c.requires.same ∙ on))

pub shift_all-requires : goal.shift_all-requires
shift_all-requires g c =
    let fits = c.ranges.delta in
    let on : slots_fit (all_shifted c.args.delta c.args.held.now.items) ≡ true = ap (λ (ss : List (Option Tags)). slots_fit (all_shifted c.args.delta ss)) (sym c.as_slice.ensures.value) ∙ sym (rw to_z-of_z at c.all_stay_fit.ensures) ∙ c.if-not-all_stay_fit.false in
    rw to_z-of_z (slots_range (all_shifted c.args.delta c.as_mut_slice.result.now) (ap (λ (ss : List (Option Tags)). slots_fit (all_shifted c.args.delta ss)) c.as_mut_slice.ensures.value ∙ on))
