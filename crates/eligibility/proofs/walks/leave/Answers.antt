use Rattle.std.proofs.Common.{arith, sym, ◌∙◌, ◌≡◌, ◌<◌, length, true, ap, List, Option}
use Rattle.std.specs.Prelude.{slice_get}
use Rattle.tag_clock.specs.declared.Tags.{Tags}
use Rattle.eligibility.specs.Walk.{is_active}
use Rattle.eligibility.proofs.Walked.{active_at, active_in}
use Rattle.eligibility.proofs.walks.leave.Goals as goal

pub leave-requires : goal.leave-requires
leave-requires g c =
    let on : is_active (slice_get c.args.held.now.items c.args.export) ≡ true = ap (λ (ss : List (Option Tags)). is_active (slice_get ss c.args.export)) (sym c.as_slice.ensures.value) ∙ sym c.is_active_at.ensures ∙ c.if-not-is_active_at.false in
    record { active = active_at _ _ c.args.export c.requires.same on }

pub index_mut-requires : goal.index_mut-requires
index_mut-requires g c =
    let on : is_active (slice_get c.args.held.now.items c.args.export) ≡ true = ap (λ (ss : List (Option Tags)). is_active (slice_get ss c.args.export)) (sym c.as_slice.ensures.value) ∙ sym c.is_active_at.ensures ∙ c.if-not-is_active_at.false in
    let inside : c.args.export < length c.args.held.now.items = active_in c.args.held.now.items c.args.export on in
    omega (arith, inside, c.args.held.now.ok.0)
