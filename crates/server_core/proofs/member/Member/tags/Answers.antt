use Rattle.std.proofs.Common.{◌≡◌, suc, ◌+◌, ◌<◌, [], ◌∷◌, ◌++◌, length, map, take, sym, ◌∙◌, ap, subst, arith}
use Rattle.server_core.specs.Members.{told_tags}
use Rattle.server_core.proofs.Tagged.{told_more}
use Rattle.server_core.proofs.member.Member.tags.Goals as goal

pub loop-place-preserved : goal.loop-place-preserved
loop-place-preserved g c =
    let entries = c.args.self.now.part.waiting in
    let k = c.loop-place.place in
    let lt : k < length entries = subst (λ n. k < n) c.waiting-count.ensures c.loop-place-test.true in
    let next : c.loop-place.told.items ++ c.in-Some.one ∷ [] ≡ map told_tags (take (suc k) entries) =
    ap (λ l. l ++ c.in-Some.one ∷ []) c.loop-place.invariant.told ∙ told_more entries k c.in-Some.one (sym c.in-Some.is ∙ c.tags_at.ensures) in
    let one_more : suc k ≡ k + 1 = omega arith in
    record { told = c.in_ok-push.ensures.items ∙ next ∙ ap (λ n. map told_tags (take n entries)) one_more; within = omega arith }
