use Rattle.std.proofs.Common.{◌≡◌, sym, ◌∙◌, Option, Some, subst}
use Rattle.std.specs.Prelude.{IfSome}
use Rattle.tag_clock.specs.declared.Tags.{Tags}
use Rattle.server_core.proofs.Ways.{put_back}
use Rattle.server_core.proofs.way.put_first.Goals as goal

pub returns-in-Some-clause-contents : goal.returns-in-Some-clause-contents
returns-in-Some-clause-contents g c =
    let same = subst (λ (o : Option Tags). IfSome o (λ tags. c.args.first ≡ Some tags)) c.in-Some.is c.requires.same in
    put_back (g.E.Eligibility.contents c.args.eligible.now) c.args.export c.args.was c.args.first c.requires.was (same ∙ sym c.in-Some.is)

pub returns-in_default-first-clause-contents : goal.returns-in_default-first-clause-contents
returns-in_default-first-clause-contents g c =
    put_back (g.E.Eligibility.contents c.args.eligible.now) c.args.export c.args.was c.args.first c.requires.was (c.in_default-first.is ∙ sym c.in_default.is)
