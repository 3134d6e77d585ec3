use Rattle.std.proofs.Common.{ℕ, Option, subst, sym}
use Rattle.std.specs.Prelude.{IfSome, IfNone}
use Rattle.server_core.specs.Served.{Served}
use Rattle.server_core.specs.NextDue.{IsNextDue, IsNeverDue}
use Rattle.server_core.proofs.NextDue.{Tells, never_full, tells, told_due, told_never}
use Rattle.server_core.proofs.server.Server.next_due.Goals as goal

pub returns-then-self-clause-never : goal.returns-then-self-clause-never
returns-then-self-clause-never g c =
    let i = c.self.inside in
    subst IsNeverDue c.self.view_is
    (never_full i.members.items (g.E.Eligibility.contents i.eligible) (g.E.Eligibility.asked i.eligible) i.latest i.inflight i.served c.self.invariant c.if-self.true)

pub returns-clause-due : goal.returns-clause-due
returns-clause-due g c =
    let i = c.self.inside in
    let told = tells i.members.items (g.E.Eligibility.contents i.eligible) (g.E.Eligibility.asked i.eligible) i.latest i.inflight i.served c.self.invariant c.if-self.false c.moment_of.ensures.early c.next_due.result c.next_due.ensures.due c.next_due.ensures.never in
    subst (λ (v : Served). IfSome c.moment_of.result (λ due. IsNextDue v due)) c.self.view_is
    (told_due i.members.items i.latest i.inflight c.moment_of.result
    (subst (λ (o : Option ℕ). Tells i.members.items i.latest i.inflight o) (sym c.moment_of.ensures.moment) told))

pub returns-clause-never : goal.returns-clause-never
returns-clause-never g c =
    let i = c.self.inside in
    let told = tells i.members.items (g.E.Eligibility.contents i.eligible) (g.E.Eligibility.asked i.eligible) i.latest i.inflight i.served c.self.invariant c.if-self.false c.moment_of.ensures.early c.next_due.result c.next_due.ensures.due c.next_due.ensures.never in
    subst (λ (v : Served). IfNone c.moment_of.result (IsNeverDue v)) c.self.view_is
    (told_never i.members.items i.latest i.inflight c.moment_of.result
    (subst (λ (o : Option ℕ). Tells i.members.items i.latest i.inflight o) (sym c.moment_of.ensures.moment) told))
