use Rattle.std.proofs.Common.{sym, ◌∙◌}
use Rattle.lone_export.proofs.Done.{done_owed}
use Rattle.lone_export.proofs.Skip.{next_of, not_next, skipped_lone, skipped_does}
use Rattle.lone_export.proofs.lone.Lone.skip_read.Goals as goal

pub returns-in_default-clause-told : goal.returns-in_default-clause-told
returns-in_default-clause-told g c = not_next _ _ c.args.number c.args.session _ c.self.invariant c.self.view_is c.in_default.ensures

pub returns-then-not-is_next-clause-told : goal.returns-then-not-is_next-clause-told
returns-then-not-is_next-clause-told g c =
    c.if-not-is_next.ensures ∙ next_of _ _ c.in-Some.slot c.args.number c.args.session c.in-Some-held.row.now _ c.self.invariant c.self.view_is c.in-Some-held.ensures

pub settle-requires-clause-owed : goal.settle-requires-clause-owed
settle-requires-clause-owed g c = λ row held. done_owed _ c.in-Some.slot c.args.number row c.self.invariant held

pub invariant_of-self : goal.invariant_of-self
invariant_of-self g c =
    skipped_lone _ _ c.in-Some.slot c.args.number c.args.session c.in-Some-held.row.now _ _ _ _ c.take.result _
    c.self.invariant c.self.view_is c.in-Some-held.ensures (sym c.if-not-is_next.ensures) c.settle.ensures c.take.ensures

pub returns-clause-told : goal.returns-clause-told
returns-clause-told g c = c.if-not-is_next.ensures ∙ next_of _ _ c.in-Some.slot c.args.number c.args.session c.in-Some-held.row.now _ c.self.invariant c.self.view_is c.in-Some-held.ensures

pub returns-clause-both : goal.returns-clause-both
returns-clause-both g c =
    skipped_does _ _ c.in-Some.slot c.args.number c.args.session c.in-Some-held.row.now _ _ _ _ c.take.result _
    c.self.invariant c.self.view_is c.in-Some-held.ensures (sym c.if-not-is_next.ensures) c.settle.ensures c.take.ensures
