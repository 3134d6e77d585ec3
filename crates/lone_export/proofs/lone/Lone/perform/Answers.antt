use Rattle.std.proofs.Common.{sym}
use Rattle.lone_export.proofs.Done.{may_apply, done_owed, perform_slots, not_at, answered_lone, answered_does, nothing_lone, nothing_whole}
use Rattle.lone_export.proofs.lone.Lone.perform.Goals as goal

pub answer-memory-requires-clause-served : goal.answer-memory-requires-clause-served
answer-memory-requires-clause-served g c = may_apply _ c.args.slot c.args.number _ c.self.invariant (sym c.in-Some.ensures.item)

pub answer-memory-requires-clause-owed : goal.answer-memory-requires-clause-owed
answer-memory-requires-clause-owed g c = done_owed _ c.args.slot c.args.number c.in-Some.row c.self.invariant (sym c.in-Some.ensures.item)

pub invariant_of-self : goal.invariant_of-self
invariant_of-self g c = nothing_lone _ _ c.self.invariant c.in_default.ensures.none

pub invariant_of-self-2 : goal.invariant_of-self-2
invariant_of-self-2 g c =
    let a = c.answer-memory.ensures in
    answered_lone _ c.args.slot c.args.number c.in-Some.row _ c.answer-memory.result _ _ _ c.self.invariant c.self.view_is c.in-Some.ensures.item a.request c.in-Some.ensures.some a.replied a.done a.no_memory

pub returns-clause-some : goal.returns-clause-some
returns-clause-some g c =
    let a = c.answer-memory.ensures in
    answered_does _ c.args.slot c.args.number c.in-Some.row _ c.answer-memory.result _ _ _ c.self.invariant c.self.view_is c.in-Some.ensures.item a.request c.in-Some.ensures.some a.replied a.done a.no_memory

pub returns-clause-slots : goal.returns-clause-slots
returns-clause-slots g c = perform_slots _ c.args.number _ _ c.self.invariant c.self.view_is c.in-Some.ensures.some

pub returns-in_default-clause-none : goal.returns-in_default-clause-none
returns-in_default-clause-none g c = (not_at _ c.args.slot c.args.number _ c.self.invariant c.self.view_is c.in_default.ensures.item, nothing_whole _ _ _ c.self.invariant c.self.view_is c.in_default.ensures.none)
