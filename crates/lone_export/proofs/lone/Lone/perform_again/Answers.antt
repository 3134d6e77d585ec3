use Rattle.std.proofs.Common.{sym}
use Rattle.lone_export.proofs.Done.{may_apply, done_owed, performed_lone, performed_does}
use Rattle.lone_export.proofs.Again.{not_out, done_again, wants_again}
use Rattle.lone_export.proofs.lone.Lone.perform_again.Goals as goal

pub returns-in_default-clause-ok : goal.returns-in_default-clause-ok
returns-in_default-clause-ok g c = not_out _ c.args.number c.args.memory _ c.self.invariant c.self.view_is c.in_default.ensures

pub apply_again-again-requires : goal.apply_again-again-requires
apply_again-again-requires g c = may_apply _ c.in-Some.slot c.args.number _ c.self.invariant (sym c.in-Some-held.ensures)

pub settle-requires-clause-owed : goal.settle-requires-clause-owed
settle-requires-clause-owed g c = λ row held. done_owed _ c.in-Some.slot c.args.number row c.self.invariant held

pub invariant_of-self-2 : goal.invariant_of-self-2
invariant_of-self-2 g c =
    let d = c.in-Some-again in
    performed_lone _ c.in-Some.slot c.args.number c.in-Some-held.row.now _ d.done.content d.done.error d.done.memory _ _ _
    c.self.invariant c.self.view_is c.in-Some-held.ensures c.settle.ensures d.ensures.done d.ensures.no_memory

pub returns-clause-ok : goal.returns-clause-ok
returns-clause-ok g c =
    let d = c.in-Some-again in
    done_again _ c.in-Some.slot c.args.number c.in-Some-held.row.now c.args.memory d.done.memory _ _ c.self.invariant c.self.view_is c.in-Some-held.ensures d.ensures.mark
    (performed_does _ c.in-Some.slot c.args.number c.in-Some-held.row.now _ d.done.content d.done.error d.done.memory _ _ _
    c.self.invariant c.self.view_is c.in-Some-held.ensures c.settle.ensures d.ensures.done d.ensures.no_memory).1

pub returns-in_default-again-clause-err : goal.returns-in_default-again-clause-err
returns-in_default-again-clause-err g c =
    let none = c.in_default-again.ensures.none in
    wants_again _ c.in-Some.slot c.args.number c.in-Some-held.row.now _ c.args.memory _ c.self.invariant c.self.view_is c.in-Some-held.ensures none.0 none.1 none.2
