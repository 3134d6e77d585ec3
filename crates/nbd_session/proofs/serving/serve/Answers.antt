use Rattle.nbd_session.proofs.ServingLemmas.{replied_by, waiting_by, may_pick, out_by, performed_by, replied_here, replied_there, replied_taken}
use Rattle.nbd_session.proofs.serving.serve.Goals as goal

pub taken-requires-clause-here : goal.taken-requires-clause-here
taken-requires-clause-here g c =
    let a = g.row.I-Alloc.Denot in
    let old = c.args.lone.now in
    let m = c.args.request in
    let h = replied_by a old c.arrive.new.self m c.zero.result c.zero.ensures c.requires c.in-Ok.arrived c.in-Answered.field-0 c.in-Answered.is c.in-Ok.ensures.step c.arrive.ensures.slots in
    replied_here a old c.arrive.new.self m h

pub taken-requires-clause-there : goal.taken-requires-clause-there
taken-requires-clause-there g c =
    let a = g.row.I-Alloc.Denot in
    let old = c.args.lone.now in
    let m = c.args.request in
    let h = replied_by a old c.arrive.new.self m c.zero.result c.zero.ensures c.requires c.in-Ok.arrived c.in-Answered.field-0 c.in-Answered.is c.in-Ok.ensures.step c.arrive.ensures.slots in
    replied_there a old c.arrive.new.self m h

pub returns-in-Answered-clause-reply : goal.returns-in-Answered-clause-reply
returns-in-Answered-clause-reply g c =
    let a = g.row.I-Alloc.Denot in
    let old = c.args.lone.now in
    let m = c.args.request in
    let h = replied_by a old c.arrive.new.self m c.zero.result c.zero.ensures c.requires c.in-Ok.arrived c.in-Answered.field-0 c.in-Answered.is c.in-Ok.ensures.step c.arrive.ensures.slots in
    (replied_taken a old c.arrive.new.self c.taken.new.lone m c.taken.result h c.taken.ensures.step c.taken.ensures.slots).0

pub returns-in-Answered-clause-state : goal.returns-in-Answered-clause-state
returns-in-Answered-clause-state g c =
    let a = g.row.I-Alloc.Denot in
    let old = c.args.lone.now in
    let m = c.args.request in
    let h = replied_by a old c.arrive.new.self m c.zero.result c.zero.ensures c.requires c.in-Ok.arrived c.in-Answered.field-0 c.in-Answered.is c.in-Ok.ensures.step c.arrive.ensures.slots in
    (replied_taken a old c.arrive.new.self c.taken.new.lone m c.taken.result h c.taken.ensures.step c.taken.ensures.slots).1

pub returns-in-Answered-clause-fresh : goal.returns-in-Answered-clause-fresh
returns-in-Answered-clause-fresh g c =
    let a = g.row.I-Alloc.Denot in
    let old = c.args.lone.now in
    let m = c.args.request in
    let h = replied_by a old c.arrive.new.self m c.zero.result c.zero.ensures c.requires c.in-Ok.arrived c.in-Answered.field-0 c.in-Answered.is c.in-Ok.ensures.step c.arrive.ensures.slots in
    h.fresh

pub pick-requires : goal.pick-requires
pick-requires g c =
    let a = g.row.I-Alloc.Denot in
    let old = c.args.lone.now in
    let m = c.args.request in
    let h = waiting_by a old c.arrive.new.self m c.zero.result c.zero.ensures c.requires c.in-Ok.arrived c.in-Accepted.number c.in-Accepted.limit_tag c.in-Accepted.is c.in-Ok.ensures.step c.arrive.ensures.slots in
    may_pick a old c.arrive.new.self m c.requires h

pub taken-requires-in-Some-true-clause-here : goal.taken-requires-in-Some-true-clause-here
taken-requires-in-Some-true-clause-here g c =
    let a = g.row.I-Alloc.Denot in
    let old = c.args.lone.now in
    let m = c.args.request in
    let h = waiting_by a old c.arrive.new.self m c.zero.result c.zero.ensures c.requires c.in-Ok.arrived c.in-Accepted.number c.in-Accepted.limit_tag c.in-Accepted.is c.in-Ok.ensures.step c.arrive.ensures.slots in
    let o = out_by a old c.arrive.new.self c.pick.new.self m c.in-Some.picked c.requires h c.in-Some.ensures.step c.in-Some.ensures.slots in
    let r = performed_by a old c.pick.new.self c.perform.new.self m c.in-Some.picked.number c.in-Some.picked.slot c.in-Some-true.field-0 c.requires o.0 o.1 c.in-Some-true.field-0-test c.in-Some-true.ensures.some.1 c.in-Some-true.ensures.slots in
    replied_here a old c.perform.new.self m r

pub taken-requires-in-Some-true-clause-there : goal.taken-requires-in-Some-true-clause-there
taken-requires-in-Some-true-clause-there g c =
    let a = g.row.I-Alloc.Denot in
    let old = c.args.lone.now in
    let m = c.args.request in
    let h = waiting_by a old c.arrive.new.self m c.zero.result c.zero.ensures c.requires c.in-Ok.arrived c.in-Accepted.number c.in-Accepted.limit_tag c.in-Accepted.is c.in-Ok.ensures.step c.arrive.ensures.slots in
    let o = out_by a old c.arrive.new.self c.pick.new.self m c.in-Some.picked c.requires h c.in-Some.ensures.step c.in-Some.ensures.slots in
    let r = performed_by a old c.pick.new.self c.perform.new.self m c.in-Some.picked.number c.in-Some.picked.slot c.in-Some-true.field-0 c.requires o.0 o.1 c.in-Some-true.field-0-test c.in-Some-true.ensures.some.1 c.in-Some-true.ensures.slots in
    replied_there a old c.perform.new.self m r

pub returns-in-Some-true-clause-reply : goal.returns-in-Some-true-clause-reply
returns-in-Some-true-clause-reply g c =
    let a = g.row.I-Alloc.Denot in
    let old = c.args.lone.now in
    let m = c.args.request in
    let h = waiting_by a old c.arrive.new.self m c.zero.result c.zero.ensures c.requires c.in-Ok.arrived c.in-Accepted.number c.in-Accepted.limit_tag c.in-Accepted.is c.in-Ok.ensures.step c.arrive.ensures.slots in
    let o = out_by a old c.arrive.new.self c.pick.new.self m c.in-Some.picked c.requires h c.in-Some.ensures.step c.in-Some.ensures.slots in
    let r = performed_by a old c.pick.new.self c.perform.new.self m c.in-Some.picked.number c.in-Some.picked.slot c.in-Some-true.field-0 c.requires o.0 o.1 c.in-Some-true.field-0-test c.in-Some-true.ensures.some.1 c.in-Some-true.ensures.slots in
    (replied_taken a old c.perform.new.self c.taken-in-Some-true.new.lone m c.taken-in-Some-true.result r c.taken-in-Some-true.ensures.step c.taken-in-Some-true.ensures.slots).0

pub returns-in-Some-true-clause-state : goal.returns-in-Some-true-clause-state
returns-in-Some-true-clause-state g c =
    let a = g.row.I-Alloc.Denot in
    let old = c.args.lone.now in
    let m = c.args.request in
    let h = waiting_by a old c.arrive.new.self m c.zero.result c.zero.ensures c.requires c.in-Ok.arrived c.in-Accepted.number c.in-Accepted.limit_tag c.in-Accepted.is c.in-Ok.ensures.step c.arrive.ensures.slots in
    let o = out_by a old c.arrive.new.self c.pick.new.self m c.in-Some.picked c.requires h c.in-Some.ensures.step c.in-Some.ensures.slots in
    let r = performed_by a old c.pick.new.self c.perform.new.self m c.in-Some.picked.number c.in-Some.picked.slot c.in-Some-true.field-0 c.requires o.0 o.1 c.in-Some-true.field-0-test c.in-Some-true.ensures.some.1 c.in-Some-true.ensures.slots in
    (replied_taken a old c.perform.new.self c.taken-in-Some-true.new.lone m c.taken-in-Some-true.result r c.taken-in-Some-true.ensures.step c.taken-in-Some-true.ensures.slots).1

pub returns-in-Some-true-clause-fresh : goal.returns-in-Some-true-clause-fresh
returns-in-Some-true-clause-fresh g c =
    let a = g.row.I-Alloc.Denot in
    let old = c.args.lone.now in
    let m = c.args.request in
    let h = waiting_by a old c.arrive.new.self m c.zero.result c.zero.ensures c.requires c.in-Ok.arrived c.in-Accepted.number c.in-Accepted.limit_tag c.in-Accepted.is c.in-Ok.ensures.step c.arrive.ensures.slots in
    let o = out_by a old c.arrive.new.self c.pick.new.self m c.in-Some.picked c.requires h c.in-Some.ensures.step c.in-Some.ensures.slots in
    let r = performed_by a old c.pick.new.self c.perform.new.self m c.in-Some.picked.number c.in-Some.picked.slot c.in-Some-true.field-0 c.requires o.0 o.1 c.in-Some-true.field-0-test c.in-Some-true.ensures.some.1 c.in-Some-true.ensures.slots in
    r.fresh
