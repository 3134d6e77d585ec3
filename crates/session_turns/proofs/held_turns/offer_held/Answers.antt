use Rattle.std.proofs.Common.{inl, inr}
use Rattle.server_table.specs.declared.event.Event.{Event}
use Rattle.server_table.specs.declared.event.Event.TheVariants as event
use Rattle.server_core.specs.declared.refusal.ArriveRefusal.TheVariants as arriving
use Rattle.server_core.specs.declared.refusal.SessionRefusal.TheVariants as refusing
use Rattle.server_core.specs.Served.{answer_of_arrive_refusal}
use Rattle.session_turns.specs.Offering.{Makes}
use Rattle.session_turns.proofs.OfferingLemmas.{refused_by}
use Rattle.session_turns.proofs.held_turns.offer_held.Goals as goal

pub returns-in-Worn-clause-server : goal.returns-in-Worn-clause-server
returns-in-Worn-clause-server g c =
    let A = g.row.I-Alloc.Denot in
    let what : Event A = event.Arrive c.args.session.export c.args.session.number c.now.result c.args.request in
    let why = c.in-Err.refused.refusal in
    let arrived : Makes A c.args.booked.now c.args.pass.now what (answer_of_arrive_refusal {A = A} why) c.turn_arrive.new.booked c.turn_arrive.new.pass = record { step = c.in-Err.ensures.makes.step; pass = c.in-Err.ensures.pass } in
    let worn = refused_by A c.args.booked.now c.turn_arrive.new.booked c.args.pass.now c.turn_arrive.new.pass what why arriving.Worn c.in-Worn.is arrived in
    (c.now.result, rw c.leave.ensures.ended (inr (inl (c.turn_arrive.new.booked, c.turn_arrive.new.pass, worn, c.leave.ensures.server))))

pub returns-in-NoExport-clause-server : goal.returns-in-NoExport-clause-server
returns-in-NoExport-clause-server g c =
    let A = g.row.I-Alloc.Denot in
    let what : Event A = event.Arrive c.args.session.export c.args.session.number c.now.result c.args.request in
    let why = c.in-Err.refused.refusal in
    let arrived : Makes A c.args.booked.now c.args.pass.now what (answer_of_arrive_refusal {A = A} why) c.turn_arrive.new.booked c.turn_arrive.new.pass = record { step = c.in-Err.ensures.makes.step; pass = c.in-Err.ensures.pass } in
    let by = refused_by A c.args.booked.now c.turn_arrive.new.booked c.args.pass.now c.turn_arrive.new.pass what why in
    elim c.in-NoExport.is [
      | inl is ↦ (c.now.result, inl (refusing.NoExport, by arriving.NoExport is arrived))
      | inr is ↦ (c.now.result, inl (refusing.NotOpen, by arriving.NotOpen is arrived))
    ]

pub returns-in-NoMemory-clause-server : goal.returns-in-NoMemory-clause-server
returns-in-NoMemory-clause-server g c =
    let A = g.row.I-Alloc.Denot in
    let what : Event A = event.Arrive c.args.session.export c.args.session.number c.now.result c.args.request in
    let why = c.in-Err.refused.refusal in
    let arrived : Makes A c.args.booked.now c.args.pass.now what (answer_of_arrive_refusal {A = A} why) c.turn_arrive.new.booked c.turn_arrive.new.pass = record { step = c.in-Err.ensures.makes.step; pass = c.in-Err.ensures.pass } in
    let none = refused_by A c.args.booked.now c.turn_arrive.new.booked c.args.pass.now c.turn_arrive.new.pass what why arriving.NoMemory c.in-NoMemory.is arrived in
    (c.now.result, rw c.leave-in-NoMemory.ensures.ended (inr (inr (c.turn_arrive.new.booked, c.turn_arrive.new.pass, none, c.leave-in-NoMemory.ensures.server))))
