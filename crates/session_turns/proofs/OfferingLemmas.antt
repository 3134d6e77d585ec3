-- What an arrival that was refused does to the server.
use Rattle.std.proofs.Common.{◌≡◌, subst}
use Rattle.server_table.specs.declared.event.Event.{Event}
use Rattle.server_core.specs.declared.refusal.ArriveRefusal.{ArriveRefusal}
use Rattle.server_core.specs.Served.{Served, answer_of_arrive_refusal}
use Rattle.server_lock.specs.Scores.{Score}
use Rattle.session_turns.specs.Offering.{Makes}

-- it was refused by a reason that is told apart later
pub refused_by : (A : Type 0) (old new : Served) (p q : Score) (what : Event A) (why so : ArriveRefusal) → why ≡ so
    → Makes A old p what (answer_of_arrive_refusal {A = A} why) new q → Makes A old p what (answer_of_arrive_refusal {A = A} so) new q
refused_by A old new p q what why so same h = subst (λ (r : ArriveRefusal). Makes A old p what (answer_of_arrive_refusal {A = A} r) new q) same h
