use Rattle.std.proofs.Common.{Ok, refl, sym, subst}
use Rattle.lone_export.specs.Lone.{IsAdmission}
use Rattle.lone_export.specs.declared.refusal.Admission.{Admission}
use Rattle.lone_export.proofs.Cases.{true_false}
use Rattle.lone_export.proofs.Admitted.{refused_never, told_never}
use Rattle.lone_export.proofs.lone.Lone.admits.Goals as goal

pub returns-in-Ok-Waits : goal.returns-in-Ok-Waits
returns-in-Ok-Waits g c =
    let w = c.args.self.now in
    let asked = subst (λ (a : Admission). IsAdmission g.row.I-Alloc.Denot w c.args.session c.args.request.now (Ok a)) c.in-Ok-Waits.field-0-is c.in-Ok-Waits.ensures in
    ((λ _. asked), (λ _. refl))

pub returns-in-Ok-Answered : goal.returns-in-Ok-Answered
returns-in-Ok-Answered g c =
    let w = c.args.self.now in
    let asked = subst (λ (a : Admission). IsAdmission g.row.I-Alloc.Denot w c.args.session c.args.request.now (Ok a)) c.in-Ok-Answered.field-0-is c.in-Ok-Answered.ensures in
    ((λ h. true_false (sym h)), (λ a. absurd (told_never g.row.I-Alloc.Denot w c.args.session _ c.args.request.now asked a)))

pub returns-in-Err : goal.returns-in-Err
returns-in-Err g c = ((λ h. true_false (sym h)), (λ a. absurd (refused_never c.args.self.now c.args.session c.args.request.now _ c.in-Err.ensures a)))
