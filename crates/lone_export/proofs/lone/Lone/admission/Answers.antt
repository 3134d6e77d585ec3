use Rattle.std.proofs.Common.{sym, ◌∙◌}
use Rattle.lone_export.proofs.Cases.{true_false}
use Rattle.lone_export.proofs.Admitted.{judged, crowded, welcome}
use Rattle.lone_export.proofs.lone.Lone.admission.Goals as goal

pub returns-in-Err : goal.returns-in-Err
returns-in-Err g c = c.in-Err.ensures

pub returns-then-error-ne0 : goal.returns-then-error-ne0
returns-then-error-ne0 g c = judged _ c.args.session _ c.args.request.now _ c.self.invariant c.self.view_is c.in_default.ensures c.verdict-error.ensures c.if-error-ne0.true

pub returns-then-is_full : goal.returns-then-is_full
returns-then-is_full g c = crowded _ c.args.session c.args.request.now _ c.self.invariant c.self.view_is c.in_default.ensures (sym c.verdict-error.ensures ∙ c.if-error-ne0.false) (c.is_full.ensures.0 c.if-is_full.true)

pub returns : goal.returns
returns g c =
    welcome _ c.args.session c.args.request.now _ c.self.invariant c.self.view_is c.in_default.ensures (sym c.verdict-error.ensures ∙ c.if-error-ne0.false)
    (λ full. true_false (sym (c.is_full.ensures.1 full) ∙ c.if-is_full.false))
