use Rattle.std.proofs.Common.{rules}
use Rattle.std.proofs.lemmas.Fn.{filter_same}
use Rattle.server_core.proofs.member.forget.Goals as goal

pub returns-clause-out : goal.returns-clause-out
returns-clause-out g c = filter_same _ _ _ (λ x b f' k. search rules) _ _ c.retain.ensures.filtered
