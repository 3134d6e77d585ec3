use Rattle.std.proofs.Common.{◌≡◌, take, drop, ◌++◌, map}
use Rattle.server_core.specs.Tagging.{tags_credited}
use Rattle.server_core.proofs.tagging.credit_each.Given as goal

abbrev pub invariant-loop-one : goal.invariant-loop-one
invariant-loop-one l = l.tags ≡ map (tags_credited l.interval) (take l.one-index l.fn.tags) ++ drop l.one-index l.fn.tags
