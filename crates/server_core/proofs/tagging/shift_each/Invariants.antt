use Rattle.std.proofs.Common.{◌≡◌, take, drop, ◌++◌, map}
use Rattle.tag_clock.specs.Tags.{shifted}
use Rattle.server_core.proofs.tagging.shift_each.Given as goal

abbrev pub invariant-loop-one : goal.invariant-loop-one
invariant-loop-one l = l.tags ≡ map (shifted l.delta) (take l.one-index l.fn.tags) ++ drop l.one-index l.fn.tags
