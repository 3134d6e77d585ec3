use Rattle.std.proofs.Common.{Some}
use Rattle.nbd_scripts.proofs.TagsLemmas.{Written}
use Rattle.nbd_scripts.proofs.tags.write_waiting.Given as goal

-- the lines up to here are written
abbrev pub invariant-loop-number : goal.invariant-loop-number
invariant-loop-number g l = Written l.told l.number-index (Some l.fn.text.items) (Some l.text.items)
