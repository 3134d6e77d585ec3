use Rattle.std.proofs.Common.{◌≡◌, ◌++◌}
use Rattle.std.specs.Slice.Iter.{chunks_rest, chunks_size}
use Rattle.nbd_scripts.specs.Output.{lines_behind}
use Rattle.nbd_scripts.proofs.conversation.spelled.Given as goal

abbrev pub invariant-loop-row : goal.invariant-loop-row
invariant-loop-row g l =
    (goal.iterator-loop-row g).can_next l.row-iterator
    × (goal.iterator-loop-row g).is_finite l.row-iterator
    × (chunks_size l.row-iterator ≡ 16)
    × (l.text.items ++ lines_behind 0 (chunks_rest l.row-iterator) ≡ lines_behind 0 l.fn.said)
