use Rattle.std.proofs.Common.{◌≡◌}
use Rattle.toml.specs.View.{members_view}
use Rattle.nbd_config.specs.Entries.{fits, all_members}
use Rattle.nbd_config.proofs.entries.is_fit.Given as goal

-- what is left decides
abbrev pub invariant-loop-key : goal.invariant-loop-key
invariant-loop-key l =
    (goal.iterator-loop-key).can_next l.key-iterator ×
    (goal.iterator-loop-key).is_finite l.key-iterator ×
    (all_members (fits l.place) (members_view l.key-iterator) ≡ all_members (fits l.place) (members_view l.table.entries))
