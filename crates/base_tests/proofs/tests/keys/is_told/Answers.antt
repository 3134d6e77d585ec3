use Rattle.std.proofs.Common.{refl, pos}
use Rattle.base_tests.proofs.tests.keys.is_told.Goals as goal

pub remove-requires : goal.remove-requires
remove-requires g c = record { present = (pos 5, rw (c.insert-2.ensures, c.insert.ensures, c.requires) refl) }

pub rekey-requires-clause-present : goal.rekey-requires-clause-present
rekey-requires-clause-present g c = (pos 5, rw (c.remove.ensures, c.insert-2.ensures, c.insert.ensures, c.requires) refl)
