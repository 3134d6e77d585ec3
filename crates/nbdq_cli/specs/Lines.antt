-- Lines of the exports of an offer.
use Rattle.std.specs.Prelude.{ℕ, ◌+◌, List, [], ◌∷◌, ◌++◌}
use Rattle.nbd_commands.specs.Exports.{Export}

-- what is said of each export by its place and itself, of which the first has this place
unfoldable pub lines_of : (ℕ → Export → List ℕ) → ℕ → List Export → List ℕ
lines_of line n [] = []
lines_of line n (e ∷ more) = line n e ++ lines_of line (n + 1) more
