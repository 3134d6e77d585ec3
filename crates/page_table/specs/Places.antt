-- Items in places, side by side in the order of these.
use Rattle.std.specs.Prelude.{ℕ, zero, suc, ◌+◌, Bool, Option, None, Some, List, [], ◌∷◌, if◌then◌else◌}
use Rattle.number_sets.specs.Bits.{is_set}

-- what is in so many places from one on, where a test says in which there is an item
abbrev pub spread : {X : Type 0} → (ℕ → Bool) → ℕ → ℕ → List X → List (Option X)
spread test first zero items = []
spread test first (suc count) [] = None ∷ spread test (first + 1) count []
spread test first (suc count) (item ∷ items) = if test first then Some item ∷ spread test (first + 1) count items else None ∷ spread test (first + 1) count (item ∷ items)

-- what is in 256 places, where bits say in which there is an item
unfoldable pub in_places : {X : Type 0} → List ℕ → List X → List (Option X)
in_places marks items = spread (is_set marks) 0 256 items
