-- No share is above the sum of all.
use Rattle.std.proofs.Common.{◌≡◌, ◌≤◌, ℕ, List, arith}
use Rattle.std.specs.List.{All, sum_by}
use Rattle.std.proofs.lemmas.List.Sums.{get_or-le-sum_by}

pub none_above : {X : Type 0} (f : X → ℕ) (xs : List X) (all : ℕ) → all ≡ sum_by f xs → All (λ x. f x ≤ all) xs
none_above f xs all is = λ k d lt. let one = get_or-le-sum_by f xs k d lt in omega (arith, one, is)
