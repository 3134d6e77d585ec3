-- Quantiles by the nearest rank.
use Rattle.std.specs.Prelude.{◌≡◌, ℕ, ◌+◌, ◌-◌, ◌*◌, ◌/◌, List, length, slice_get, Option}
use Rattle.std.specs.Ordering.{nat_cmp}
use Rattle.std.specs.List.Sorted.{IsPermutation, IsSorted}

-- the least rank, from 1, up to which at least so many of 100 of the numbers stand
abbrev pub rank_of : ℕ → ℕ → ℕ
rank_of percent count = (percent * count + 99) / 100

-- the number at that rank, once the numbers are sorted. Of no numbers there is none
pub record IsAtRank (percent : ℕ) (numbers : List ℕ) (value : Option ℕ) : Type 0 where
  pub sorted : List ℕ
  pub same : IsPermutation numbers sorted
  pub order : IsSorted nat_cmp sorted
  pub ranked : slice_get sorted (rank_of percent (length numbers) - 1) ≡ value
