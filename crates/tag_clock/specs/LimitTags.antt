-- The limit tags of one export, from its accepted arrivals alone, without an earlier tag.
use Rattle.std.specs.Prelude.{ℕ, ◌+◌, max, ℤ, pos, List, [], ◌∷◌, map}
use Rattle.std.specs.List.{sum_by}
use Rattle.tag_clock.specs.Clocks.{Limit, limit_tag, limit_after, limit_retuned}

-- an accepted arrival: its moment, and the interval of the limit that is in force then
pub record Arrival : Type 0 where
  pub moment : ℕ
  pub interval : ℕ

-- of arrivals 1 to k the greatest, over j, of the moment of arrival j and the intervals of those behind it
abbrev pub unrolled : List Arrival → ℕ
unrolled [] = 0
unrolled (one ∷ behind) = max (one.moment + sum_by (λ other. other.interval) behind) (unrolled behind)

-- the beginnings of a list, but for the empty one
abbrev pub beginnings : List Arrival → List (List Arrival)
beginnings [] = []
beginnings (one ∷ behind) = (one ∷ []) ∷ map (λ begun. one ∷ begun) (beginnings behind)

-- the limit tags of accepted arrivals, from these alone
abbrev pub limit_tags : List Arrival → List ℤ
limit_tags arrivals = map (λ begun. pos (unrolled begun)) (beginnings arrivals)

-- the tags that a clock gives to arrivals, one after another, if it has the interval of each as it comes
abbrev pub given : Limit → List Arrival → List ℤ
given clock [] = []
given clock (one ∷ behind) =
    limit_tag (limit_retuned one.interval clock) one.moment ∷
    given (limit_after (limit_retuned one.interval clock) one.moment) behind
