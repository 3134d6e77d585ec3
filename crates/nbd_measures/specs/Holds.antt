-- How often the server was held, and the longest hold of the last whole second.
use Rattle.std.specs.Prelude.{◌≡◌, ℕ, ◌+◌, ◌-◌, ◌/◌, ◌^◌, ◌≤◌, ◌==◌, nat_le, max, min, if◌then◌else◌, List, [], ◌∷◌}
use Rattle.nbd_measures.specs.declared.holds.HoldCount.{HoldCount}

-- the second of a moment in nanoseconds
abbrev pub second_of : ℕ → ℕ
second_of moment = moment / 1000000000

abbrev pub no_holds : HoldCount
no_holds = record { total = 0; second = 0; longest = 0; before = 0 }

-- in this second, if it is a later one
unfoldable pub begun : HoldCount → ℕ → HoldCount
begun h second =
    if nat_le second h.second then h
    else record h { second = second; longest = 0; before = if second - h.second == 1 then h.longest else 0 }

-- with a hold of this length, which ended now
unfoldable pub noted : HoldCount → ℕ → ℕ → HoldCount
noted h now length =
    let here = begun h (second_of now) in
    record here { total = min (here.total + 1) (2 ^ 64 - 1); longest = max here.longest length }

-- the longest hold of the last whole second
abbrev pub longest_at : HoldCount → ℕ → ℕ
longest_at h now = (begun h (second_of now)).before

-- what is noted of holds, of which the latest is the first: the moment at which each ended, and its length
unfoldable pub count_of : List (ℕ × ℕ) → HoldCount
count_of [] = no_holds
count_of (hold ∷ earlier) = noted (count_of earlier) hold.0 hold.1

-- no hold ended later than this second, and none later than one behind it in the list
unfoldable pub AreInOrder : ℕ → List (ℕ × ℕ) → Type 0
AreInOrder second [] = Unit {0}
AreInOrder second (hold ∷ earlier) = (second_of hold.0 ≤ second) × AreInOrder (second_of hold.0) earlier

-- the longest of the holds that ended in the second before this one
unfoldable pub longest_before : ℕ → List (ℕ × ℕ) → ℕ
longest_before second [] = 0
longest_before second (hold ∷ earlier) =
    if second_of hold.0 + 1 == second then max (longest_before second earlier) hold.1
    else longest_before second earlier
