-- Which bytes of pages are zeros, whatever stands there: rows of the number of a page and a bit for each of its bytes.
use Rattle.std.specs.Prelude.{ℕ, suc, ◌+◌, ◌<◌, ◌≤◌, ◌^◌, Bool, false, ◌&&◌, ◌||◌, ◌==◌, nat_lt, List, [], ◌∷◌, if◌then◌else◌}
use Rattle.number_sets.specs.Bits.{is_set}

-- the rows, and for how many pages there is room
pub record Holes : Type 0 where
  pub rows : List (ℕ × List ℕ)
  pub pages : ℕ

-- whether a byte of a page is such a zero
abbrev pub is_hole : List (ℕ × List ℕ) → ℕ → ℕ → Bool
is_hole [] page number = false
is_hole (row ∷ rows) page number = ((page == row.0) && is_set row.1 number) || is_hole rows page number

-- whether a page has a row
abbrev pub is_noted : List (ℕ × List ℕ) → ℕ → Bool
is_noted [] page = false
is_noted (row ∷ rows) page = (page == row.0) || is_noted rows page

-- how many rows in front are of pages before one
abbrev pub rows_before : List (ℕ × List ℕ) → ℕ → ℕ
rows_before [] page = 0
rows_before (row ∷ rows) page = if nat_lt row.0 page then suc (rows_before rows page) else 0

-- rows are of pages from a number on, in order, each of another
abbrev pub AreOrdered : ℕ → List (ℕ × List ℕ) → Type 0
AreOrdered first [] = Unit {0}
AreOrdered first (row ∷ rows) = (first ≤ row.0) × (row.0 < 2 ^ 64) × AreOrdered (row.0 + 1) rows
