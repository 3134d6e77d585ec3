-- Pages, and the bytes of pages in a row.
use Rattle.std.specs.Prelude.{◌≡◌, ℕ, ◌<◌, ◌≤◌, ◌+◌, List, ◌++◌, length, replicate}
use Rattle.std.specs.List.{All, concat}
use Rattle.bytes.specs.Filled.{Filled}

-- a page of zeros
unfoldable pub zero_page : List ℕ
zero_page = replicate 4096 0

-- each page has all its bytes
abbrev pub AreWhole : List (List ℕ) → Type 0
AreWhole pages = All (λ page. length page ≡ 4096) pages

-- a range of the bytes of pages in a row
pub record IsRange (pages : List (List ℕ)) (start end : ℕ) : Type 0 where
  pub whole : AreWhole pages
  pub ordered : start ≤ end
  pub within : end ≤ length (concat pages)

-- where a page was begun, there is room for the rest of it
abbrev pub HasRoom : Filled → Type 0
HasRoom block = 0 < length block.items → 4096 ≤ length block.items + block.spare

-- pages in a row and the beginning of those that follow, which there is room for; of all these bytes those before the start don't count
pub record IsGrown (pages : List (List ℕ)) (last : Filled) (start end : ℕ) : Type 0 where
  pub whole : AreWhole pages
  pub begun : length last.items < 4096
  pub room : HasRoom last
  pub within : start ≤ end
  pub long : length (concat pages ++ last.items) ≡ end
