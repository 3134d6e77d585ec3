-- An image in pages, of which some are held in memory.
use Rattle.std.specs.Prelude.{◌≡◌, ℕ, zero, suc, ◌+◌, ◌-◌, ◌*◌, ◌/◌, ◌<◌, Bool, true, false, ◌&&◌, ◌||◌, nat_lt, nat_le, min, is_some, unwrap_or, Option, None, List, [], ◌∷◌, ◌++◌, length, take, if◌then◌else◌}
use Rattle.std.specs.Int.{div_ceil}
use Rattle.std.specs.List.{filter, range_with_len}
use Rattle.payload.specs.Bytes.{range_of, overwritten}
use Rattle.payload.specs.Rows.{zero_page}
use Rattle.page_table.specs.Table.{Stored, in_table, cleared}
use Rattle.number_sets.specs.Marks.{is_marked}

-- how many bytes an image has, the pages that are stored, in chunks, and which others are held zeros, in bitmaps: each page has
-- its number, from 0
pub record Pages : Type 0 where
  pub size : ℕ
  pub chunks : Stored
  pub zeros : List (ℕ × List ℕ)

-- the page that is stored under a number
abbrev pub stored_page : Pages → ℕ → Option (List ℕ)
stored_page pages number = in_table pages.chunks number

-- whether a page is stored
abbrev pub is_stored : Pages → ℕ → Bool
is_stored pages number = is_some (stored_page pages number)

-- whether a page is held zeros
abbrev pub is_held_zeros : Pages → ℕ → Bool
is_held_zeros pages number = is_marked pages.zeros number

-- whether a page is held
abbrev pub is_held : Pages → ℕ → Bool
is_held pages number = is_stored pages number || is_held_zeros pages number

-- the numbers of the pages that are held
abbrev pub held_pages : Pages → List ℕ
held_pages pages = filter (is_held pages) (range_with_len 0 (div_ceil pages.size 4096))

-- the bytes of a page, whether it is held or not
abbrev pub page_of : Pages → ℕ → List ℕ
page_of pages number = unwrap_or (stored_page pages number) zero_page

-- the first pages in a row
abbrev pub in_a_row : (ℕ → List ℕ) → ℕ → List ℕ
in_a_row page zero = []
in_a_row page (suc count) = in_a_row page count ++ page count

-- the bytes of the image
unfoldable pub image_of : Pages → List ℕ
image_of pages = take pages.size (in_a_row (page_of pages) (pages.size / 4096 + 1))

-- each page that is stored has all its bytes, each that is held begins within the image, and none is held in both ways
pub record IsPaged (pages : Pages) : Type 0 where
  pub whole : (number : ℕ) → length (page_of pages number) ≡ 4096
  pub within : (number : ℕ) → is_held pages number ≡ true → 4096 * number < pages.size
  pub apart : (number : ℕ) → is_stored pages number ≡ true → is_held_zeros pages number ≡ false

-- what lies in a page of a piece that is written at an offset
abbrev pub part_in : ℕ → List ℕ → ℕ → List ℕ
part_in offset piece number = range_of piece (4096 * number - offset) (4096 - (offset - 4096 * number))

-- a page once the piece is written
unfoldable pub page_after : ℕ → List ℕ → ℕ → List ℕ → List ℕ
page_after offset piece number page = overwritten page (offset - 4096 * number) (length (part_in offset piece number)) (part_in offset piece number)

-- so many pages from one on once the piece is written
abbrev pub pages_after : (ℕ → List ℕ) → ℕ → List ℕ → ℕ → ℕ → List (List ℕ)
pages_after page offset piece first zero = []
pages_after page offset piece first (suc count) = pages_after page offset piece first count ++ page_after offset piece (first + count) (page (first + count)) ∷ []

-- whether a page has a byte of a range
abbrev pub has_byte_of : ℕ → ℕ → ℕ → Bool
has_byte_of offset count number = nat_lt 0 count && nat_lt offset (4096 * number + 4096) && nat_lt (4096 * number) (offset + count)

-- whether a page, which ends where the next begins or with the image, lies whole in a range
abbrev pub lies_whole_in : ℕ → ℕ → ℕ → ℕ → Bool
lies_whole_in size offset count number = nat_le offset (4096 * number) && nat_le (min (4096 * number + 4096) size) (offset + count)

-- a page once a range is made zero: one that lies whole in it is stored no longer, and of another a part becomes zero
unfoldable pub zeroed : ℕ → ℕ → ℕ → ℕ → Option (List ℕ) → Option (List ℕ)
zeroed size offset count number page =
    let start = offset - 4096 * number in
    if lies_whole_in size offset count number then None else cleared start (min (offset + count - 4096 * number) 4096 - start) page
