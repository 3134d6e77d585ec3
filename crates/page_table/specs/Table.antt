-- Pages by their numbers, in chunks of 256 in a row, and these in regions of 256 in a row.
use Rattle.std.specs.Prelude.{◌≡◌, ℕ, suc, ◌+◌, ◌-◌, ◌/◌, ◌%◌, ◌<◌, ◌^◌, Bool, true, Option, None, Some, is_some, IfSome, List, [], ◌∷◌, length, replicate, get_or, if◌then◌else◌}
use Rattle.std.specs.List.{filter}
use Rattle.payload.specs.Bytes.{overwritten}
use Rattle.number_sets.specs.Bits.{count_of, is_between}
use Rattle.page_table.specs.Holes.{Holes, is_hole, is_noted}

-- what is in the places of a chunk
abbrev pub Chunk : Type 0
Chunk = List (Option (List ℕ))

-- what is in the places of each region
abbrev pub Regions : Type 0
Regions = List (List (Option Chunk))

-- chunks, and which bytes of their pages are zeros, whatever stands there
pub record Stored : Type 0 where
  pub chunks : Regions
  pub holes : List (ℕ × List ℕ)

-- the chunk of a number
unfoldable pub chunk_of : Regions → ℕ → Option Chunk
chunk_of regions number = get_or (get_or regions (number / 256) []) (number % 256) None

-- what is in a place, where there is the chunk
abbrev pub in_chunk : Option Chunk → ℕ → Option (List ℕ)
in_chunk None place = None
in_chunk (Some chunk) place = get_or chunk place None

-- what lies in the chunks for a number
unfoldable pub in_chunks : Regions → ℕ → Option (List ℕ)
in_chunks chunks number = in_chunk (chunk_of chunks (number / 256)) (number % 256)

-- bytes, the first of which has a number, with zeros for those that are such
abbrev pub shown : (ℕ → Bool) → ℕ → List ℕ → List ℕ
shown hole number [] = []
shown hole number (byte ∷ bytes) = (if hole number then 0 else byte) ∷ shown hole (suc number) bytes

abbrev pub shown_page : (ℕ → Bool) → Option (List ℕ) → Option (List ℕ)
shown_page hole None = None
shown_page hole (Some page) = Some (shown hole 0 page)

-- the page of a number
unfoldable pub in_table : Stored → ℕ → Option (List ℕ)
in_table table number = shown_page (is_hole table.holes number) (in_chunks table.chunks number)

-- how many places are taken
abbrev pub taken : Chunk → ℕ
taken chunk = length (filter is_some chunk)

-- of each chunk that is there a place is taken
abbrev pub AreTaken : Regions → Type 0
AreTaken chunks = (number : ℕ) → IfSome (chunk_of chunks number) (λ chunk. 0 < taken chunk)

-- whether something lies in the chunks for a number, and for how many
abbrev pub is_kept : Regions → ℕ → Bool
is_kept chunks number = is_some (in_chunks chunks number)

abbrev pub kept : Regions → ℕ
kept chunks = count_of (is_kept chunks) 0 (2 ^ 64)

-- there is room for as many rows as pages lie in chunks, and rows are of such pages alone
pub record HaveRoom (chunks : Regions) (holes : Holes) : Type 0 where
  pub pages : kept chunks ≡ holes.pages
  pub rows : (number : ℕ) → is_noted holes.rows number ≡ true → is_kept chunks number ≡ true

-- the page of a number once these are put in the places of the numbers from one on
abbrev pub put_from : ℕ → List (List ℕ) → (ℕ → Option (List ℕ)) → ℕ → Option (List ℕ)
put_from first pages before number = if is_between first (first + length pages) number then Some (get_or pages (number - first) []) else before number

-- a page with a range of it made zero, where it is stored
abbrev pub cleared : ℕ → ℕ → Option (List ℕ) → Option (List ℕ)
cleared start count None = None
cleared start count (Some page) = Some (overwritten page start count (replicate count 0))
