-- The bytes of a payload, however they lie.
use Rattle.std.specs.Prelude.{◌≡◌, ℕ, ◌-◌, List, ⊤}
use Rattle.std.specs.Arc.{arc_value}
use Rattle.std.specs.List.{concat}
use Rattle.payload.specs.Bytes.{range_of}
use Rattle.payload.specs.Rows.{IsRange}
use Rattle.payload.specs.declared.payload.Kept.{Kept}
use Rattle.payload.specs.declared.payload.Kept.TheVariants.{Whole, Piece, Several}
use Rattle.payload.specs.declared.pieces.Pieces.{Pieces}
use Rattle.payload.specs.declared.pieces.Pieces.TheVariants.{One, Pages}

-- a page, other bytes in one piece, or a range of the bytes of pages in a row
abbrev pub bytes_of : {A : Type 0} → Kept A → List ℕ
bytes_of (Whole page) = page
bytes_of (Piece bytes) = bytes
bytes_of (Several pages start end) = range_of (concat (arc_value pages).items) start (end - start)

-- where there are several pages, the range lies in them
abbrev pub IsKept : {A : Type 0} → Kept A → Type 0
IsKept (Whole page) = ⊤
IsKept (Piece bytes) = ⊤
IsKept (Several pages start end) = IsRange (arc_value pages).items start end

-- these are the bytes, in one piece or as a range of those of pages in a row
abbrev pub IsLaidOut : {A : Type 0} → Pieces A → List ℕ → Type 0
IsLaidOut (One piece) bytes = piece.now ≡ bytes
IsLaidOut (Pages pages start end) bytes = IsRange pages.now start end × (range_of (concat pages.now) start (end - start) ≡ bytes)
