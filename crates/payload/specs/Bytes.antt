-- A range of bytes, and what puts others in its place.
use Rattle.std.specs.Prelude.{ℕ, ◌+◌, List, ◌++◌, take, drop}

-- so many bytes from an offset on
abbrev pub range_of : List ℕ → ℕ → ℕ → List ℕ
range_of image offset count = take count (drop offset image)

-- the image with so many bytes from an offset on replaced
abbrev pub overwritten : List ℕ → ℕ → ℕ → List ℕ → List ℕ
overwritten image offset count bytes = take offset image ++ bytes ++ drop (offset + count) image
