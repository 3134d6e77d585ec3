-- What `replay` writes of the tags of what waits at an export.
use Rattle.std.specs.Prelude.{ℕ, nat_lt, if◌then◌else◌, List, [], ◌∷◌, ◌++◌, length, codes, Option, Some, None, ℤ}
use Rattle.std.specs.Fmt.{decimal, signed_decimal}
use Rattle.tag_clock.specs.declared.Tags.{Tags}
use Rattle.server_table.specs.Table.{Table, Setup}
use Rattle.server_core.specs.Served.{waiting_tags}

-- an R tag. An export without a reservation has none
abbrev pub reservation_word : Option ℤ → List ℕ
reservation_word None = codes "-"
reservation_word (Some r) = signed_decimal r

-- a request's number, and behind its R tag the two others
abbrev pub number_text : ℕ → List ℕ
number_text number = codes "tag " ++ decimal number ++ codes " "

abbrev pub rest_text : Tags → List ℕ
rest_text tags = codes " " ++ signed_decimal tags.l ++ codes " " ++ signed_decimal tags.p ++ codes "\n"

-- a request's number and its tags
abbrev pub tag_line : ℕ × Tags → List ℕ
tag_line told = number_text told.0 ++ (reservation_word told.1.r ++ rest_text told.1)

unfoldable pub tag_lines : List (ℕ × Tags) → List ℕ
tag_lines [] = []
tag_lines (told ∷ more) = tag_line told ++ tag_lines more

abbrev pub waiting_line : ℕ → List ℕ
waiting_line count = codes "waiting " ++ decimal count ++ codes "\n"

-- how many requests wait, and the line of each
abbrev pub waiting_text : List (ℕ × Tags) → List ℕ
waiting_text told = waiting_line (length told) ++ tag_lines told

-- what is written where the tags of an export are asked for
abbrev pub tags_text : Setup → Table → ℕ → List ℕ
tags_text setup table export = if nat_lt export (length setup.exports) then waiting_text (waiting_tags export table) else codes "no export\n"
