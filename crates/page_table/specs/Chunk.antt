-- What lies in a chunk.
use Rattle.std.specs.Prelude.{ℕ, Option, None, Some, List, set, replicate}
use Rattle.page_table.specs.declared.chunk.Pages.{Pages}
use Rattle.page_table.specs.declared.chunk.Pages.TheVariants.{Nowhere, One, Many}

-- what is in each place
abbrev pub in_pages : {A : Type 0} → Pages A → List (Option (List ℕ))
in_pages Nowhere = replicate 256 None
in_pages (One place page) = set (replicate 256 None) place (Some page)
in_pages (Many pages) = pages
