-- What an image doesn't need any more: pages, and whole chunks of them.
use Rattle.std.specs.Prelude.{ℕ, List, []}
use Rattle.payload.specs.declared.swept.ChunkPages.{ChunkPages}

-- none of either
abbrev pub nothing : {A : Type 0} → List (List ℕ) × List (ChunkPages A)
nothing = ([], [])
