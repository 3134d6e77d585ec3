-- The lines of a script.
use Rattle.std.specs.Prelude.{◌≡◌, ℕ, zero, suc, ◌==◌, Bool, false, if◌then◌else◌, List, [], ◌∷◌, ◌++◌, length, Option, Some, None}
use Rattle.std.specs.List.{after_first, onto_first}

-- a line feed ends a line
abbrev pub is_feed : ℕ → Bool
is_feed byte = byte == 10

-- the lines of a text, without their line feeds, of which the last may lack its own
unfoldable pub lines_in : List ℕ → List (List ℕ)
lines_in [] = []
lines_in (byte ∷ more) = if is_feed byte then [] ∷ lines_in more else onto_first byte (lines_in more)

-- what stands behind so many lines
abbrev pub behind : ℕ → List ℕ → List ℕ
behind zero text = text
behind (suc count) text = behind count (after_first is_feed text)

-- a text has these lines in front, and the rest behind them
pub record Begins (text : List ℕ) (front : List (List ℕ)) (rest : List ℕ) : Type 0 where
  pub lines : lines_in text ≡ front ++ lines_in rest
  pub is_rest : rest ≡ behind (length front) text

-- a line that begins with `#`
abbrev pub is_comment : List ℕ → Bool
is_comment [] = false
is_comment (byte ∷ more) = byte == 35

-- one field and no more
abbrev pub only : List (List ℕ) → Option (List ℕ)
only [] = None
only (field ∷ []) = Some field
only (field ∷ next ∷ more) = None
