-- The exports that a client may choose from, in order of configuration.
use Rattle.std.specs.Prelude.{ℕ, ◌==◌, if◌then◌else◌, List, [], ◌∷◌, length, Option, Some, None}
use Rattle.std.specs.List.{position}
use Rattle.std.specs.Str.{bytes_eq}

-- what a client may be told of an export: its size in bytes, and its transmission flags
pub record ExportFacts : Type 0 where
  pub name : List ℕ
  pub description : Option (List ℕ)
  pub size : ℕ
  pub flags : ℕ

abbrev pub first_of : List ExportFacts → Option ℕ
first_of [] = None
first_of (e ∷ es) = Some 0

-- The empty name means the first export. Names are compared byte by byte.
abbrev pub export_named : List ExportFacts → List ℕ → Option ℕ
export_named table name = if length name == 0 then first_of table else position (λ e. bytes_eq e.name name) table
