-- The fields of a line.
use Rattle.std.specs.Prelude.{ℕ, ◌==◌, Bool, not, List, length, map, filter}
use Rattle.std.specs.List.{slice_split}
use Rattle.std.specs.Borrow.{Bor}

-- texts that are lent
abbrev pub texts_of : List (Bor (List ℕ)) → List (List ℕ)
texts_of fields = map (λ field. field.now) fields

-- a space ends a field
abbrev pub is_space : ℕ → Bool
is_space byte = byte == 32

-- the fields of a line, which one or more spaces part
abbrev pub fields_in : List ℕ → List (List ℕ)
fields_in line = filter (λ field. not (length field == 0)) (slice_split is_space line)
