-- The least of candidates that have a key each, or none. Ties go to the first.
use Rattle.std.specs.Prelude.{ℤ, int_le, Option, Some, None, List, [], ◌∷◌, if◌then◌else◌}

-- the one with the lesser key, the first where they are equal
abbrev pub the_sooner : {B : Type 0} → Option (ℤ × B) → Option (ℤ × B) → Option (ℤ × B)
the_sooner None b = b
the_sooner (Some a) None = Some a
the_sooner (Some a) (Some b) = if int_le a.0 b.0 then Some a else Some b

-- the candidate with the least key, the first of these
abbrev pub least : {B : Type 0} → List (Option (ℤ × B)) → Option (ℤ × B)
least [] = None
least (x ∷ xs) = the_sooner x (least xs)

-- what has no key is no candidate
abbrev pub keyed : {B : Type 0} → Option ℤ → B → Option (ℤ × B)
keyed None b = None
keyed (Some key) b = Some (key, b)
