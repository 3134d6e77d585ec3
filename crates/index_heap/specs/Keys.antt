-- Keys by id, and the least of them.
use Rattle.std.specs.Prelude.{◌≡◌, ℕ, ◌+◌, ◌≤◌, ◌^◌, ℤ, ◌-ℤ◌, unsigned_abs, slice_get, Option, Some, None, List, [], ◌∷◌, map}
use Rattle.std.specs.List.{All}
use Rattle.nbd_base.specs.Range.{IsOptionInRange}
use Rattle.nbd_base.specs.Least.{least, keyed}

-- the id is there, and has no key
abbrev pub IsAbsent : List (Option ℤ) → ℕ → Type 0
IsAbsent keys id = slice_get keys id ≡ Some None

-- the id is there, and has a key
abbrev pub IsPresent : List (Option ℤ) → ℕ → Type 0
IsPresent keys id = (key : ℤ) × (slice_get keys id ≡ Some (Some key))

-- a key less the offset
abbrev pub key_less : ℤ → Option ℤ → Option ℤ
key_less offset None = None
key_less offset (Some key) = Some (key -ℤ offset)

-- every key less the offset
abbrev pub keys_less : ℤ → List (Option ℤ) → List (Option ℤ)
keys_less offset keys = map (key_less offset) keys

-- each key is in range
abbrev pub AllKeysInRange : List (Option ℤ) → Type 0
AllKeysInRange keys = All IsOptionInRange keys

-- an offset that need not be folded into the keys yet
pub record IsNear (offset : ℤ) : Type 0 where
  pub near : unsigned_abs offset ≤ 2 ^ 125

-- each key with its id, from e on
abbrev pub numbered : ℕ → List (Option ℤ) → List (Option (ℤ × ℕ))
numbered e [] = []
numbered e (key ∷ keys) = keyed key e ∷ numbered (e + 1) keys

-- the id first
abbrev pub flipped : Option (ℤ × ℕ) → Option (ℕ × ℤ)
flipped None = None
flipped (Some a) = Some (a.1, a.0)

-- the id with the least key, the lowest of these, and its key
abbrev pub least_key : List (Option ℤ) → Option (ℕ × ℤ)
least_key keys = flipped (least (numbered 0 keys))
