-- What calls of a counted reader or writer did.
use Rattle.std.specs.Prelude.{◌≡◌, ℕ, ◌+◌, ◌-◌, ◌^◌, ◌<◌, min, List, ◌++◌, length, take, get_or, Option}
use Rattle.std.specs.Io.KnownBytes.{Consumes, Appends, IsAtEnd}
use Rattle.nbd_stream.specs.declared.exact_io.Filled.{Filled}
use Rattle.nbd_stream.specs.declared.exact_io.Filled.TheVariants.{Whole, Ended, Failed}

-- a call failed: the count of failures went up by one, or stands at its greatest value
abbrev pub Rises : ℕ → ℕ → Type 0
Rises before now = now ≡ min (before + 1) (2 ^ 64 - 1)

-- the bytes of a buffer that were read
abbrev pub FillsWith : Option (List ℕ) → Option (List ℕ) → ℕ → ℕ → List ℕ → Filled → Type 0
FillsWith old new before now buf Whole = Consumes old new buf × (now ≡ before)
FillsWith old new before now buf (Ended n) = (n < length buf) × Consumes old new (take n buf) × IsAtEnd new × (now ≡ before)
FillsWith old new before now buf (Failed n) = (n < length buf) × Consumes old new (take n buf) × Rises before now

-- a beginning of the text was written
abbrev pub WritesPart : Option (List ℕ) → Option (List ℕ) → List ℕ → Type 0
WritesPart old new text = (front back : List ℕ) × (front ++ back ≡ text) × Appends old new front

-- each is a byte
abbrev pub AreBytes : List ℕ → Type 0
AreBytes bytes = (i : ℕ) → get_or bytes i 0 < 256
