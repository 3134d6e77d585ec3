-- The choice: the least due R tag, or else the least P tag among the requests within their limits.
use Rattle.std.specs.Prelude.{◌≡◌, slice_get, ℕ, ◌+◌, ℤ, int_le, Option, Some, None, List, [], ◌∷◌, map, if◌then◌else◌}
use Rattle.std.specs.List.{All}
use Rattle.tag_clock.specs.declared.Tags.{Tags}
use Rattle.nbd_base.specs.Least.{least, keyed}
use Rattle.tag_clock.specs.Tags.{AreInRange, shifted}
use Rattle.tag_clock.specs.declared.Phase.{Phase}
use Rattle.tag_clock.specs.declared.Phase.TheVariants.{Reservation, Weight}

-- a tag that isn't above now
abbrev pub due : ℤ → Option ℤ → Option ℤ
due now None = None
due now (Some r) = if int_le r now then Some r else None

-- the R tag, where it is due
abbrev pub due_r : ℤ → Tags → Option ℤ
due_r now tags = due now tags.r

-- the P tag, where the limit tag is due
abbrev pub due_p : ℤ → Tags → Option ℤ
due_p now tags = if int_le tags.l now then Some tags.p else None

-- the key of an active export
abbrev pub slot_key : (Tags → Option ℤ) → Option Tags → Option ℤ
slot_key key None = None
slot_key key (Some tags) = key tags

-- each active export from e on, with its key
abbrev pub candidates : (Tags → Option ℤ) → ℕ → List (Option Tags) → List (Option (ℤ × ℕ))
candidates key e [] = []
candidates key e (slot ∷ slots) = keyed (slot_key key slot) e ∷ candidates key (e + 1) slots

-- the candidate by reservation, where there is one, or else that by weight
abbrev pub by_phase : {B : Type 0} → Option (ℤ × B) → Option (ℤ × B) → Option (B × Phase)
by_phase (Some a) b = Some (a.1, Reservation)
by_phase None (Some b) = Some (b.1, Weight)
by_phase None None = None

-- the export chosen at a moment, and by which phase
abbrev pub choice : ℤ → List (Option Tags) → Option (ℕ × Phase)
choice now slots = by_phase (least (candidates (due_r now) 0 slots)) (least (candidates (due_p now) 0 slots))

-- the P tag less delta
abbrev pub slot_shifted : ℤ → Option Tags → Option Tags
slot_shifted delta None = None
slot_shifted delta (Some tags) = Some (shifted delta tags)

-- every P tag less delta
abbrev pub all_shifted : ℤ → List (Option Tags) → List (Option Tags)
all_shifted delta slots = map (slot_shifted delta) slots

-- the export is there, and idle
abbrev pub IsIdle : List (Option Tags) → ℕ → Type 0
IsIdle slots e = slice_get slots e ≡ Some None

-- the export is there, and active
abbrev pub IsActive : List (Option Tags) → ℕ → Type 0
IsActive slots e = (tags : Tags) × (slice_get slots e ≡ Some (Some tags))

-- the tags are in range, where there are any
abbrev pub IsSlotInRange : Option Tags → Type 0
IsSlotInRange None = Unit {0}
IsSlotInRange (Some tags) = AreInRange tags

-- all tags are in range
abbrev pub AllInRange : List (Option Tags) → Type 0
AllInRange slots = All IsSlotInRange slots
