-- Three heaps over the slots: by R tag, of the throttled by L tag, of the ready by P tag.
use Rattle.std.specs.Prelude.{◌≡◌, ℕ, ◌+◌, ◌<◌, ◌^◌, ◌⊎◌, ℤ, pos, int_le, true, false, slice_index_or, length, map, Option, Some, None, List, [], ◌∷◌, if◌then◌else◌}
use Rattle.tag_clock.specs.declared.Tags.{Tags}
use Rattle.tag_clock.specs.declared.Phase.{Phase}
use Rattle.tag_clock.specs.declared.Phase.TheVariants.{Reservation, Weight}
use Rattle.eligibility.specs.Choice.{AllInRange}

-- the tags of a slot, where it has them
abbrev pub slot_r : Option Tags → Option ℤ
slot_r None = None
slot_r (Some tags) = tags.r

abbrev pub slot_l : Option Tags → Option ℤ
slot_l None = None
slot_l (Some tags) = Some tags.l

abbrev pub slot_p : Option Tags → Option ℤ
slot_p None = None
slot_p (Some tags) = Some tags.p

-- an active export stands in one of two heaps: throttled by its L tag, or ready by its P tag once its L tag was due
abbrev pub IsHeld : ℤ → Option Tags → Option ℤ → Option ℤ → Type 0
IsHeld now None throttled ready = (throttled ≡ None) × (ready ≡ None)
IsHeld now (Some tags) throttled ready = ((throttled ≡ Some tags.l) × (ready ≡ None)) ⊎ ((throttled ≡ None) × (ready ≡ Some tags.p) × (int_le tags.l now ≡ true))

-- each active export stands in one of the two heaps
pub record IsSplit (now : ℤ) (slots : List (Option Tags)) (throttled ready : List (Option ℤ)) : Type 0 where
  pub throttled_length : length throttled ≡ length slots
  pub ready_length : length ready ≡ length slots
  pub each : (i : ℕ) → i < length slots → IsHeld now (slice_index_or slots i None) (slice_index_or throttled i None) (slice_index_or ready i None)

-- no throttled export is due
abbrev pub AllLate : ℤ → List (Option ℤ) → Type 0
AllLate now throttled = (i : ℕ) (l : ℤ) → i < length throttled → slice_index_or throttled i None ≡ Some l → int_le l now ≡ false

-- the heaps follow the slots
pub record IsIndexed (asked : ℕ) (slots : List (Option Tags)) (reserved throttled ready : List (Option ℤ)) : Type 0 where
  pub few : length slots < 2 ^ 32
  pub in_range : AllInRange slots
  pub by_r : reserved ≡ map slot_r slots
  pub split : IsSplit (pos asked) slots throttled ready

-- the keys that a heap still holds
abbrev pub held : List (Option ℤ) → ℕ
held [] = 0
held (None ∷ keys) = held keys
held (Some key ∷ keys) = held keys + 1

-- the choice, from the least of two heaps
abbrev pub chosen_of : ℤ → Option (ℕ × ℤ) → Option (ℕ × ℤ) → Option (ℕ × Phase)
chosen_of now None None = None
chosen_of now None (Some b) = Some (b.0, Weight)
chosen_of now (Some a) None = if int_le a.1 now then Some (a.0, Reservation) else None
chosen_of now (Some a) (Some b) = if int_le a.1 now then Some (a.0, Reservation) else Some (b.0, Weight)
