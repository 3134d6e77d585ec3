-- What a walk over operations answers, by the tags of the exports and the choice alone.
use Rattle.std.specs.Prelude.{ℕ, ◌^◌, ℤ, pos, unsigned_abs, Bool, true, false, ltb, leb, slice_get, slice_set, Option, Some, None, List, [], ◌∷◌, ◌++◌, if◌then◌else◌}
use Rattle.tag_clock.specs.declared.Tags.{Tags}
use Rattle.eligibility.specs.Choice.{choice, all_shifted}
use Rattle.tag_clock.specs.declared.Phase.{Phase}
use Rattle.eligibility.specs.declared.walks.Op.{Op}
use Rattle.eligibility.specs.declared.walks.Op.TheVariants.{Enter, Leave, Rekey, Shift, Choose}

-- tests of the range of tags
abbrev pub fits : ℤ → Bool
fits z = ltb (unsigned_abs z) (2 ^ 126)

abbrev pub option_fits : Option ℤ → Bool
option_fits None = true
option_fits (Some z) = fits z

abbrev pub tags_fit : Tags → Bool
tags_fit tags = if option_fits tags.r then (if fits tags.l then fits tags.p else false) else false

abbrev pub slot_fits : Option Tags → Bool
slot_fits None = true
slot_fits (Some tags) = tags_fit tags

abbrev pub slots_fit : List (Option Tags) → Bool
slots_fit [] = true
slots_fit (slot ∷ slots) = if slot_fits slot then slots_fit slots else false

-- the export is there, and idle or active
abbrev pub is_idle : Option (Option Tags) → Bool
is_idle None = false
is_idle (Some None) = true
is_idle (Some (Some tags)) = false

abbrev pub is_active : Option (Option Tags) → Bool
is_active None = false
is_active (Some None) = false
is_active (Some (Some tags)) = true

-- the slots after each operation; one whose condition is not met is passed over
abbrev pub entered : ℕ → Tags → List (Option Tags) → List (Option Tags)
entered e tags slots = if is_idle (slice_get slots e) then (if tags_fit tags then slice_set slots e (Some tags) else slots) else slots

abbrev pub left : ℕ → List (Option Tags) → List (Option Tags)
left e slots = if is_active (slice_get slots e) then slice_set slots e None else slots

abbrev pub rekeyed : ℕ → Tags → List (Option Tags) → List (Option Tags)
rekeyed e tags slots = if is_active (slice_get slots e) then (if tags_fit tags then slice_set slots e (Some tags) else slots) else slots

abbrev pub fallen : ℤ → List (Option Tags) → List (Option Tags)
fallen d slots = if fits d then (if slots_fit (all_shifted d slots) then all_shifted d slots else slots) else slots

-- the slots after an operation
abbrev pub after : Op → List (Option Tags) → List (Option Tags)
after (Enter e tags) slots = entered e tags slots
after (Leave e) slots = left e slots
after (Rekey e tags) slots = rekeyed e tags slots
after (Shift d) slots = fallen d slots
after (Choose now) slots = slots

-- the greatest moment that was asked for
abbrev pub latest : Op → ℕ → ℕ
latest (Enter e tags) asked = asked
latest (Leave e) asked = asked
latest (Rekey e tags) asked = asked
latest (Shift d) asked = asked
latest (Choose now) asked = if leb asked now then now else asked

-- the choice, where the moment is not before an earlier one
abbrev pub answered : ℕ → List (Option Tags) → ℕ → Option (ℕ × Phase)
answered now slots asked = if leb asked now then choice (pos now) slots else None

-- one answer for each Choose
abbrev pub said : Op → List (Option Tags) → ℕ → List (Option (ℕ × Phase))
said (Enter e tags) slots asked = []
said (Leave e) slots asked = []
said (Rekey e tags) slots asked = []
said (Shift d) slots asked = []
said (Choose now) slots asked = answered now slots asked ∷ []

abbrev pub walked : List Op → List (Option Tags) → ℕ → List (Option (ℕ × Phase))
walked [] slots asked = []
walked (op ∷ ops) slots asked = said op slots asked ++ walked ops (after op slots) (latest op asked)
