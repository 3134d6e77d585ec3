-- The keys of a configuration file, and what stands at them.
use Rattle.std.specs.Prelude.{ℕ, ℤ, pos, negsuc, Bool, true, false, ◌&&◌, if◌then◌else◌, List, [], ◌∷◌, map, Option, Some, None, is_some, unwrap_or, option_map, option_and_then, codes}
use Rattle.std.specs.List.{list_any}
use Rattle.std.specs.Str.{bytes_eq}
use Rattle.toml.specs.Data.{Data, Items, no_items, item, Members, no_members, member, get_member, as_str, as_bool, as_integer, as_array}
use Rattle.toml.specs.View.{view}
use Rattle.toml.specs.declared.value.Value.{Value}
use Rattle.nbd_base.specs.Words.{when_some}
use Rattle.nbd_config.specs.declared.refusals.Place.{Place}
use Rattle.nbd_config.specs.declared.refusals.Place.TheVariants as places
use Rattle.nbd_commands.specs.Exports.{Export}

abbrev pub is_among : List (List ℕ) → List ℕ → Bool
is_among words key = list_any (λ word. bytes_eq key word) words

-- a key of the top level, with a value of its kind
abbrev pub fits_top : List ℕ → Data → Bool
fits_top key value =
    if is_among (codes "inflight" ∷ []) key then is_some (as_integer value)
    else (if is_among (codes "export" ∷ []) key then is_some (as_array value)
    else false)

-- a key of an export, with a value of its kind
abbrev pub fits_export : List ℕ → Data → Bool
fits_export key value =
    if is_among (codes "name" ∷ codes "description" ∷ []) key then is_some (as_str value)
    else (if is_among (codes "read_only" ∷ []) key then is_some (as_bool value)
    else (if is_among (codes "size" ∷ codes "reservation" ∷ codes "limit" ∷ codes "weight" ∷ codes "depth" ∷ codes "window" ∷ []) key then is_some (as_integer value)
    else false))

-- a key that is known at this place, with a value of its kind
abbrev pub fits : Place → List ℕ → Data → Bool
fits places.Top = fits_top
fits (places.Export n) = fits_export

-- every member of a table passes
abbrev pub all_members : (List ℕ → Data → Bool) → Members → Bool
all_members passes no_members = true
all_members passes (member key value more) = passes key value && all_members passes more

-- ---- what stands at a key, where it is of its kind

abbrev pub text_at : List ℕ → Members → Option (List ℕ)
text_at key table = option_and_then as_str (get_member key table)

abbrev pub truth_at : List ℕ → Members → Option Bool
truth_at key table = option_and_then as_bool (get_member key table)

-- A whole number as ranges see it: below 0 it is in none of them, as 2^64 - 1 is in none.
abbrev pub ranged : ℤ → ℕ
ranged (pos n) = n
ranged (negsuc n) = 18446744073709551615

abbrev pub number_at : List ℕ → Members → Option ℕ
number_at key table = option_map ranged (option_and_then as_integer (get_member key table))

abbrev pub list_of : Items → List Data
list_of no_items = []
list_of (item value more) = value ∷ list_of more

-- the data of values
abbrev pub values_of : List Value → List Data
values_of values = map view values

-- the values of the list at `export`, none where it isn't there
abbrev pub exports_at : Members → List Data
exports_at table = when_some (option_and_then as_array (get_member (codes "export") table)) list_of []

-- how many requests may be out at once
abbrev pub inflight_at : Members → ℕ
inflight_at table = unwrap_or (number_at (codes "inflight") table) 32

-- an export of this name and size, each other value by its default where its key isn't there
abbrev pub named_export : Members → List ℕ → ℕ → Export
named_export table name size = record {
  name = name;
  description = text_at (codes "description") table;
  size = size;
  read_only = unwrap_or (truth_at (codes "read_only") table) false;
  reservation = unwrap_or (number_at (codes "reservation") table) 0;
  limit = unwrap_or (number_at (codes "limit") table) 0;
  weight = unwrap_or (number_at (codes "weight") table) 1;
  depth = unwrap_or (number_at (codes "depth") table) 1024;
  window = unwrap_or (number_at (codes "window") table) 256;
}

-- the export that a table asks for, where its name and its size are there
abbrev pub export_in : Members → Option Export
export_in table =
    when_some (text_at (codes "name") table) (λ name.
    when_some (number_at (codes "size") table) (λ size.
    Some (named_export table name size)) None) None
