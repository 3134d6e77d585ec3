-- The items that values stand for, as a list.
use Rattle.std.proofs.Common.{◌≡◌, List, [], ◌∷◌, refl, ap}
use Rattle.toml.specs.Data.{Data}
use Rattle.toml.specs.View.{view, items_view}
use Rattle.toml.specs.declared.value.Value.{Value}
use Rattle.nbd_config.specs.Entries.{list_of, values_of}

pub listed : (values : List Value) → list_of (items_view values) ≡ values_of values
listed [] = refl
listed (value ∷ more) = ap (λ (rest : List Data). view value ∷ rest) (listed more)
