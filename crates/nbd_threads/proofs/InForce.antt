-- Rates in the place of others.
use Rattle.std.proofs.Common.{◌≡◌, ◌≤◌, ℕ, List, length}
use Rattle.std.specs.Prelude.{slice_get}
use Rattle.std.proofs.lemmas.List.{set_past}
use Rattle.turn_order.proofs.Puts.{get_other}
use Rattle.turn_order.specs.declared.Rates.{Rates}
use Rattle.nbd_threads.specs.Retunes.{put_in_force}

pub put_past : (all : List Rates) (e : ℕ) (rates : Rates) → length all ≤ e → put_in_force e rates all ≡ all
put_past all e rates = set_past all e rates

pub put_others : (all : List Rates) (e i : ℕ) (rates : Rates) → (i ≡ e → ⊥) → slice_get (put_in_force e rates all) i ≡ slice_get all i
put_others all e i rates = get_other all e i rates
