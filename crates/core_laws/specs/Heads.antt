-- The first requests of the exports alone.
use Rattle.std.specs.Prelude.{ℕ, zero, suc, List, [], ◌++◌, filter, slice_get, option_to_list}
use Rattle.server_table.specs.Table.{Row, waits_in}

-- the first waiting row of each export below n
abbrev pub first_rows : ℕ → List Row → List Row
first_rows zero rows = []
first_rows (suc n) rows = first_rows n rows ++ option_to_list (slice_get (filter (waits_in n) rows) 0)
