-- Every row is of an export that is there.
use Rattle.std.proofs.Common.{ℕ, ◌<◌, ◌^◌, max, Bool, not, ◌&&◌, nat_le, nat_lt, ◌==◌, List, ◌∷◌, length, filter, find, slice_get, ◌-ℤ◌, pos}
use Rattle.std.specs.List.{AllByRecursion}
use Rattle.std.proofs.lemmas.Option.{slice_get_within}
use Rattle.server_table.specs.declared.event.Event.{Event}
use Rattle.server_table.specs.declared.event.Event.TheVariants.{Attach, Arrive, Dispatch, Perform, Take, Leave, Gone, Retune}
use Rattle.nbd_commands.specs.Verdict.{verdict_of}
use Rattle.nbd_commands.specs.Meaning.{may_want_memory}
use Rattle.reply_box.specs.Sessions.{is_here, is_open_at, is_left_at, is_here_at, outbox_at}
use Rattle.server_table.specs.Table.{Row, Table, Setup, Choice, side, waits_in, is_idle, foremost, p_key, lower_p, shifted, lower_r, choice, put}
use Rattle.server_table.specs.Steps.{Outcome, step, is_out_row, outstanding_in, new_row, send, sent, is_by_weight, with_credit}
use Rattle.lone_export.proofs.Cases.{if_one, some_one}
use Rattle.core_laws.proofs.Lists.{all-append, all-filter, all-map}

abbrev pub IsThere : Setup → Row → Type 0
IsThere setup row = row.export < length setup.exports

-- every row of the table
pub record AllThere (setup : Setup) (table : Table) : Type 0 where
  pub rows : AllByRecursion (IsThere setup) table.rows

there_put : (setup : Setup) (row : Row) (rows : List Row) → IsThere setup row → AllByRecursion (IsThere setup) rows → AllByRecursion (IsThere setup) (put row rows)
there_put setup row rows here a =
    all-append (IsThere setup) (filter (λ other. nat_le other.export row.export) rows) (row ∷ filter (λ other. nat_lt row.export other.export) rows)
    (all-filter (IsThere setup) (λ other. nat_le other.export row.export) rows a) (here, all-filter (IsThere setup) (λ other. nat_lt row.export other.export) rows a)

there_shifted : (setup : Setup) (f t : ℕ) (table : Table) → AllThere setup table → AllThere setup (shifted f t table)
there_shifted setup f t table a =
    if_one (AllThere setup) (is_idle f table.rows)
    (some_one (AllThere setup) (foremost p_key (filter (λ row. not row.out) table.rows)) (λ first is. record { rows = all-map (IsThere setup) (IsThere setup) (lower_p (first.p -ℤ pos t)) (λ x h. h) table.rows a.rows }) a)
    a

there_credit : (setup : Setup) (chosen : Choice) (table : Table) → AllThere setup table → AllThere setup (with_credit chosen table)
there_credit setup chosen table a =
    if_one (AllThere setup) (is_by_weight chosen.phase)
    (some_one (AllThere setup) (side table chosen.row.export).rates.r_interval (λ by k. record { rows = all-map (IsThere setup) (IsThere setup) (lower_r by chosen.row.export) (λ x h. h) table.rows a.rows }) a)
    a

module _ {A : Type 0} where
  record StaysThere (setup : Setup) (new : Outcome A) : Type 0 where
    is : AllThere setup new.table

  there_after : (setup : Setup) (table : Table) (event : Event A) (memory : Bool) → AllThere setup table → StaysThere setup (step setup table event memory)
  there_after setup table (Attach named) memory a =
      let P = StaysThere setup in
      some_one P (slice_get setup.exports named) (λ other h.
      if_one P (nat_le (2 ^ 56) (side table named).count) (record { is = a })
      (if_one P (length (filter is_here (side table named).sessions) == 64) (record { is = a })
      (if_one P (not memory) (record { is = a }) (record { is = record { rows = a.rows } })))) (record { is = a })
  there_after setup table (Arrive named s t q) memory a =
      let P = StaysThere setup in
      some_one P (slice_get setup.exports named) (λ other h.
      if_one P (not (is_open_at (side table named).sessions s)) (record { is = a })
      (if_one P (nat_le (2 ^ 56) (side table named).count) (record { is = a })
      (if_one P (outstanding_in named s table == other.window) (record { is = a })
      (if_one P (not memory) (record { is = a })
      (if_one P (not (verdict_of other q == 0)) (record { is = record { rows = a.rows } })
      (if_one P (length (filter (waits_in named) table.rows) == other.depth) (record { is = record { rows = a.rows } })
      (record { is = record { rows = there_put setup (new_row named s t q (side (shifted named t table) named)) (shifted named t table).rows (slice_get_within setup.exports named other h) (there_shifted setup named t table a).rows } }))))))) (record { is = a })
  there_after setup table (Dispatch t) memory a =
      let now : Table = record table { now = max table.now t } in
      some_one (StaysThere setup) (choice setup.inflight now)
      (λ chosen h. record { is = there_credit setup chosen (sent chosen.row now) (record { rows = all-map (IsThere setup) (IsThere setup) (send chosen.row) (λ x k. k) table.rows a.rows }) })
      (record { is = record { rows = a.rows } })
  there_after setup table (Perform named n) memory a =
      let P = StaysThere setup in
      some_one P (find (is_out_row named n) table.rows) (λ row h.
      if_one P (not memory && may_want_memory row.request)
      (record { is = record { rows = all-filter (IsThere setup) (λ other. not (is_out_row named row.number other)) table.rows a.rows } })
      (record { is = record { rows = all-filter (IsThere setup) (λ other. not (is_out_row named row.number other)) table.rows a.rows } })) (record { is = a })
  there_after setup table (Take named s) memory a =
      let P = StaysThere setup in
      some_one P (slice_get setup.exports named) (λ other h.
      if_one P (not (is_here_at (side table named).sessions s)) (record { is = a })
      (some_one P (slice_get (outbox_at (side table named).sessions s) 0) (λ reply k. record { is = record { rows = a.rows } })
      (if_one P (is_left_at (side table named).sessions s && outstanding_in named s table == 0) (record { is = a }) (record { is = a })))) (record { is = a })
  there_after setup table (Leave named s) memory a =
      let P = StaysThere setup in
      some_one P (slice_get setup.exports named) (λ other h.
      if_one P (not (is_open_at (side table named).sessions s)) (record { is = a }) (record { is = record { rows = a.rows } })) (record { is = a })
  there_after setup table (Gone named s) memory a =
      let P = StaysThere setup in
      some_one P (slice_get setup.exports named) (λ other h.
      if_one P (not (is_here_at (side table named).sessions s)) (record { is = a }) (record { is = record { rows = a.rows } })) (record { is = a })
  there_after setup table (Retune named rates) memory a =
      let P = StaysThere setup in
      some_one P (slice_get setup.exports named) (λ other h.
      if_one P (nat_le (2 ^ 56) (side table named).count) (record { is = a })
      (if_one P (not (length (filter (waits_in named) table.rows) == 0)) (record { is = a })
      (if_one P (not memory) (record { is = a }) (record { is = record { rows = a.rows } })))) (record { is = a })

  pub there_step : (setup : Setup) (table : Table) (event : Event A) (memory : Bool) → AllThere setup table → AllThere setup (step setup table event memory).table
  there_step setup table event memory a = (there_after setup table event memory a).is
