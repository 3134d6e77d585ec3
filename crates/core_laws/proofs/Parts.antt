-- What a change of the table does to the part of one export.
use Rattle.std.proofs.Common.{◌≡◌, ◌≢◌, ℕ, ◌+◌, ◌<◌, Bool, true, false, not, ◌&&◌, eqb, nat_le, nat_lt, ◌==◌, List, [], ◌∷◌, ◌++◌, length, map, filter, find, option_map, ℤ, pos, ◌-ℤ◌, refl, sym, ap, ◌∙◌, arith, append-nil}
use Rattle.std.proofs.lemmas.Bool.Decides.{nat_tests}
use Rattle.lone_export.specs.Alone.{Alone, Job}
use Rattle.server_table.specs.Table.{Row, Side, Table, side, no_side, waits_in, is_out_in, job_of, part, lower_p, lower_last_p, all_lowered, shifted, is_idle, foremost, p_key, lower_r, lower_last_r, credited, put}
use Rattle.server_table.specs.Steps.{changed, is_out_row}
use Rattle.lone_export.proofs.Cases.{if_one, some_one}
use Rattle.std.proofs.lemmas.List.Elements.{filter-append}
use Rattle.core_laws.proofs.Lists.{get_or-change_at, get_or-change_at_other, length-change_each, unseen-change_at, unseen-change_each, filter_of_filter, filter_none, filter-map, map-map_same, filter-of_map, filter_same_on, filter_swap}

-- a part from its rows and its side
abbrev pub made : List Job → List Job → Side → Alone
made waiting out side = record { image = side.image; waiting = waiting; out = out; next = side.next; last = side.last_l; rates = side.rates; sessions = side.sessions; count = side.count }

pub same_made : (ws ws' os os' : List Job) (s s' : Side) → ws ≡ ws' → os ≡ os' → s ≡ s' → made ws os s ≡ made ws' os' s'
same_made ws ws' os os' s s' e f g = rw (e, f, g)

-- the parts of two tables are equal where these are
pub same_part : (e : ℕ) (a b : Table) → filter (waits_in e) a.rows ≡ filter (waits_in e) b.rows → filter (is_out_in e) a.rows ≡ filter (is_out_in e) b.rows → side a e ≡ side b e → part e a ≡ part e b
same_part e a b w o s = same_made _ _ _ _ (side a e) (side b e) (ap (map job_of) w) (ap (map job_of) o) s

-- ---- tests of rows

pub waits_here : (e : ℕ) (row : Row) → waits_in e row ≡ true → (row.export ≡ e) × (row.out ≡ false)
waits_here e row h = (grind (arith, nat_tests, h), grind (arith, nat_tests, h))

pub out_here : (e : ℕ) (row : Row) → is_out_in e row ≡ true → (row.export ≡ e) × (row.out ≡ true)
out_here e row h = (grind (arith, nat_tests, h), grind (arith, nat_tests, h))

-- ---- a change of another export's side, and of its own

pub part_other : (e f : ℕ) (table : Table) (rows : List Row) (change : Side → Side) → e ≢ f → filter (waits_in e) rows ≡ filter (waits_in e) table.rows → filter (is_out_in e) rows ≡ filter (is_out_in e) table.rows → part e (changed f table rows change) ≡ part e table
part_other e f table rows change differ w o = same_part e (changed f table rows change) table w o (get_or-change_at_other _ f e table.sides no_side differ)

pub part_own : (e : ℕ) (table : Table) (rows : List Row) (change : Side → Side) → e < length table.sides → part e (changed e table rows change) ≡ made (map job_of (filter (waits_in e) rows)) (map job_of (filter (is_out_in e) rows)) (record (change (side table e)) { count = (side table e).count + 1 })
part_own e table rows change lt = ap (made (map job_of (filter (waits_in e) rows)) (map job_of (filter (is_out_in e) rows))) (get_or-change_at (λ side. record (change side) { count = side.count + 1 }) e table.sides no_side lt)

-- ---- shift and credit leave each part

-- a map of the rows that no part sees, and a change of the sides that it doesn't see either
mapped : (e : ℕ) (f : Row → Row) (table : Table) (other : Table) → ((row : Row) → waits_in e (f row) ≡ waits_in e row) → ((row : Row) → is_out_in e (f row) ≡ is_out_in e row) → ((row : Row) → job_of (f row) ≡ job_of row) → other.rows ≡ map f table.rows → ((ws os : List Job) → made ws os (side other e) ≡ made ws os (side table e)) → part e other ≡ part e table
mapped e f table other w o g rows sides =
    rw (rows, filter-map (waits_in e) f w table.rows, filter-map (is_out_in e) f o table.rows, map-map_same job_of f g (filter (waits_in e) table.rows), map-map_same job_of f g (filter (is_out_in e) table.rows))
    (sides (map job_of (filter (waits_in e) table.rows)) (map job_of (filter (is_out_in e) table.rows)))

pub part_lowered : (e : ℕ) (by : ℤ) (table : Table) → part e (all_lowered by table) ≡ part e table
part_lowered e by table = mapped e (lower_p by) table (all_lowered by table) (λ row. refl) (λ row. refl) (λ row. refl) refl (λ ws os. unseen-change_each (made ws os) (lower_last_p by table.rows) (λ k x. refl) 0 e table.sides no_side)

pub part_shifted : (e f t : ℕ) (table : Table) → part e (shifted f t table) ≡ part e table
part_shifted e f t table =
    if_one (λ a. part e a ≡ part e table) (is_idle f table.rows)
    (some_one (λ a. part e a ≡ part e table) (foremost p_key (filter (λ row. not row.out) table.rows)) (λ first is. part_lowered e (first.p -ℤ pos t) table) refl)
    refl

pub part_credited : (e by f : ℕ) (table : Table) → part e (credited by f table) ≡ part e table
part_credited e by f table = mapped e (lower_r by f) table (credited by f table) (λ row. refl) (λ row. refl) (λ row. refl) refl (λ ws os. unseen-change_at (made ws os) (lower_last_r by) (λ x. refl) f e table.sides no_side)

pub length-shifted : (f t : ℕ) (table : Table) → length (shifted f t table).sides ≡ length table.sides
length-shifted f t table =
    if_one (λ (a : Table). length a.sides ≡ length table.sides) (is_idle f table.rows)
    (some_one (λ (a : Table). length a.sides ≡ length table.sides) (foremost p_key (filter (λ row. not row.out) table.rows)) (λ first is. length-change_each (lower_last_p (first.p -ℤ pos t) table.rows) 0 table.sides) refl)
    refl

-- ---- a row put in

pub put_own : (p : Row → Bool) (row : Row) → ((x : Row) → p x ≡ true → x.export ≡ row.export) → p row ≡ true → (rows : List Row) → filter p (put row rows) ≡ filter p rows ++ row ∷ []
put_own p row h here rows =
    rw (
      filter-append p (filter (λ other. nat_le other.export row.export) rows) (row ∷ filter (λ other. nat_lt row.export other.export) rows),
      here,
      filter_of_filter p (λ other. nat_le other.export row.export) (λ x t. low x (h x t)) rows,
      filter_none p (λ other. nat_lt row.export other.export) (λ x t. high x (h x t)) rows,
    )
  where
    low : (x : Row) → x.export ≡ row.export → nat_le x.export row.export ≡ true
    low x e = grind (arith, nat_tests)

    high : (x : Row) → x.export ≡ row.export → nat_lt row.export x.export ≡ false
    high x e = grind (arith, nat_tests)

-- the new row doesn't pass p, and all that pass are of one export
pub put_other : (p : Row → Bool) (row : Row) (e : ℕ) → ((x : Row) → p x ≡ true → x.export ≡ e) → p row ≡ false → (rows : List Row) → filter p (put row rows) ≡ filter p rows
put_other p row e h away rows = go (nat_le e row.export) refl
  where
    go : (b : Bool) → nat_le e row.export ≡ b → filter p (put row rows) ≡ filter p rows
    go true le =
        rw (
          filter-append p (filter (λ other. nat_le other.export row.export) rows) (row ∷ filter (λ other. nat_lt row.export other.export) rows),
          away,
          filter_of_filter p (λ other. nat_le other.export row.export) (λ x t. rw (h x t) le) rows,
          filter_none p (λ other. nat_lt row.export other.export) (λ x t. below x (h x t)) rows,
        ) (append-nil (filter p rows))
      where
        below : (x : Row) → x.export ≡ e → nat_lt row.export x.export ≡ false
        below x is = grind (arith, nat_tests)
    go false gt =
        rw (
          filter-append p (filter (λ other. nat_le other.export row.export) rows) (row ∷ filter (λ other. nat_lt row.export other.export) rows),
          away,
          filter_none p (λ other. nat_le other.export row.export) (λ x t. rw (h x t) gt) rows,
          filter_of_filter p (λ other. nat_lt row.export other.export) (λ x t. above x (h x t)) rows,
        ) refl
      where
        above : (x : Row) → x.export ≡ e → nat_lt row.export x.export ≡ true
        above x is = grind (arith, nat_tests)

-- ---- what is outstanding, found and removed

pub count_split : (e s : ℕ) (rows : List Row) → length (filter (λ row. row.export == e && row.session == s) rows) ≡ length (filter (λ job. job.session == s) (map job_of (filter (waits_in e) rows))) + length (filter (λ job. job.session == s) (map job_of (filter (is_out_in e) rows)))
count_split e s [] = omega arith
count_split e s (row ∷ rows) = go (count_split e s rows) (eqb row.export e) row.out (eqb row.session s) refl refl refl
  where
    go : length (filter (λ row. row.export == e && row.session == s) rows) ≡ length (filter (λ job. job.session == s) (map job_of (filter (waits_in e) rows))) + length (filter (λ job. job.session == s) (map job_of (filter (is_out_in e) rows))) →
        (a b c : Bool) → eqb row.export e ≡ a → row.out ≡ b → eqb row.session s ≡ c →
        length (filter (λ row. row.export == e && row.session == s) (row ∷ rows)) ≡ length (filter (λ job. job.session == s) (map job_of (filter (waits_in e) (row ∷ rows)))) + length (filter (λ job. job.session == s) (map job_of (filter (is_out_in e) (row ∷ rows))))
    go ih false b c i j k = rw i ih
    go ih true false true i j k = rw (i, j, k) (omega (arith, ih))
    go ih true false false i j k = rw (i, j, k) (omega (arith, ih))
    go ih true true true i j k = rw (i, j, k) (omega (arith, ih))
    go ih true true false i j k = rw (i, j, k) (omega (arith, ih))

pub find_job : (e n : ℕ) (rows : List Row) → option_map job_of (find (is_out_row e n) rows) ≡ find (λ job. job.number == n) (map job_of (filter (is_out_in e) rows))
find_job e n [] = refl
find_job e n (row ∷ rows) = go (find_job e n rows) (is_out_in e row) (eqb row.number n) refl refl
  where
    go : option_map job_of (find (is_out_row e n) rows) ≡ find (λ job. job.number == n) (map job_of (filter (is_out_in e) rows)) → (a b : Bool) → is_out_in e row ≡ a → eqb row.number n ≡ b → option_map job_of (find (is_out_row e n) (row ∷ rows)) ≡ find (λ job. job.number == n) (map job_of (filter (is_out_in e) (row ∷ rows)))
    go ih true true i j = rw (i, j) refl
    go ih true false i j = rw (i, j) ih
    go ih false b i j = rw i ih

pub waits_kept : (e f n : ℕ) (rows : List Row) → filter (waits_in e) (filter (λ other. not (is_out_row f n other)) rows) ≡ filter (waits_in e) rows
waits_kept e f n rows = filter_of_filter (waits_in e) (λ other. not (is_out_row f n other)) (λ x t. keeps x (waits_here e x t).1) rows
  where
    keeps : (x : Row) → x.out ≡ false → not (is_out_row f n x) ≡ true
    keeps x o = grind (arith, nat_tests)

pub out_kept : (e f n : ℕ) (rows : List Row) → e ≢ f → filter (is_out_in e) (filter (λ other. not (is_out_row f n other)) rows) ≡ filter (is_out_in e) rows
out_kept e f n rows differ = filter_of_filter (is_out_in e) (λ other. not (is_out_row f n other)) (λ x t. keeps x (out_here e x t).0) rows
  where
    keeps : (x : Row) → x.export ≡ e → not (is_out_row f n x) ≡ true
    keeps x o = grind (arith, nat_tests, differ)

pub out_removed : (e n : ℕ) (rows : List Row) → map job_of (filter (is_out_in e) (filter (λ other. not (is_out_row e n other)) rows)) ≡ filter (λ other. not (other.number == n)) (map job_of (filter (is_out_in e) rows))
out_removed e n rows =
    ap (map job_of) (filter_swap (is_out_in e) (λ other. not (is_out_row e n other)) rows ∙ filter_same_on (is_out_in e) (λ other. not (is_out_row e n other)) (λ other. not (other.number == n)) (λ x t. rw t refl) rows)
    ∙ sym (filter-of_map (λ other. not (other.number == n)) job_of (filter (is_out_in e) rows))
