-- The rows of one export stand in the order of their numbers and tags, in each table that can be reached.
use Rattle.std.proofs.Common.{◌≡◌, ℕ, ◌<◌, Bool, true, false, not, ◌&&◌, ◌||◌, ◌==◌, List, [], ◌∷◌, ◌++◌, length, map, filter, drop, slice_get, Option, Some, is_some, if◌then◌else◌, ℤ, ◌≤ℤ◌, refl, sym, subst, ap, ◌∙◌, arith, inl, inr}
use Rattle.std.specs.List.{AllByRecursion}
use Rattle.std.proofs.lemmas.Bool.Decides.{nat_tests}
use Rattle.std.proofs.lemmas.Option.{same_Some, none-some}
use Rattle.server_table.specs.Table.{Row, Side, Table, side, job_of, waits_in, precedes, foremost}
use Rattle.server_table.specs.Steps.{send}
use Rattle.server_table.specs.Order.{TagBefore}
use Rattle.lone_export.proofs.Cases.{if_one}
use Rattle.core_laws.proofs.Lists.{all_here, all-append, all-filter, all_pass, filter_swap, filter-map}
use Rattle.core_laws.proofs.Order.{comes_first, Mem, mem_filter, mem_all, mem_of_filter, mem_passes, foremost_mem, foremost_first}

-- a row stands before another of its export: the lesser number, and the lesser tags where it waits
pub record IsBefore (a b : Row) : Type 0 where
  pub number : a.number < b.number
  pub place : a.out ≡ false → b.out ≡ false
  pub r : a.out ≡ false → TagBefore a.r b.r
  pub l : a.out ≡ false → a.l ≤ℤ b.l
  pub p : a.out ≡ false → a.p ≤ℤ b.p

-- what a side knows of the latest arrival, with the interval of the reservation in force
pub record Latest : Type 0 where
  pub next : ℕ
  pub interval : Option ℕ
  pub r : Option ℤ
  pub l : Option ℤ
  pub p : Option ℤ

abbrev pub latest : Side → Latest
latest side = record { next = side.next; interval = side.rates.r_interval; r = side.last_r; l = side.last_l; p = side.last_p }

-- a row's tags aren't above the latest ones
pub record IsKept (latest : Latest) (row : Row) : Type 0 where
  pub number : row.number < latest.next
  pub shape : row.out ≡ false → is_some row.r ≡ is_some latest.interval
  pub r : row.out ≡ false → TagBefore row.r latest.r
  pub l : row.out ≡ false → TagBefore (Some row.l) latest.l
  pub p : row.out ≡ false → TagBefore (Some row.p) latest.p

abbrev pub Sorted : List Row → Type 0
Sorted [] = Unit {0}
Sorted (x ∷ xs) = AllByRecursion (IsBefore x) xs × Sorted xs

-- the rows of an export
abbrev pub is_of : ℕ → Row → Bool
is_of e row = row.export == e

abbrev pub rows_of : ℕ → List Row → List Row
rows_of e rows = filter (is_of e) rows

-- ---- lists in order

pub Sorted-push : (xs : List Row) (y : Row) → Sorted xs → AllByRecursion (λ x. IsBefore x y) xs → Sorted (xs ++ y ∷ [])
Sorted-push [] y s a = (tt, tt)
Sorted-push (x ∷ xs) y s a = (all-append (IsBefore x) xs (y ∷ []) s.0 (a.0, tt), Sorted-push xs y s.1 a.1)

pub Sorted-filter : (p : Row → Bool) (xs : List Row) → Sorted xs → Sorted (filter p xs)
Sorted-filter p [] s = tt
Sorted-filter p (x ∷ xs) s = if_one Sorted (p x) (all-filter (IsBefore x) p xs s.0, Sorted-filter p xs s.1) (Sorted-filter p xs s.1)

-- a map that keeps the order of rows of which Q holds
pub Sorted-map : (f : Row → Row) (Q : Row → Type 0) → ((a b : Row) → Q a → Q b → IsBefore a b → IsBefore (f a) (f b)) → (xs : List Row) → AllByRecursion Q xs → Sorted xs → Sorted (map f xs)
Sorted-map f Q h [] q s = tt
Sorted-map f Q h (x ∷ xs) q s = (go xs q.1 s.0, Sorted-map f Q h xs q.1 s.1)
  where
    go : (ys : List Row) → AllByRecursion Q ys → AllByRecursion (IsBefore x) ys → AllByRecursion (IsBefore (f x)) (map f ys)
    go [] r a = tt
    go (y ∷ ys) r a = (h x y q.0 r.0 a.0, go ys r.1 a.1)

pub all_both : (P Q R : Row → Type 0) → ((x : Row) → P x → Q x → R x) → (xs : List Row) → AllByRecursion P xs → AllByRecursion Q xs → AllByRecursion R xs
all_both P Q R h [] a b = tt
all_both P Q R h (x ∷ xs) a b = (h x a.0 b.0, all_both P Q R h xs a.1 b.1)

pub map_same_on : (f : Row → Row) (P : Row → Type 0) → ((x : Row) → P x → f x ≡ x) → (xs : List Row) → AllByRecursion P xs → map f xs ≡ xs
map_same_on f P h [] a = refl
map_same_on f P h (x ∷ xs) a = rw (h x a.0, map_same_on f P h xs a.1) refl

pub filter-and : (p q : Row → Bool) (xs : List Row) → filter (λ x. p x && q x) xs ≡ filter q (filter p xs)
filter-and p q [] = refl
filter-and p q (x ∷ xs) = go (p x) refl (filter-and p q xs)
  where
    go : (b : Bool) → p x ≡ b → filter (λ x. p x && q x) xs ≡ filter q (filter p xs) → (if p x && q x then (x ∷ filter (λ x. p x && q x) xs) else filter (λ x. p x && q x) xs) ≡ filter q (if p x then (x ∷ filter p xs) else filter p xs)
    go true h ih = rw h (ap (λ ys. if q x then (x ∷ ys) else ys) ih)
    go false h ih = rw h ih

pub is_of_all : (e : ℕ) (rows : List Row) → AllByRecursion (λ row. row.export ≡ e) (rows_of e rows)
is_of_all e rows = all_here (λ row. is_of e row ≡ true) (λ row. row.export ≡ e) (λ row h. same row h) (rows_of e rows) (all_pass (is_of e) rows)
  where
    same : (row : Row) → is_of e row ≡ true → row.export ≡ e
    same row h = grind (arith, nat_tests, h)

-- ---- the row that is chosen is the first of its export

pub record Lowers (key : Row → ℤ) (due : Row → Bool) : Type 0 where
  pub waits : (x : Row) → due x ≡ true → x.out ≡ false
  pub lower : (a b : Row) → a.out ≡ false → IsBefore a b → due b ≡ true → (due a ≡ true) × (key a ≤ℤ key b)

first_of : (key : Row → ℤ) (due : Row → Bool) → Lowers key due → (rows : List Row) (c : Row) → foremost key (filter due rows) ≡ Some c → (ws : List Row) → Sorted ws → ((x : Row) → Mem x ws → Mem x rows × (x.export ≡ c.export) × (x.out ≡ false)) → Mem c ws → slice_get ws 0 ≡ Some c
first_of key due low rows c is [] sorted back m = absurd m
first_of key due low rows c is (h ∷ ws) sorted back (inl same) = ap Some same
first_of key due low rows c is (h ∷ ws) sorted back (inr m) =
    let before_c : IsBefore h c = mem_all (IsBefore h) c ws sorted.0 m in
    let here : Mem h rows × (h.export ≡ c.export) × (h.out ≡ false) = back h (inl refl) in
    let due_c : due c ≡ true = mem_passes due c rows (foremost_mem key (filter due rows) c is) in
    let under : (due h ≡ true) × (key h ≤ℤ key c) = low.lower h c here.2 before_c due_c in
    let no : precedes key h c ≡ false = mem_all (λ x. precedes key x c ≡ false) h (filter due rows) (foremost_first key (filter due rows) c is) (mem_filter due h rows under.0 here.0) in
    let yes : precedes key h c ≡ true = comes_first (key h) (key c) h.export c.export h.number c.number under.1 here.1 before_c.number in
    absurd (true_false (sym yes ∙ no))
  where
    true_false : true ≡ false → ⊥
    true_false e = grind (arith, e)

pub chosen_first : (key : Row → ℤ) (due : Row → Bool) → Lowers key due → (rows : List Row) (c : Row) → foremost key (filter due rows) ≡ Some c → Sorted (rows_of c.export rows) → slice_get (filter (waits_in c.export) rows) 0 ≡ Some c
chosen_first key due low rows c is sorted =
    let due_c : due c ≡ true = mem_passes due c rows (foremost_mem key (filter due rows) c is) in
    let c_waits : waits_in c.export c ≡ true = waits c (low.waits c due_c) in
    let c_here : Mem c (filter (waits_in c.export) rows) = mem_filter (waits_in c.export) c rows c_waits (mem_of_filter due c rows (foremost_mem key (filter due rows) c is)) in
    let sorted_ws : Sorted (filter (waits_in c.export) rows) = rw (filter-and (is_of c.export) (λ row. not row.out) rows) (Sorted-filter (λ row. not row.out) (rows_of c.export rows) sorted) in
    first_of key due low rows c is (filter (waits_in c.export) rows) sorted_ws (λ x m. (mem_of_filter (waits_in c.export) x rows m, export_of x (mem_passes (waits_in c.export) x rows m), out_of x (mem_passes (waits_in c.export) x rows m))) c_here
  where
    waits : (x : Row) → x.out ≡ false → waits_in x.export x ≡ true
    waits x h = grind (arith, nat_tests, h)

    export_of : (x : Row) → waits_in c.export x ≡ true → x.export ≡ c.export
    export_of x h = grind (arith, nat_tests, h)

    out_of : (x : Row) → waits_in c.export x ≡ true → x.out ≡ false
    out_of x h = grind (arith, nat_tests, h)

-- ---- the row that is sent

-- a row of a greater number isn't sent
pub not_sent : (c y : Row) → c.number < y.number → send c y ≡ y
not_sent c y lt = ap (λ o. record y { out = o }) (stays c y lt)
  where
    stays : (c y : Row) → c.number < y.number → (y.out || (y.export == c.export && y.number == c.number)) ≡ y.out
    stays c y lt = grind (arith, nat_tests)

pub is_sent : (c x : Row) → x ≡ c → (x.out || (x.export == c.export && x.number == c.number)) ≡ true
is_sent c x is = rw is (same c)
  where
    same : (c : Row) → (c.out || (c.export == c.export && c.number == c.number)) ≡ true
    same c = grind (arith, nat_tests)

-- behind the first that waits each row waits, and none is sent
pub rest_same : (c x : Row) (xs : List Row) → x ≡ c → AllByRecursion (IsBefore x) xs → map (send c) xs ≡ xs
rest_same c x xs is a = map_same_on (send c) (IsBefore x) (λ y b. not_sent c y (subst (λ (k : Row). k.number < y.number) is b.number)) xs a

none_out : (x : Row) (xs : List Row) → x.out ≡ false → AllByRecursion (IsBefore x) xs → filter (λ y. y.out) xs ≡ []
none_out x [] h a = refl
none_out x (y ∷ ys) h a = rw (a.0.place h) (none_out x ys h a.1)

-- the rows of one export: where c is the first that waits, sending it moves it from the one list to the end of the other
pub sent_waiting : (c : Row) (xs : List Row) → Sorted xs → slice_get (filter (λ x. not x.out) xs) 0 ≡ Some c → map job_of (filter (λ x. not x.out) (map (send c) xs)) ≡ drop 1 (map job_of (filter (λ x. not x.out) xs))
sent_waiting c [] sorted first = absurd (none-some c first)
sent_waiting c (x ∷ xs) sorted first = go x.out refl (sent_waiting c xs sorted.1)
  where
    go : (b : Bool) → x.out ≡ b → (slice_get (filter (λ x. not x.out) xs) 0 ≡ Some c → map job_of (filter (λ x. not x.out) (map (send c) xs)) ≡ drop 1 (map job_of (filter (λ x. not x.out) xs))) → map job_of (filter (λ x. not x.out) (map (send c) (x ∷ xs))) ≡ drop 1 (map job_of (filter (λ x. not x.out) (x ∷ xs)))
    go true h ih = rw h (ih (rw h at first))
    go false h ih =
        let is : x ≡ c = same_Some x c (subst (λ (b : Bool). slice_get (if not b then (x ∷ filter (λ y. not y.out) xs) else filter (λ y. not y.out) xs) 0 ≡ Some c) h first) in
        rw (is_sent c x is, h, rest_same c x xs is sorted.0) refl

pub sent_out : (c : Row) (xs : List Row) → Sorted xs → slice_get (filter (λ x. not x.out) xs) 0 ≡ Some c → map job_of (filter (λ x. x.out) (map (send c) xs)) ≡ map job_of (filter (λ x. x.out) xs) ++ job_of c ∷ []
sent_out c [] sorted first = absurd (none-some c first)
sent_out c (x ∷ xs) sorted first = go x.out refl (sent_out c xs sorted.1)
  where
    go : (b : Bool) → x.out ≡ b → (slice_get (filter (λ x. not x.out) xs) 0 ≡ Some c → map job_of (filter (λ x. x.out) (map (send c) xs)) ≡ map job_of (filter (λ x. x.out) xs) ++ job_of c ∷ []) → map job_of (filter (λ x. x.out) (map (send c) (x ∷ xs))) ≡ map job_of (filter (λ x. x.out) (x ∷ xs)) ++ job_of c ∷ []
    go true h ih = rw h (ap (λ js. job_of x ∷ js) (ih (rw h at first)))
    go false h ih =
        let is : x ≡ c = same_Some x c (subst (λ (b : Bool). slice_get (if not b then (x ∷ filter (λ y. not y.out) xs) else filter (λ y. not y.out) xs) 0 ≡ Some c) h first) in
        rw (is_sent c x is, h, rest_same c x xs is sorted.0, none_out x xs h sorted.0) (ap (λ (k : Row). job_of k ∷ []) is)

-- ---- what each change keeps

pub record Tidy (e : ℕ) (table : Table) : Type 0 where
  pub there : e < length table.sides
  pub sorted : Sorted (rows_of e table.rows)
  pub kept : AllByRecursion (IsKept (latest (side table e))) (rows_of e table.rows)

-- the rows of e and its latest arrival are the same
pub tidy_same : (e : ℕ) (old new : Table) → Tidy e old → length new.sides ≡ length old.sides → rows_of e new.rows ≡ rows_of e old.rows → latest (side new e) ≡ latest (side old e) → Tidy e new
tidy_same e old new tidy n rows late = record { there = rw n tidy.there; sorted = rw rows tidy.sorted; kept = rw (rows, late) tidy.kept }

-- some rows are dropped
pub tidy_filter : (e : ℕ) (p : Row → Bool) (old new : Table) → Tidy e old → length new.sides ≡ length old.sides → new.rows ≡ filter p old.rows → latest (side new e) ≡ latest (side old e) → Tidy e new
tidy_filter e p old new tidy n rows late =
    let same : rows_of e new.rows ≡ filter p (rows_of e old.rows) = ap (rows_of e) rows ∙ filter_swap (is_of e) p old.rows in
    record {
      there = rw n tidy.there;
      sorted = rw same (Sorted-filter p (rows_of e old.rows) tidy.sorted);
      kept = rw (same, late) (all-filter (IsKept (latest (side old e))) p (rows_of e old.rows) tidy.kept);
    }

-- the rows are mapped, where that keeps their exports, their order and what is known of them
pub tidy_map : (e : ℕ) (f : Row → Row) (Q : Row → Type 0) (old new : Table) → Tidy e old → ((x : Row) → (f x).export ≡ x.export) → AllByRecursion Q (rows_of e old.rows) →
    ((a b : Row) → Q a → Q b → IsBefore a b → IsBefore (f a) (f b)) → ((x : Row) → Q x → IsKept (latest (side old e)) x → IsKept (latest (side new e)) (f x)) →
    length new.sides ≡ length old.sides → new.rows ≡ map f old.rows → Tidy e new
tidy_map e f Q old new tidy exports q order keeps n rows =
    let same : rows_of e new.rows ≡ map f (rows_of e old.rows) = ap (rows_of e) rows ∙ filter-map (is_of e) f (λ x. ap (λ k. k == e) (exports x)) old.rows in
    record {
      there = rw n tidy.there;
      sorted = rw same (Sorted-map f Q order (rows_of e old.rows) q tidy.sorted);
      kept = rw same (kept_map (rows_of e old.rows) q tidy.kept);
    }
  where
    kept_map : (xs : List Row) → AllByRecursion Q xs → AllByRecursion (IsKept (latest (side old e))) xs → AllByRecursion (IsKept (latest (side new e))) (map f xs)
    kept_map [] a b = tt
    kept_map (x ∷ xs) a b = (keeps x a.0 b.0, kept_map xs a.1 b.1)
