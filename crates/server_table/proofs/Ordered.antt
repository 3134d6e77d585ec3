-- The rows stand by export and then number, so the first of equal keys is the one that is chosen.
use Rattle.std.proofs.Common.{◌≡◌, ℕ, suc, ◌<◌, ℤ, Bool, true, false, cond, Option, Some, None, List, [], ◌∷◌, ◌++◌, map, filter, refl, sym, ◌∙◌, ap, subst, arith}
use Rattle.std.specs.Prelude.{⊤, not, ◌==◌, ◌&&◌, ◌||◌, nat_lt, int_le, int_lt, pos, option_map, unwrap_or}
use Rattle.std.specs.Ordering.{int_eq}
use Rattle.std.proofs.lemmas.Bool.Decides.{nat_tests}
use Rattle.std.proofs.lemmas.Int.{ints}
use Rattle.tag_clock.specs.declared.Phase.{Phase}
use Rattle.tag_clock.specs.declared.Phase.TheVariants.{Reservation, Weight}
use Rattle.nbd_base.specs.Least.{least, the_sooner, keyed}
use Rattle.eligibility.specs.Choice.{due, due_r, due_p, by_phase}
use Rattle.nbd_base.specs.Words.{when_some}
use Rattle.server_table.specs.Parts.{Entry, Part, row_of, part_rows, rows_from}
use Rattle.server_table.specs.Table.{Row, Choice, foremost, precedes, is_due_by_reservation, is_due_by_limit, r_key, p_key}
use Rattle.server_table.specs.Order.{AllParts, AllAbove, IsNumbered, row_key, least_row, chosen_row}

abbrev pub goes_before : Row → Row → Bool
goes_before a b = nat_lt a.export b.export || (a.export == b.export && nat_lt a.number b.number)

abbrev pub AllRows : (Row → Type 0) → List Row → Type 0
AllRows P [] = ⊤
AllRows P (row ∷ rows) = P row × AllRows P rows

abbrev pub IsOrdered : List Row → Type 0
IsOrdered [] = ⊤
IsOrdered (row ∷ rows) = AllRows (λ other. goes_before row other ≡ true) rows × IsOrdered rows

rows_to : (P Q : Row → Type 0) → ((row : Row) → P row → Q row) → (rows : List Row) → AllRows P rows → AllRows Q rows
rows_to P Q f [] h = tt
rows_to P Q f (x ∷ xs) h = (f x h.0, rows_to P Q f xs h.1)

rows_joined : (P : Row → Type 0) (xs ys : List Row) → AllRows P xs → AllRows P ys → AllRows P (xs ++ ys)
rows_joined P [] ys a b = b
rows_joined P (x ∷ xs) ys a b = (a.0, rows_joined P xs ys a.1 b)

-- ---- the rows of the parts are ordered
exports_row : (k : ℕ) (b : Bool) (entries : List Entry) → AllRows (λ row. row.export ≡ k) (map (row_of k b) entries)
exports_row k b [] = tt
exports_row k b (x ∷ xs) = (refl, exports_row k b xs)

exports_part : (k : ℕ) (p : Part) → AllRows (λ row. row.export ≡ k) (part_rows k p)
exports_part k p = rows_joined (λ row. row.export ≡ k) (map (row_of k true) p.out) (map (row_of k false) p.waiting) (exports_row k true p.out) (exports_row k false p.waiting)

above_all : (k : ℕ) (b c : Bool) (x : Entry) (entries : List Entry) → AllAbove x.number entries → AllRows (λ other. goes_before (row_of k b x) other ≡ true) (map (row_of k c) entries)
above_all k b c x [] h = tt
above_all k b c x (y ∷ ys) h = (let lt = h.0 in grind (arith, nat_tests), above_all k b c x ys h.1)

above_front : (n : ℕ) (xs ys : List Entry) → AllAbove n (xs ++ ys) → AllAbove n xs
above_front n [] ys h = tt
above_front n (x ∷ xs) ys h = (h.0, above_front n xs ys h.1)

above_back : (n : ℕ) (xs ys : List Entry) → AllAbove n (xs ++ ys) → AllAbove n ys
above_back n [] ys h = h
above_back n (x ∷ xs) ys h = above_back n xs ys h.1

ordered_waiting : (k : ℕ) (w : List Entry) → IsNumbered w → IsOrdered (map (row_of k false) w)
ordered_waiting k [] h = tt
ordered_waiting k (x ∷ xs) h = (above_all k false false x xs h.0, ordered_waiting k xs h.1)

ordered_part : (k : ℕ) (out w : List Entry) → IsNumbered (out ++ w) → IsOrdered (map (row_of k true) out ++ map (row_of k false) w)
ordered_part k [] w h = ordered_waiting k w h
ordered_part k (x ∷ xs) w h =
    (rows_joined (λ other. goes_before (row_of k true x) other ≡ true) (map (row_of k true) xs) (map (row_of k false) w) (above_all k true true x xs (above_front x.number xs w h.0)) (above_all k true false x w (above_back x.number xs w h.0)), ordered_part k xs w h.1)

past_row : (row : Row) (j : ℕ) (b : Bool) (entries : List Entry) → row.export < j → AllRows (λ other. goes_before row other ≡ true) (map (row_of j b) entries)
past_row row j b [] lt = tt
past_row row j b (x ∷ xs) lt = (grind (arith, nat_tests), past_row row j b xs lt)

past : (row : Row) (j : ℕ) (ps : List Part) → row.export < j → AllRows (λ other. goes_before row other ≡ true) (rows_from j ps)
past row j [] lt = tt
past row j (p ∷ ps) lt =
    rows_joined (λ other. goes_before row other ≡ true) (part_rows j p) (rows_from (suc j) ps)
    (rows_joined (λ other. goes_before row other ≡ true) (map (row_of j true) p.out) (map (row_of j false) p.waiting) (past_row row j true p.out lt) (past_row row j false p.waiting lt))
    (past row (suc j) ps (omega arith))

ordered_joined : (xs ys : List Row) → IsOrdered xs → IsOrdered ys → AllRows (λ x. AllRows (λ other. goes_before x other ≡ true) ys) xs → IsOrdered (xs ++ ys)
ordered_joined [] ys a b c = b
ordered_joined (x ∷ xs) ys a b c = (rows_joined (λ other. goes_before x other ≡ true) xs ys a.0 c.0, ordered_joined xs ys a.1 b c.1)

pub ordered_rows : (k : ℕ) (ps : List Part) → AllParts (λ p. IsNumbered (p.out ++ p.waiting)) ps → IsOrdered (rows_from k ps)
ordered_rows k [] h = tt
ordered_rows k (p ∷ ps) h =
    ordered_joined (part_rows k p) (rows_from (suc k) ps) (ordered_part k p.out p.waiting h.0) (ordered_rows (suc k) ps h.1)
    (rows_to (λ row. row.export ≡ k) (λ row. AllRows (λ other. goes_before row other ≡ true) (rows_from (suc k) ps)) (λ row is. past row (suc k) ps (omega arith)) (part_rows k p) (exports_part k p))

-- ---- the least row, by either wording
with_key : (Row → ℤ) → Row → ℤ × Row
with_key key row = (key row, row)

least_in : (P : Row → Type 0) (key : Row → ℤ) (test : Row → Bool) (rows : List Row) → AllRows P rows → (best : Row) → foremost key (filter test rows) ≡ Some best → P best
least_in P key test [] h best is = absurd (cc)
least_in P key test (x ∷ xs) h best is = by_test (test x) (least_in P key test xs h.1) is
  where
    by_best : (o : Option Row) → ((b : Row) → o ≡ Some b → P b) → when_some o (λ best. cond (precedes key best x) (Some best) (Some x)) (Some x) ≡ Some best → P best
    by_best None rest is = let same : x ≡ best = cc in subst P same h.0
    by_best (Some b) rest is = by_order (precedes key b x) is
      where
        by_order : (c : Bool) → cond c (Some b) (Some x) ≡ Some best → P best
        by_order true is = rest best is
        by_order false is = let same : x ≡ best = cc in subst P same h.0

    by_test : (c : Bool) → ((b : Row) → foremost key (filter test xs) ≡ Some b → P b) → foremost key (cond c (x ∷ filter test xs) (filter test xs)) ≡ Some best → P best
    by_test true rest is = by_best (foremost key (filter test xs)) rest is
    by_test false rest is = rest best is

-- a test and its key, as one
abbrev pub marked : (Row → ℤ) → (Row → Bool) → Row → Option (ℤ × Row)
marked key test row = cond (test row) (Some (key row, row)) None

one_of_two : (key : Row → ℤ) (x best : Row) → goes_before x best ≡ true → the_sooner (Some (key x, x)) (Some (key best, best)) ≡ option_map (λ row. (key row, row)) (cond (precedes key best x) (Some best) (Some x))
one_of_two key x best before = by_test (int_le (key x) (key best)) (precedes key best x) (tests (key x) (key best))
  where
    tests : (a b : ℤ) → (int_lt b a || (int_eq b a && (nat_lt best.export x.export || (best.export == x.export && nat_lt best.number x.number)))) ≡ not (int_le a b)
    tests a b = grind (arith, ints, nat_tests)

    by_test : (c d : Bool) → d ≡ not c → cond {A = Option (ℤ × Row)} c (Some (key x, x)) (Some (key best, best)) ≡ option_map (λ row. (key row, row)) (cond d (Some best) (Some x))
    by_test true d is = ap (λ z. option_map (λ row. (key row, row)) (cond z (Some best) (Some x))) (sym is)
    by_test false d is = ap (λ z. option_map (λ row. (key row, row)) (cond z (Some best) (Some x))) (sym is)

pub least_marked : (key : Row → ℤ) (test : Row → Bool) (rows : List Row) → IsOrdered rows → least (map (marked key test) rows) ≡ option_map (λ row. (key row, row)) (foremost key (filter test rows))
least_marked key test [] h = refl
least_marked key test (x ∷ xs) h =
    ap (the_sooner (marked key test x)) (least_marked key test xs h.1) ∙ by_test (test x)
  where
    by_best : (o : Option Row) → ((b : Row) → o ≡ Some b → goes_before x b ≡ true) → the_sooner (Some (key x, x)) (option_map (λ row. (key row, row)) o) ≡ option_map (λ row. (key row, row)) (when_some o (λ best. cond (precedes key best x) (Some best) (Some x)) (Some x))
    by_best None before = refl
    by_best (Some b) before = one_of_two key x b (before b refl)

    by_test : (c : Bool) → the_sooner (cond c (Some (key x, x)) None) (option_map (λ row. (key row, row)) (foremost key (filter test xs))) ≡ option_map (λ row. (key row, row)) (foremost key (cond c (x ∷ filter test xs) (filter test xs)))
    by_test true = by_best (foremost key (filter test xs)) (λ b is. least_in (λ other. goes_before x other ≡ true) key test xs h.0 b is)
    by_test false = refl

map_alike : (f g : Row → Option (ℤ × Row)) → ((row : Row) → f row ≡ g row) → (rows : List Row) → map f rows ≡ map g rows
map_alike f g same [] = refl
map_alike f g same (x ∷ xs) = ap (λ y. y ∷ map f xs) (same x) ∙ ap (λ l. g x ∷ l) (map_alike f g same xs)

key_r : (now : ℕ) (row : Row) → row_key (due_r (pos now)) row ≡ marked r_key (is_due_by_reservation now) row
key_r now row = by_cases row.out row.r
  where
    by_cases : (out : Bool) (r : Option ℤ) → cond out None (keyed (due (pos now) r) row) ≡ cond (not out && when_some r (λ z. int_le z (pos now)) false) (Some (unwrap_or r (pos 0), row)) None
    by_cases true r = refl
    by_cases false None = refl
    by_cases false (Some z) = by_test (int_le z (pos now))
      where
        by_test : (c : Bool) → keyed (cond c (Some z) None) row ≡ cond c (Some (z, row)) None
        by_test true = refl
        by_test false = refl

key_l : (now : ℕ) (row : Row) → row_key (due_p (pos now)) row ≡ marked p_key (is_due_by_limit now) row
key_l now row = by_cases row.out (int_le row.l (pos now))
  where
    by_cases : (out c : Bool) → cond out None (keyed (cond c (Some row.p) None) row) ≡ cond (not out && c) (Some (row.p, row)) None
    by_cases true c = refl
    by_cases false true = refl
    by_cases false false = refl

key_p : (row : Row) → row_key (λ tags. Some tags.p) row ≡ marked p_key (λ row. not row.out) row
key_p row = by_cases row.out
  where
    by_cases : (out : Bool) → cond {A = Option (ℤ × Row)} out None (Some (row.p, row)) ≡ cond (not out) (Some (row.p, row)) None
    by_cases true = refl
    by_cases false = refl

pub least_r : (now : ℕ) (rows : List Row) → IsOrdered rows → least_row (due_r (pos now)) rows ≡ option_map (λ row. (r_key row, row)) (foremost r_key (filter (is_due_by_reservation now) rows))
least_r now rows h = ap least (map_alike (row_key (due_r (pos now))) (marked r_key (is_due_by_reservation now)) (key_r now) rows) ∙ least_marked r_key (is_due_by_reservation now) rows h

pub least_l : (now : ℕ) (rows : List Row) → IsOrdered rows → least_row (due_p (pos now)) rows ≡ option_map (λ row. (p_key row, row)) (foremost p_key (filter (is_due_by_limit now) rows))
least_l now rows h = ap least (map_alike (row_key (due_p (pos now))) (marked p_key (is_due_by_limit now)) (key_l now) rows) ∙ least_marked p_key (is_due_by_limit now) rows h

pub least_waiting_p : (rows : List Row) → IsOrdered rows → least_row (λ tags. Some tags.p) rows ≡ option_map (λ row. (p_key row, row)) (foremost p_key (filter (λ row. not row.out) rows))
least_waiting_p rows h = ap least (map_alike (row_key (λ tags. Some tags.p)) (marked p_key (λ row. not row.out)) key_p rows) ∙ least_marked p_key (λ row. not row.out) rows h

-- the choice of the definitions, as a pair
abbrev pub pair_of : Choice → Row × Phase
pair_of c = (c.row, c.phase)

pub choice_pairs : (now : ℕ) (rows : List Row) → IsOrdered rows → chosen_row now rows ≡ option_map pair_of (when_some (foremost r_key (filter (is_due_by_reservation now) rows)) (λ row. Some (record { row = row; phase = Reservation })) (when_some (foremost p_key (filter (is_due_by_limit now) rows)) (λ row. Some (record { row = row; phase = Weight })) None))
choice_pairs now rows h =
    ap (λ a. by_phase a (least_row (due_p (pos now)) rows)) (least_r now rows h)
    ∙ ap (by_phase (option_map (λ row. (r_key row, row)) (foremost r_key (filter (is_due_by_reservation now) rows)))) (least_l now rows h)
    ∙ by_both (foremost r_key (filter (is_due_by_reservation now) rows)) (foremost p_key (filter (is_due_by_limit now) rows))
  where
    by_both : (a b : Option Row) → by_phase (option_map (λ row. (r_key row, row)) a) (option_map (λ row. (p_key row, row)) b) ≡ option_map pair_of (when_some a (λ row. Some (record { row = row; phase = Reservation })) (when_some b (λ row. Some (record { row = row; phase = Weight })) None))
    by_both (Some a) b = refl
    by_both None (Some b) = refl
    by_both None None = refl
