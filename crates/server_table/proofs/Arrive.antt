-- An arrival, over the parts.
use Rattle.std.proofs.Common.{◌≡◌, ℕ, zero, suc, ◌+◌, ◌<◌, ◌≤◌, ℤ, Bool, true, false, cond, Option, Some, None, List, [], ◌∷◌, ◌++◌, map, length, filter, set, get_or, refl, sym, ◌∙◌, ap, subst, arith, append-nil}
use Rattle.std.specs.Prelude.{not, ◌==◌, ◌-ℤ◌, nat_lt, nat_le, pos, option_map}
use Rattle.std.proofs.lemmas.Bool.Decides.{nat_tests}
use Rattle.std.proofs.lemmas.List.{map-append, append_assoc, length-map}
use Rattle.std.proofs.lemmas.List.Elements.{filter-append}
use Rattle.tag_clock.specs.Clocks.{lowered}
use Rattle.tag_clock.specs.Tags.{later}
use Rattle.nbd_wire.specs.Grammar.{RequestMessage}
use Rattle.nbd_base.specs.Words.{when_some, change_at, change_each}
use Rattle.server_table.specs.Parts.{Entry, Part, row_of, part_rows, rows_from, side_of, table_of}
use Rattle.server_table.specs.declared.event.Answer.TheVariants.{Accepted}
use Rattle.server_table.specs.Table.{Row, Side, waits_in, foremost, p_key, lower_p, lower_last_p, all_lowered, shifted, put}
use Rattle.server_table.specs.Steps.{outcome, with_last, new_row, entered, accepted_in}
use Rattle.server_table.specs.Order.{AllParts, IsRising, IsNumbered}
use Rattle.server_table.specs.Ways.{entry_shifted, part_shifted, least_first_p, parts_for, way_for, part_tags, accepted_part}
use Rattle.server_table.proofs.Rows.{side_at, sides_at, filter_only, filter_entries, filter_all, filter_no}
use Rattle.server_table.proofs.Heads.{least_candidates, p_order, told}
use Rattle.server_table.proofs.Ordered.{ordered_rows, least_waiting_p}

-- ---- what waits
pub waiting_rows : (ps : List Part) (e k i : ℕ) (p : Part) → e ≡ k + i → i < length ps → p ≡ get_or ps i p → filter (waits_in e) (rows_from k ps) ≡ map (row_of e false) p.waiting
waiting_rows ps e k i p is lt at =
    filter_only e (waits_in e) (λ row ne. grind (arith, nat_tests)) k i ps p is lt at
    ∙ filter-append (waits_in e) (map (row_of e true) p.out) (map (row_of e false) p.waiting)
    ∙ ap (λ l. l ++ filter (waits_in e) (map (row_of e false) p.waiting)) (filter_entries (waits_in e) e true (λ entry. false) (λ entry. grind (arith, nat_tests)) p.out ∙ ap (map (row_of e true)) (filter_no (λ (entry : Entry). false) (λ entry. refl) p.out))
    ∙ filter_entries (waits_in e) e false (λ entry. true) (λ entry. grind (arith, nat_tests)) p.waiting
    ∙ ap (map (row_of e false)) (filter_all (λ (entry : Entry). true) (λ entry. refl) p.waiting)

pub waiting_at : (ps : List Part) (e k i : ℕ) (p : Part) → e ≡ k + i → i < length ps → p ≡ get_or ps i p → length (filter (waits_in e) (rows_from k ps)) ≡ length p.waiting
waiting_at ps e k i p is lt at = ap length (waiting_rows ps e k i p is lt at) ∙ length-map p.waiting (row_of e false)

-- ---- the P tags fall
outs_stay : (d : ℤ) (k : ℕ) (entries : List Entry) → map (lower_p d) (map (row_of k true) entries) ≡ map (row_of k true) entries
outs_stay d k [] = refl
outs_stay d k (x ∷ xs) = ap (λ l. row_of k true x ∷ l) (outs_stay d k xs)

waits_fall : (d : ℤ) (k : ℕ) (entries : List Entry) → map (lower_p d) (map (row_of k false) entries) ≡ map (row_of k false) (map (entry_shifted d) entries)
waits_fall d k [] = refl
waits_fall d k (x ∷ xs) = ap (λ l. row_of k false (entry_shifted d x) ∷ l) (waits_fall d k xs)

rows_fall : (d : ℤ) (k : ℕ) (ps : List Part) → map (lower_p d) (rows_from k ps) ≡ rows_from k (map (part_shifted d) ps)
rows_fall d k [] = refl
rows_fall d k (p ∷ ps) =
    map-append (lower_p d) (part_rows k p) (rows_from (suc k) ps)
    ∙ ap (λ l. l ++ map (lower_p d) (rows_from (suc k) ps))
    (map-append (lower_p d) (map (row_of k true) p.out) (map (row_of k false) p.waiting)
    ∙ ap (λ l. l ++ map (lower_p d) (map (row_of k false) p.waiting)) (outs_stay d k p.out)
    ∙ ap (λ l. map (row_of k true) p.out ++ l) (waits_fall d k p.waiting))
    ∙ ap (λ l. part_rows k (part_shifted d p) ++ l) (rows_fall d (suc k) ps)

sides_fall : (d : ℤ) (rows : List Row) (k : ℕ) (ps : List Part) → ((i : ℕ) (p : Part) → i < length ps → p ≡ get_or ps i p → length (filter (waits_in (k + i)) rows) ≡ length p.waiting) → change_each (lower_last_p d rows) k (map side_of ps) ≡ map side_of (map (part_shifted d) ps)
sides_fall d rows k [] f = refl
sides_fall d rows k (p ∷ ps) f =
    let here : length (filter (waits_in k) rows) ≡ length p.waiting = ap (λ n. length (filter (waits_in n) rows)) (omega arith) ∙ f 0 p (omega arith) refl in
    let rest = sides_fall d rows (suc k) ps (λ i q lt at. ap (λ n. length (filter (waits_in n) rows)) (omega arith) ∙ f (suc i) q (omega arith) at) in
    ap (λ n. record (side_of p) { last_p = cond (n == 0) p.last_p (lowered d p.last_p) } ∷ change_each (lower_last_p d rows) (suc k) (map side_of ps)) here
    ∙ ap (λ l. side_of (part_shifted d p) ∷ l) rest

all_fall : (d : ℤ) (ps : List Part) (now : ℕ) → all_lowered d (table_of ps now) ≡ table_of (map (part_shifted d) ps) now
all_fall d ps now =
    ap (λ rs. record { rows = rs; sides = change_each (lower_last_p d (rows_from 0 ps)) 0 (map side_of ps); now = now }) (rows_fall d 0 ps)
    ∙ ap (λ ss. record { rows = rows_from 0 (map (part_shifted d) ps); sides = ss; now = now }) (sides_fall d (rows_from 0 ps) 0 ps (λ i p lt at. waiting_at ps (0 + i) 0 i p refl lt at))

-- the least P of all that wait is the least of the first ones
least_told : (ps : List Part) → AllParts (λ p. IsNumbered (p.out ++ p.waiting)) ps → AllParts (λ p. IsRising p.waiting) ps → least_first_p ps ≡ option_map (λ row. (p_key row, row.export)) (foremost p_key (filter (λ row. not row.out) (rows_from 0 ps)))
least_told ps numbered rising =
    least_candidates (λ tags. Some tags.p) p_order ps rising
    ∙ ap told (least_waiting_p (rows_from 0 ps) (ordered_rows 0 ps numbered))
    ∙ by_row (foremost p_key (filter (λ row. not row.out) (rows_from 0 ps)))
  where
    by_row : (o : Option Row) → told (option_map (λ row. (p_key row, row)) o) ≡ option_map (λ row. (p_key row, row.export)) o
    by_row None = refl
    by_row (Some row) = refl

pub shifted_way : (ps : List Part) (now e t : ℕ) (p : Part) → AllParts (λ p. IsNumbered (p.out ++ p.waiting)) ps → AllParts (λ p. IsRising p.waiting) ps → e < length ps → p ≡ get_or ps e p → shifted e t (table_of ps now) ≡ table_of (way_for (length p.waiting) (pos t) ps) now
shifted_way ps now e t p numbered rising lt at =
    ap (λ n. cond (n == 0) (when_some (foremost p_key (filter (λ row. not row.out) (rows_from 0 ps))) (λ first. all_lowered (first.p -ℤ pos t) (table_of ps now)) (table_of ps now)) (table_of ps now)) (waiting_at ps e 0 e p (omega arith) lt at)
    ∙ by_test (length p.waiting == 0) (by_first (foremost p_key (filter (λ row. not row.out) (rows_from 0 ps))) ∙ ap (λ o. table_of (parts_for o (pos t) ps) now) (sym (least_told ps numbered rising)))
  where
    by_first : (o : Option Row) → when_some o (λ first. all_lowered (first.p -ℤ pos t) (table_of ps now)) (table_of ps now) ≡ table_of (parts_for (option_map (λ row. (p_key row, row.export)) o) (pos t) ps) now
    by_first None = refl
    by_first (Some row) = all_fall (row.p -ℤ pos t) ps now

    by_test : (b : Bool) → when_some (foremost p_key (filter (λ row. not row.out) (rows_from 0 ps))) (λ first. all_lowered (first.p -ℤ pos t) (table_of ps now)) (table_of ps now) ≡ table_of (parts_for (least_first_p ps) (pos t) ps) now → cond b (when_some (foremost p_key (filter (λ row. not row.out) (rows_from 0 ps))) (λ first. all_lowered (first.p -ℤ pos t) (table_of ps now)) (table_of ps now)) (table_of ps now) ≡ table_of (cond b (parts_for (least_first_p ps) (pos t) ps) ps) now
    by_test true is = is
    by_test false is = refl

-- ---- a new row
low_row : (e k : ℕ) (b : Bool) (entries : List Entry) → k ≤ e → filter (λ (other : Row). nat_le other.export e) (map (row_of k b) entries) ≡ map (row_of k b) entries
low_row e k b entries le = filter_entries (λ (other : Row). nat_le other.export e) k b (λ entry. true) (λ entry. grind (arith, nat_tests)) entries ∙ ap (map (row_of k b)) (filter_all (λ (entry : Entry). true) (λ entry. refl) entries)

low_part : (e k : ℕ) (p : Part) → k ≤ e → filter (λ (other : Row). nat_le other.export e) (part_rows k p) ≡ part_rows k p
low_part e k p le =
    let a = low_row e k true p.out le in
    let b = low_row e k false p.waiting le in
    filter-append (λ (other : Row). nat_le other.export e) (map (row_of k true) p.out) (map (row_of k false) p.waiting) ∙ cc

lows_row : (e k : ℕ) (b : Bool) (entries : List Entry) → k ≤ e → filter (λ (other : Row). nat_lt e other.export) (map (row_of k b) entries) ≡ []
lows_row e k b entries le = filter_entries (λ (other : Row). nat_lt e other.export) k b (λ entry. false) (λ entry. grind (arith, nat_tests)) entries ∙ ap (map (row_of k b)) (filter_no (λ (entry : Entry). false) (λ entry. refl) entries)

lows_part : (e k : ℕ) (p : Part) → k ≤ e → filter (λ (other : Row). nat_lt e other.export) (part_rows k p) ≡ []
lows_part e k p le =
    filter-append (λ (other : Row). nat_lt e other.export) (map (row_of k true) p.out) (map (row_of k false) p.waiting)
    ∙ ap (λ l. l ++ filter (λ (other : Row). nat_lt e other.export) (map (row_of k false) p.waiting)) (lows_row e k true p.out le)
    ∙ lows_row e k false p.waiting le

high_row : (e k : ℕ) (b : Bool) (entries : List Entry) → e < k → filter (λ (other : Row). nat_le other.export e) (map (row_of k b) entries) ≡ []
high_row e k b entries lt = filter_entries (λ (other : Row). nat_le other.export e) k b (λ entry. false) (λ entry. grind (arith, nat_tests)) entries ∙ ap (map (row_of k b)) (filter_no (λ (entry : Entry). false) (λ entry. refl) entries)

highs_row : (e k : ℕ) (b : Bool) (entries : List Entry) → e < k → filter (λ (other : Row). nat_lt e other.export) (map (row_of k b) entries) ≡ map (row_of k b) entries
highs_row e k b entries lt = filter_entries (λ (other : Row). nat_lt e other.export) k b (λ entry. true) (λ entry. grind (arith, nat_tests)) entries ∙ ap (map (row_of k b)) (filter_all (λ (entry : Entry). true) (λ entry. refl) entries)

high_rows : (e k : ℕ) (ps : List Part) → e < k → filter (λ (other : Row). nat_le other.export e) (rows_from k ps) ≡ []
high_rows e k [] lt = refl
high_rows e k (p ∷ ps) lt =
    filter-append (λ (other : Row). nat_le other.export e) (part_rows k p) (rows_from (suc k) ps)
    ∙ ap (λ l. l ++ filter (λ (other : Row). nat_le other.export e) (rows_from (suc k) ps))
    (filter-append (λ (other : Row). nat_le other.export e) (map (row_of k true) p.out) (map (row_of k false) p.waiting)
    ∙ ap (λ l. l ++ filter (λ (other : Row). nat_le other.export e) (map (row_of k false) p.waiting)) (high_row e k true p.out lt)
    ∙ high_row e k false p.waiting lt)
    ∙ high_rows e (suc k) ps (omega arith)

highs_rows : (e k : ℕ) (ps : List Part) → e < k → filter (λ (other : Row). nat_lt e other.export) (rows_from k ps) ≡ rows_from k ps
highs_rows e k [] lt = refl
highs_rows e k (p ∷ ps) lt =
    let t : Row → Bool = λ (other : Row). nat_lt e other.export in
    let a = highs_row e k true p.out lt in
    let b = highs_row e k false p.waiting lt in
    let c : filter t (part_rows k p) ≡ part_rows k p = filter-append t (map (row_of k true) p.out) (map (row_of k false) p.waiting) ∙ cc in
    let r = highs_rows e (suc k) ps (omega arith) in
    filter-append t (part_rows k p) (rows_from (suc k) ps) ∙ cc

pub put_at : (row : Row) (k i : ℕ) (ps : List Part) (p q : Part) → row.export ≡ k + i → i < length ps → p ≡ get_or ps i p → part_rows row.export q ≡ part_rows row.export p ++ row ∷ [] → put row (rows_from k ps) ≡ rows_from k (set ps i q)
put_at row k i [] p q is lt at one = absurd (omega arith)
put_at row k zero (x ∷ ps) p q is lt at one =
    let same : row.export ≡ k = omega arith in
    let rows : part_rows k q ≡ part_rows k x ++ row ∷ [] = subst (λ n. part_rows n q ≡ part_rows n x ++ row ∷ []) same (subst (λ y. part_rows row.export q ≡ part_rows row.export y ++ row ∷ []) at one) in
    let low : Row → Bool = λ (other : Row). nat_le other.export row.export in
    let high : Row → Bool = λ (other : Row). nat_lt row.export other.export in
    let a : filter low (part_rows k x ++ rows_from (suc k) ps) ≡ part_rows k x = filter-append low (part_rows k x) (rows_from (suc k) ps) ∙ ap (λ l. l ++ filter low (rows_from (suc k) ps)) (low_part row.export k x (omega arith)) ∙ ap (λ l. part_rows k x ++ l) (high_rows row.export (suc k) ps (omega arith)) ∙ append-nil (part_rows k x) in
    let b : filter high (part_rows k x ++ rows_from (suc k) ps) ≡ rows_from (suc k) ps = filter-append high (part_rows k x) (rows_from (suc k) ps) ∙ ap (λ l. l ++ filter high (rows_from (suc k) ps)) (lows_part row.export k x (omega arith)) ∙ highs_rows row.export (suc k) ps (omega arith) in
    ap (λ l. l ++ row ∷ filter high (part_rows k x ++ rows_from (suc k) ps)) a
    ∙ ap (λ l. part_rows k x ++ row ∷ l) b
    ∙ sym (append_assoc (part_rows k x) (row ∷ []) (rows_from (suc k) ps))
    ∙ ap (λ l. l ++ rows_from (suc k) ps) (sym rows)
put_at row k (suc i) (x ∷ ps) p q is lt at one =
    let low : Row → Bool = λ (other : Row). nat_le other.export row.export in
    let high : Row → Bool = λ (other : Row). nat_lt row.export other.export in
    let a : filter low (part_rows k x ++ rows_from (suc k) ps) ≡ part_rows k x ++ filter low (rows_from (suc k) ps) = filter-append low (part_rows k x) (rows_from (suc k) ps) ∙ ap (λ l. l ++ filter low (rows_from (suc k) ps)) (low_part row.export k x (omega arith)) in
    let b : filter high (part_rows k x ++ rows_from (suc k) ps) ≡ filter high (rows_from (suc k) ps) = filter-append high (part_rows k x) (rows_from (suc k) ps) ∙ ap (λ l. l ++ filter high (rows_from (suc k) ps)) (lows_part row.export k x (omega arith)) in
    ap (λ l. l ++ row ∷ filter high (part_rows k x ++ rows_from (suc k) ps)) a
    ∙ ap (λ l. (part_rows k x ++ filter low (rows_from (suc k) ps)) ++ row ∷ l) b
    ∙ append_assoc (part_rows k x) (filter low (rows_from (suc k) ps)) (row ∷ filter high (rows_from (suc k) ps))
    ∙ ap (λ l. part_rows k x ++ l) (put_at row (suc k) i ps p q (omega arith) (omega arith) at one)

pub entered_at : (ps : List Part) (now e s t : ℕ) (q : RequestMessage) (p : Part) → e < length ps → p ≡ get_or ps e p → entered (new_row e s t q (side_of p)) (table_of ps now) ≡ table_of (set ps e (accepted_part s q (part_tags p t) p)) now
entered_at ps now e s t q p lt at =
    let after = accepted_part s q (part_tags p t) p in
    let row = new_row e s t q (side_of p) in
    let outs = map (row_of e true) p.out in
    let f : Side → Side = λ side. record (with_last row side) { count = side.count + 1 } in
    let part : part_rows e after ≡ part_rows e p ++ row ∷ [] =
    ap (λ l. outs ++ l) (map-append (row_of e false) p.waiting (record { number = p.next; session = s; request = q; tags = part_tags p t } ∷ []))
    ∙ sym (append_assoc outs (map (row_of e false) p.waiting) (row ∷ [])) in
    ap (λ rs. record { rows = rs; sides = change_at f e (map side_of ps); now = now }) (put_at row 0 e ps p after (omega arith) lt at part)
    ∙ ap (λ ss. record { rows = rows_from 0 (set ps e after); sides = ss; now = now }) (sides_at f e ps p after lt at refl)

module _ {A : Type 0} where
  pub accepted_at : (ps : List Part) (now e s t : ℕ) (q : RequestMessage) (p : Part) → e < length ps → p ≡ get_or ps e p → accepted_in {A = A} e s t q (table_of ps now) ≡ outcome (table_of (set ps e (accepted_part s q (part_tags p t) p)) now) (Accepted p.next (part_tags p t).l)
  accepted_at ps now e s t q p lt at =
      ap (λ z. outcome (entered (new_row e s t q z) (table_of ps now)) (Accepted z.next (later z.last_l z.rates.l_interval t))) (side_at ps now e p lt at)
      ∙ ap (λ table. outcome table (Accepted p.next (part_tags p t).l)) (entered_at ps now e s t q p lt at)
