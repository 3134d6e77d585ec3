-- Rows of pages, in order, after one came or some went.
use Rattle.std.proofs.Common.{◌≡◌, ◌≢◌, ℕ, zero, suc, ◌+◌, ◌-◌, ◌<◌, ◌≤◌, ◌^◌, Bool, true, false, not, ◌||◌, ◌&&◌, ◌==◌, nat_eq, nat_lt, cond, inl, inr, List, [], ◌∷◌, length, get_or, set, take, drop, ◌++◌, if◌then◌else◌, refl, sym, ap, subst, ◌∙◌, arith}
use Rattle.std.specs.List.{insert, remove}
use Rattle.std.proofs.lemmas.Bool.{cases_lt, cases_eq}
use Rattle.std.proofs.lemmas.Bool.Decides.{nat_tests}
use Rattle.std.proofs.lemmas.List.Edits.{length-insert}
use Rattle.number_sets.specs.Bits.{is_set, is_between}
use Rattle.page_table.specs.Holes.{is_hole, is_noted, rows_before, AreOrdered}
use Rattle.number_sets.proofs.RangeLemmas.{between_yes, between_before, between_behind}
use Rattle.number_sets.proofs.CountLemmas.{count_of, count-cons, count-append}

abbrev pub Row : Type 0
Row = ℕ × List ℕ

abbrev pub Rows : Type 0
Rows = List Row

eq_self : (k : ℕ) → nat_eq k k ≡ true
eq_self k = grind (arith, nat_tests)

eq_other : (p q : ℕ) → p ≢ q → nat_eq p q ≡ false
eq_other p q apart = grind (arith, nat_tests)

lt_yes : (p q : ℕ) → p < q → nat_lt p q ≡ true
lt_yes p q lt = grind (arith, nat_tests)

lt_no : (p q : ℕ) → q ≤ p → nat_lt p q ≡ false
lt_no p q le = grind (arith, nat_tests)

eq_turned : (p q : ℕ) → nat_eq p q ≡ nat_eq q p
eq_turned p q = grind (arith, nat_tests)

lt_is : (p q : ℕ) → nat_lt p q ≡ true → p < q
lt_is p q less = grind (arith, nat_tests, less)

or_false : (b : Bool) → (b || false) ≡ b
or_false true = refl
or_false false = refl

or_true : (b : Bool) → (b || true) ≡ true
or_true true = refl
or_true false = refl

-- rows of pages from a number on are such from one before it on
ordered_from : (first more : ℕ) (rows : Rows) → first ≤ more → AreOrdered more rows → AreOrdered first rows
ordered_from first more [] le ordered = tt
ordered_from first more (row ∷ rows) le ordered = (omega (arith, le, ordered.0), ordered.1, ordered.2)

-- no row is of a page before the first
not_noted : (first : ℕ) (rows : Rows) (page : ℕ) → AreOrdered first rows → page < first → is_noted rows page ≡ false
not_noted first [] page ordered below = refl
not_noted first (row ∷ rows) page ordered below =
    ap (λ (b : Bool). b || is_noted rows page) (eq_other page row.0 (λ same. absurd (omega (arith, ordered.0, below, same))))
    ∙ not_noted (row.0 + 1) rows page ordered.2 (omega (arith, ordered.0, below))

-- a page that isn't noted has no such bytes
none_first : (a b c : Bool) → (a || b) ≡ false → (a && c) ≡ false
none_first false b c none = refl
none_first true b c none = absurd (cc)

none_rest : (a b : Bool) → (a || b) ≡ false → b ≡ false
none_rest false b none = none
none_rest true b none = absurd (cc)

pub no_hole : (rows : Rows) (page k : ℕ) → is_noted rows page ≡ false → is_hole rows page k ≡ false
no_hole [] page k none = refl
no_hole (row ∷ rows) page k none =
    ap (λ (b : Bool). b || is_hole rows page k) (none_first (page == row.0) (is_noted rows page) (is_set row.1 k) none)
    ∙ no_hole rows page k (none_rest (page == row.0) (is_noted rows page) none)

row_above : (d : Row) (first : ℕ) (rows : Rows) (at : ℕ) → AreOrdered first rows → at < length rows → first ≤ (get_or rows at d).0
row_above d first [] at ordered within = absurd (omega (arith, within))
row_above d first (row ∷ rows) zero ordered within = ordered.0
row_above d first (row ∷ rows) (suc at) ordered within = omega (arith, ordered.0, row_above d (row.0 + 1) rows at ordered.2 (omega (arith, within)))

-- how many rows are of pages before one
before_yes : (row : Row) (rows : Rows) (page : ℕ) → row.0 < page → rows_before (row ∷ rows) page ≡ suc (rows_before rows page)
before_yes row rows page lt = ap (λ (b : Bool). if b then suc (rows_before rows page) else 0) (lt_yes row.0 page lt)

before_no : (row : Row) (rows : Rows) (page : ℕ) → page ≤ row.0 → rows_before (row ∷ rows) page ≡ 0
before_no row rows page le = ap (λ (b : Bool). if b then suc (rows_before rows page) else 0) (lt_no row.0 page le)

pub before_within : (rows : Rows) (page : ℕ) → rows_before rows page ≤ length rows
before_within [] page = omega arith
before_within (row ∷ rows) page =
    elim (cases_lt row.0 page) [
      | inl lt ↦ omega (arith, before_yes row rows page lt, before_within rows page)
      | inr le ↦ omega (arith, before_no row rows page le)
    ]

pub before_more : (d : Row) (first : ℕ) (rows : Rows) (page at : ℕ) → AreOrdered first rows → at < length rows → (get_or rows at d).0 < page → at < rows_before rows page
before_more d first [] page at ordered within less = absurd (omega (arith, within))
before_more d first (row ∷ rows) page zero ordered within less = omega (arith, before_yes row rows page less)
before_more d first (row ∷ rows) page (suc at) ordered within less =
    let rest : at < rows_before rows page = before_more d (row.0 + 1) rows page at ordered.2 (omega (arith, within)) less in
    let above : row.0 < page = omega (arith, less, row_above d (row.0 + 1) rows at ordered.2 (omega (arith, within))) in
    omega (arith, before_yes row rows page above, rest)

pub before_less : (d : Row) (rows : Rows) (page at : ℕ) → at < length rows → page ≤ (get_or rows at d).0 → rows_before rows page ≤ at
before_less d [] page at within upto = omega arith
before_less d (row ∷ rows) page zero within upto = omega (arith, before_no row rows page upto)
before_less d (row ∷ rows) page (suc at) within upto =
    elim (cases_lt row.0 page) [
      | inl lt ↦ omega (arith, before_yes row rows page lt, before_less d rows page at (omega (arith, within)) upto)
      | inr le ↦ omega (arith, before_no row rows page le)
    ]

pub before_upto : (rows : Rows) (page more : ℕ) → page ≤ more → rows_before rows page ≤ rows_before rows more
before_upto [] page more le = omega arith
before_upto (row ∷ rows) page more le =
    elim (cases_lt row.0 page) [
      | inl lt ↦ omega (arith, before_yes row rows page lt, before_yes row rows more (omega (arith, lt, le)), before_upto rows page more le)
      | inr ge ↦ omega (arith, before_no row rows page ge)
    ]

-- the row behind those of pages before one is the page's, if there is any
pub noted_at : (d : Row) (first : ℕ) (rows : Rows) (page at : ℕ) → AreOrdered first rows → at ≡ rows_before rows page → at < length rows → is_noted rows page ≡ nat_eq (get_or rows at d).0 page
noted_at d first [] page at ordered place within = absurd (omega (arith, within))
noted_at d first (row ∷ rows) page at ordered place within =
    elim (cases_lt row.0 page) [
      | inl lt ↦ let next : at ≡ suc (rows_before rows page) = place ∙ before_yes row rows page lt in
          ap (λ (b : Bool). b || is_noted rows page) (eq_other page row.0 (λ same. absurd (omega (arith, lt, same))))
          ∙ noted_at d (row.0 + 1) rows page (rows_before rows page) ordered.2 refl (omega (arith, within, next))
          ∙ ap (λ (n : ℕ). nat_eq (get_or (row ∷ rows) n d).0 page) (sym next)
      | inr le ↦ let none : at ≡ 0 = place ∙ before_no row rows page le in
          ap (λ (b : Bool). (page == row.0) || b) (not_noted (row.0 + 1) rows page ordered.2 (omega (arith, le)))
          ∙ or_false (page == row.0)
          ∙ eq_turned page row.0
          ∙ ap (λ (n : ℕ). nat_eq (get_or (row ∷ rows) n d).0 page) (sym none)
    ]

pub noted_past : (rows : Rows) (page at : ℕ) → at ≡ rows_before rows page → length rows ≤ at → is_noted rows page ≡ false
noted_past [] page at place past = refl
noted_past (row ∷ rows) page at place past =
    elim (cases_lt row.0 page) [
      | inl lt ↦ let next : at ≡ suc (rows_before rows page) = place ∙ before_yes row rows page lt in
          ap (λ (b : Bool). b || is_noted rows page) (eq_other page row.0 (λ same. absurd (omega (arith, lt, same))))
          ∙ noted_past rows page (rows_before rows page) refl (omega (arith, past, next))
      | inr le ↦ absurd (omega (arith, past, place, before_no row rows page le))
    ]

pub noted_within : (rows : Rows) (page at : ℕ) → at ≡ rows_before rows page → is_noted rows page ≡ true → at < length rows
noted_within rows page at place noted =
    elim (cases_lt at (length rows)) [
      | inl lt ↦ lt
      | inr le ↦ let bad : false ≡ true = sym (noted_past rows page at place le) ∙ noted in absurd (cc)
    ]

pub noted_is : (d : Row) (first : ℕ) (rows : Rows) (page at : ℕ) → AreOrdered first rows → at ≡ rows_before rows page → is_noted rows page ≡ true → (get_or rows at d).0 ≡ page
noted_is d first rows page at ordered place noted =
    let same : nat_eq (get_or rows at d).0 page ≡ true = sym (noted_at d first rows page at ordered place (noted_within rows page at place noted)) ∙ noted in
    grind (arith, nat_tests, same)

-- A page that is noted now, whose row then has more bits.
pub opened : (b : Bool) (page : ℕ) → (b || (page == page)) ≡ true
opened b page = ap (λ (a : Bool). b || a) (eq_self page) ∙ or_true b

pub dug : (e b o w r : Bool) → w ≡ (if b then true else r) → (e ≡ true → r ≡ o) → (if e then w else o) ≡ (o || (e && b))
dug true true o w r is same = is ∙ sym (or_true o)
dug true false o w r is same = is ∙ same refl ∙ sym (or_false o)
dug false b o w r is same = sym (or_false o)

pub is_page : (p q : ℕ) → nat_eq p q ≡ true → p ≡ q
is_page p q same = grind (arith, nat_tests, same)

-- A row of a page is exchanged, of which the number stays.
module _ (w : List ℕ) where
  pub set_noted : (d : Row) (rows : Rows) (at p : ℕ) → is_noted (set rows at ((get_or rows at d).0, w)) p ≡ is_noted rows p
  set_noted d [] at p = refl
  set_noted d (row ∷ rows) zero p = refl
  set_noted d (row ∷ rows) (suc at) p = ap (λ (b : Bool). (p == row.0) || b) (set_noted d rows at p)

  pub set_ordered : (d : Row) (first : ℕ) (rows : Rows) (at : ℕ) → AreOrdered first rows → AreOrdered first (set rows at ((get_or rows at d).0, w))
  set_ordered d first [] at ordered = tt
  set_ordered d first (row ∷ rows) zero ordered = ordered
  set_ordered d first (row ∷ rows) (suc at) ordered = (ordered.0, ordered.1, set_ordered d (row.0 + 1) rows at ordered.2)

  pub set_hole : (d : Row) (first : ℕ) (rows : Rows) (at page p k : ℕ) → AreOrdered first rows → at < length rows → page ≡ (get_or rows at d).0
      → is_hole (set rows at ((get_or rows at d).0, w)) p k ≡ (if p == page then is_set w k else is_hole rows p k)
  set_hole d first [] at page p k ordered within is = absurd (omega (arith, within))
  set_hole d first (row ∷ rows) zero page p k ordered within is =
      elim (cases_eq p page) [
        | inl e ↦ let here : nat_eq p row.0 ≡ true = ap (nat_eq p) (sym (e ∙ is)) ∙ eq_self p in
            let rest : is_hole rows p k ≡ false = no_hole rows p k (not_noted (row.0 + 1) rows p ordered.2 (omega (arith, e, is))) in
            let yes : nat_eq p page ≡ true = ap (nat_eq p) (sym e) ∙ eq_self p in
            ap (λ (b : Bool). (b && is_set w k) || is_hole rows p k) here ∙ ap (λ (b : Bool). is_set w k || b) rest ∙ or_false (is_set w k)
            ∙ ap (λ (b : Bool). if b then is_set w k else is_hole (row ∷ rows) p k) (sym yes)
        | inr apart ↦ let other : nat_eq p row.0 ≡ false = eq_other p row.0 (λ same. apart (same ∙ sym is)) in
            ap (λ (b : Bool). (b && is_set w k) || is_hole rows p k) other
            ∙ ap (λ (b : Bool). (b && is_set row.1 k) || is_hole rows p k) (sym other)
            ∙ ap (λ (b : Bool). if b then is_set w k else is_hole (row ∷ rows) p k) (sym (eq_other p page apart))
      ]
  set_hole d first (row ∷ rows) (suc at) page p k ordered within is =
      let above : row.0 < page = omega (arith, is, row_above d (row.0 + 1) rows at ordered.2 (omega (arith, within))) in
      ap (λ (b : Bool). ((p == row.0) && is_set row.1 k) || b) (set_hole d (row.0 + 1) rows at page p k ordered.2 (omega (arith, within)) is)
      ∙ elim (cases_eq p page) [
        | inl e ↦ let other : nat_eq p row.0 ≡ false = eq_other p row.0 (λ same. absurd (omega (arith, e, same, above))) in
            let yes : nat_eq p page ≡ true = ap (nat_eq p) (sym e) ∙ eq_self p in
            ap (λ (b : Bool). (b && is_set row.1 k) || (if p == page then is_set w k else is_hole rows p k)) other
            ∙ ap (λ (b : Bool). if b then is_set w k else is_hole rows p k) yes
            ∙ ap (λ (b : Bool). if b then is_set w k else is_hole (row ∷ rows) p k) (sym yes)
        | inr apart ↦ ap (λ (b : Bool). ((p == row.0) && is_set row.1 k) || (if b then is_set w k else is_hole rows p k)) (eq_other p page apart)
            ∙ ap (λ (b : Bool). if b then is_set w k else is_hole (row ∷ rows) p k) (sym (eq_other p page apart))
      ]

-- what is told of a page by its row
pub hole_at : (d : Row) (first : ℕ) (rows : Rows) (page at k : ℕ) → AreOrdered first rows → at ≡ rows_before rows page → is_noted rows page ≡ true → is_hole rows page k ≡ is_set (get_or rows at d).1 k
hole_at d first [] page at k ordered place noted = absurd (cc)
hole_at d first (row ∷ rows) page at k ordered place noted =
    elim (cases_lt row.0 page) [
      | inl lt ↦ let next : at ≡ suc (rows_before rows page) = place ∙ before_yes row rows page lt in
          let other : nat_eq page row.0 ≡ false = eq_other page row.0 (λ same. absurd (omega (arith, lt, same))) in
          ap (λ (b : Bool). (b && is_set row.1 k) || is_hole rows page k) other
          ∙ hole_at d (row.0 + 1) rows page (rows_before rows page) k ordered.2 refl (sym (ap (λ (b : Bool). b || is_noted rows page) other) ∙ noted)
          ∙ ap (λ (n : ℕ). is_set (get_or (row ∷ rows) n d).1 k) (sym next)
      | inr le ↦ let none : at ≡ 0 = place ∙ before_no row rows page le in
          let rest : is_noted rows page ≡ false = not_noted (row.0 + 1) rows page ordered.2 (omega (arith, le)) in
          let here : nat_eq page row.0 ≡ true = sym (ap (λ (b : Bool). (page == row.0) || b) rest ∙ or_false (page == row.0)) ∙ noted in
          ap (λ (b : Bool). (b && is_set row.1 k) || is_hole rows page k) here
          ∙ ap (λ (b : Bool). is_set row.1 k || b) (no_hole rows page k rest) ∙ or_false (is_set row.1 k)
          ∙ ap (λ (n : ℕ). is_set (get_or (row ∷ rows) n d).1 k) (sym none)
    ]

-- A row comes in.
or_apart : (a b c : Bool) → (a || (b || c)) ≡ (b || (a || c))
or_apart true true c = refl
or_apart true false c = refl
or_apart false true c = refl
or_apart false false c = refl

or_turned : (a b : Bool) → (a || b) ≡ (b || a)
or_turned true true = refl
or_turned true false = refl
or_turned false true = refl
or_turned false false = refl

and_false : (a b : Bool) → b ≡ false → (a && b) ≡ false
and_false true b e = e
and_false false b e = refl

module _ (page : ℕ) (w : List ℕ) where
  insert_front : (rows : Rows) (at p : ℕ) → at ≤ length rows → is_noted (insert rows at (page, w)) p ≡ ((p == page) || is_noted rows p)
  insert_front rows zero p within = refl
  insert_front [] (suc at) p within = absurd (omega (arith, within))
  insert_front (row ∷ rows) (suc at) p within =
      ap (λ (b : Bool). (p == row.0) || b) (insert_front rows at p (omega (arith, within))) ∙ or_apart (p == row.0) (p == page) (is_noted rows p)

  pub insert_noted : (rows : Rows) (at p : ℕ) → at ≤ length rows → is_noted (insert rows at (page, w)) p ≡ (is_noted rows p || (p == page))
  insert_noted rows at p within = insert_front rows at p within ∙ or_turned (p == page) (is_noted rows p)

  pub insert_hole : (rows : Rows) (at p k : ℕ) → at ≤ length rows → is_set w k ≡ false → is_hole (insert rows at (page, w)) p k ≡ is_hole rows p k
  insert_hole rows zero p k within none = ap (λ (b : Bool). b || is_hole rows p k) (and_false (p == page) (is_set w k) none)
  insert_hole [] (suc at) p k within none = absurd (omega (arith, within))
  insert_hole (row ∷ rows) (suc at) p k within none = ap (λ (b : Bool). ((p == row.0) && is_set row.1 k) || b) (insert_hole rows at p k (omega (arith, within)) none)

  pub insert_ordered : (first : ℕ) (rows : Rows) (at : ℕ) → AreOrdered first rows → first ≤ page → page < 2 ^ 64 → is_noted rows page ≡ false → at ≡ rows_before rows page
      → AreOrdered first (insert rows at (page, w))
  insert_ordered first [] at ordered above below none place = let begin : at ≡ 0 = place in subst (λ (n : ℕ). AreOrdered first (insert [] n (page, w))) (sym begin) (above, below, tt)
  insert_ordered first (row ∷ rows) at ordered above below none place =
      elim (cases_lt row.0 page) [
        | inl lt ↦ let next : at ≡ suc (rows_before rows page) = place ∙ before_yes row rows page lt in
            subst (λ (n : ℕ). AreOrdered first (insert (row ∷ rows) n (page, w))) (sym next)
            (ordered.0, ordered.1, insert_ordered (row.0 + 1) rows (rows_before rows page) ordered.2 (omega (arith, lt)) below (none_rest (page == row.0) (is_noted rows page) none) refl)
        | inr le ↦ let begin : at ≡ 0 = place ∙ before_no row rows page le in
            let apart : page ≢ row.0 = λ same. (let bad : false ≡ true = sym none ∙ ap (λ (b : Bool). b || is_noted rows page) (ap (nat_eq page) (sym same) ∙ eq_self page) in absurd (cc)) in
            let more : page + 1 ≤ row.0 = omega (arith, le, apart) in
            subst (λ (n : ℕ). AreOrdered first (insert (row ∷ rows) n (page, w))) (sym begin) (above, below, (more, ordered.1, ordered.2))
      ]

  pub before_inserted : (rows : Rows) (at : ℕ) → at ≡ rows_before rows page → rows_before (insert rows at (page, w)) page ≡ at
  before_inserted [] at place = let begin : at ≡ 0 = place in subst (λ (n : ℕ). rows_before (insert [] n (page, w)) page ≡ n) (sym begin) (before_no (page, w) [] page (omega arith))
  before_inserted (row ∷ rows) at place =
      elim (cases_lt row.0 page) [
        | inl lt ↦ let next : at ≡ suc (rows_before rows page) = place ∙ before_yes row rows page lt in
            subst (λ (n : ℕ). rows_before (insert (row ∷ rows) n (page, w)) page ≡ n) (sym next)
            (before_yes row (insert rows (rows_before rows page) (page, w)) page lt ∙ ap suc (before_inserted rows (rows_before rows page) refl))
        | inr le ↦ let begin : at ≡ 0 = place ∙ before_no row rows page le in
            subst (λ (n : ℕ). rows_before (insert (row ∷ rows) n (page, w)) page ≡ n) (sym begin) (before_no (page, w) (row ∷ rows) page (omega arith))
      ]

-- A row goes.
or_and : (a b c : Bool) → (a ≡ true → c ≡ true) → (a || (b && c)) ≡ ((a || b) && c)
or_and true b true so = refl
or_and true b false so = let bad : false ≡ true = so refl in absurd (cc)
or_and false b c so = refl

or_and_and : (a s b c : Bool) → (a ≡ true → c ≡ true) → ((a && s) || (b && c)) ≡ (((a && s) || b) && c)
or_and_and true s b true so = or_and s b true (λ e. refl)
or_and_and true s b false so = let bad : false ≡ true = so refl in absurd (cc)
or_and_and false s b c so = refl

and_not : (a b : Bool) → (b ≡ true → a ≡ false) → a ≡ (a && not b)
and_not true true so = let bad : true ≡ false = so refl in absurd (cc)
and_not true false so = refl
and_not false true so = refl
and_not false false so = refl

-- nothing is told of a page that has no row
pub none_hole : (rows : Rows) (page p k : ℕ) → is_noted rows page ≡ false → is_hole rows p k ≡ (is_hole rows p k && not (p == page))
none_hole rows page p k none = and_not (is_hole rows p k) (p == page) (λ same. ap (λ (q : ℕ). is_hole rows q k) (is_page p page same) ∙ no_hole rows page k none)

differ : (page p q : ℕ) → q ≢ page → nat_eq p q ≡ true → not (nat_eq p page) ≡ true
differ page p q apart same = ap not (eq_other p page (λ e. apart (sym (is_page p q same) ∙ e)))

pub remove_ordered : (first : ℕ) (rows : Rows) (at : ℕ) → AreOrdered first rows → AreOrdered first (remove rows at)
remove_ordered first [] zero ordered = tt
remove_ordered first [] (suc at) ordered = tt
remove_ordered first (row ∷ rows) zero ordered = ordered_from first (row.0 + 1) rows (omega (arith, ordered.0)) ordered.2
remove_ordered first (row ∷ rows) (suc at) ordered = (ordered.0, ordered.1, remove_ordered (row.0 + 1) rows at ordered.2)

-- the first row goes
first_noted : (row : Row) (rows : Rows) (page p : ℕ) → AreOrdered (row.0 + 1) rows → row.0 ≡ page → is_noted rows p ≡ (((p == row.0) || is_noted rows p) && not (p == page))
first_noted row rows page p ordered is =
    elim (cases_eq p page) [
      | inl e ↦ let yes : nat_eq p page ≡ true = ap (nat_eq p) (sym e) ∙ eq_self p in
          not_noted (row.0 + 1) rows p ordered (omega (arith, e, is))
          ∙ sym (ap (λ (b : Bool). ((p == row.0) || is_noted rows p) && not b) yes ∙ and_false ((p == row.0) || is_noted rows p) false refl)
      | inr apart ↦ let other : nat_eq p row.0 ≡ false = eq_other p row.0 (λ same. apart (same ∙ is)) in
          and_not (is_noted rows p) (p == page) (λ same. absurd (apart (is_page p page same)))
          ∙ ap (λ (b : Bool). (b || is_noted rows p) && not (p == page)) (sym other)
    ]

first_hole : (row : Row) (rows : Rows) (page p k : ℕ) → AreOrdered (row.0 + 1) rows → row.0 ≡ page → is_hole rows p k ≡ ((((p == row.0) && is_set row.1 k) || is_hole rows p k) && not (p == page))
first_hole row rows page p k ordered is =
    elim (cases_eq p page) [
      | inl e ↦ let yes : nat_eq p page ≡ true = ap (nat_eq p) (sym e) ∙ eq_self p in
          no_hole rows p k (not_noted (row.0 + 1) rows p ordered (omega (arith, e, is)))
          ∙ sym (ap (λ (b : Bool). (((p == row.0) && is_set row.1 k) || is_hole rows p k) && not b) yes ∙ and_false (((p == row.0) && is_set row.1 k) || is_hole rows p k) false refl)
      | inr apart ↦ let other : nat_eq p row.0 ≡ false = eq_other p row.0 (λ same. apart (same ∙ is)) in
          and_not (is_hole rows p k) (p == page) (λ same. absurd (apart (is_page p page same)))
          ∙ ap (λ (b : Bool). ((b && is_set row.1 k) || is_hole rows p k) && not (p == page)) (sym other)
    ]

pub remove_noted : (d : Row) (first : ℕ) (rows : Rows) (page at p : ℕ) → AreOrdered first rows → at < length rows → (get_or rows at d).0 ≡ page → is_noted (remove rows at) p ≡ (is_noted rows p && not (p == page))
remove_noted d first [] page at p ordered within is = absurd (omega (arith, within))
remove_noted d first (row ∷ rows) page zero p ordered within is = first_noted row rows page p ordered.2 is
remove_noted d first (row ∷ rows) page (suc at) p ordered within is =
    let above : row.0 ≢ page = λ same. absurd (omega (arith, is, same, row_above d (row.0 + 1) rows at ordered.2 (omega (arith, within)))) in
    ap (λ (b : Bool). (p == row.0) || b) (remove_noted d (row.0 + 1) rows page at p ordered.2 (omega (arith, within)) is)
    ∙ or_and (p == row.0) (is_noted rows p) (not (p == page)) (differ page p row.0 above)

pub remove_hole : (d : Row) (first : ℕ) (rows : Rows) (page at p k : ℕ) → AreOrdered first rows → at < length rows → (get_or rows at d).0 ≡ page → is_hole (remove rows at) p k ≡ (is_hole rows p k && not (p == page))
remove_hole d first [] page at p k ordered within is = absurd (omega (arith, within))
remove_hole d first (row ∷ rows) page zero p k ordered within is = first_hole row rows page p k ordered.2 is
remove_hole d first (row ∷ rows) page (suc at) p k ordered within is =
    let above : row.0 ≢ page = λ same. absurd (omega (arith, is, same, row_above d (row.0 + 1) rows at ordered.2 (omega (arith, within)))) in
    ap (λ (b : Bool). ((p == row.0) && is_set row.1 k) || b) (remove_hole d (row.0 + 1) rows page at p k ordered.2 (omega (arith, within)) is)
    ∙ or_and_and (p == row.0) (is_set row.1 k) (is_hole rows p k) (not (p == page)) (differ page p row.0 above)

-- The rows of the pages before one go, and then those of a range.
before_self : (end : ℕ) (p q : ℕ) → q < end → nat_eq p q ≡ true → nat_lt p end ≡ true
before_self end p q lt same = lt_yes p end (omega (arith, lt, is_page p q same))

first_gone : (a b c : Bool) → (a ≡ true → c ≡ true) → (b && not c) ≡ ((a || b) && not c)
first_gone true b true so = and_false b false refl
first_gone true b false so = let bad : false ≡ true = so refl in absurd (cc)
first_gone false b c so = refl

first_gone_too : (a s b c : Bool) → (a ≡ true → c ≡ true) → (b && not c) ≡ (((a && s) || b) && not c)
first_gone_too true true b true so = and_false b false refl
first_gone_too true false b true so = refl
first_gone_too true s b false so = let bad : false ≡ true = so refl in absurd (cc)
first_gone_too false s b c so = refl

drop_noted : (first : ℕ) (rows : Rows) (end p : ℕ) → AreOrdered first rows → is_noted (drop (rows_before rows end) rows) p ≡ (is_noted rows p && not (nat_lt p end))
drop_noted first [] end p ordered = refl
drop_noted first (row ∷ rows) end p ordered =
    elim (cases_lt row.0 end) [
      | inl lt ↦ ap (λ (n : ℕ). is_noted (drop n (row ∷ rows)) p) (before_yes row rows end lt)
          ∙ drop_noted (row.0 + 1) rows end p ordered.2
          ∙ first_gone (nat_eq p row.0) (is_noted rows p) (nat_lt p end) (before_self end p row.0 lt)
      | inr le ↦ ap (λ (n : ℕ). is_noted (drop n (row ∷ rows)) p) (before_no row rows end le)
          ∙ and_not (is_noted (row ∷ rows) p) (nat_lt p end) (λ less. not_noted row.0 (row ∷ rows) p (omega arith, ordered.1, ordered.2) (omega (arith, le, lt_is p end less)))
    ]

drop_hole : (first : ℕ) (rows : Rows) (end p k : ℕ) → AreOrdered first rows → is_hole (drop (rows_before rows end) rows) p k ≡ (is_hole rows p k && not (nat_lt p end))
drop_hole first [] end p k ordered = refl
drop_hole first (row ∷ rows) end p k ordered =
    elim (cases_lt row.0 end) [
      | inl lt ↦ ap (λ (n : ℕ). is_hole (drop n (row ∷ rows)) p k) (before_yes row rows end lt)
          ∙ drop_hole (row.0 + 1) rows end p k ordered.2
          ∙ first_gone_too (nat_eq p row.0) (is_set row.1 k) (is_hole rows p k) (nat_lt p end) (before_self end p row.0 lt)
      | inr le ↦ ap (λ (n : ℕ). is_hole (drop n (row ∷ rows)) p k) (before_no row rows end le)
          ∙ and_not (is_hole (row ∷ rows) p k) (nat_lt p end)
          (λ less. no_hole (row ∷ rows) p k (not_noted row.0 (row ∷ rows) p (omega arith, ordered.1, ordered.2) (omega (arith, le, lt_is p end less))))
    ]

drop_ordered : (first : ℕ) (rows : Rows) (n : ℕ) → AreOrdered first rows → AreOrdered first (drop n rows)
drop_ordered first rows zero ordered = ordered
drop_ordered first [] (suc n) ordered = tt
drop_ordered first (row ∷ rows) (suc n) ordered = ordered_from first (row.0 + 1) (drop n rows) (omega (arith, ordered.0)) (drop_ordered (row.0 + 1) rows n ordered.2)

-- rows of pages from the first on: those of the range are the ones before its end
range_first : (b : Bool) (first end p : ℕ) → (p < first → b ≡ false) → (b && not (nat_lt p end)) ≡ (b && not (is_between first end p))
range_first b first end p none =
    elim (cases_lt p first) [
      | inl lt ↦ ap (λ (a : Bool). a && not (nat_lt p end)) (none lt) ∙ ap (λ (a : Bool). a && not (is_between first end p)) (sym (none lt))
      | inr le ↦ elim (cases_lt p end) [
        | inl less ↦ ap (λ (a : Bool). b && not a) (lt_yes p end less ∙ sym (between_yes first end p le less))
        | inr more ↦ ap (λ (a : Bool). b && not a) (lt_no p end more ∙ sym (between_behind first end p more))
      ]
    ]

stays : (first end p q : ℕ) → q < first → nat_eq p q ≡ true → not (is_between first end p) ≡ true
stays first end p q lt same = ap not (between_before first end p (omega (arith, lt, is_page p q same)))

module _ (from end : ℕ) (upto : from ≤ end) where
  pub range_noted : (first : ℕ) (rows : Rows) (a b p : ℕ) → AreOrdered first rows → a ≡ rows_before rows from → b ≡ rows_before rows end
      → is_noted (take a rows ++ drop b rows) p ≡ (is_noted rows p && not (is_between from end p))
  range_noted first [] a b p ordered begins ends =
      ap (λ (n : ℕ). is_noted (take n [] ++ drop b []) p) begins ∙ ap (λ (n : ℕ). is_noted (drop n []) p) ends
  range_noted first (row ∷ rows) a b p ordered begins ends =
      elim (cases_lt row.0 from) [
        | inl lt ↦ let some : a ≡ suc (rows_before rows from) = begins ∙ before_yes row rows from lt in
            let more : b ≡ suc (rows_before rows end) = ends ∙ before_yes row rows end (omega (arith, lt, upto)) in
            ap (λ (n : ℕ). is_noted (take n (row ∷ rows) ++ drop b (row ∷ rows)) p) some
            ∙ ap (λ (n : ℕ). is_noted (take (suc (rows_before rows from)) (row ∷ rows) ++ drop n (row ∷ rows)) p) more
            ∙ ap (λ (c : Bool). (p == row.0) || c) (range_noted (row.0 + 1) rows (rows_before rows from) (rows_before rows end) p ordered.2 refl refl)
            ∙ or_and (p == row.0) (is_noted rows p) (not (is_between from end p)) (stays from end p row.0 lt)
        | inr le ↦ let none : a ≡ 0 = begins ∙ before_no row rows from le in
            ap (λ (n : ℕ). is_noted (take n (row ∷ rows) ++ drop b (row ∷ rows)) p) none
            ∙ ap (λ (n : ℕ). is_noted (drop n (row ∷ rows)) p) ends
            ∙ drop_noted first (row ∷ rows) end p ordered
            ∙ range_first (is_noted (row ∷ rows) p) from end p (λ less. not_noted row.0 (row ∷ rows) p (omega arith, ordered.1, ordered.2) (omega (arith, le, less)))
      ]

  pub range_hole : (first : ℕ) (rows : Rows) (a b p k : ℕ) → AreOrdered first rows → a ≡ rows_before rows from → b ≡ rows_before rows end
      → is_hole (take a rows ++ drop b rows) p k ≡ (is_hole rows p k && not (is_between from end p))
  range_hole first [] a b p k ordered begins ends =
      ap (λ (n : ℕ). is_hole (take n [] ++ drop b []) p k) begins ∙ ap (λ (n : ℕ). is_hole (drop n []) p k) ends
  range_hole first (row ∷ rows) a b p k ordered begins ends =
      elim (cases_lt row.0 from) [
        | inl lt ↦ let some : a ≡ suc (rows_before rows from) = begins ∙ before_yes row rows from lt in
            let more : b ≡ suc (rows_before rows end) = ends ∙ before_yes row rows end (omega (arith, lt, upto)) in
            ap (λ (n : ℕ). is_hole (take n (row ∷ rows) ++ drop b (row ∷ rows)) p k) some
            ∙ ap (λ (n : ℕ). is_hole (take (suc (rows_before rows from)) (row ∷ rows) ++ drop n (row ∷ rows)) p k) more
            ∙ ap (λ (c : Bool). ((p == row.0) && is_set row.1 k) || c) (range_hole (row.0 + 1) rows (rows_before rows from) (rows_before rows end) p k ordered.2 refl refl)
            ∙ or_and_and (p == row.0) (is_set row.1 k) (is_hole rows p k) (not (is_between from end p)) (stays from end p row.0 lt)
        | inr le ↦ let none : a ≡ 0 = begins ∙ before_no row rows from le in
            ap (λ (n : ℕ). is_hole (take n (row ∷ rows) ++ drop b (row ∷ rows)) p k) none
            ∙ ap (λ (n : ℕ). is_hole (drop n (row ∷ rows)) p k) ends
            ∙ drop_hole first (row ∷ rows) end p k ordered
            ∙ range_first (is_hole (row ∷ rows) p k) from end p
            (λ less. no_hole (row ∷ rows) p k (not_noted row.0 (row ∷ rows) p (omega arith, ordered.1, ordered.2) (omega (arith, le, less))))
      ]

  pub range_ordered : (first : ℕ) (rows : Rows) (a b : ℕ) → AreOrdered first rows → a ≤ b → AreOrdered first (take a rows ++ drop b rows)
  range_ordered first [] zero b ordered le = drop_ordered first [] b ordered
  range_ordered first [] (suc a) b ordered le = drop_ordered first [] b ordered
  range_ordered first (row ∷ rows) zero b ordered le = drop_ordered first (row ∷ rows) b ordered
  range_ordered first (row ∷ rows) (suc a) zero ordered le = absurd (omega (arith, le))
  range_ordered first (row ∷ rows) (suc a) (suc b) ordered le = (ordered.0, ordered.1, range_ordered (row.0 + 1) rows a b ordered.2 (omega (arith, le)))

-- There are no more rows than numbers that pass a test which each of their pages passes.
pub rows_count : (test : ℕ → Bool) (first n : ℕ) (rows : Rows) → first + n ≡ 2 ^ 64 → AreOrdered first rows → ((k : ℕ) → is_noted rows k ≡ true → test k ≡ true) → length rows ≤ count_of test first n
rows_count test first n [] all ordered pass = omega arith
rows_count test first n (row ∷ rows) all ordered pass =
    let here : test row.0 ≡ true = pass row.0 (ap (λ (b : Bool). b || is_noted rows row.0) (eq_self row.0)) in
    let left : ℕ = n - (row.0 - first) - 1 in
    let rest : length rows ≤ count_of test (row.0 + 1) left =
    rows_count test (row.0 + 1) left rows (omega (arith, all, ordered.0, ordered.1)) ordered.2 (λ k noted. pass k (ap (λ (b : Bool). (k == row.0) || b) noted ∙ or_true (k == row.0))) in
    let parts : count_of test first n ≡ count_of test first (row.0 - first) + count_of test row.0 (suc left) =
    count-append test first (row.0 - first) (suc left) n row.0 (omega (arith, all, ordered.0, ordered.1)) (omega (arith, ordered.0)) in
    omega (arith, rest, parts, count-cons test row.0 left, ap {B = ℕ} (λ (b : Bool). cond b 1 0) here)

either_passes : (a b c : Bool) → (a || b) ≡ true → (a ≡ true → c ≡ true) → (b ≡ true → c ≡ true) → c ≡ true
either_passes true b c some left right = left refl
either_passes false b c some left right = right some

-- so there is room for one more, of a page that passes and has none
pub rows_fewer : (test : ℕ → Bool) (rows : Rows) (page count : ℕ) → count_of test 0 (2 ^ 64) ≡ count → AreOrdered 0 rows → ((k : ℕ) → is_noted rows k ≡ true → test k ≡ true) → test page ≡ true → page < 2 ^ 64
    → is_noted rows page ≡ false → length rows < count
rows_fewer test rows page count counted ordered pass passes below none =
    let more : Rows = insert rows (rows_before rows page) (page, []) in
    let all : length more ≤ count_of test 0 (2 ^ 64) =
    rows_count test 0 (2 ^ 64) more (omega arith) (insert_ordered page [] 0 rows (rows_before rows page) ordered (omega arith) below none refl)
    (λ k noted. either_passes (is_noted rows k) (k == page) (test k) (sym (insert_noted page [] rows (rows_before rows page) k (before_within rows page)) ∙ noted) (pass k) (λ same. ap test (is_page k page same) ∙ passes)) in
    omega (arith, all, counted, length-insert rows (rows_before rows page) (page, []) (before_within rows page))
