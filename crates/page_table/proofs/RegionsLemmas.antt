-- Chunks in regions after one of them has changed.
use Rattle.std.proofs.Common.{◌≡◌, ◌≢◌, ℕ, zero, suc, ◌+◌, ◌-◌, ◌*◌, ◌/◌, ◌%◌, ◌<◌, ◌≤◌, is_some, Option, None, List, [], ◌∷◌, ◌++◌, length, get_or, set, replicate, inl, inr, refl, sym, ap, ◌∙◌, arith}
use Rattle.std.specs.Prelude.{IsSome, Result, Ok, Err, OnOk, OnErr, IfOk}
use Rattle.std.proofs.lemmas.Bool.{cases_lt, cases_eq}
use Rattle.std.proofs.lemmas.List.{get_or_past, get_or-set_same, get_or-set_other}
use Rattle.std.specs.List.{filter}
use Rattle.page_table.specs.Table.{Chunk, Regions, chunk_of, in_chunk}
use Rattle.page_table.proofs.ChunkLemmas.{nones_at}
use Rattle.number_sets.proofs.CountLemmas.{count_zero}
use Rattle.number_sets.proofs.MarksLemmas.{none_there}

abbrev pub Region : Type 0
Region = List (Option Chunk)

-- what holds of a list's item whatever stands for those past its end
any_default : {X : Type 0} (xs : List X) (i : ℕ) (x d : X) → i < length xs → x ≡ get_or xs i x → get_or xs i d ≡ x
any_default [] i x d below is = absurd (omega arith)
any_default (y ∷ xs) zero x d below is = sym is
any_default (y ∷ xs) (suc i) x d below is = any_default xs i x d (omega arith) is

-- where none is counted in a row, there is none
pub none_counted : {X : Type 0} (row : List (Option X)) (k : ℕ) → length (filter is_some row) ≡ 0 → get_or row k None ≡ None
none_counted row k none =
    elim (cases_lt k (length row)) [
      | inl lt ↦ none_there (get_or row k None) (count_zero is_some row none k lt)
      | inr le ↦ get_or_past row k None le
    ]

pub some_below : {X : Type 0} (row : List (Option X)) (i : ℕ) → IsSome (get_or row i None) → i < length row
some_below [] i there = absurd (cc)
some_below (x ∷ row) zero there = omega arith
some_below (x ∷ row) (suc i) there = omega (arith, some_below row i there)

-- a chunk by its region
chunk_is : (regions : Regions) (number : ℕ) → chunk_of regions number ≡ get_or (get_or regions (number / 256) []) (number % 256) None
unfolding chunk_of
chunk_is regions number = refl

chunk_at : (regions : Regions) (number : ℕ) (row : Region) → get_or regions (number / 256) [] ≡ row → chunk_of regions number ≡ get_or row (number % 256) None
chunk_at regions number row is = chunk_is regions number ∙ ap (λ (all : Region). get_or all (number % 256) None) is

pub chunk_past : (rows seen : Regions) (number : ℕ) → rows ≡ seen → length rows ≤ number / 256 → chunk_of seen number ≡ None
chunk_past rows seen number is past =
    ap (λ (all : Regions). chunk_of all number) (sym is) ∙ chunk_at rows number [] (get_or_past rows (number / 256) [] past)

-- so one that is there has a region
row_there : (regions : Regions) (i k : ℕ) → IsSome (get_or (get_or regions i []) k None) → i < length regions
row_there [] i k there = absurd (cc)
row_there (row ∷ regions) zero k there = omega arith
row_there (row ∷ regions) (suc i) k there = omega (arith, row_there regions i k there)

chunk_there : (regions : Regions) (number : ℕ) → IsSome (chunk_of regions number) → number / 256 < length regions
unfolding chunk_of
chunk_there regions number there = row_there regions (number / 256) (number % 256) there

pub there_below : (rows seen : Regions) (number : ℕ) → rows ≡ seen → IsSome (chunk_of seen number) → number / 256 < length rows
there_below rows seen number is there = omega (arith, chunk_there seen number there, ap length is)

-- a chunk by its region and its place there
pub chunk_in : (regions : Regions) (number region place : ℕ) → number ≡ 256 * region + place → place < 256 → chunk_of regions number ≡ get_or (get_or regions region []) place None
chunk_in regions number region place at below =
    let one : number / 256 ≡ region = omega arith in
    let other : number % 256 ≡ place = omega arith in
    chunk_is regions number
    ∙ ap (λ (i : ℕ). get_or (get_or regions i []) (number % 256) None) one
    ∙ ap (λ (k : ℕ). get_or (get_or regions region []) k None) other

-- A region that is there is exchanged.
module _ (rows seen : Regions) (is : rows ≡ seen) (number : ℕ) (before : Region) (below : number / 256 < length rows) (at : before ≡ get_or rows (number / 256) before) where
  row_is : get_or rows (number / 256) [] ≡ before
  row_is = any_default rows (number / 256) before [] below at

  pub before_is : chunk_of seen number ≡ get_or before (number % 256) None
  before_is = ap (λ (all : Regions). chunk_of all number) (sym is) ∙ chunk_at rows number before row_is

  pub after_is : (after : Region) → chunk_of (set rows (number / 256) after) number ≡ get_or after (number % 256) None
  after_is after = chunk_at (set rows (number / 256) after) number after (get_or-set_same rows (number / 256) after [] below)

  -- a page of the chunk by the one before
  pub place_is : (after : Region) (change : Option (List ℕ) → Option (List ℕ)) (k : ℕ) → in_chunk (get_or after (number % 256) None) k ≡ change (in_chunk (get_or before (number % 256) None) k)
      → in_chunk (chunk_of (set rows (number / 256) after) number) k ≡ change (in_chunk (chunk_of seen number) k)
  place_is after change k same =
      ap (λ (chunk : Option Chunk). in_chunk chunk k) (after_is after) ∙ same ∙ ap (λ (chunk : Option Chunk). change (in_chunk chunk k)) (sym before_is)

  row_same : (after : Region) (q : ℕ) → q / 256 ≡ number / 256 → get_or after (q % 256) None ≡ get_or before (q % 256) None → chunk_of (set rows (number / 256) after) q ≡ chunk_of rows q
  row_same after q near same =
      chunk_at (set rows (number / 256) after) q after (ap (λ (i : ℕ). get_or (set rows (number / 256) after) i []) near ∙ get_or-set_same rows (number / 256) after [] below)
      ∙ same
      ∙ sym (chunk_at rows q before (ap (λ (i : ℕ). get_or rows i []) near ∙ row_is))

  row_other : (after : Region) (q : ℕ) → q / 256 ≢ number / 256 → chunk_of (set rows (number / 256) after) q ≡ chunk_of rows q
  row_other after q apart =
      chunk_at (set rows (number / 256) after) q (get_or rows (q / 256) []) (get_or-set_other rows (number / 256) (q / 256) after [] apart)
      ∙ sym (chunk_is rows q)

  -- of other numbers there are the same chunks
  pub others_are : (after : Region) → ((k : ℕ) → k ≢ number % 256 → get_or after k None ≡ get_or before k None)
      → (q : ℕ) → q ≢ number → chunk_of (set rows (number / 256) after) q ≡ chunk_of seen q
  others_are after same q apart =
      elim (cases_eq (q / 256) (number / 256)) [
        | inl e ↦ row_same after q e (same (q % 256) (λ place. apart (omega arith)))
        | inr other ↦ row_other after q other
      ]
      ∙ ap (λ (all : Regions). chunk_of all q) is

  -- a chunk comes to its place there, or goes from it
  pub set_is : (after : Region) (chunk : Option Chunk) → length before ≡ 256 → after ≡ set before (number % 256) chunk → chunk_of (set rows (number / 256) after) number ≡ chunk
  set_is after chunk long is =
      after_is after ∙ ap (λ (all : Region). get_or all (number % 256) None) is ∙ get_or-set_same before (number % 256) chunk None (omega (arith, long))

  pub set_others : (after : Region) (chunk : Option Chunk) → after ≡ set before (number % 256) chunk → (q : ℕ) → q ≢ number → chunk_of (set rows (number / 256) after) q ≡ chunk_of seen q
  set_others after chunk is =
      others_are after (λ k apart. ap (λ (all : Region). get_or all k None) is ∙ get_or-set_other before (number % 256) k chunk None apart)

  -- nothing has changed
  pub all_are : (after : Region) → after ≡ before → (q : ℕ) → chunk_of (set rows (number / 256) after) q ≡ chunk_of seen q
  all_are after same q =
      elim (cases_eq (q / 256) (number / 256)) [
        | inl e ↦ row_same after q e (ap (λ (all : Region). get_or all (q % 256) None) same)
        | inr other ↦ row_other after q other
      ]
      ∙ ap (λ (all : Regions). chunk_of all q) is

-- there is one more region, in which there is no chunk
row_added : (regions : Regions) (row : Region) (i k : ℕ) → ((j : ℕ) → get_or row j None ≡ None) → get_or (get_or (regions ++ row ∷ []) i []) k None ≡ get_or (get_or regions i []) k None
row_added [] row zero k none = none k
row_added [] row (suc i) k none = refl
row_added (first ∷ regions) row zero k none = refl
row_added (first ∷ regions) row (suc i) k none = row_added regions row i k none

pub same_longer : (regions : Regions) (row : Region) (n q : ℕ) → row ≡ replicate n None → chunk_of (regions ++ row ∷ []) q ≡ chunk_of regions q
unfolding chunk_of
same_longer regions row n q is = row_added regions row (q / 256) (q % 256) (λ j. ap (λ (all : Region). get_or all j None) is ∙ nones_at n j)

-- there is no chunk from a number on, nor in the last places of the region before it
pub none_last : (regions : Regions) (region begin place upto end : ℕ) → begin ≡ 256 * region → upto ≤ begin + 256 → ((q : ℕ) → upto ≤ q → q < end → chunk_of regions q ≡ None)
    → ((k : ℕ) → place ≤ k → k < upto - begin → get_or (get_or regions region []) k None ≡ None)
    → (q : ℕ) → begin + place ≤ q → q < end → chunk_of regions q ≡ None
none_last regions region begin place upto end at few behind none q above below =
    elim (cases_lt q upto) [
      | inl lt ↦ chunk_in regions q region (q - begin) (omega arith) (omega arith) ∙ none (q - begin) (omega arith) (omega arith)
      | inr ge ↦ behind q ge below
    ]

-- what follows from a success or a failure
pub ok_so : {T E : Type 0} (r : Result T E) (P Q : Type 0) → (P → Q) → OnOk r P → OnOk r Q
ok_so (Ok x) P Q so p = so p
ok_so (Err e) P Q so p = tt

pub err_so : {T E : Type 0} (r : Result T E) (P Q : Type 0) → (P → Q) → OnErr r P → OnErr r Q
err_so (Ok x) P Q so p = tt
err_so (Err e) P Q so p = so p

pub if_ok_so : {T E : Type 0} (r : Result T E) (P Q : T → Type 0) → ((x : T) → P x → Q x) → IfOk r P → IfOk r Q
if_ok_so (Ok x) P Q so p = so x p
if_ok_so (Err e) P Q so p = tt
