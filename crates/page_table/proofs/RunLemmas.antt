-- Pages in places in a row after these were exchanged for others.
use Rattle.std.proofs.Common.{◌≡◌, ℕ, zero, suc, ◌+◌, ◌-◌, ◌*◌, ◌/◌, ◌%◌, ◌≢◌, ◌<◌, ◌≤◌, Bool, true, false, ◌&&◌, not, cond, Option, Some, None, List, [], ◌++◌, length, get_or, take, drop, is_some, inl, inr, refl, sym, ap, ◌∙◌, arith, length-append, length-drop, set, replicate, if◌then◌else◌, subst}
use Rattle.std.specs.Prelude.{IsSome}
use Rattle.std.proofs.lemmas.Bool.{cases_Bool, cases_lt, cases_eq}
use Rattle.std.proofs.lemmas.List.{places, length-take, get_or_past, get_or_default}
use borrow.Rule.Slice.PartMut.{put_mid}
use Rattle.number_sets.specs.Bits.{is_set, is_between}
use Rattle.number_sets.proofs.CountLemmas.{count_of, count-zero, count-cons, count-append}
use Rattle.number_sets.proofs.RangeLemmas.{between_yes, between_before, between_behind, between_from, between_to}
use Rattle.page_table.specs.Places.{in_places}
use Rattle.page_table.specs.Holes.{Holes, is_hole, is_noted}
use Rattle.page_table.specs.Table.{Stored, HaveRoom, in_table, Regions, chunk_of, in_chunk, in_chunks, is_kept, put_from, Chunk}
use Rattle.page_table.proofs.ChunksLemmas.{table_is, other_chunk}
use Rattle.page_table.proofs.TableLemmas.{whole_is, same_is, room_same, filled_bit, kept_bit}
use Rattle.page_table.proofs.PlacesLemmas.{count_before, count_upto, places-length, place_none, place_some, place_there}
use Rattle.page_table.proofs.ChunkLemmas.{none_at, one_here, one_other}

-- where all pass, all are counted
count_all : (p : ℕ → Bool) (from n : ℕ) → ((k : ℕ) → from ≤ k → k < from + n → p k ≡ true) → count_of p from n ≡ n
count_all p from zero all = count-zero p from
count_all p from (suc n) all =
    omega (arith, count-cons p from n, ap {B = ℕ} (λ (b : Bool). cond b 1 0) (all from (omega arith) (omega arith)), count_all p (from + 1) n (λ k above below. all k (omega arith) (omega arith)))

count_run : (p : ℕ → Bool) (first n end : ℕ) → end ≡ first + n → ((k : ℕ) → first ≤ k → k < first + n → p k ≡ true) → count_of p 0 end ≡ count_of p 0 first + n
count_run p first n end is all = omega (arith, count-append p 0 first n end first (omega arith) (omega arith), count_all p first n all)

-- what lies in a list of which a part was exchanged
module _ (xs ys : List (List ℕ)) (at : ℕ) (fits : at + length ys ≤ length xs) where
  in_part : (j : ℕ) → j < length ys → get_or (take at xs ++ (ys ++ drop (at + length ys) xs)) (at + j) [] ≡ get_or ys j []
  in_part j below = grind (arith, places)

  before_part : (j : ℕ) → j < at → get_or (take at xs ++ (ys ++ drop (at + length ys) xs)) j [] ≡ get_or xs j []
  before_part j below = grind (arith, places)

  behind_part : (j : ℕ) → at + length ys ≤ j → get_or (take at xs ++ (ys ++ drop (at + length ys) xs)) j [] ≡ get_or xs j []
  behind_part j above = grind (arith, places)

  pub as_long : length (take at xs ++ (ys ++ drop (at + length ys) xs)) ≡ length xs
  as_long = grind (arith, length-append, length-take, length-drop)

-- one by one
module _ (marks : List ℕ) (xs ys : List (List ℕ)) (first at : ℕ) (within : first + length ys ≤ 256) (all : length xs ≡ count_of (is_set marks) 0 256)
    (counted : at ≡ count_of (is_set marks) 0 first) (there : (k : ℕ) → first ≤ k → k < first + length ys → is_set marks k ≡ true) where
  pub run_fits : at + length ys ≤ length xs
  run_fits = omega (arith, all, counted, count_run (is_set marks) first (length ys) (first + length ys) refl there, count_upto (is_set marks) 0 256 (first + length ys) within)

  in_run : (k : ℕ) → first ≤ k → k < first + length ys → get_or (in_places marks (take at xs ++ (ys ++ drop (at + length ys) xs))) k None ≡ Some (get_or ys (k - first) [])
  in_run k above below =
      let place : at + (k - first) ≡ count_of (is_set marks) 0 k =
      omega (arith, counted, above, count_run (is_set marks) first (k - first) k (omega (arith, above)) (λ j from to. there j from (omega (arith, above, below, to)))) in
      place_some marks (take at xs ++ (ys ++ drop (at + length ys) xs)) k (at + (k - first)) [] (omega (arith, within, below)) (there k above below) (as_long xs ys at run_fits ∙ all) place
      ∙ ap {B = Option (List ℕ)} (λ (page : List ℕ). Some page) (in_part xs ys at run_fits (k - first) (omega (arith, above, below)))

  out_of_run : (k : ℕ) → k < 256 → ((j : ℕ) → j ≡ count_of (is_set marks) 0 k → is_set marks k ≡ true → get_or (take at xs ++ (ys ++ drop (at + length ys) xs)) j [] ≡ get_or xs j [])
      → get_or (in_places marks (take at xs ++ (ys ++ drop (at + length ys) xs))) k None ≡ get_or (in_places marks xs) k None
  out_of_run k below same =
      elim (cases_Bool (is_set marks k)) [
        | inl is ↦
            place_some marks (take at xs ++ (ys ++ drop (at + length ys) xs)) k (count_of (is_set marks) 0 k) [] below is (as_long xs ys at run_fits ∙ all) refl
            ∙ ap {B = Option (List ℕ)} (λ (page : List ℕ). Some page) (same (count_of (is_set marks) 0 k) refl is)
            ∙ sym (place_some marks xs k (count_of (is_set marks) 0 k) [] below is all refl)
        | inr is ↦ place_none marks (take at xs ++ (ys ++ drop (at + length ys) xs)) k below is ∙ sym (place_none marks xs k below is)
      ]

  before_run : (k : ℕ) → k < first → get_or (in_places marks (take at xs ++ (ys ++ drop (at + length ys) xs))) k None ≡ get_or (in_places marks xs) k None
  before_run k below =
      out_of_run k (omega (arith, within, below)) (λ j is there. before_part xs ys at run_fits j
      (omega (arith, is, counted, count_before (is_set marks) 0 first k below (ap (is_set marks) (omega arith) ∙ there))))

  behind_run : (k : ℕ) → first + length ys ≤ k → k < 256 → get_or (in_places marks (take at xs ++ (ys ++ drop (at + length ys) xs))) k None ≡ get_or (in_places marks xs) k None
  behind_run k above below =
      out_of_run k below (λ j is set. behind_part xs ys at run_fits j
      (omega (arith, is, counted, count_run (is_set marks) first (length ys) (first + length ys) refl there, count_upto (is_set marks) 0 k (first + length ys) above)))

  pub run_put : (k : ℕ) → get_or (in_places marks (take at xs ++ (ys ++ drop (at + length ys) xs))) k None ≡ put_from first ys (λ k. get_or (in_places marks xs) k None) k
  run_put k =
      elim (cases_lt k first) [
        | inl lt ↦ rw (between_before first (first + length ys) k lt) (before_run k lt)
        | inr le ↦ elim (cases_lt k (first + length ys)) [
          | inl lt ↦ rw (between_yes first (first + length ys) k le lt) (in_run k le lt)
          | inr ge ↦ rw (between_behind first (first + length ys) k ge) (elim (cases_lt k 256) [
            | inl lt ↦ behind_run k ge lt
            | inr past ↦ get_or_past (in_places marks (take at xs ++ (ys ++ drop (at + length ys) xs))) k None (omega (arith, past, places-length marks (take at xs ++ (ys ++ drop (at + length ys) xs))))
                ∙ sym (get_or_past (in_places marks xs) k None (omega (arith, past, places-length marks xs)))
          ])
        ]
      ]

-- the first of a row that was put
pub put_first : (first : ℕ) (pages : List (List ℕ)) (before : ℕ → Option (List ℕ)) → 0 < length pages → put_from first pages before first ≡ Some (get_or pages 0 [])
put_first first pages before some =
    let none : first - first ≡ 0 = omega arith in
    rw (between_yes first (first + length pages) first (omega arith) (omega (arith, some)), none) refl

-- Pages of a chunk were exchanged.
module _ (old new : Regions) (q first : ℕ) (pages : List (List ℕ)) (is : q ≡ first / 256) (within : first % 256 + length pages ≤ 256)
    (others : (p : ℕ) → p ≢ q → chunk_of new p ≡ chunk_of old p)
    (here : (k : ℕ) → in_chunk (chunk_of new q) k ≡ put_from (first % 256) pages (in_chunk (chunk_of old q)) k) where
  -- what is put in a place of the chunk is put under its number
  put_there : (k : ℕ) → k / 256 ≡ q → put_from (first % 256) pages (in_chunk (chunk_of old q)) (k % 256) ≡ put_from first pages (in_chunks old) k
  put_there k e =
      elim (cases_lt k first) [
        | inl lt ↦ rw (between_before (first % 256) (first % 256 + length pages) (k % 256) (omega (arith, is, e, lt)), between_before first (first + length pages) k lt)
            (sym (table_is old k q e))
        | inr le ↦ elim (cases_lt k (first + length pages)) [
          | inl lt ↦ let at : k % 256 - first % 256 ≡ k - first = omega (arith, is, e, le, lt, within) in
              rw (between_yes (first % 256) (first % 256 + length pages) (k % 256) (omega (arith, is, e, le)) (omega (arith, is, e, le, lt)), between_yes first (first + length pages) k le lt, at) refl
          | inr ge ↦ rw (between_behind (first % 256) (first % 256 + length pages) (k % 256) (omega (arith, is, e, ge)), between_behind first (first + length pages) k ge)
              (sym (table_is old k q e))
        ]
      ]

  outside : (k : ℕ) → k / 256 ≢ q → is_between first (first + length pages) k ≡ false
  outside k apart =
      elim (cases_lt k first) [
        | inl lt ↦ between_before first (first + length pages) k lt
        | inr le ↦ elim (cases_lt k (first + length pages)) [
          | inl lt ↦ absurd (apart (omega (arith, is, le, lt, within)))
          | inr ge ↦ between_behind first (first + length pages) k ge
        ]
      ]

  pub run_in_chunk : (k : ℕ) → in_chunks new k ≡ put_from first pages (in_chunks old) k
  run_in_chunk k =
      elim (cases_eq (k / 256) q) [
        | inl e ↦ table_is new k q e ∙ here (k % 256) ∙ put_there k e
        | inr apart ↦ rw (outside k apart) (other_chunk old new q others k apart)
      ]

-- where all of a row are stored, something is in each of their places in the chunk
pub some_in : (chunks : Regions) (first count : ℕ) → first % 256 + count ≤ 256 → ((n : ℕ) → is_between first (first + count) n ≡ true → is_kept chunks n ≡ true)
    → (k : ℕ) → is_between (first % 256) (first % 256 + count) k ≡ true → IsSome (in_chunk (chunk_of chunks (first / 256)) k)
some_in chunks first count within stored k inside =
    let begins : first % 256 ≤ k = between_from (first % 256) (first % 256 + count) k inside in
    let ends : k < first % 256 + count = between_to (first % 256) (first % 256 + count) k inside in
    let n : ℕ = 256 * (first / 256) + k in
    let place : n % 256 ≡ k = omega (arith, within, ends) in
    let same : in_chunks chunks n ≡ in_chunk (chunk_of chunks (first / 256)) k =
    table_is chunks n (first / 256) (omega (arith, within, ends)) ∙ ap (λ (i : ℕ). in_chunk (chunk_of chunks (first / 256)) i) place in
    sym (ap is_some same) ∙ stored n (between_yes first (first + count) n (omega (arith, begins)) (omega (arith, ends)))

-- what is stored is so when pages are put
pub kept_put : (old new : Regions) (first : ℕ) (pages : List (List ℕ)) → ((k : ℕ) → in_chunks new k ≡ put_from first pages (in_chunks old) k)
    → (k : ℕ) → is_kept old k ≡ true → is_kept new k ≡ true
kept_put old new first pages put k was =
    elim (cases_Bool (is_between first (first + length pages) k)) [
      | inl is ↦ ap is_some (put k) ∙ rw is refl
      | inr is ↦ ap is_some (put k) ∙ rw is was
    ]

-- nothing is put
pub put_nothing : (first : ℕ) (pages : List (List ℕ)) (before : ℕ → Option (List ℕ)) (k : ℕ) → length pages ≡ 0 → before k ≡ put_from first pages before k
put_nothing first pages before k none =
    elim (cases_lt k first) [
      | inl lt ↦ rw (between_before first (first + length pages) k lt) refl
      | inr le ↦ rw (between_behind first (first + length pages) k (omega (arith, none, le))) refl
    ]

-- the next pages are put behind the first
pub put_next : (first done count next : ℕ) (front part all : List (List ℕ)) (before : ℕ → Option (List ℕ)) → next ≡ first + done → length front ≡ done → length part ≡ count → length all ≡ done + count
    → ((i : ℕ) → i < done → get_or front i [] ≡ get_or all i []) → ((i : ℕ) → i < count → get_or part i [] ≡ get_or all (done + i) [])
    → (k : ℕ) → put_from next part (put_from first front before) k ≡ put_from first all before k
put_next first done count next front part all before at long few both begins ends k =
    elim (cases_lt k first) [
      | inl lt ↦ rw (between_before next (next + length part) k (omega (arith, at, lt)), between_before first (first + length front) k lt, between_before first (first + length all) k lt) refl
      | inr le ↦ elim (cases_lt k (first + done)) [
        | inl lt ↦ rw (between_before next (next + length part) k (omega (arith, at, lt)), between_yes first (first + length front) k le (omega (arith, long, lt)), between_yes first (first + length all) k le (omega (arith, both, lt)))
            (ap {B = Option (List ℕ)} (λ (page : List ℕ). Some page) (begins (k - first) (omega (arith, le, lt))))
        | inr ge ↦ elim (cases_lt k (first + done + count)) [
          | inl lt ↦ let place : done + (k - next) ≡ k - first = omega (arith, at, ge) in
              rw (between_yes next (next + length part) k (omega (arith, at, ge)) (omega (arith, at, few, lt)), between_yes first (first + length all) k le (omega (arith, both, lt)))
              (ap {B = Option (List ℕ)} (λ (page : List ℕ). Some page) (ends (k - next) (omega (arith, at, ge, lt)) ∙ ap (λ (i : ℕ). get_or all i []) place))
          | inr past ↦ rw (between_behind next (next + length part) k (omega (arith, at, few, past)), between_behind first (first + length front) k (omega (arith, long, ge)), between_behind first (first + length all) k (omega (arith, both, past))) refl
        ]
      ]
    ]

-- what lies in a front of a row, and in a part of what is left of it
pub length-put_mid : (xs ys : List (List ℕ)) (at k : ℕ) → at + k ≤ length xs → length ys ≡ k → length (put_mid at k xs ys) ≡ length xs
length-put_mid xs ys at k fits long =
    omega (
      arith,
      length-append (take at xs) (ys ++ drop k (drop at xs)),
      length-append ys (drop k (drop at xs)),
      length-take at xs,
      length-drop k (drop at xs),
      length-drop at xs,
      fits,
      long,
    )

pub front_of : (all : List (List ℕ)) (m n i : ℕ) → i < m → m ≤ n → get_or (take m all) i [] ≡ get_or (take n all) i []
front_of all m n i below less = grind (arith, places)

pub part_of : (was now : List (List ℕ)) (at n m next i : ℕ) → m ≡ n → next ≡ at + n → i < n → drop at now ≡ drop at was → get_or (take m (drop at now)) i [] ≡ get_or (take next was) (at + i) []
part_of was now at n m next i same is below rest =
    let here : get_or (take n (drop at was)) i [] ≡ get_or (take (at + n) was) (at + i) [] = grind (arith, places) in
    rw (same, is, rest) here

-- Pages of a table that were all stored are exchanged, and no byte of them is noted any more.
both_left : (a b : Bool) → (a && b) ≡ true → a ≡ true
both_left true b is = refl
both_left false b is = is

module _ (old new : Stored) (first : ℕ) (pages : List (List ℕ)) (put : (k : ℕ) → in_chunks new.chunks k ≡ put_from first pages (in_chunks old.chunks) k) where
  pub table_put : ((p k : ℕ) → is_hole new.holes p k ≡ (is_hole old.holes p k && not (is_between first (first + length pages) p)))
      → (k : ℕ) → in_table new k ≡ put_from first pages (in_table old) k
  table_put holes k =
      elim (cases_Bool (is_between first (first + length pages) k)) [
        | inl is ↦ rw is (whole_is new k (get_or pages (k - first) []) (put k ∙ rw is refl) (λ j. holes k j ∙ filled_bit (is_hole old.holes k j) (is_between first (first + length pages) k) is))
        | inr is ↦ rw is (same_is old new k (put k ∙ rw is refl) (λ j. holes k j ∙ kept_bit (is_hole old.holes k j) (is_between first (first + length pages) k) is))
      ]

  module _ (stored : (k : ℕ) → is_between first (first + length pages) k ≡ true → is_kept old.chunks k ≡ true) where
    kept_same : (k : ℕ) → is_kept new.chunks k ≡ is_kept old.chunks k
    kept_same k =
        elim (cases_Bool (is_between first (first + length pages) k)) [
          | inl is ↦ ap is_some (put k) ∙ rw is refl ∙ sym (stored k is)
          | inr is ↦ ap is_some (put k) ∙ rw is refl
        ]

    pub room_put : (before after : Holes) → HaveRoom old.chunks before → after.pages ≡ before.pages → ((p : ℕ) → is_noted after.rows p ≡ (is_noted before.rows p && not (is_between first (first + length pages) p)))
        → HaveRoom new.chunks after
    room_put before after was count noted =
        room_same old.chunks new.chunks before after was kept_same count (λ p is. both_left (is_noted before.rows p) (not (is_between first (first + length pages) p)) (sym (noted p) ∙ is))

-- Pages of a chunk exchanged for others, in a run of places in each of which one is.
-- the first place of a run that isn't empty is one of it
run_first : (first count : ℕ) → 0 < count → is_between first (first + count) first ≡ true
run_first first count some = between_yes first (first + count) first (omega arith) (omega arith)

-- a chunk in which something lies is there
has_chunk : (chunk : Option Chunk) (k : ℕ) → IsSome (in_chunk chunk k) → IsSome chunk
has_chunk None k some = some
has_chunk (Some chunk) k some = refl

-- so is one in whose places of a run that isn't empty something lies
pub run_there : (chunk : Option Chunk) (first count : ℕ) → 0 < count → ((k : ℕ) → is_between first (first + count) k ≡ true → IsSome (in_chunk chunk k)) → IsSome chunk
run_there chunk first count some there = has_chunk chunk first (there first (run_first first count some))

-- and its bit says so
pub run_bit : (marks : List ℕ) (xs : List Chunk) (all : List (Option Chunk)) (i first count : ℕ) → in_places marks xs ≡ all → i < 256 → 0 < count
    → ((k : ℕ) → is_between first (first + count) k ≡ true → IsSome (in_chunk (get_or all i None) k)) → is_set marks i ≡ true
run_bit marks xs all i first count is below some there =
    place_there marks xs i below (subst (λ (row : List (Option Chunk)). IsSome (get_or row i None)) (sym is) (run_there (get_or all i None) first count some there))

-- a run of places of a chunk, in each of which a page is
module _ (chunk : Chunk) (n first : ℕ) (pages : List (List ℕ)) (some : 0 < length pages)
    (there : (k : ℕ) → is_between first (first + length pages) k ≡ true → IsSome (get_or chunk k None)) where
  -- of a chunk without pages there is no such run
  pub none_put : {P : Type 0} → chunk ≡ replicate n None → P
  none_put none =
      let bad : false ≡ true = subst (λ (o : Option (List ℕ)). IsSome o) (none_at chunk n none first) (there first (run_first first (length pages) some)) in absurd (cc)

  module _ (at : ℕ) (x : List ℕ) (one : chunk ≡ set (replicate n None) at (Some x)) where
    -- of a chunk with one page it has that page's place alone
    run_at : (k : ℕ) → is_between first (first + length pages) k ≡ true → k ≡ at
    run_at k inside =
        elim (cases_eq k at) [
          | inl is ↦ is
          | inr apart ↦ let bad : false ≡ true = subst (λ (o : Option (List ℕ)). IsSome o) (one_other chunk n at x one k apart) (there k inside) in absurd (cc)
        ]

    -- so the first of the pages comes to that place
    pub one_exchanged : (y d : List ℕ) (k : ℕ) → first + length pages ≤ n → y ≡ get_or pages 0 d → get_or (set (replicate n None) at (Some y)) k None ≡ put_from first pages (λ (place : ℕ). get_or chunk place None) k
    one_exchanged y d k within is =
        let begins : first ≡ at = run_at first (run_first first (length pages) some) in
        elim (cases_Bool (is_between first (first + length pages) k)) [
          | inl inside ↦
              let here : k ≡ at = run_at k inside in
              let starts : 0 ≡ k - first = omega (arith, here, begins) in
              one_here (set (replicate n None) at (Some y)) n at y refl k (sym here) (omega (arith, here, begins, within, some))
              ∙ ap (λ (page : List ℕ). Some page) (is ∙ get_or_default pages 0 d [] some ∙ ap (λ (i : ℕ). get_or pages i []) starts)
              ∙ ap (λ (b : Bool). if b then Some (get_or pages (k - first) []) else get_or chunk k None) (sym inside)
          | inr outside ↦
              let apart : k ≢ at = λ here. let bad : false ≡ true = sym outside ∙ ap (λ (j : ℕ). is_between first (first + length pages) j) (here ∙ sym begins) ∙ run_first first (length pages) some in absurd (cc) in
              one_other (set (replicate n None) at (Some y)) n at y refl k apart
              ∙ sym (one_other chunk n at x one k apart)
              ∙ ap (λ (b : Bool). if b then Some (get_or pages (k - first) []) else get_or chunk k None) (sym outside)
        ]
