-- Ids in the order of a heap, with the place of each.
use Rattle.std.specs.Prelude.{◌≡◌, ℕ, ◌-◌, ◌/◌, ◌^◌, ◌<◌, ℤ, int_lt, Bool, true, false, cond, ltb, slice_index_or, length, Option, Some, None, List}
use Rattle.index_heap.specs.Keys.{keys_less, AllKeysInRange, IsNear}

-- whether id a with key x comes before id b with key y: by key, then by number; an id without a key comes last
abbrev pub sooner : Option ℤ → ℕ → Option ℤ → ℕ → Bool
sooner None a y b = false
sooner (Some x) a None b = true
sooner (Some x) a (Some y) b = cond (int_lt x y) true (cond (int_lt y x) false (ltb a b))

abbrev pub sooner_id : List (Option ℤ) → ℕ → ℕ → Bool
sooner_id keys a b = sooner (slice_index_or keys a None) a (slice_index_or keys b None) b

abbrev pub parent : ℕ → ℕ
parent j = (j - 1) / 2

-- the id at place j is not sooner than the one at place k
pub record IsAfter (keys : List (Option ℤ)) (order : List ℕ) (j k : ℕ) : Type 0 where
  pub after : sooner_id keys (slice_index_or order j 0) (slice_index_or order k 0) ≡ false

-- `order` has each id once, and `places` where it stands
pub record IsPaired (order places : List ℕ) : Type 0 where
  pub same : length places ≡ length order
  pub id_in : (k : ℕ) → k < length order → slice_index_or order k 0 < length order
  pub place_of : (k : ℕ) → k < length order → slice_index_or places (slice_index_or order k 0) 0 ≡ k
  pub place_in : (id : ℕ) → id < length order → slice_index_or places id 0 < length order
  pub id_at : (id : ℕ) → id < length order → slice_index_or order (slice_index_or places id 0) 0 ≡ id

-- the ids under place `at` are not sooner than the one above it
abbrev pub HasGap : List (Option ℤ) → List ℕ → ℕ → Type 0
HasGap keys order at = (j : ℕ) → 0 < at → 0 < j → j < length order → parent j ≡ at → IsAfter keys order j (parent at)

-- a heap but for the id at `at`
pub record IsLoose (keys : List (Option ℤ)) (order places : List ℕ) (at : ℕ) : Type 0 where
  pub keyed : length keys ≡ length order
  pub paired : IsPaired order places
  pub inside : at < length order
  pub edges : (j : ℕ) → 0 < j → j < length order → (j ≡ at → ⊥) → (parent j ≡ at → ⊥) → IsAfter keys order j (parent j)
  pub gap : HasGap keys order at

-- a heap but for the id at `at`, which may have to go down
pub record IsSinking (keys : List (Option ℤ)) (order places : List ℕ) (at : ℕ) : Type 0 where
  pub keyed : length keys ≡ length order
  pub paired : IsPaired order places
  pub inside : at < length order
  pub edges : (j : ℕ) → 0 < j → j < length order → (parent j ≡ at → ⊥) → IsAfter keys order j (parent j)
  pub gap : HasGap keys order at

-- no id is sooner than the one above it
pub record IsHeap (keys : List (Option ℤ)) (order places : List ℕ) : Type 0 where
  pub keyed : length keys ≡ length order
  pub paired : IsPaired order places
  pub edges : (j : ℕ) → 0 < j → j < length order → IsAfter keys order j (parent j)

-- each place holds its own number
abbrev pub IsCounted : List ℕ → Type 0
IsCounted ids = (k : ℕ) → k < length ids → slice_index_or ids k 0 ≡ k

-- the parts of a heap: the offset is near, every key is in range, and the ids are in order
pub record IsIndexHeap (offset : ℤ) (keys : List (Option ℤ)) (order places : List ℕ) : Type 0 where
  pub few : length order < 2 ^ 32
  pub near : IsNear offset
  pub in_range : AllKeysInRange (keys_less offset keys)
  pub heap : IsHeap keys order places
