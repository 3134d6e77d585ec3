-- Which pages lie whole in a range or have a byte of it.
use Rattle.std.proofs.Common.{◌≡◌, ℕ, ◌+◌, ◌*◌, ◌/◌, ◌<◌, ◌≤◌, ◌⊎◌, inl, inr, Bool, true, false, ◌||◌, ◌&&◌, nat_lt, nat_le, nat_eq, min, refl, sym, arith}
use Rattle.std.specs.Int.{div_ceil}
use Rattle.std.proofs.lemmas.Bool.{cases_lt, cases_eq}
use Rattle.std.proofs.lemmas.Bool.Decides.{nat_tests}
use Rattle.export_store.specs.Pages.{has_byte_of, lies_whole_in}

-- the number behind the last page that lies whole in a range
abbrev pub IsLast : ℕ → ℕ → ℕ → Type 0
IsLast size end last = ((end ≡ size) × (last ≡ div_ceil end 4096)) ⊎ ((end < size) × (last ≡ end / 4096))

whole_at_end : (size offset end number : ℕ) → div_ceil offset 4096 ≤ number → number < div_ceil end 4096 → end ≡ size → (offset ≤ 4096 * number) × (min (4096 * number + 4096) size ≤ end)
whole_at_end size offset end number above below is = (omega arith, omega arith)

whole_below : (size offset end number : ℕ) → div_ceil offset 4096 ≤ number → number < end / 4096 → (offset ≤ 4096 * number) × (min (4096 * number + 4096) size ≤ end)
whole_below size offset end number above below = (omega arith, omega arith)

pub lies_whole : (size offset count first last number : ℕ) → first ≡ div_ceil offset 4096 → IsLast size (offset + count) last → first ≤ number → number < last → lies_whole_in size offset count number ≡ true
lies_whole size offset count first last number begins ends above below =
    elim ends [
      | inl e ↦ let h : (offset ≤ 4096 * number) × (min (4096 * number + 4096) size ≤ offset + count) = whole_at_end size offset (offset + count) number (omega arith) (omega arith) e.0 in grind (arith, nat_tests)
      | inr e ↦ let h : (offset ≤ 4096 * number) × (min (4096 * number + 4096) size ≤ offset + count) = whole_below size offset (offset + count) number (omega arith) (omega arith) in grind (arith, nat_tests)
    ]

-- what is held where each page from the first on is
pub hold_none : (old : Bool) (first number k : ℕ) → (first ≤ k → k < number → old ≡ true) → old ≡ old || (nat_le first k && nat_lt k number)
hold_none true first number k held = refl
hold_none false first number k held =
    elim (cases_lt k number) [
      | inr le ↦ grind (arith, nat_tests)
      | inl lt ↦ elim (cases_lt k first) [
        | inl less ↦ grind (arith, nat_tests)
        | inr above ↦ let bad : false ≡ true = held above lt in absurd (cc)
      ]
    ]

-- what is held after one more page has become held
pub hold_step : (old : Bool) (first number k : ℕ) → first ≤ number
    → (old || (nat_le first k && nat_lt k number)) || nat_eq k number ≡ old || (nat_le first k && nat_lt k (number + 1))
hold_step true first number k above = refl
hold_step false first number k above =
    elim (cases_lt k number) [
      | inl lt ↦ grind (arith, nat_tests)
      | inr le ↦ elim (cases_eq k number) [ inl e ↦ grind (arith, nat_tests) | inr apart ↦ grind (arith, nat_tests) ]
    ]

-- whether a page has a byte of a range, by where it lies
pub has_byte : (offset count number : ℕ) → 0 < count → offset / 4096 ≤ number → number < div_ceil (offset + count) 4096 → has_byte_of offset count number ≡ true
has_byte offset count number some above below =
    let from : offset < 4096 * number + 4096 = omega arith in
    let to : 4096 * number < offset + count = omega arith in
    grind (arith, nat_tests)

pub byte_places : (offset count number : ℕ) → has_byte_of offset count number ≡ true → (offset < 4096 * number + 4096) × (4096 * number < offset + count)
byte_places offset count number has = (grind (arith, nat_tests), grind (arith, nat_tests))

pub in_range : (offset count number : ℕ) → has_byte_of offset count number ≡ true → (offset / 4096 ≤ number) × (number < div_ceil (offset + count) 4096)
in_range offset count number has = let places = byte_places offset count number has in (omega (arith, places.0), omega (arith, places.1))

same_tests : (a b : Bool) → (a ≡ true → b ≡ true) → (b ≡ true → a ≡ true) → a ≡ b
same_tests true b there back = sym (there refl)
same_tests false true there back = back refl
same_tests false false there back = refl

-- the pages that lie whole in a range, by their numbers
pub whole_is : (size offset count first last k : ℕ) → first ≡ div_ceil offset 4096 → IsLast size (offset + count) last → 4096 * k < size
    → (nat_le first k && nat_lt k last) ≡ lies_whole_in size offset count k
whole_is size offset count first last k begins ends inside =
    same_tests (nat_le first k && nat_lt k last) (lies_whole_in size offset count k)
    (λ h. let from : first ≤ k = grind (arith, nat_tests) in
    let to : k < last = grind (arith, nat_tests) in
    lies_whole size offset count first last k begins ends from to)
    (λ h. let from : offset ≤ 4096 * k = grind (arith, nat_tests) in
    let to : min (4096 * k + 4096) size ≤ offset + count = grind (arith, nat_tests) in
    let above : first ≤ k = omega arith in
    let below : k < last = elim ends [ inl e ↦ omega arith | inr e ↦ omega arith ] in
    grind (arith, nat_tests))

-- a page that lies whole in a range has a byte of it
pub whole_touched : (size offset count k : ℕ) → 0 < count → 4096 * k < size → lies_whole_in size offset count k ≡ true → has_byte_of offset count k ≡ true
whole_touched size offset count k some inside whole =
    let from : offset ≤ 4096 * k = grind (arith, nat_tests) in
    let to : min (4096 * k + 4096) size ≤ offset + count = grind (arith, nat_tests) in
    let below : 4096 * k < offset + count = omega arith in
    grind (arith, nat_tests)

-- where a page is that has no byte of a range, and one that has but doesn't lie whole in it
pub untouched_at : (offset count k : ℕ) → 0 < count → has_byte_of offset count k ≡ false → (4096 * k + 4096 ≤ offset) ⊎ (offset + count ≤ 4096 * k)
untouched_at offset count k some apart =
    elim (cases_lt offset (4096 * k + 4096)) [
      | inr le ↦ inl le
      | inl lt ↦ elim (cases_lt (4096 * k) (offset + count)) [
        | inr le ↦ inr le
        | inl less ↦ let bad : has_byte_of offset count k ≡ true = grind (arith, nat_tests) in absurd (cc)
      ]
    ]

pub edge_at : (size offset count k : ℕ) → offset + count ≤ size → has_byte_of offset count k ≡ true → lies_whole_in size offset count k ≡ false
    → (offset < 4096 * k + 4096) × (4096 * k < offset + count) × ((4096 * k < offset) ⊎ (offset + count < min (4096 * k + 4096) size))
edge_at size offset count k within touched part =
    let places = byte_places offset count k touched in (
      places.0,
      places.1,
      elim (cases_lt (4096 * k) offset) [
        | inl lt ↦ inl lt
        | inr le ↦ elim (cases_lt (offset + count) (min (4096 * k + 4096) size)) [
          | inl lt ↦ inr lt
          | inr ge ↦ let bad : lies_whole_in size offset count k ≡ true = grind (arith, nat_tests) in absurd (cc)
        ]
      ],
    )
