-- One bit of a word, and of words in a row.
use Rattle.std.proofs.Common.{◌≡◌, ◌≢◌, ℕ, zero, suc, ◌+◌, ◌*◌, ◌/◌, ◌%◌, ◌^◌, ◌<◌, ◌≤◌, Bool, true, false, not, nat_eq, cond, List, [], ◌∷◌, length, get_or, set, take, replicate, bit_and, bit_or, count_ones, w64, if◌then◌else◌, inl, inr, refl, sym, ap, ◌∙◌, arith, tests}
use Rattle.std.specs.Int.{bit_at, bit_not}
use Rattle.std.specs.Int.Count.{ones_step}
use lib.Count.{ones}
use Rattle.std.proofs.lemmas.Nat.{one_shl, pow_pos, div-add-mod'}
use Rattle.std.proofs.Math.Nat.{mod-lt}
use Rattle.std.proofs.lemmas.Nat.Bits.{and_pow, bit_at-lt, bit_at-zero, bit_at-suc, bit_at_lowest, bit_at_ones, bit_at_set_same, bit_at_set_other, bit_at_clear_same, bit_at_clear_other, bit_at_cat_low}
use Rattle.std.proofs.lemmas.List.{get_or-set_same, get_or-set_other, get_or_past, get_or-take, length-take-le}
use Rattle.std.proofs.lemmas.Bool.{cases_lt, cases_eq}
use Rattle.std.proofs.lemmas.Bool.Decides.{nat_tests}
use Rattle.number_sets.specs.Bits.{is_set, any_set, is_between}
use Rattle.number_sets.proofs.CountLemmas.{count_of, count_le, count-zero, count-cons, count-append, count-shift}
use Rattle.number_sets.proofs.RangeLemmas.{between_yes, between_before, between_behind}

pub bit_test : (word k : ℕ) → k < 64 → not (nat_eq (bit_and word (1 * 2 ^ k % 18446744073709551616)) 0) ≡ nat_eq (bit_at word k) 1
bit_test word k small = grind (arith, tests, one_shl k 64 small, and_pow word k, pow_pos k, bit_at-lt word k)

-- words of which none has a bit
pub none_set : (words : List ℕ) (k : ℕ) → get_or words (k / 64) 0 ≡ 0 → is_set words k ≡ false
none_set words k none = ap (λ (word : ℕ). nat_eq (bit_at word (k % 64)) 1) none ∙ ap (λ (bit : ℕ). nat_eq bit 1) (bit_at-zero (k % 64))

pub past_set : (words : List ℕ) (k : ℕ) → length words ≤ k / 64 → is_set words k ≡ false
past_set words k past = none_set words k (get_or_past words (k / 64) 0 past)

pub empty_set : (words : List ℕ) → length words ≡ 0 → (k : ℕ) → is_set words k ≡ false
empty_set words none k = past_set words k (omega (arith, none))

zeros_at : (n i : ℕ) → ◌≡◌ {A = ℕ} (get_or (replicate n 0) i 0) 0
zeros_at zero i = refl
zeros_at (suc n) zero = refl
zeros_at (suc n) (suc i) = zeros_at n i

pub zeros_set : (n k : ℕ) → is_set (replicate n 0) k ≡ false
zeros_set n k = none_set (replicate n 0) k (zeros_at n (k / 64))

no_word : (words : List ℕ) (i : ℕ) → any_set words ≡ false → get_or words i 0 ≡ 0
no_word [] i none = refl
no_word (word ∷ words) zero none = grind (arith, nat_tests)
no_word (word ∷ words) (suc i) none = no_word words i (grind (arith, nat_tests))

pub not_any : (words : List ℕ) → any_set words ≡ false → (k : ℕ) → is_set words k ≡ false
not_any words none k = none_set words k (no_word words (k / 64) none)

-- a word is exchanged
pub word_here : (words : List ℕ) (i word k : ℕ) → i < length words → k / 64 ≡ i → is_set (set words i word) k ≡ nat_eq (bit_at word (k % 64)) 1
word_here words i word k below is = rw is (ap (λ (w : ℕ). nat_eq (bit_at w (k % 64)) 1) (get_or-set_same words i word 0 below))

pub word_other : (words : List ℕ) (i word k : ℕ) → k / 64 ≢ i → is_set (set words i word) k ≡ is_set words k
word_other words i word k apart = ap (λ (w : ℕ). nat_eq (bit_at w (k % 64)) 1) (get_or-set_other words i (k / 64) word 0 apart)

-- a bit is set, or cleared, in one word
module _ (words : List ℕ) (number : ℕ) (place : number / 64 < length words) where
  pub added_here : (word : ℕ) → is_set (set words (number / 64) (bit_or word (1 * 2 ^ (number % 64) % 18446744073709551616))) number ≡ true
  added_here word = word_here words (number / 64) _ number place refl ∙ ap (λ (b : ℕ). nat_eq b 1) (bit_at_set_same w64 word (number % 64) (omega arith))

  pub removed_here : (word : ℕ) → is_set (set words (number / 64) (bit_and word (bit_not w64 (1 * 2 ^ (number % 64) % 18446744073709551616)))) number ≡ false
  removed_here word = word_here words (number / 64) _ number place refl ∙ ap (λ (b : ℕ). nat_eq b 1) (bit_at_clear_same w64 word (number % 64) (omega arith))

  pub added_others : (word k : ℕ) → word ≡ get_or words (number / 64) 0 → k ≢ number → is_set (set words (number / 64) (bit_or word (1 * 2 ^ (number % 64) % 18446744073709551616))) k ≡ is_set words k
  added_others word k was other =
      elim (cases_eq (k / 64) (number / 64)) [
        | inl e ↦ let apart : k % 64 ≢ number % 64 = λ same. other (omega arith) in
            word_here words (number / 64) _ k place e
            ∙ ap (λ (b : ℕ). nat_eq b 1) (bit_at_set_other w64 word (number % 64) (omega arith) (k % 64) apart)
            ∙ ap (λ (w : ℕ). nat_eq (bit_at w (k % 64)) 1) (was ∙ ap (λ (i : ℕ). get_or words i 0) (sym e))
        | inr apart ↦ word_other words (number / 64) _ k apart
      ]

  pub removed_others : (word k : ℕ) → word ≡ get_or words (number / 64) 0 → k ≢ number → is_set (set words (number / 64) (bit_and word (bit_not w64 (1 * 2 ^ (number % 64) % 18446744073709551616)))) k ≡ is_set words k
  removed_others word k was other =
      elim (cases_eq (k / 64) (number / 64)) [
        | inl e ↦ let apart : k % 64 ≢ number % 64 = λ same. other (omega arith) in
            word_here words (number / 64) _ k place e
            ∙ ap (λ (b : ℕ). nat_eq b 1) (bit_at_clear_other w64 word (number % 64) (omega arith) (k % 64) (omega arith) apart)
            ∙ ap (λ (w : ℕ). nat_eq (bit_at w (k % 64)) 1) (was ∙ ap (λ (i : ℕ). get_or words i 0) (sym e))
        | inr apart ↦ word_other words (number / 64) _ k apart
      ]

-- all bits of a word are
pub word_put : (words : List ℕ) (next word : ℕ) (member : Bool) → next % 64 ≡ 0 → next / 64 < length words → ((i : ℕ) → i < 64 → nat_eq (bit_at word i) 1 ≡ member)
    → (k : ℕ) → is_set (set words (next / 64) word) k ≡ (if is_between next (next + 64) k then member else is_set words k)
word_put words next word member whole below is k =
    elim (cases_eq (k / 64) (next / 64)) [
      | inl e ↦ rw (between_yes next (next + 64) k (omega arith) (omega arith)) (word_here words (next / 64) word k below e ∙ is (k % 64) (omega arith))
      | inr apart ↦ elim (cases_lt k next) [
        | inl lt ↦ rw (between_before next (next + 64) k lt) (word_other words (next / 64) word k apart)
        | inr le ↦ rw (between_behind next (next + 64) k (omega arith)) (word_other words (next / 64) word k apart)
      ]
    ]

pub all_bits : (k : ℕ) → k < 64 → nat_eq (bit_at 18446744073709551615 k) 1 ≡ true
all_bits k below = ap (λ (bit : ℕ). nat_eq bit 1) (bit_at_ones 64 k below)

-- how many bits of a word are set
low_bit : (word : ℕ) → cond (nat_eq (bit_at word 0) 1) 1 0 ≡ word % 2
low_bit word =
    elim (cases_eq (word % 2) 1) [
      | inl e ↦ let one : nat_eq (bit_at word 0) 1 ≡ true = ap (λ (b : ℕ). nat_eq b 1) (bit_at_lowest word ∙ e) in rw one (sym e)
      | inr other ↦ let none : word % 2 ≡ 0 = omega arith in
          let off : nat_eq (bit_at word 0) 1 ≡ false = ap (λ (b : ℕ). nat_eq b 1) (bit_at_lowest word ∙ none) in rw off (sym none)
    ]

no_ones : count_ones 0 ≡ 0
unfolding ones
no_ones = refl

ones_below : (n word : ℕ) → word < 2 ^ n → count_ones word ≡ count_of (λ i. nat_eq (bit_at word i) 1) 0 n
ones_below zero word below = let none : word ≡ 0 = omega arith in rw none (no_ones ∙ sym (count-zero (λ i. nat_eq (bit_at 0 i) 1) 0))
ones_below (suc n) word below =
    let half : word / 2 < 2 ^ n = omega arith in
    let rest : count_of (λ i. nat_eq (bit_at word i) 1) 1 n ≡ count_of (λ i. nat_eq (bit_at (word / 2) i) 1) 0 n =
    count-shift (λ i. nat_eq (bit_at (word / 2) i) 1) (λ i. nat_eq (bit_at word i) 1) 0 1 n
    (λ i j above less is. let next : j ≡ suc i = omega arith in rw next (ap (λ (b : ℕ). nat_eq b 1) (bit_at-suc word i))) in
    omega (arith, ones_step word, ones_below n (word / 2) half, count-cons (λ i. nat_eq (bit_at word i) 1) 0 n, low_bit word, rest)

pub ones_in : (words : List ℕ) (i word first n : ℕ) → first ≡ 64 * i → n ≡ 64 → word ≡ get_or words i 0 → word < 2 ^ n → count_ones word ≡ count_of (is_set words) first n
ones_in words i word first n begins all is below =
    ones_below n word below
    ∙ sym (count-shift (λ k. nat_eq (bit_at word k) 1) (is_set words) 0 first n (λ k j above less at.
    let place : j / 64 ≡ i = omega arith in
    let bit : j % 64 ≡ k = omega arith in
    rw (place, bit) (ap (λ (w : ℕ). nat_eq (bit_at w k) 1) (sym is))))

-- a word has no more of them than bits
pub ones_few : (n word : ℕ) → word < 2 ^ n → count_ones word ≤ n
ones_few n word below = omega (arith, ones_below n word below, count_le (λ i. nat_eq (bit_at word i) 1) 0 n)

-- those of one more word are counted
pub count_next : (words : List ℕ) (i word count first n next : ℕ) → first ≡ 64 * i → n ≡ 64 → next ≡ first + n → word ≡ get_or words i 0 → word < 2 ^ n → count ≡ count_of (is_set words) 0 first
    → count + count_ones word ≡ count_of (is_set words) 0 next
count_next words i word count first n next begins all ends is below was =
    omega (arith, was, ones_in words i word first n begins all is below, count-append (is_set words) 0 first n next first ends (omega arith))

-- how many of the lowest bits of a word are set
pub ones_low : (word n m : ℕ) → m ≡ 2 ^ n → count_ones (word % m) ≡ count_of (λ i. nat_eq (bit_at word i) 1) 0 n
ones_low word n m is =
    let below : word % 2 ^ n < 2 ^ n = mod-lt word (pow_pos n) in
    let whole : word / 2 ^ n * 2 ^ n + word % 2 ^ n ≡ word = div-add-mod' word (2 ^ n) in
    ap (λ (all : ℕ). count_ones (word % all)) is
    ∙ ones_below n (word % 2 ^ n) below
    ∙ count-shift (λ i. nat_eq (bit_at word i) 1) (λ i. nat_eq (bit_at (word % 2 ^ n) i) 1) 0 0 n
    (λ i j above less at. let same : j ≡ i = omega arith in
    ap (λ (k : ℕ). nat_eq (bit_at (word % 2 ^ n) k) 1) same
    ∙ ap (λ (b : ℕ). nat_eq b 1) (sym (bit_at_cat_low (word / 2 ^ n) n (word % 2 ^ n) i (omega arith)))
    ∙ ap (λ (w : ℕ). nat_eq (bit_at w i) 1) whole)

-- those of the words before one, and the lowest of that one
pub count_parts : (words : List ℕ) (i rest number a b : ℕ) → number ≡ 64 * i + rest → rest < 64 → i ≤ length words → a ≡ count_of (is_set (take i words)) 0 (64 * length (take i words))
    → b ≡ count_of (λ k. nat_eq (bit_at (get_or words i 0) k) 1) 0 rest → a + b ≡ count_of (is_set words) 0 number
count_parts words i rest number a b all less within before here =
    let long : length (take i words) ≡ i = length-take-le i words within in
    let first : count_of (is_set (take i words)) 0 (64 * i) ≡ count_of (is_set words) 0 (64 * i) =
    count-shift (is_set words) (is_set (take i words)) 0 0 (64 * i)
    (λ k j above below at. let same : j ≡ k = omega arith in
    ap (is_set (take i words)) same ∙ ap (λ (w : ℕ). nat_eq (bit_at w (k % 64)) 1) (get_or-take i words (k / 64) 0 (omega arith))) in
    let behind : count_of (λ k. nat_eq (bit_at (get_or words i 0) k) 1) 0 rest ≡ count_of (is_set words) (64 * i) rest =
    sym (count-shift (λ k. nat_eq (bit_at (get_or words i 0) k) 1) (is_set words) 0 (64 * i) rest
    (λ k j above below at.
    let place : j / 64 ≡ i = omega arith in
    let bit : j % 64 ≡ k = omega arith in
    rw (place, bit) refl)) in
    let was : a ≡ count_of (is_set (take i words)) 0 (64 * i) = before ∙ ap (λ (n : ℕ). count_of (is_set (take i words)) 0 (64 * n)) long in
    omega (arith, was, first, here, behind, count-append (is_set words) 0 (64 * i) rest number (64 * i) all (omega arith))
