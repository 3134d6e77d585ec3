-- How many numbers in a row pass a test.
use Rattle.std.proofs.Common.{◌≡◌, ℕ, zero, suc, ◌+◌, ◌-◌, ◌<◌, ◌≤◌, Bool, true, false, ◌||◌, cond, get_or, set, Option, None, List, [], ◌∷◌, length, refl, sym, ap, ◌∙◌, arith}
use Rattle.std.specs.List.{filter, range_with_len}
pub use Rattle.number_sets.specs.Bits.{count_of}

-- as a list of those that pass
pub count_is : (p : ℕ → Bool) (from n : ℕ) → count_of p from n ≡ length (filter p (range_with_len from n))
unfolding count_of
count_is p from n = refl

pub count-zero : (p : ℕ → Bool) (from : ℕ) → count_of p from zero ≡ 0
unfolding count_of
count-zero p from = refl

length-cond : {X : Type 0} (b : Bool) (x : X) (xs : List X) → length (cond b (x ∷ xs) xs) ≡ cond b 1 0 + length xs
length-cond true x xs = omega arith
length-cond false x xs = omega arith

pub count-cons : (p : ℕ → Bool) (from n : ℕ) → count_of p from (suc n) ≡ cond (p from) 1 0 + count_of p (from + 1) n
unfolding count_of
count-cons p from n = length-cond (p from) from (filter p (range_with_len (from + 1) n))

pub cond_le : (b : Bool) → cond b 1 0 ≤ 1
cond_le true = omega arith
cond_le false = omega arith

pub count_le : (p : ℕ → Bool) (from n : ℕ) → count_of p from n ≤ n
count_le p from zero = omega (arith, count-zero p from)
count_le p from (suc n) = omega (arith, count-cons p from n, cond_le (p from), count_le p (from + 1) n)

pub count-none : (p : ℕ → Bool) (from n : ℕ) → ((k : ℕ) → from ≤ k → k < from + n → p k ≡ false) → count_of p from n ≡ 0
count-none p from zero none = count-zero p from
count-none p from (suc n) none =
    let here : p from ≡ false = none from (omega arith) (omega arith) in
    let rest : count_of p (from + 1) n ≡ 0 = count-none p (from + 1) n (λ k above below. none k (omega arith) (omega arith)) in
    omega (arith, count-cons p from n, ap {B = ℕ} (λ (b : Bool). cond b 1 0) here, rest)

pub count-append : (p : ℕ → Bool) (from m n all mid : ℕ) → all ≡ m + n → mid ≡ from + m → count_of p from all ≡ count_of p from m + count_of p mid n
count-append p from zero n all mid both next =
    let same : all ≡ n = omega arith in
    let begin : mid ≡ from = omega arith in
    let none : count_of p from zero ≡ 0 = count-zero p from in
    rw (same, begin) (omega (arith, none))
count-append p from (suc m) n all mid both next =
    let more : all ≡ suc (m + n) = omega arith in
    let rest : count_of p (from + 1) (m + n) ≡ count_of p (from + 1) m + count_of p mid n = count-append p (from + 1) m n (m + n) mid refl (omega arith) in
    rw more (omega (arith, count-cons p from (m + n), count-cons p from m, rest))

-- of one test here, and of another there that says the same
pub count-shift : (p q : ℕ → Bool) (from to n : ℕ) → ((i j : ℕ) → from ≤ i → i < from + n → j + from ≡ to + i → q j ≡ p i) → count_of q to n ≡ count_of p from n
count-shift p q from to zero same = count-zero q to ∙ sym (count-zero p from)
count-shift p q from to (suc n) same =
    let here : q to ≡ p from = same from to (omega arith) (omega arith) (omega arith) in
    let rest : count_of q (to + 1) n ≡ count_of p (from + 1) n = count-shift p q (from + 1) (to + 1) n (λ i j above below is. same i j (omega arith) (omega arith) (omega arith)) in
    omega (arith, count-cons q to n, count-cons p from n, ap {B = ℕ} (λ (b : Bool). cond b 1 0) here, rest)

-- of the first numbers, some more of which don't pass
pub count-upto : (p : ℕ → Bool) (a b : ℕ) → a ≤ b → ((k : ℕ) → a ≤ k → k < b → p k ≡ false) → count_of p 0 a ≡ count_of p 0 b
count-upto p a b within none =
    let rest : count_of p a (b - a) ≡ 0 = count-none p a (b - a) (λ k from to. none k from (omega arith)) in
    omega (arith, rest, count-append p 0 a (b - a) b a (omega arith) (omega arith))

-- and behind them some that were counted
pub count_more : (p : ℕ → Bool) (a b c w count more : ℕ) → count ≡ count_of p 0 a → a ≤ b → ((k : ℕ) → a ≤ k → k < b → p k ≡ false) → more ≡ count_of p b w → c ≡ b + w → count + more ≡ count_of p 0 c
count_more p a b c w count more was within none is all =
    omega (arith, was, is, count-upto p a b within none, count-append p 0 b w c b all (omega arith))

-- of two tests that never pass together
either_cond : (a b : Bool) → (a ≡ true → b ≡ false) → cond (a || b) 1 0 ≡ cond a 1 0 + cond b 1 0
either_cond true true apart = let bad : true ≡ false = apart refl in absurd (cc)
either_cond true false apart = refl
either_cond false true apart = refl
either_cond false false apart = refl

pub count_both : (p q : ℕ → Bool) (from n : ℕ) → ((k : ℕ) → p k ≡ true → q k ≡ false) → count_of (λ k. p k || q k) from n ≡ count_of p from n + count_of q from n
count_both p q from zero apart = omega (arith, count-zero (λ k. p k || q k) from, count-zero p from, count-zero q from)
count_both p q from (suc n) apart =
    omega (arith, count-cons (λ k. p k || q k) from n, count-cons p from n, count-cons q from n, either_cond (p from) (q from) (apart from), count_both p q (from + 1) n apart)

-- how many elements of a list pass one, by their places
pub count_list : {X : Type 0} (test : Option X → Bool) (xs : List (Option X)) (p : ℕ → Bool) (from n : ℕ) → n ≡ length xs
    → ((i j : ℕ) → i < n → j ≡ from + i → p j ≡ test (get_or xs i None)) → count_of p from n ≡ length (filter test xs)
count_list test [] p from zero long same = count-zero p from
count_list test [] p from (suc n) long same = absurd (omega arith)
count_list test (x ∷ xs) p from zero long same = absurd (omega arith)
count_list test (x ∷ xs) p from (suc n) long same =
    let here : p from ≡ test x = same zero from (omega arith) (omega arith) in
    let rest : count_of p (from + 1) n ≡ length (filter test xs) = count_list test xs p (from + 1) n (omega arith) (λ i j below at. same (suc i) j (omega arith) (omega arith)) in
    omega (arith, count-cons p from n, length-cond (test x) x (filter test xs), ap {B = ℕ} (λ (b : Bool). cond b 1 0) here, rest)

-- how many pass in a list in which one element is exchanged
pub count_set : {X : Type 0} (test : Option X → Bool) (xs : List (Option X)) (i : ℕ) (x : Option X) → i < length xs
    → length (filter test (set xs i x)) + cond (test (get_or xs i None)) 1 0 ≡ length (filter test xs) + cond (test x) 1 0
count_set test [] i x below = absurd (omega arith)
count_set test (y ∷ xs) zero x below = omega (arith, length-cond (test x) x (filter test xs), length-cond (test y) y (filter test xs))
count_set test (y ∷ xs) (suc i) x below =
    omega (arith, length-cond (test y) y (filter test (set xs i x)), length-cond (test y) y (filter test xs), count_set test xs i x (omega arith))

-- one that passes is counted
pub count_some : {X : Type 0} (test : Option X → Bool) (xs : List (Option X)) (i : ℕ) → i < length xs → test (get_or xs i None) ≡ true → 0 < length (filter test xs)
count_some test [] i below passes = absurd (omega arith)
count_some test (y ∷ xs) zero below passes = omega (arith, length-cond (test y) y (filter test xs), ap {B = ℕ} (λ (b : Bool). cond b 1 0) passes)
count_some test (y ∷ xs) (suc i) below passes = omega (arith, length-cond (test y) y (filter test xs), count_some test xs i (omega arith) passes)

-- where none is counted, none passes
cond_zero : (b : Bool) → ◌≡◌ {A = ℕ} (cond b 1 0) 0 → b ≡ false
cond_zero false none = refl
cond_zero true none = absurd (omega arith)

pub count_zero : {X : Type 0} (test : Option X → Bool) (xs : List (Option X)) → length (filter test xs) ≡ 0 → (i : ℕ) → i < length xs → test (get_or xs i None) ≡ false
count_zero test [] none i below = absurd (omega arith)
count_zero test (x ∷ xs) none zero below = cond_zero (test x) (omega (arith, length-cond (test x) x (filter test xs), none))
count_zero test (x ∷ xs) none (suc i) below = count_zero test xs (omega (arith, length-cond (test x) x (filter test xs), none)) i (omega arith)
