-- What stands under numbers once those of a range were changed, a part of them at a time.
use Rattle.std.proofs.Common.{◌≡◌, ◌≢◌, ℕ, ◌+◌, ◌-◌, ◌<◌, ◌≤◌, Bool, true, false, max, min, inl, inr, if◌then◌else◌, ap, ◌∙◌, refl, sym, arith}
use Rattle.std.proofs.lemmas.Bool.{cases_lt, cases_eq}
use Rattle.std.proofs.lemmas.Bool.Decides.{nat_tests}
use Rattle.number_sets.specs.Bits.{is_between}

pub between_yes : (first end k : ℕ) → first ≤ k → k < end → is_between first end k ≡ true
between_yes first end k above below = grind (arith, nat_tests)

pub between_before : (first end k : ℕ) → k < first → is_between first end k ≡ false
between_before first end k before = grind (arith, nat_tests)

pub between_behind : (first end k : ℕ) → end ≤ k → is_between first end k ≡ false
between_behind first end k behind = grind (arith, nat_tests)

-- what a number between two is
pub between_from : (first end k : ℕ) → is_between first end k ≡ true → first ≤ k
between_from first end k inside =
    elim (cases_lt k first) [
      | inl lt ↦ let bad : false ≡ true = sym (between_before first end k lt) ∙ inside in absurd (cc)
      | inr le ↦ le
    ]

pub between_to : (first end k : ℕ) → is_between first end k ≡ true → k < end
between_to first end k inside =
    elim (cases_lt k end) [
      | inl lt ↦ lt
      | inr ge ↦ let bad : false ≡ true = sym (between_behind first end k ge) ∙ inside in absurd (cc)
    ]

-- two ranges that have the same numbers
pub between_end : (first next end k : ℕ) → first ≤ next → next ≤ max first end → end ≤ next → is_between first next k ≡ is_between first end k
between_end first next end k begun upto done =
    elim (cases_lt k first) [
      | inl lt ↦ between_before first next k lt ∙ sym (between_before first end k lt)
      | inr le ↦ elim (cases_lt k end) [
        | inl lt ↦ between_yes first next k le (omega arith) ∙ sym (between_yes first end k le lt)
        | inr ge ↦ between_behind first next k (omega arith) ∙ sym (between_behind first end k ge)
      ]
    ]

module _ {X : Type 0} (x : X) where
  -- none yet
  pub put_none : (old : ℕ → X) (first : ℕ) → (k : ℕ) → old k ≡ (if is_between first first k then x else old k)
  put_none old first k =
      elim (cases_lt k first) [
        | inl lt ↦ rw (between_before first first k lt) refl
        | inr le ↦ rw (between_behind first first k le) refl
      ]

  -- one
  pub put_one : (old new : ℕ → X) (number : ℕ) → new number ≡ x → ((k : ℕ) → k ≢ number → new k ≡ old k) → (k : ℕ) → new k ≡ (if is_between number (number + 1) k then x else old k)
  put_one old new number here others k =
      elim (cases_eq k number) [
        | inl e ↦ rw (between_yes number (number + 1) k (omega arith) (omega arith)) (ap new e ∙ here)
        | inr apart ↦ elim (cases_lt k number) [
          | inl lt ↦ rw (between_before number (number + 1) k lt) (others k apart)
          | inr le ↦ rw (between_behind number (number + 1) k (omega arith)) (others k apart)
        ]
      ]

  -- those from the next on after those before it
  pub put_step : (old before after : ℕ → X) (first next more : ℕ) → first ≤ next → next ≤ more → ((k : ℕ) → before k ≡ (if is_between first next k then x else old k))
      → ((k : ℕ) → after k ≡ (if is_between next more k then x else before k)) → (k : ℕ) → after k ≡ (if is_between first more k then x else old k)
  put_step old before after first next more begun on was now k =
      elim (cases_lt k next) [
        | inl lt ↦ now k ∙ ap (λ (b : Bool). if b then x else before k) (between_before next more k lt) ∙ was k
            ∙ ap (λ (b : Bool). if b then x else old k) (elim (cases_lt k first) [
              | inl less ↦ between_before first next k less ∙ sym (between_before first more k less)
              | inr le ↦ between_yes first next k le lt ∙ sym (between_yes first more k le (omega arith))
            ])
        | inr ge ↦ elim (cases_lt k more) [
          | inl lt ↦ now k ∙ ap (λ (b : Bool). if b then x else before k) (between_yes next more k ge lt)
              ∙ ap (λ (b : Bool). if b then x else old k) (sym (between_yes first more k (omega arith) lt))
          | inr le ↦ now k ∙ ap (λ (b : Bool). if b then x else before k) (between_behind next more k le) ∙ was k
              ∙ ap (λ (b : Bool). if b then x else old k) (between_behind first next k ge ∙ sym (between_behind first more k le))
        ]
      ]

  -- all of them
  pub put_end : (old new : ℕ → X) (first next end : ℕ) → first ≤ next → next ≤ max first end → end ≤ next → ((k : ℕ) → new k ≡ (if is_between first next k then x else old k))
      → (k : ℕ) → new k ≡ (if is_between first end k then x else old k)
  put_end old new first next end begun upto done was k =
      was k ∙ ap (λ (b : Bool). if b then x else old k) (between_end first next end k begun upto done)

pub between_less : (first end n q : ℕ) → first ≤ n → n < end → is_between first end q ≡ false → (q ≢ n) × (is_between first n q ≡ false)
between_less first end n q above below outside = (
  λ e. let bad : is_between first end q ≡ true = between_yes first end q (omega arith) (omega arith) in let no : true ≡ false = sym bad ∙ outside in cc,
  elim (cases_lt q first) [
    | inl lt ↦ between_before first n q lt
    | inr ge ↦ elim (cases_lt q n) [
      | inl lt ↦ let bad : true ≡ false = sym (between_yes first end q ge (omega arith)) ∙ outside in absurd (cc)
      | inr le ↦ between_behind first n q le
    ]
  ],
)

-- a part of a range, as it lies in a block
pub between_block : (first end begin size k j : ℕ) → k ≡ begin + j → j < size → is_between (first - begin) (min (end - begin) size) j ≡ is_between first end k
between_block first end begin size k j at below =
    elim (cases_lt k first) [
      | inl lt ↦ between_before (first - begin) (min (end - begin) size) j (omega arith) ∙ sym (between_before first end k lt)
      | inr ge ↦ elim (cases_lt k end) [
        | inl lt ↦ between_yes (first - begin) (min (end - begin) size) j (omega arith) (omega arith) ∙ sym (between_yes first end k ge lt)
        | inr le ↦ between_behind (first - begin) (min (end - begin) size) j (omega arith) ∙ sym (between_behind first end k le)
      ]
    ]

-- the same where the part is told in other words
pub between_part : (first end begin size f e k j : ℕ) → f ≡ first - begin → e ≡ min (end - begin) size → k ≡ begin + j → j < size → is_between f e j ≡ is_between first end k
between_part first end begin size f e k j begins ends at below =
    ap (λ (n : ℕ). is_between n e j) begins ∙ ap (λ (n : ℕ). is_between (first - begin) n j) ends ∙ between_block first end begin size k j at below

-- What stands under numbers that lie in blocks, while those of a range are put, a block at a time: in blocks that aren't there it is so already.
module _ {X : Type 0} (x : X) (block : ℕ → ℕ) (first end : ℕ) where
  pub record ArePut (old now : ℕ → X) (next : ℕ) : Type 0 where
    pub before : (k : ℕ) → block k < next → now k ≡ (if is_between first end k then x else old k)
    pub behind : (k : ℕ) → next ≤ block k → now k ≡ old k

  if_same : (b : Bool) (y : X) → y ≡ x → x ≡ (if b then x else y)
  if_same true y is = refl
  if_same false y is = sym is

  pub put_begun : (old : ℕ → X) (from : ℕ) → ((k : ℕ) → block k < from → is_between first end k ≡ false) → ArePut old old from
  put_begun old from apart = record {
    before = λ k lt. rw (apart k lt) refl;
    behind = λ k le. refl;
  }

  pub put_more : (old before after : ℕ → X) (next at : ℕ) → ArePut old before next → next ≤ at → ((k : ℕ) → next ≤ block k → block k < at → before k ≡ x)
      → ((k : ℕ) → block k ≡ at → after k ≡ (if is_between first end k then x else before k)) → ((k : ℕ) → block k ≢ at → after k ≡ before k) → ArePut old after (at + 1)
  put_more old before after next at was on absent here others = record {
    before = λ k lt. elim (cases_eq (block k) at) [
      | inl e ↦ here k e ∙ ap (λ (y : X). if is_between first end k then x else y) (was.behind k (omega (arith, e)))
      | inr apart ↦ elim (cases_lt (block k) next) [
        | inl less ↦ others k apart ∙ was.before k less
        | inr ge ↦ let none : before k ≡ x = absent k ge (omega arith) in
            others k apart ∙ none ∙ if_same (is_between first end k) (old k) (sym (was.behind k ge) ∙ none)
      ]
    ];
    behind = λ k le. others k (λ e. omega (arith, e)) ∙ was.behind k (omega arith);
  }

  pub put_done : (old now : ℕ → X) (next last : ℕ) → ArePut old now next → ((k : ℕ) → next ≤ block k → block k < last → now k ≡ x) → ((k : ℕ) → last ≤ block k → is_between first end k ≡ false)
      → (k : ℕ) → now k ≡ (if is_between first end k then x else old k)
  put_done old now next last was absent apart k =
      elim (cases_lt (block k) next) [
        | inl less ↦ was.before k less
        | inr ge ↦ elim (cases_lt (block k) last) [
          | inl lt ↦ let none : now k ≡ x = absent k ge lt in none ∙ if_same (is_between first end k) (old k) (sym (was.behind k ge) ∙ none)
          | inr le ↦ was.behind k ge ∙ ap (λ (b : Bool). if b then x else old k) (sym (apart k le))
        ]
      ]
