-- A set in bitmaps after one of these has changed.
use Rattle.std.proofs.Common.{◌≡◌, ◌≢◌, ℕ, ◌+◌, ◌-◌, ◌*◌, ◌/◌, ◌%◌, ◌<◌, ◌≤◌, inl, inr, Bool, true, false, unwrap_or, is_some, IsSome, IfSome, Option, None, Some, List, [], min, max, if◌then◌else◌, refl, sym, ap, subst, ◌∙◌, arith}
use Rattle.std.specs.Ordering.{nat_cmp, is_eq}
use Rattle.std.specs.Cmp.{nat_cmp_is}
use Rattle.std.specs.declared.cmp.Ordering.TheVariants.{Less, Greater}
use Rattle.std.specs.BTreeMap.{BTreeMap, is_at, get, UpdatesBy}
use Rattle.std.specs.Int.{div_ceil}
use Rattle.std.proofs.lemmas.Bool.{cases_lt, cases_eq}
use Rattle.number_sets.specs.Bits.{is_set, any_set, is_between}
use Rattle.number_sets.specs.Marks.{bitmap_of, is_marked, AreUsed}
use Rattle.number_sets.proofs.CountLemmas.{count_of, count-none, count-shift}
use Rattle.number_sets.proofs.RangeLemmas.{between_yes, between_before, between_behind, between_part}
use Rattle.number_sets.proofs.BitsLemmas.{empty_set, not_any}

abbrev pub Bitmaps : Type 0
Bitmaps = List (ℕ × List ℕ)

at_other : (k q : ℕ) → q ≢ k → is_at (nat_cmp k) q ≡ false
at_other k q apart =
    elim (cases_lt k q) [
      | inl lt ↦ ap is_eq (sym (nat_cmp_is k q Less lt))
      | inr le ↦ let lt : q < k = omega arith in ap is_eq (sym (nat_cmp_is k q Greater lt))
    ]

-- the other entries of a map once one was put, changed or taken out
updates_others : {X : Type 0} (m n : BTreeMap ℕ X) (q : ℕ) (w : Option X) → UpdatesBy nat_cmp (nat_cmp q) m n w → (p : ℕ) → p ≢ q → get nat_cmp n p ≡ get nat_cmp m p
updates_others m n q w updates p apart = updates.2 p (at_other q p apart)

-- what is told of what isn't there
pub if_none : {X : Type 0} (o : Option X) (P : X → Type 0) → o ≡ None → IfSome o P
if_none o P none = subst (λ (p : Option _). IfSome p P) (sym none) tt

pub none_there : {X : Type 0} (o : Option X) → is_some o ≡ false → o ≡ None
none_there None absent = refl
none_there (Some x) absent = absurd (cc)

-- what is said of a number
pub marked_is : (bitmaps : Bitmaps) (k q : ℕ) → k / 16384 ≡ q → is_marked bitmaps k ≡ is_set (unwrap_or (bitmap_of bitmaps q) []) (k % 16384)
unfolding is_marked
marked_is bitmaps k q is = ap (λ (p : ℕ). is_set (unwrap_or (bitmap_of bitmaps p) []) (k % 16384)) is

pub found_marked : (bitmaps : Bitmaps) (k q : ℕ) (words : List ℕ) → k / 16384 ≡ q → Some words ≡ bitmap_of bitmaps q → is_set words (k % 16384) ≡ is_marked bitmaps k
found_marked bitmaps k q words is found = ap (λ (w : Option (List ℕ)). is_set (unwrap_or w []) (k % 16384)) found ∙ sym (marked_is bitmaps k q is)

pub absent_marked : (bitmaps : Bitmaps) (k q : ℕ) → k / 16384 ≡ q → bitmap_of bitmaps q ≡ None → is_marked bitmaps k ≡ false
absent_marked bitmaps k q is absent =
    marked_is bitmaps k q is ∙ ap (λ (w : Option (List ℕ)). is_set (unwrap_or w []) (k % 16384)) absent ∙ empty_set [] refl (k % 16384)

pub none_marked : (bitmaps : Bitmaps) → bitmaps ≡ [] → (k : ℕ) → is_marked bitmaps k ≡ false
none_marked bitmaps none k = absent_marked bitmaps k (k / 16384) refl (ap (λ (all : Bitmaps). bitmap_of all (k / 16384)) none)

-- a bitmap with a member
pub any_member : (words : List ℕ) (k : ℕ) → is_set words k ≡ true → any_set words ≡ true
any_member words k member =
    elim (any_set words) as (λ b. any_set words ≡ b → any_set words ≡ true) [
      | true ↦ λ e. e
      | false ↦ λ e. let bad : false ≡ true = sym (not_any words e k) ∙ member in absurd (cc)
    ] refl

if_some : {X : Type 0} (o : Option X) (P : X → Type 0) → ((x : X) → o ≡ Some x → P x) → IfSome o P
if_some None P all = tt
if_some (Some x) P all = all x refl

pub used_member : (bitmaps : Bitmaps) (k q : ℕ) → k / 16384 ≡ q → is_marked bitmaps k ≡ true → IfSome (bitmap_of bitmaps q) (λ words. any_set words ≡ true)
used_member bitmaps k q is member =
    if_some (bitmap_of bitmaps q) (λ words. any_set words ≡ true) (λ words found. any_member words (k % 16384) (found_marked bitmaps k q words is (sym found) ∙ member))

-- One bitmap has changed.
module _ (old new : Bitmaps) (q : ℕ) (others : (p : ℕ) → p ≢ q → bitmap_of new p ≡ bitmap_of old p) where
  pub other_bitmap : (k : ℕ) → k / 16384 ≢ q → is_marked new k ≡ is_marked old k
  other_bitmap k apart =
      marked_is new k (k / 16384) refl ∙ ap (λ (w : Option (List ℕ)). is_set (unwrap_or w []) (k % 16384)) (others (k / 16384) apart) ∙ sym (marked_is old k (k / 16384) refl)

  pub same_marked : ((k : ℕ) → is_set (unwrap_or (bitmap_of new q) []) k ≡ is_set (unwrap_or (bitmap_of old q) []) k) → (k : ℕ) → is_marked new k ≡ is_marked old k
  same_marked same k =
      elim (cases_eq (k / 16384) q) [
        | inl e ↦ marked_is new k q e ∙ same (k % 16384) ∙ sym (marked_is old k q e)
        | inr apart ↦ other_bitmap k apart
      ]

-- how many members a bitmap has
pub count_bitmap : (bitmaps : Bitmaps) (q n begin : ℕ) (words : List ℕ) → n ≡ 16384 → begin ≡ 16384 * q → Some words ≡ bitmap_of bitmaps q → count_of (is_set words) 0 n ≡ count_of (is_marked bitmaps) begin n
count_bitmap bitmaps q n begin words all begins found =
    sym (count-shift (is_set words) (is_marked bitmaps) 0 begin n (λ i j above below at.
    let block : j / 16384 ≡ q = omega arith in
    let place : j % 16384 ≡ i = omega arith in
    sym (found_marked bitmaps j q words block found) ∙ ap (is_set words) place))

pub count_absent : (bitmaps : Bitmaps) (q n begin : ℕ) → n ≡ 16384 → begin ≡ 16384 * q → bitmap_of bitmaps q ≡ None → count_of (is_marked bitmaps) begin n ≡ 0
count_absent bitmaps q n begin all begins absent = count-none (is_marked bitmaps) begin n (λ k above below. absent_marked bitmaps k q (omega arith) absent)

-- between two bitmaps where there is none
pub none_between : (bitmaps : Bitmaps) (from to : ℕ) → ((q : ℕ) → from ≤ q → q < to → bitmap_of bitmaps q ≡ None) → (k : ℕ) → 16384 * from ≤ k → k < 16384 * to → is_marked bitmaps k ≡ false
none_between bitmaps from to none k above below = absent_marked bitmaps k (k / 16384) refl (none (k / 16384) (omega arith) (omega arith))

-- A bitmap without members comes, or goes.
module _ (m n : BTreeMap ℕ (List ℕ)) (q : ℕ) (words : List ℕ) where
  pub made : get nat_cmp m q ≡ None → ((k : ℕ) → is_set words k ≡ false) → UpdatesBy nat_cmp (nat_cmp q) m n (Some words) → (k : ℕ) → is_marked n.entries k ≡ is_marked m.entries k
  made absent none updates =
      same_marked m.entries n.entries q (updates_others m n q (Some words) updates)
      (λ k. ap (λ (w : Option (List ℕ)). is_set (unwrap_or w []) k) updates.1 ∙ none k ∙ sym (empty_set [] refl k) ∙ sym (ap (λ (w : Option (List ℕ)). is_set (unwrap_or w []) k) absent))

  pub dropped : Some words ≡ get nat_cmp m q → any_set words ≡ false → UpdatesBy nat_cmp (nat_cmp q) m n None → (k : ℕ) → is_marked n.entries k ≡ is_marked m.entries k
  dropped found none updates =
      same_marked m.entries n.entries q (updates_others m n q None updates)
      (λ k. ap (λ (w : Option (List ℕ)). is_set (unwrap_or w []) k) updates.1 ∙ empty_set [] refl k ∙ sym (not_any words none k) ∙ ap (λ (w : Option (List ℕ)). is_set (unwrap_or w []) k) found)

-- Numbers of a bitmap are put.
module _ (m n : BTreeMap ℕ (List ℕ)) (q first end from to : ℕ) (member : Bool) (words after : List ℕ) (begins : from ≡ first - q * 16384) (ends : to ≡ min (end - q * 16384) 16384)
    (found : Some words ≡ get nat_cmp m q) (updates : UpdatesBy nat_cmp (nat_cmp q) m n (Some after)) (put : (k : ℕ) → is_set after k ≡ (if is_between from to k then member else is_set words k)) where
  pub put_here : (k : ℕ) → k / 16384 ≡ q → is_marked n.entries k ≡ (if is_between first end k then member else is_marked m.entries k)
  put_here k is =
      sym (found_marked n.entries k q after is (sym updates.1))
      ∙ put (k % 16384)
      ∙ ap (λ (b : Bool). if b then member else is_set words (k % 16384)) (between_part first end (q * 16384) 16384 from to k (k % 16384) begins ends (omega arith) (omega arith))
      ∙ ap (λ (b : Bool). if is_between first end k then member else b) (found_marked m.entries k q words is found)

  pub put_there : IsSome (bitmap_of n.entries q)
  put_there = subst IsSome (sym updates.1) refl

-- a bitmap all of whose numbers are in the range goes
pub whole_unmarked : (old new : Bitmaps) (q first end : ℕ) → first ≤ q * 16384 → q * 16384 + 16384 ≤ end → bitmap_of new q ≡ None
    → (k : ℕ) → k / 16384 ≡ q → is_marked new k ≡ (if is_between first end k then false else is_marked old k)
whole_unmarked old new q first end above below gone k is =
    let inside : is_between first end k ≡ true = between_yes first end k (omega arith) (omega arith) in
    absent_marked new k q is gone ∙ ap (λ (b : Bool). if b then false else is_marked old k) (sym inside)

-- bitmaps were made, and have members now
module _ (old mid new : Bitmaps) (first end : ℕ) (some : first < end) (was : AreUsed old)
    (made : (q : ℕ) → is_between (first / 16384) (div_ceil end 16384) q ≡ false → bitmap_of mid q ≡ bitmap_of old q)
    (others : (q : ℕ) → is_between (first / 16384) (div_ceil end 16384) q ≡ false → bitmap_of new q ≡ bitmap_of mid q) where
  used_outside : (p : ℕ) → is_between (first / 16384) (div_ceil end 16384) p ≡ false → IfSome (bitmap_of new p) (λ words. any_set words ≡ true)
  used_outside p outside = subst (λ (w : Option (List ℕ)). IfSome w (λ words. any_set words ≡ true)) (sym (others p outside ∙ made p outside)) (was p)

  used_where : ((p : ℕ) → first / 16384 ≤ p → p < div_ceil end 16384 → IfSome (bitmap_of new p) (λ words. any_set words ≡ true)) → AreUsed new
  used_where inside p =
      elim (cases_lt p (first / 16384)) [
        | inl lt ↦ used_outside p (between_before (first / 16384) (div_ceil end 16384) p lt)
        | inr ge ↦ elim (cases_lt p (div_ceil end 16384)) [
          | inl lt ↦ inside p ge lt
          | inr le ↦ used_outside p (between_behind (first / 16384) (div_ceil end 16384) p le)
        ]
      ]

  pub used_put : ((k : ℕ) → is_marked new k ≡ (if is_between first end k then true else is_marked mid k)) → AreUsed new
  used_put put =
      used_where (λ p ge lt.
      let k : ℕ = max first (16384 * p) in
      used_member new k p (omega arith) (put k ∙ ap (λ (b : Bool). if b then true else is_marked mid k) (between_yes first end k (omega arith) (omega arith))))

  pub used_dropped : ((q : ℕ) → first / 16384 ≤ q → q < div_ceil end 16384 → IfSome (bitmap_of new q) (λ words. any_set words ≡ true)) → AreUsed new
  used_dropped left = used_where left
