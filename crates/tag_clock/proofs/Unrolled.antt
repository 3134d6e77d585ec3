-- Limit tags, from the arrivals alone.
use Rattle.std.proofs.Common.{◌≡◌, ℕ, ◌+◌, max, List, [], ◌∷◌, ◌++◌, map, Option, Some, None, ℤ, pos, refl, sym, ap, ap₂, ◌∙◌, arith, append_assoc}
use Rattle.std.specs.Int.{int_max}
use Rattle.std.specs.List.{sum_by}
use Rattle.std.proofs.lemmas.Int.{ints}
use Rattle.std.proofs.lemmas.Bool.Decides.{nat_tests}
use Rattle.std.proofs.lemmas.List.Sums.{sum_by-cons, sum_by_push}
use Rattle.tag_clock.specs.Tags.{later}
use Rattle.tag_clock.specs.Clocks.{fresh_limit}
use Rattle.tag_clock.specs.LimitTags.{Arrival, unrolled, beginnings, limit_tags, given}

-- the intervals of arrivals, added up
abbrev whole : List Arrival → ℕ
whole arrivals = sum_by (λ (one : Arrival). one.interval) arrivals

-- the last tag after these arrivals
abbrev pub last_of : List Arrival → Option ℤ
last_of [] = None
last_of (one ∷ behind) = Some (pos (unrolled (one ∷ behind)))

-- one arrival more at the end
pub unrolled-push : (behind : List Arrival) (first one : Arrival) → unrolled ((first ∷ behind) ++ one ∷ []) ≡ max (unrolled (first ∷ behind) + one.interval) one.moment
unrolled-push [] first one = two first.moment one.moment one.interval (whole (one ∷ [])) (sum_by-cons (λ (x : Arrival). x.interval) one [])
  where
    two : (s t interval n : ℕ) → n ≡ interval + 0 → max (s + n) (max (t + 0) 0) ≡ max (max (s + 0) 0 + interval) t
    two s t interval n h = rw h (omega arith)
unrolled-push (next ∷ behind) first one =
    arrange first.moment one.moment one.interval next.interval (whole (next ∷ (behind ++ one ∷ []))) (whole (next ∷ behind)) (unrolled ((next ∷ behind) ++ one ∷ [])) (unrolled (next ∷ behind))
    (sum_by_push (λ (x : Arrival). x.interval) (next ∷ behind) one) (unrolled-push behind next one)
  where
    arrange : (s t interval i m n u v : ℕ) → m ≡ n + interval → u ≡ max (v + interval) t → max (s + m) u ≡ max (max (s + n) v + interval) t
    arrange s t interval i m n u v h k = rw (h, k) (omega arith)

int_max_pos : (a b : ℕ) → int_max (pos a) (pos b) ≡ pos (max a b)
int_max_pos a b = grind (arith, ints, nat_tests)

-- the tag of one arrival more
pub later-last_of : (before : List Arrival) (one : Arrival) → later (last_of before) one.interval one.moment ≡ pos (unrolled (before ++ one ∷ []))
later-last_of [] one = ap pos (first one.moment)
  where
    first : (t : ℕ) → t ≡ max (t + 0) 0
    first t = omega arith
later-last_of (first ∷ before) one = int_max_pos (unrolled (first ∷ before) + one.interval) one.moment ∙ ap pos (sym (unrolled-push before first one))

pub last_of-push : (before : List Arrival) (one : Arrival) → last_of (before ++ one ∷ []) ≡ Some (pos (unrolled (before ++ one ∷ [])))
last_of-push [] one = refl
last_of-push (first ∷ before) one = refl

-- a beginning after some arrivals and one more is one after all of these
pub begun_on : (before : List Arrival) (one : Arrival) (bs : List (List Arrival)) → map (λ begun. pos (unrolled (before ++ begun))) (map (λ begun. one ∷ begun) bs) ≡ map (λ begun. pos (unrolled ((before ++ one ∷ []) ++ begun))) bs
begun_on before one [] = refl
begun_on before one (b ∷ bs) = ap₂ (λ x xs. x ∷ xs) (ap (λ arrivals. pos (unrolled arrivals)) (sym (append_assoc before (one ∷ []) b))) (begun_on before one bs)

-- the tags of a clock that was asked before
pub given_from : (interval : ℕ) (before arrivals : List Arrival) → given (record { interval = interval; last = last_of before }) arrivals ≡ map (λ begun. pos (unrolled (before ++ begun))) (beginnings arrivals)
given_from interval before [] = refl
given_from interval before (one ∷ behind) =
    ap₂ (λ x xs. x ∷ xs) (later-last_of before one)
    (ap (λ (last : Option ℤ). given (record { interval = one.interval; last = last }) behind) (ap (λ (tag : ℤ). Some tag) (later-last_of before one) ∙ sym (last_of-push before one))
    ∙ given_from one.interval (before ++ one ∷ []) behind
    ∙ sym (begun_on before one (beginnings behind)))

pub given_unrolled : (interval : ℕ) (arrivals : List Arrival) → given (fresh_limit interval) arrivals ≡ limit_tags arrivals
given_unrolled interval arrivals = given_from interval [] arrivals
