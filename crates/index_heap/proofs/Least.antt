-- The least of a list of keys.
use Rattle.std.proofs.Common.{◌≡◌, ℕ, zero, suc, ◌+◌, ◌<◌, ℤ, false, Option, Some, None, List, [], ◌∷◌, ◌++◌, length, slice_index_or, refl, sym, ◌∙◌, ap, arith}
use Rattle.std.proofs.lemmas.Int.{ints}
use Rattle.std.proofs.lemmas.Bool.Decides.{nat_tests}
use Rattle.nbd_base.specs.Least.{the_sooner, least, keyed}
use Rattle.nbd_base.proofs.Least.{sooner_assoc}
use Rattle.index_heap.specs.Keys.{numbered}
use Rattle.index_heap.specs.Heap.{sooner}

-- one id earlier on both sides
earlier : (x : Option ℤ) (k : ℤ) (j i : ℕ) → sooner x (suc j) (Some k) (suc i) ≡ false → sooner x j (Some k) i ≡ false
earlier None k j i h = refl
earlier (Some x) k j i h = grind (arith, ints, nat_tests)

-- the first of two stays where the other isn't less
keeps : (k : ℤ) (x : Option ℤ) (e f j : ℕ) → sooner x (suc j) (Some k) 0 ≡ false → the_sooner (Some (k, e)) (keyed x f) ≡ Some (k, e)
keeps k None e f j h = refl
keeps k (Some x) e f j h = grind (arith, ints, nat_tests)

-- the second of two is taken where the first isn't as small
takes : (k : ℤ) (x : Option ℤ) (e f i : ℕ) → sooner x 0 (Some k) (suc i) ≡ false → the_sooner (keyed x e) (Some (k, f)) ≡ Some (k, f)
takes k None e f i h = refl
takes k (Some x) e f i h = grind (arith, ints, nat_tests)

-- a later key that isn't less changes nothing
least_above : (ks : List (Option ℤ)) (k : ℤ) (e f n : ℕ) → ((j : ℕ) → j < length ks → sooner (slice_index_or ks j None) (suc (n + j)) (Some k) 0 ≡ false) → the_sooner (Some (k, e)) (least (numbered f ks)) ≡ Some (k, e)
least_above [] k e f n h = refl
least_above (x ∷ ks) k e f n h =
    sym (sooner_assoc (Some (k, e)) (keyed x f) (least (numbered (f + 1) ks)))
    ∙ ap (λ a. the_sooner a (least (numbered (f + 1) ks))) (keeps k x e f (n + 0) (h 0 (omega arith)))
    ∙ least_above ks k e (f + 1) (n + 1) (λ j l. let e : n + suc j ≡ n + 1 + j = omega arith in rw e at (h (suc j) (omega (arith, l))))

pub least_none : (ks : List (Option ℤ)) (e : ℕ) → ((j : ℕ) → j < length ks → slice_index_or ks j None ≡ None) → least (numbered e ks) ≡ None
least_none [] e h = refl
least_none (x ∷ ks) e h = rw (h 0 (omega arith)) (least_none ks (e + 1) (λ j l. h (suc j) (omega (arith, l))))

pub least_at : (ks : List (Option ℤ)) (e i : ℕ) (k : ℤ) → i < length ks → slice_index_or ks i None ≡ Some k
    → ((j : ℕ) → j < length ks → sooner (slice_index_or ks j None) j (Some k) i ≡ false) → least (numbered e ks) ≡ Some (k, e + i)
least_at [] e i k l is h = absurd (omega (arith, l))
least_at (x ∷ ks) e zero k l is h =
    ap (λ a. the_sooner (keyed a e) (least (numbered (e + 1) ks))) is
    ∙ least_above ks k e (e + 1) 0 (λ j jl. let z : 0 + j ≡ j = omega arith in rw z (h (suc j) (omega (arith, jl))))
    ∙ ap (λ n. Some (k, n)) (omega arith)
least_at (x ∷ ks) e (suc i) k l is h =
    ap (the_sooner (keyed x e)) (least_at ks (e + 1) i k (omega (arith, l)) is (λ j jl. earlier (slice_index_or ks j None) k j i (h (suc j) (omega (arith, jl)))))
    ∙ takes k x e (e + 1 + i) i (h 0 (omega arith))
    ∙ ap (λ n. Some (k, n)) (omega arith)
