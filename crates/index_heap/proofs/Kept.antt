-- Keys that are kept with an offset.
use Rattle.std.proofs.Common.{◌≡◌, ℕ, ℤ, pos, Option, Some, None, List, [], ◌∷◌, ◌++◌, length, take, set, to_z, of_z, refl, sym, ◌∙◌, ap, subst, arith}
use Rattle.std.specs.Prelude.{◌+ℤ◌, FitsSigned}
use mir.Syntax.{w128}
use Rattle.std.proofs.lemmas.Int.{ints, to_z-of_z}
use Rattle.std.proofs.lemmas.List.{take_at, length-map, map-set}
use Rattle.std.proofs.lemmas.List.Elements.{All-set}
use Rattle.nbd_base.specs.Range.{InRange, IsOptionInRange}
use Rattle.index_heap.specs.Keys.{key_less, keys_less, AllKeysInRange, IsNear}

pub near_fits : (o : ℤ) → IsNear o → FitsSigned w128 o
near_fits o h = let n = h.near in search (arith, ints)

pub sum_fits : (o d : ℤ) → IsNear o → InRange d → FitsSigned w128 (o +ℤ d)
sum_fits o d h k = let n = h.near in let m = k.in_range in search (arith, ints)

pub sum_is : (o d : ℤ) → IsNear o → InRange d → FitsSigned w128 d → to_z w128 (of_z w128 (to_z w128 (of_z w128 o) +ℤ to_z w128 (of_z w128 d))) ≡ o +ℤ d
sum_is o d h k f = rw (to_z-of_z w128 o (near_fits o h), to_z-of_z w128 d f, to_z-of_z w128 (o +ℤ d) (sum_fits o d h k)) refl

less_nothing : (x : Option ℤ) → key_less (pos 0) x ≡ x
less_nothing None = refl
less_nothing (Some x) = ap (λ (y : ℤ). Some y) (omega (arith, ints))

pub less_zero : (ks : List (Option ℤ)) → keys_less (pos 0) ks ≡ ks
less_zero [] = refl
less_zero (x ∷ ks) = rw (less_nothing x, less_zero ks) refl

less_more : (o d : ℤ) (x : Option ℤ) → key_less (o +ℤ d) x ≡ key_less d (key_less o x)
less_more o d None = refl
less_more o d (Some x) = ap (λ (y : ℤ). Some y) (omega (arith, ints))

-- first by one offset, then by another
pub less_twice : (o d : ℤ) (ks : List (Option ℤ)) → keys_less (o +ℤ d) ks ≡ keys_less d (keys_less o ks)
less_twice o d [] = refl
less_twice o d (x ∷ ks) = rw (less_more o d x, less_twice o d ks) refl

pub folded_keys : (n : ℕ) (xs ys zs : List (Option ℤ)) (o : ℤ) → ys ≡ keys_less o xs → length xs ≡ n → take n (ys ++ zs) ≡ keys_less o xs
folded_keys n xs ys zs o e l = take_at ys zs n (ap length e ∙ simp length-map l) ∙ e

-- one key is written
pub put_view : (o : ℤ) (ks now : List (Option ℤ)) (id : ℕ) (x y : Option ℤ) → keys_less o ks ≡ now → key_less o x ≡ y → keys_less o (set ks id x) ≡ set now id y
put_view o ks now id x y e f = map-set (key_less o) ks id x ∙ ap (λ (l : List (Option ℤ)). set l id (key_less o x)) e ∙ ap (set now id) f

pub put_in_range : (o : ℤ) (ks : List (Option ℤ)) (id : ℕ) (x y : Option ℤ) → key_less o x ≡ y → IsOptionInRange y → AllKeysInRange (keys_less o ks) → AllKeysInRange (keys_less o (set ks id x))
put_in_range o ks id x y f h all = subst AllKeysInRange (sym (put_view o ks (keys_less o ks) id x y refl f)) (All-set IsOptionInRange (keys_less o ks) id y h all)

pub range_fits : (d : ℤ) → InRange d → FitsSigned w128 d
range_fits d h = let n = h.in_range in search (arith, ints)

pub key_fits : (x : Option ℤ) (key : ℤ) → x ≡ Some key → IsOptionInRange x → FitsSigned w128 key
key_fits None key e h = cc
key_fits (Some k) key e h = let same : k ≡ key = cc in subst (λ (z : ℤ). FitsSigned w128 z) same (range_fits k h)

pub zero_near : IsNear (pos 0)
zero_near = record { near = omega arith }
