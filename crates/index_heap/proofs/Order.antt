-- The order of ids by key and number.
use Rattle.std.proofs.Common.{◌≡◌, ℕ, ℤ, true, false, Option, Some, None, List, slice_index_or, refl, arith}
use Rattle.std.proofs.lemmas.Int.{ints}
use Rattle.std.proofs.lemmas.Bool.Decides.{nat_tests}
use Rattle.index_heap.specs.Keys.{key_less}
use Rattle.index_heap.specs.Heap.{sooner, sooner_id}

pub sooner_one_way : (x : Option ℤ) (a : ℕ) (y : Option ℤ) (b : ℕ) → sooner x a y b ≡ true → sooner y b x a ≡ false
sooner_one_way None a y b e = grind arith
sooner_one_way (Some x) a None b e = refl
sooner_one_way (Some x) a (Some y) b e = grind (arith, ints, nat_tests)

-- not sooner is transitive
pub sooner_chain : (x : Option ℤ) (a : ℕ) (y : Option ℤ) (b : ℕ) (z : Option ℤ) (c : ℕ) → sooner x a y b ≡ false → sooner y b z c ≡ false → sooner x a z c ≡ false
sooner_chain None a y b z c e f = refl
sooner_chain (Some x) a None b z c e f = grind arith
sooner_chain (Some x) a (Some y) b None c e f = grind arith
sooner_chain (Some x) a (Some y) b (Some z) c e f = grind (arith, ints, nat_tests)

pub sooner_less : (o : ℤ) (x : Option ℤ) (a : ℕ) (y : Option ℤ) (b : ℕ) → sooner (key_less o x) a (key_less o y) b ≡ sooner x a y b
sooner_less o None a y b = refl
sooner_less o (Some x) a None b = refl
sooner_less o (Some x) a (Some y) b = grind (arith, ints)

pub never_self : (x : Option ℤ) (a : ℕ) → sooner x a x a ≡ false
never_self None a = refl
never_self (Some x) a = grind (arith, ints, nat_tests)

pub id_one_way : (keys : List (Option ℤ)) (a b : ℕ) → sooner_id keys a b ≡ true → sooner_id keys b a ≡ false
id_one_way keys a b e = sooner_one_way (slice_index_or keys a None) a (slice_index_or keys b None) b e

pub id_chain : (keys : List (Option ℤ)) (a b c : ℕ) → sooner_id keys a b ≡ false → sooner_id keys b c ≡ false → sooner_id keys a c ≡ false
id_chain keys a b c e f = sooner_chain (slice_index_or keys a None) a (slice_index_or keys b None) b (slice_index_or keys c None) c e f

pub id_never_self : (keys : List (Option ℤ)) (a : ℕ) → sooner_id keys a a ≡ false
id_never_self keys a = never_self (slice_index_or keys a None) a
