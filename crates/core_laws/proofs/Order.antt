-- The order of an export's rows, which every step keeps.
use Rattle.std.proofs.Common.{◌≡◌, ◌⊎◌, ℕ, ◌<◌, ◌≤◌, Bool, true, false, ◌&&◌, ◌||◌, nat_lt, ◌==◌, List, [], ◌∷◌, filter, Option, Some, None, if◌then◌else◌, ℤ, pos, ◌-ℤ◌, ◌+ℤ◌, ◌≤ℤ◌, ◌<ℤ◌, int_lt, refl, sym, subst, ap, ◌∙◌, arith, inl, inr}
use Rattle.std.specs.Ordering.{int_eq}
use Rattle.std.specs.Int.{int_max}
use Rattle.std.specs.List.{AllByRecursion}
use Rattle.std.proofs.lemmas.Int.{ints}
use Rattle.std.proofs.lemmas.Bool.Decides.{nat_tests}
use Rattle.std.proofs.lemmas.Option.{same_Some, none-some}
use Rattle.lone_export.proofs.Cases.{if_one, some_one}
use Rattle.core_laws.proofs.Lists.{all_here, all_pass}
use Rattle.nbd_base.specs.Words.{when_some}
use Rattle.server_table.specs.Table.{Row, precedes, foremost}

-- ---- the order of choice, on plain numbers

abbrev pub before : ℤ → ℤ → ℕ → ℕ → ℕ → ℕ → Bool
before a b e f m n = int_lt a b || (int_eq a b && (nat_lt e f || (e == f && nat_lt m n)))

one_way : (a b : ℤ) (e f m n : ℕ) → before a b e f m n ≡ true → before b a f e n m ≡ false
one_way a b e f m n h = grind (arith, ints, nat_tests, h)

-- what it tells when it fails
record NotBefore (a b : ℤ) (e f m n : ℕ) : Type 0 where
  told : (b <ℤ a) ⊎ ((a ≡ b) × ((f < e) ⊎ ((e ≡ f) × (n ≤ m))))

not_before : (a b : ℤ) (e f m n : ℕ) → before a b e f m n ≡ false → NotBefore a b e f m n
not_before a b e f m n h = record { told = grind (arith, ints, nat_tests, h) }

from_not_before : (a b : ℤ) (e f m n : ℕ) → NotBefore a b e f m n → before a b e f m n ≡ false
from_not_before a b e f m n h = grind (arith, ints, nat_tests, h.told)

chained : (a b c : ℤ) (e f g m n o : ℕ) → (b <ℤ a) ⊎ ((a ≡ b) × ((f < e) ⊎ ((e ≡ f) × (n ≤ m)))) → (c <ℤ b) ⊎ ((b ≡ c) × ((g < f) ⊎ ((f ≡ g) × (o ≤ n)))) → (c <ℤ a) ⊎ ((a ≡ c) × ((g < e) ⊎ ((e ≡ g) × (o ≤ m))))
chained a b c e f g m n o (inl h) (inl k) = inl (omega (arith, ints))
chained a b c e f g m n o (inl h) (inr k) = inl (subst (λ (x : ℤ). x <ℤ a) k.0 h)
chained a b c e f g m n o (inr h) (inl k) = inl (subst (λ (x : ℤ). c <ℤ x) (sym h.0) k)
chained a b c e f g m n o (inr h) (inr k) = inr (h.0 ∙ k.0, both h.1 k.1)
  where
    both : (f < e) ⊎ ((e ≡ f) × (n ≤ m)) → (g < f) ⊎ ((f ≡ g) × (o ≤ n)) → (g < e) ⊎ ((e ≡ g) × (o ≤ m))
    both (inl h) (inl k) = inl (omega arith)
    both (inl h) (inr k) = inl (omega (arith, k.0))
    both (inr h) (inl k) = inl (omega (arith, h.0))
    both (inr h) (inr k) = inr (h.0 ∙ k.0, omega (arith, h.1, k.1))

chain : (a b c : ℤ) (e f g m n o : ℕ) → before a b e f m n ≡ false → before b c f g n o ≡ false → before a c e g m o ≡ false
chain a b c e f g m n o h k = from_not_before a c e g m o (record { told = chained a b c e f g m n o (not_before a b e f m n h).told (not_before b c f g n o k).told })

pub comes_first : (a b : ℤ) (e f m n : ℕ) → a ≤ℤ b → e ≡ f → m < n → before a b e f m n ≡ true
comes_first a b e f m n le same lt = grind (arith, ints, nat_tests)

pub larger : (a : ℤ) (i t : ℕ) → a ≤ℤ int_max (a +ℤ pos i) (pos t)
larger a i t = grind (arith, ints)

pub lowered_le : (a b c : ℤ) → a ≤ℤ b → (a -ℤ c) ≤ℤ (b -ℤ c)
lowered_le a b c h = omega (arith, ints)

-- ---- an element of a list

abbrev pub Mem : Row → List Row → Type 0
Mem x [] = ⊥
Mem x (y ∷ ys) = (y ≡ x) ⊎ Mem x ys

pub mem_filter : (p : Row → Bool) (x : Row) (xs : List Row) → p x ≡ true → Mem x xs → Mem x (filter p xs)
mem_filter p x [] h m = m
mem_filter p x (y ∷ ys) h (inl is) = rw (ap p is, h) (inl is)
mem_filter p x (y ∷ ys) h (inr m) = if_one (Mem x) (p y) (inr (mem_filter p x ys h m)) (mem_filter p x ys h m)

pub mem_all : (P : Row → Type 0) (x : Row) (xs : List Row) → AllByRecursion P xs → Mem x xs → P x
mem_all P x [] a m = absurd m
mem_all P x (y ∷ ys) a (inl is) = subst P is a.0
mem_all P x (y ∷ ys) a (inr m) = mem_all P x ys a.1 m

pub mem_of_filter : (p : Row → Bool) (x : Row) (xs : List Row) → Mem x (filter p xs) → Mem x xs
mem_of_filter p x [] m = m
mem_of_filter p x (y ∷ ys) m = go (mem_of_filter p x ys) (p y) m
  where
    go : (Mem x (filter p ys) → Mem x ys) → (b : Bool) → Mem x (if b then (y ∷ filter p ys) else filter p ys) → (y ≡ x) ⊎ Mem x ys
    go ih true (inl is) = inl is
    go ih true (inr k) = inr (ih k)
    go ih false k = inr (ih k)

pub mem_passes : (p : Row → Bool) (x : Row) (xs : List Row) → Mem x (filter p xs) → p x ≡ true
mem_passes p x xs m = mem_all (λ y. p y ≡ true) x (filter p xs) (all_pass p xs) m

-- ---- the least row

pub foremost_mem : (key : Row → ℤ) (xs : List Row) (c : Row) → foremost key xs ≡ Some c → Mem c xs
foremost_mem key [] c h = absurd (grind (arith, h))
foremost_mem key (x ∷ xs) c h = go (foremost key xs) (foremost_mem key xs) h
  where
    go : (o : Option Row) → ((c : Row) → o ≡ Some c → Mem c xs) → when_some o (λ best. if precedes key best x then Some best else Some x) (Some x) ≡ Some c → (x ≡ c) ⊎ Mem c xs
    go None ih h = inl (same_Some x c h)
    go (Some best) ih h = pick (precedes key best x) h
      where
        pick : (b : Bool) → (if b then Some best else Some x) ≡ Some c → (x ≡ c) ⊎ Mem c xs
        pick true h = inr (ih c h)
        pick false h = inl (same_Some x c h)

-- no row comes before the least one
pub foremost_first : (key : Row → ℤ) (xs : List Row) (c : Row) → foremost key xs ≡ Some c → AllByRecursion (λ x. precedes key x c ≡ false) xs
foremost_first key [] c h = tt
foremost_first key (x ∷ xs) c h = go (foremost key xs) (foremost_first key xs) refl h
  where
    self : (x : Row) → precedes key x x ≡ false
    self x = grind (arith, ints, nat_tests)

    none_empty : (xs : List Row) → foremost key xs ≡ None → AllByRecursion (λ y. precedes key y x ≡ false) xs
    none_empty [] e = tt
    none_empty (y ∷ ys) e = absurd (some_one (λ (o : Option Row). o ≡ None → ⊥) (foremost key ys) (λ best is. if_one (λ (o : Option Row). o ≡ None → ⊥) (precedes key best y) (λ h. none-some best (sym h)) (λ h. none-some y (sym h))) (λ h. none-some y (sym h)) e)

    go : (o : Option Row) → ((c : Row) → o ≡ Some c → AllByRecursion (λ x. precedes key x c ≡ false) xs) → foremost key xs ≡ o → when_some o (λ best. if precedes key best x then Some best else Some x) (Some x) ≡ Some c → (precedes key x c ≡ false) × AllByRecursion (λ x. precedes key x c ≡ false) xs
    go None ih is h = subst (λ (k : Row). (precedes key x k ≡ false) × AllByRecursion (λ y. precedes key y k ≡ false) xs) (same_Some x c h) (self x, none_empty xs is)
    go (Some best) ih is h = pick (precedes key best x) refl h
      where
        pick : (b : Bool) → precedes key best x ≡ b → (if b then Some best else Some x) ≡ Some c → (precedes key x c ≡ false) × AllByRecursion (λ x. precedes key x c ≡ false) xs
        pick true e h = subst (λ (k : Row). (precedes key x k ≡ false) × AllByRecursion (λ y. precedes key y k ≡ false) xs) (same_Some best c h) (one_way (key best) (key x) best.export x.export best.number x.number e, ih best refl)
        pick false e h = subst (λ (k : Row). (precedes key x k ≡ false) × AllByRecursion (λ y. precedes key y k ≡ false) xs) (same_Some x c h)
            (self x, all_here (λ y. precedes key y best ≡ false) (λ y. precedes key y x ≡ false) (λ y n. chain (key y) (key best) (key x) y.export best.export x.export y.number best.number x.number n e) xs (ih best refl))
