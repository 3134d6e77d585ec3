-- Tests and lookups, for any type: what holds of both outcomes holds of the test.
use Rattle.std.proofs.Common.{◌≡◌, Bool, true, false, Option, Some, None, option_map, if◌then◌else◌, refl, subst}
use Rattle.nbd_base.specs.Words.{when_some}

pub true_false : {A : Type 0} → true ≡ false → A
true_false e = absurd (cc)

-- ---- one value

pub if_one : {A : Type 0} (P : A → Type 0) (c : Bool) {a b : A} → P a → P b → P (if c then a else b)
if_one P true p q = p
if_one P false p q = q

-- the same, with what the test tells
pub if_told : {A : Type 0} (P : A → Type 0) (c : Bool) {a b : A} → (c ≡ true → P a) → (c ≡ false → P b) → P (if c then a else b)
if_told P true p q = p refl
if_told P false p q = q refl

pub some_one : {X A : Type 0} (P : A → Type 0) (o : Option X) {f : X → A} {d : A} → ((x : X) → o ≡ Some x → P (f x)) → P d → P (when_some o f d)
some_one P None p q = q
some_one P (Some x) p q = p x refl

pub some_told : {X A : Type 0} (P : A → Type 0) (o : Option X) {f : X → A} {d : A} → ((x : X) → o ≡ Some x → P (f x)) → (o ≡ None → P d) → P (when_some o f d)
some_told P None p q = q refl
some_told P (Some x) p q = p x refl

-- ---- two values by the same test

pub if_both : {A B : Type 0} (P : A → B → Type 0) (c d : Bool) {a b : A} {a' b' : B} → c ≡ d → P a a' → P b b' → P (if c then a else b) (if d then a' else b')
if_both P true true e p q = p
if_both P false false e p q = q
if_both P true false e p q = absurd (cc)
if_both P false true e p q = absurd (cc)

some_both_at : {X Y A B : Type 0} (P : A → B → Type 0) (g : X → Y) (o : Option X) (f : X → A) (d : A) (f' : Y → B) (d' : B) → ((x : X) → o ≡ Some x → P (f x) (f' (g x))) → P d d' → P (when_some o f d) (when_some (option_map g o) f' d')
some_both_at P g None f d f' d' p q = q
some_both_at P g (Some x) f d f' d' p q = p x refl

-- the second looks up what g makes of what the first finds
pub some_both : {X Y A B : Type 0} (P : A → B → Type 0) (g : X → Y) (o : Option X) (o' : Option Y) {f : X → A} {d : A} (f' : Y → B) {d' : B} → option_map g o ≡ o' → ((x : X) → o ≡ Some x → P (f x) (f' (g x))) → P d d' → P (when_some o f d) (when_some o' f' d')
some_both {X} {Y} {A} {B} P g o o' {f} {d} f' {d'} e p q = subst (λ (k : Option Y). P (when_some o f d) (when_some k f' d')) e (some_both_at P g o f d f' d' p q)

-- ---- one value is f of the other

pub fork : {A B : Type 0} (f : B → A) (c : Bool) {a b : A} {x y : B} → (c ≡ true → a ≡ f x) → (c ≡ false → b ≡ f y) → (if c then a else b) ≡ f (if c then x else y)
fork f true p q = p refl
fork f false p q = q refl

pub fork_some : {A B X : Type 0} (f : B → A) (o : Option X) {g : X → A} {d : A} {h : X → B} {e : B} → ((x : X) → o ≡ Some x → g x ≡ f (h x)) → d ≡ f e → when_some o g d ≡ f (when_some o h e)
fork_some f None p q = q
fork_some f (Some x) p q = p x refl
