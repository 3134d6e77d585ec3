-- What holds of both outcomes of a test or of a lookup holds of it.
use Rattle.std.proofs.Common.{◌≡◌, Bool, true, false, Option, Some, None, if◌then◌else◌, refl}
use Rattle.nbd_base.specs.Words.{when_some}

pub true_false : {A : Type 0} → true ≡ false → A
true_false e = absurd (cc)

pub if_told : {A : Type 0} (P : A → Type 0) (c : Bool) {a b : A} → (c ≡ true → P a) → (c ≡ false → P b) → P (if c then a else b)
if_told P true p q = p refl
if_told P false p q = q refl

pub some_told : {X A : Type 0} (P : A → Type 0) (o : Option X) {f : X → A} {d : A} → ((x : X) → o ≡ Some x → P (f x)) → (o ≡ None → P d) → P (when_some o f d)
some_told P None p q = q refl
some_told P (Some x) p q = p x refl

pub some_alike : {X A : Type 0} (f g : X → A) (d : A) → ((x : X) → f x ≡ g x) → (o : Option X) → when_some o f d ≡ when_some o g d
some_alike f g d h None = refl
some_alike f g d h (Some x) = h x
