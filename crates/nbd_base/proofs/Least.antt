-- The least of a list, piece by piece.
use Rattle.std.proofs.Common.{◌≡◌, ℤ, Option, Some, None, List, [], ◌∷◌, ◌++◌, refl, sym, ◌∙◌, ap, arith}
use Rattle.std.proofs.lemmas.Int.{ints}
use Rattle.nbd_base.specs.Least.{the_sooner, least}

pub sooner_assoc : {B : Type 0} (a b c : Option (ℤ × B)) → the_sooner (the_sooner a b) c ≡ the_sooner a (the_sooner b c)
sooner_assoc None b c = refl
sooner_assoc (Some a) None c = refl
sooner_assoc (Some a) (Some b) None = grind (arith, ints)
sooner_assoc (Some a) (Some b) (Some c) = grind (arith, ints)

pub sooner_none : {B : Type 0} (a : Option (ℤ × B)) → the_sooner a None ≡ a
sooner_none None = refl
sooner_none (Some a) = refl

pub least-append : {B : Type 0} (xs ys : List (Option (ℤ × B))) → least (xs ++ ys) ≡ the_sooner (least xs) (least ys)
least-append [] ys = refl
least-append (x ∷ xs) ys = ap (the_sooner x) (least-append xs ys) ∙ sym (sooner_assoc x (least xs) (least ys))
