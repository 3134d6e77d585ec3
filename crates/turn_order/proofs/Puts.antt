-- A list with one element put in the place of another.
use Rattle.std.proofs.Common.{◌≡◌, ℕ, zero, suc, List, [], ◌∷◌, Option, Some, None, refl, ap, ◌∙◌}
use Rattle.std.specs.Prelude.{slice_get, slice_set}
use Rattle.nbd_base.specs.Words.{when_some}
use Rattle.turn_order.specs.declared.flow.Flow.{Flow}
use Rattle.turn_order.specs.Orders.{Order, placed}

pub get_same : {X : Type 0} (xs : List X) (e : ℕ) (f g : X) → slice_get xs e ≡ Some f → slice_get (slice_set xs e g) e ≡ Some g
get_same [] e f g h = absurd (cc)
get_same (x ∷ xs) zero f g h = refl
get_same (x ∷ xs) (suc e) f g h = get_same xs e f g h

pub get_other : {X : Type 0} (xs : List X) (e i : ℕ) (g : X) → (i ≡ e → ⊥) → slice_get (slice_set xs e g) i ≡ slice_get xs i
get_other [] e i g ne = refl
get_other (x ∷ xs) zero zero g ne = absurd (ne refl)
get_other (x ∷ xs) zero (suc i) g ne = refl
get_other (x ∷ xs) (suc e) zero g ne = refl
get_other (x ∷ xs) (suc e) (suc i) g ne = get_other xs e i g (λ q. ne (ap suc q))

pub put_swap : {X : Type 0} (xs : List X) (i j : ℕ) (a b : X) → (j ≡ i → ⊥) → slice_set (slice_set xs i a) j b ≡ slice_set (slice_set xs j b) i a
put_swap [] i j a b ne = refl
put_swap (x ∷ xs) zero zero a b ne = absurd (ne refl)
put_swap (x ∷ xs) zero (suc j) a b ne = refl
put_swap (x ∷ xs) (suc i) zero a b ne = refl
put_swap (x ∷ xs) (suc i) (suc j) a b ne = ap (λ ys. x ∷ ys) (put_swap xs i j a b (λ q. ne (ap suc q)))

-- a flow is changed by h, and another isn't
pub put_here : (o : Order) (x : ℕ) (f : Flow) (h : Flow → Flow) → slice_get o.flows x ≡ Some f → slice_get (when_some (slice_get o.flows x) (λ k. placed x (h k) o) o).flows x ≡ Some (h f)
put_here o x f h q = ap (λ (s : Option Flow). slice_get (when_some s (λ (k : Flow). placed x (h k) o) o).flows x) q ∙ get_same o.flows x f (h f) q

pub put_other : (o : Order) (e x : ℕ) (h : Flow → Flow) → (x ≡ e → ⊥) → slice_get (when_some (slice_get o.flows e) (λ k. placed e (h k) o) o).flows x ≡ slice_get o.flows x
put_other o e x h ne = go (slice_get o.flows e)
  where
    go : (s : Option Flow) → slice_get (when_some s (λ k. placed e (h k) o) o).flows x ≡ slice_get o.flows x
    go None = refl
    go (Some f) = get_other o.flows e x (h f) ne
