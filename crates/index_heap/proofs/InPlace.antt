-- A list that a loop maps in place.
use Rattle.std.proofs.Common.{◌≡◌, ℕ, ◌+◌, ◌<◌, List, ◌++◌, map, length, take, drop, set, get_or, ◌-◌, sym, ◌∙◌, ap, subst, arith}
use Rattle.std.specs.List.{All}
use Rattle.std.proofs.lemmas.List.{length-append, length-drop, length-take, length-map, get_or-append_right, get_or-drop, get_or-map, get_or_default}
use Rattle.std.proofs.lemmas.List.Edits.{map_over_more}

-- the element that comes next is still the old one
pub map_over_next : {X : Type 0} (f : X → X) (xs ys : List X) (i : ℕ) (d : X) → i < length xs → ys ≡ map f (take i xs) ++ drop i xs → get_or ys i d ≡ get_or xs i d
map_over_next f xs ys i d lt is =
    let n : length (map f (take i xs)) ≡ i = simp (length-map, length-take) (omega arith) in
    ap (λ zs. get_or zs i d) is
    ∙ get_or-append_right (map f (take i xs)) (drop i xs) i i d n (omega arith)
    ∙ get_or-drop i xs (i - i) d ∙ ap (λ k. get_or xs k d) (omega arith)

pub map_over_allowed : {X : Type 0} (P : X → Type 0) (f : X → X) (xs ys : List X) (i : ℕ) (d : X) → i < length xs → ys ≡ map f (take i xs) ++ drop i xs → All P (map f xs) → P (f (get_or ys i d))
map_over_allowed P f xs ys i d lt is all =
    subst P (get_or-map f xs i d (f d) lt ∙ ap f (sym (map_over_next f xs ys i d lt is))) (all i (f d) (simp length-map lt))

pub map_over_step : {X : Type 0} (f : X → X) (xs ys : List X) (i : ℕ) (d z : X) → i < length xs → ys ≡ map f (take i xs) ++ drop i xs → z ≡ f (get_or ys i d) → set ys i z ≡ map f (take (i + 1) xs) ++ drop (i + 1) xs
map_over_step f xs ys i d z lt is e =
    let n : length ys ≡ length xs = ap length is ∙ simp (length-append, length-map, length-take, length-drop) (omega arith) in
    ap (set ys i) e ∙ map_over_more f xs ys i (get_or ys i d) lt is (get_or_default ys i d (get_or ys i d) (omega arith))
