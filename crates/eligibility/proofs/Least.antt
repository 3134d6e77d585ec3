-- The least candidate of a list that grows at its end.
use Rattle.std.proofs.Common.{◌≡◌, ℕ, ◌+◌, ◌<◌, ℤ, Option, None, List, [], ◌∷◌, ◌++◌, length, take, get_or, ◌∙◌, ap, arith}
use Rattle.std.proofs.lemmas.List.{take_more, length-take}
use Rattle.tag_clock.specs.declared.Tags.{Tags}
use Rattle.nbd_base.specs.Least.{the_sooner, least, keyed}
use Rattle.nbd_base.proofs.Least.{sooner_none, least-append}
use Rattle.eligibility.specs.Choice.{slot_key, candidates}

pub candidates-append : (key : Tags → Option ℤ) (e : ℕ) (xs ys : List (Option Tags)) → candidates key e (xs ++ ys) ≡ candidates key e xs ++ candidates key (e + length xs) ys
candidates-append key e [] ys = ap (λ n. candidates key n ys) (omega arith)
candidates-append key e (x ∷ xs) ys =
    ap (λ cs. keyed (slot_key key x) e ∷ cs) (candidates-append key (e + 1) xs ys ∙ ap (λ n. candidates key (e + 1) xs ++ candidates key n ys) (omega arith))

-- the next slot is looked at
pub least_more : (key : Tags → Option ℤ) (slots : List (Option Tags)) (i : ℕ) → i < length slots → least (candidates key 0 (take (i + 1) slots)) ≡ the_sooner (least (candidates key 0 (take i slots))) (keyed (slot_key key (get_or slots i None)) i)
least_more key slots i lt =
    let n : 0 + length (take i slots) ≡ i = simp length-take (omega arith) in
    ap (λ xs. least (candidates key 0 xs)) (take_more slots i None lt)
    ∙ ap least (candidates-append key 0 (take i slots) (get_or slots i None ∷ []))
    ∙ least-append (candidates key 0 (take i slots)) _
    ∙ ap (the_sooner (least (candidates key 0 (take i slots)))) (sooner_none (keyed (slot_key key (get_or slots i None)) (0 + length (take i slots))) ∙ ap (keyed (slot_key key (get_or slots i None))) n)
