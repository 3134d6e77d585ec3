-- Steps that are made again one after another.
use Rattle.std.proofs.Common.{◌≡◌, ℕ, suc, ◌+◌, ◌<◌, List, [], ◌∷◌, ◌++◌, length, take, slice_index_or, refl, sym, ap, ◌∙◌, arith, append_assoc}
use Rattle.std.proofs.Math.Seq.{take-suc}
use Rattle.std.proofs.lemmas.List.{append-nil}
use Rattle.nbd_commands.specs.Terms.{Terms}
use Rattle.lone_export.specs.Alone.{Alone, Moved, own_step, alone, answers_alone}
use Rattle.lone_export.specs.Lone.{Whole, Does, IsReplayed}
use Rattle.lone_export.specs.declared.step.Step.{Step}
use Rattle.lone_export.specs.declared.step.StepAnswer.{StepAnswer}

module _ {A : Type 0} where
  alone-last : (terms : Terms) (state : Alone) (front : List (Step A)) (one : Step A) → alone terms state (front ++ one ∷ []) ≡ (own_step terms (alone terms state front) one).state
  alone-last terms state [] one = refl
  alone-last terms state (first ∷ front) one = alone-last terms (own_step terms state first).state front one

  answers-last : (terms : Terms) (state : Alone) (front : List (Step A)) (one : Step A)
      → answers_alone terms state (front ++ one ∷ []) ≡ answers_alone terms state front ++ (own_step terms (alone terms state front) one).answer ∷ []
  answers-last terms state [] one = refl
  answers-last terms state (first ∷ front) one = ap (λ xs. (own_step terms state first).answer ∷ xs) (answers-last terms (own_step terms state first).state front one)

  pub replayed-none : (w : Whole) (said : List (StepAnswer A)) → IsReplayed w w [] said said
  replayed-none w said = record { state = refl; answers = sym (append-nil said); terms = refl; inflight = refl }

  -- one step more
  pub replayed-more : (old now new : Whole) (front : List (Step A)) (one : Step A) (answer : StepAnswer A) (before after more : List (StepAnswer A))
      → IsReplayed old now front before after → Does now new one answer → more ≡ after ++ answer ∷ [] → IsReplayed old new (front ++ one ∷ []) before more
  replayed-more old now new front one answer before after more is does told =
      let made : own_step old.terms (alone old.terms old.state front) one ≡ record { state = new.state; answer = answer } =
      (λ i. own_step (sym is.terms i) (sym is.state i) one) ∙ does.did in
      record {
        state = sym (alone-last old.terms old.state front one ∙ ap (λ (m : Moved A). m.state) made);
        answers =
            told ∙ ap (λ xs. xs ++ answer ∷ []) is.answers ∙ append_assoc before (answers_alone old.terms old.state front) (answer ∷ [])
            ∙ ap (λ xs. before ++ xs) (sym (answers-last old.terms old.state front one ∙ ap (λ (m : Moved A). answers_alone old.terms old.state front ++ m.answer ∷ []) made));
        terms = does.terms ∙ is.terms;
        inflight = does.inflight ∙ is.inflight;
      }

-- the first n + 1 of a list
pub front-more : {X : Type 0} (xs : List X) (n : ℕ) (x : X) → n < length xs → x ≡ slice_index_or xs n x → take (n + 1) xs ≡ take n xs ++ x ∷ []
front-more xs n x inside is =
    let same : n + 1 ≡ suc n = omega arith in
    ap (λ k. take k xs) same ∙ take-suc xs n x inside ∙ ap (λ y. take n xs ++ y ∷ []) (sym is)

pub told-more : {X : Type 0} (xs ys zs : List X) (x : X) → zs ≡ ys ++ x ∷ [] → ys ≡ xs → zs ≡ xs ++ x ∷ []
told-more xs ys zs x more same = more ∙ ap (λ list. list ++ x ∷ []) same
