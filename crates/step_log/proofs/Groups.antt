-- The groups of a log: a step more at the end.
use Rattle.std.proofs.Common.{◌≡◌, ℕ, zero, suc, ◌-◌, ◌<◌, List, [], ◌∷◌, ◌++◌, length, slice_set, slice_index_or, sym, ap, ◌∙◌, arith}
use Rattle.std.proofs.lemmas.List.{append_assoc, append-nil}
use Rattle.step_log.specs.declared.group.Group.{Group}
use Rattle.step_log.specs.declared.rest.Rest.{Rest}
use Rattle.step_log.specs.Steps.{KeptStep, kept_step}
use Rattle.step_log.specs.Log.{rest_steps, group_steps, steps_in}

module _ {A : Type 0} where
  -- an group more
  pub steps-append : (groups : List (Group A)) (group : Group A) → steps_in (groups ++ group ∷ []) ≡ steps_in groups ++ group_steps group
  steps-append [] group = append-nil (group_steps group)
  steps-append (first ∷ groups) group = ap (λ (l : List KeptStep). group_steps first ++ l) (steps-append groups group) ∙ sym (append_assoc (group_steps first) (steps_in groups) (group_steps group))

  joined : (groups : List (Group A)) (k : ℕ) (last : Group A) (rest : Rest) (one : KeptStep) → length groups ≡ suc k → last ≡ slice_index_or groups k last
      → rest_steps rest ≡ rest_steps last.rest ++ one ∷ [] → steps_in (slice_set groups k (record { step = last.step; rest = rest })) ≡ steps_in groups ++ one ∷ []
  joined [] k last rest one all is more = absurd (omega arith)
  joined (first ∷ []) zero last rest one all is more =
      ap (λ (l : List KeptStep). (kept_step last.step ∷ l) ++ []) more
      ∙ append-nil (group_steps last ++ one ∷ [])
      ∙ ap (λ (e : Group A). group_steps e ++ one ∷ []) is
      ∙ ap (λ (l : List KeptStep). l ++ one ∷ []) (sym (append-nil (group_steps first)))
  joined (first ∷ []) (suc k) last rest one all is more = absurd (omega arith)
  joined (first ∷ second ∷ groups) zero last rest one all is more = absurd (omega arith)
  joined (first ∷ second ∷ groups) (suc k) last rest one all is more =
      ap (λ (l : List KeptStep). group_steps first ++ l) (joined (second ∷ groups) k last rest one (omega arith) is more)
      ∙ sym (append_assoc (group_steps first) (steps_in (second ∷ groups)) (one ∷ []))

  -- the last group has a step more
  pub steps-joined : (groups : List (Group A)) (n : ℕ) (last : Group A) (rest : Rest) (one : KeptStep) → n ≡ length groups → 0 < n → last ≡ slice_index_or groups (n - 1) last
      → rest_steps rest ≡ rest_steps last.rest ++ one ∷ [] → steps_in (slice_set groups (n - 1) (record { step = last.step; rest = rest })) ≡ steps_in groups ++ one ∷ []
  steps-joined groups n last rest one all some is more = joined groups (n - 1) last rest one (omega arith) is more
