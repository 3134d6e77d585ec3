-- The limit tags of steps, from their arrivals and the intervals in force.
use Rattle.std.proofs.Common.{◌≡◌, ◌⊎◌, inl, inr, ℕ, ◌^◌, ◌==◌, Bool, true, false, not, ◌&&◌, nat_le, List, [], ◌∷◌, ◌++◌, length, filter, find, map, Option, Some, None, slice_get, ℤ, pos, refl, sym, ap, ap₂, ◌∙◌, arith}
use Rattle.std.proofs.lemmas.Bool.Decides.{nat_tests}
use Rattle.nbd_commands.specs.Terms.{Terms}
use Rattle.nbd_commands.specs.Verdict.{verdict_of}
use Rattle.nbd_commands.specs.Meaning.{may_want_memory}
use Rattle.reply_box.specs.Sessions.{is_here, is_open_at, is_left_at, is_here_at, outbox_at}
use Rattle.tag_clock.specs.Intervals.{Intervals}
use Rattle.tag_clock.specs.LimitTags.{Arrival, unrolled, beginnings}
use Rattle.tag_clock.proofs.Unrolled.{last_of, later-last_of, last_of-push, begun_on}
use Rattle.lone_export.specs.Alone.{Alone, Job, Moved, stays, moves, opening, own_step, answers_alone, outstanding, limit_tag}
use Rattle.lone_export.specs.LimitTags.{tag_of, arrived, interval_after, given_tags, accepted_arrivals, GivesUnrolledTags}
use Rattle.lone_export.specs.declared.step.Step.{Step}
use Rattle.lone_export.specs.declared.step.Step.TheVariants.{Attach, Arrive, Pick, Perform, Take, Leave, Gone, Retune}
use Rattle.lone_export.specs.declared.step.StepAnswer.{StepAnswer}
use Rattle.lone_export.specs.declared.step.StepAnswer.TheVariants.{Worn, Waiting, Retuned}
use Rattle.lone_export.specs.declared.step.StepAnswer.TheVariants as said
use Rattle.lone_export.proofs.Cases.{if_one, if_told, some_one}

-- the tag of one arrival more
next_tag : (state : Alone) (before : List Arrival) (t interval : ℕ) → state.rates.l_interval ≡ interval → state.last ≡ last_of before
    → limit_tag state t ≡ pos (unrolled (before ++ record { moment = t; interval = interval } ∷ []))
next_tag state before t interval same is = rw (same, is) (later-last_of before (record { moment = t; interval = interval }))

module _ {A : Type 0} where
  -- a step gives no tag and leaves the last one, or is an arrival that is given the next one; and what limit is in force
  record Tags (state : Alone) (one : Step A) (moved : Moved A) : Type 0 where
    tags : ((tag_of moved.answer ≡ None) × (moved.state.last ≡ state.last)) ⊎ ((t : ℕ) × (arrived one ≡ Some t) × (tag_of moved.answer ≡ Some (limit_tag state t)) × (moved.state.last ≡ Some (limit_tag state t)))
    interval : moved.state.rates.l_interval ≡ interval_after one moved.answer state.rates.l_interval

  no_tag : (state : Alone) (one : Step A) (moved : Moved A) → tag_of moved.answer ≡ None → moved.state.last ≡ state.last → moved.state.rates.l_interval ≡ interval_after one moved.answer state.rates.l_interval → Tags state one moved
  no_tag state one moved h k r = record { tags = inl (h, k); interval = r }

  tags_of_step : (terms : Terms) (state : Alone) (one : Step A) → Tags state one (own_step terms state one)
  tags_of_step terms state Attach =
      let P = Tags state Attach in
      if_one P (nat_le (2 ^ 56) state.count) (no_tag state Attach _ refl refl refl) (if_one P (length (filter is_here state.sessions) == 64) (no_tag state Attach _ refl refl refl) (no_tag state Attach _ refl refl refl))
  tags_of_step terms state (Arrive s t q) =
      let P = Tags state (Arrive s t q) in
      if_one P (not (is_open_at state.sessions s)) (no_tag state (Arrive s t q) _ refl refl refl)
      (if_one P (nat_le (2 ^ 56) state.count) (no_tag state (Arrive s t q) _ refl refl refl)
      (if_one P (outstanding state s == terms.window) (no_tag state (Arrive s t q) _ refl refl refl)
      (if_one P (not (verdict_of terms q == 0)) (no_tag state (Arrive s t q) _ refl refl refl)
      (if_one P (length state.waiting == terms.depth) (no_tag state (Arrive s t q) _ refl refl refl)
      (record { tags = inr (t, refl, refl, refl); interval = refl })))))
  tags_of_step terms state Pick = some_one (Tags state Pick) (slice_get state.waiting 0) (λ job h. no_tag state Pick _ refl refl refl) (no_tag state Pick _ refl refl refl)
  tags_of_step terms state (Perform n memory) =
      let P = Tags state (Perform n memory) in
      some_one P (find (λ job. job.number == n) state.out) (λ job h. if_one P (not memory && may_want_memory job.request) (no_tag state (Perform n memory) _ refl refl refl) (no_tag state (Perform n memory) _ refl refl refl)) (no_tag state (Perform n memory) _ refl refl refl)
  tags_of_step terms state (Take s) =
      let P = Tags state (Take s) in
      if_one P (not (is_here_at state.sessions s)) (no_tag state (Take s) _ refl refl refl)
      (some_one P (slice_get (outbox_at state.sessions s) 0) (λ reply h. no_tag state (Take s) _ refl refl refl)
      (if_one P (is_left_at state.sessions s && outstanding state s == 0) (no_tag state (Take s) _ refl refl refl) (no_tag state (Take s) _ refl refl refl)))
  tags_of_step terms state (Leave s) = if_one (Tags state (Leave s)) (not (is_open_at state.sessions s)) (no_tag state (Leave s) _ refl refl refl) (no_tag state (Leave s) _ refl refl refl)
  tags_of_step terms state (Gone s) = if_one (Tags state (Gone s)) (not (is_here_at state.sessions s)) (no_tag state (Gone s) _ refl refl refl) (no_tag state (Gone s) _ refl refl refl)
  tags_of_step terms state (Retune rates) =
      let P = Tags state (Retune rates) in
      if_one P (nat_le (2 ^ 56) state.count) (no_tag state (Retune rates) (stays state said.Worn) refl refl refl)
      (if_one P (not (length state.waiting == 0)) (no_tag state (Retune rates) (stays state said.Waiting) refl refl refl)
      (no_tag state (Retune rates) (moves (record state { rates = rates }) said.Retuned) refl refl refl))

  tags_from : (terms : Terms) (steps : List (Step A)) (state : Alone) (interval : ℕ) (before : List Arrival) → state.rates.l_interval ≡ interval → state.last ≡ last_of before →
      given_tags (answers_alone terms state steps) ≡ map (λ begun. pos (unrolled (before ++ begun))) (beginnings (accepted_arrivals interval steps (answers_alone terms state steps)))
  tags_from terms [] state interval before same is = refl
  tags_from terms (one ∷ steps) state interval before same is =
      go (own_step terms state one) (tags_of_step terms state one) (λ next after begun. tags_from terms steps next after begun)
    where
      go : (moved : Moved A) → Tags state one moved →
          ((next : Alone) (after : ℕ) (begun : List Arrival) → next.rates.l_interval ≡ after → next.last ≡ last_of begun → given_tags (answers_alone terms next steps) ≡ map (λ more. pos (unrolled (begun ++ more))) (beginnings (accepted_arrivals after steps (answers_alone terms next steps)))) →
          given_tags (moved.answer ∷ answers_alone terms moved.state steps) ≡ map (λ begun. pos (unrolled (before ++ begun))) (beginnings (accepted_arrivals interval (one ∷ steps) (moved.answer ∷ answers_alone terms moved.state steps)))
      go moved made ih = by_tags made.tags
        where
          after : ℕ
          after = interval_after one moved.answer interval

          kept : moved.state.rates.l_interval ≡ interval_after one moved.answer interval
          kept = made.interval ∙ ap (λ (n : ℕ). interval_after one moved.answer n) same

          by_tags : ((tag_of moved.answer ≡ None) × (moved.state.last ≡ state.last)) ⊎ ((t : ℕ) × (arrived one ≡ Some t) × (tag_of moved.answer ≡ Some (limit_tag state t)) × (moved.state.last ≡ Some (limit_tag state t))) →
              given_tags (moved.answer ∷ answers_alone terms moved.state steps) ≡ map (λ begun. pos (unrolled (before ++ begun))) (beginnings (accepted_arrivals interval (one ∷ steps) (moved.answer ∷ answers_alone terms moved.state steps)))
          by_tags (inl h) = rw h.0 (ih moved.state (interval_after one moved.answer interval) before kept (h.1 ∙ is))
          by_tags (inr h) =
              let arrival : Arrival = record { moment = h.0; interval = interval } in
              let tag : limit_tag state h.0 ≡ pos (unrolled (before ++ arrival ∷ [])) = next_tag state before h.0 interval same is in
              rw (h.2, h.1) (ap₂ (λ x xs. x ∷ xs) tag
              (ih moved.state (interval_after one moved.answer interval) (before ++ arrival ∷ []) kept (h.3 ∙ ap Some tag ∙ sym (last_of-push before arrival))
              ∙ sym (begun_on before arrival (beginnings (accepted_arrivals (interval_after one moved.answer interval) steps (answers_alone terms moved.state steps))))))

  pub unrolled_tags : (terms : Terms) (steps : List (Step A)) → GivesUnrolledTags terms steps
  unrolled_tags terms steps = tags_from terms steps (opening terms) terms.rates.l_interval [] refl refl

  -- the interval of the limit after a step
  pub interval_of_step : (terms : Terms) (state : Alone) (one : Step A) → (own_step terms state one).state.rates.l_interval ≡ interval_after one (own_step terms state one).answer state.rates.l_interval
  interval_of_step terms state one = (tags_of_step terms state one).interval

  -- a step leaves the rates, or nothing waits before it and after it
  abbrev pub Steady : Alone → Moved A → Type 0
  Steady state moved = (moved.state.rates ≡ state.rates) ⊎ ((state.waiting ≡ []) × (moved.state.waiting ≡ []))

  pub rates_of_step : (terms : Terms) (state : Alone) (one : Step A) → Steady state (own_step terms state one)
  rates_of_step terms state Attach = let P = Steady state in if_one P (nat_le (2 ^ 56) state.count) (inl refl) (if_one P (length (filter is_here state.sessions) == 64) (inl refl) (inl refl))
  rates_of_step terms state (Arrive s t q) =
      let P = Steady state in
      if_one P (not (is_open_at state.sessions s)) (inl refl)
      (if_one P (nat_le (2 ^ 56) state.count) (inl refl)
      (if_one P (outstanding state s == terms.window) (inl refl)
      (if_one P (not (verdict_of terms q == 0)) (inl refl) (if_one P (length state.waiting == terms.depth) (inl refl) (inl refl)))))
  rates_of_step terms state Pick = some_one (Steady state) (slice_get state.waiting 0) (λ job h. inl refl) (inl refl)
  rates_of_step terms state (Perform n memory) =
      some_one (Steady state) (find (λ job. job.number == n) state.out) (λ job h. if_one (Steady state) (not memory && may_want_memory job.request) (inl refl) (inl refl)) (inl refl)
  rates_of_step terms state (Take s) =
      let P = Steady state in
      if_one P (not (is_here_at state.sessions s)) (inl refl)
      (some_one P (slice_get (outbox_at state.sessions s) 0) (λ reply h. inl refl) (if_one P (is_left_at state.sessions s && outstanding state s == 0) (inl refl) (inl refl)))
  rates_of_step terms state (Leave s) = if_one (Steady state) (not (is_open_at state.sessions s)) (inl refl) (inl refl)
  rates_of_step terms state (Gone s) = if_one (Steady state) (not (is_here_at state.sessions s)) (inl refl) (inl refl)
  rates_of_step terms state (Retune rates) =
      let P = Steady state in
      if_one P (nat_le (2 ^ 56) state.count) (inl refl)
      (if_told P (not (length state.waiting == 0)) (λ h. inl refl) (λ h. inr (none state.waiting h, none state.waiting h)))
    where
      none : (xs : List Job) → not (length xs == 0) ≡ false → xs ≡ []
      none [] h = refl
      none (x ∷ xs) h = absurd (grind (arith, nat_tests, h))
