-- What one place more of a run adds.
use Rattle.std.proofs.Common.{◌≡◌, ◌⊎◌, ℕ, zero, suc, ◌+◌, ◌<◌, ◌≤◌, Bool, true, false, nat_le, List, [], ◌∷◌, ◌++◌, length, filter, take, drop, get_or, slice_get, Some, if◌then◌else◌, ℤ, pos, ◌+ℤ◌, refl, subst, ap, ◌∙◌, arith, inl, inr}
use Rattle.std.proofs.lemmas.Int.{ints}
use Rattle.std.proofs.lemmas.Bool.Decides.{nat_tests}
use Rattle.server_table.specs.declared.event.Event.{Event}
use Rattle.server_table.specs.declared.event.Answer.{Answer}
use Rattle.server_table.specs.Table.{Table, Setup}
use Rattle.server_table.specs.Steps.{Outcome, step, table_after, answers_of}
use Rattle.core_laws.specs.Shares.{fall, fallen}

-- from one place to a later one, place by place
pub along : (P : ℕ → Type 0) (i j : ℕ) → i ≤ j → P i → ((k : ℕ) → i ≤ k → k < j → P k → P (suc k)) → P j
along P i zero le base onward = subst P (none i le) base
  where
    none : (i : ℕ) → i ≤ 0 → i ≡ 0
    none i le = omega (arith, le)
along P i (suc j) le base onward = go (nat_le i j) refl (λ low. along P i j low base (λ k at_least lt. onward k at_least (later k lt)))
  where
    here : nat_le i j ≡ false → i ≡ suc j
    here h = grind (arith, nat_tests, h, le)

    before : nat_le i j ≡ true → i ≤ j
    before h = grind (arith, nat_tests, h)

    later : (k : ℕ) → k < j → k < suc j
    later k lt = omega (arith, lt)

    last : j < suc j
    last = omega arith

    go : (b : Bool) → nat_le i j ≡ b → (i ≤ j → P j) → P (suc j)
    go true h rest = onward j (before h) last (rest (before h))
    go false h rest = subst P (here h) base

pub counted : {B : Type 0} (p : B → Bool) (xs : List B) (x : B) → length (filter p (xs ++ x ∷ [])) ≡ length (filter p xs) + (if p x then 1 else 0)
counted p [] x = go (p x)
  where
    go : (b : Bool) → length (if b then (x ∷ []) else []) ≡ 0 + (if b then 1 else 0)
    go true = refl
    go false = refl
counted p (y ∷ xs) x = go (p y) (counted p xs x)
  where
    go : (b : Bool) → length (filter p (xs ++ x ∷ [])) ≡ length (filter p xs) + (if p x then 1 else 0) → length (if b then (y ∷ filter p (xs ++ x ∷ [])) else filter p (xs ++ x ∷ [])) ≡ length (if b then (y ∷ filter p xs) else filter p xs) + (if p x then 1 else 0)
    go true h = ap suc h ∙ one_more (length (filter p xs)) (if p x then 1 else 0)
      where
        one_more : (m n : ℕ) → suc (m + n) ≡ suc m + n
        one_more m n = omega arith
    go false h = h

module _ {A : Type 0} where
  -- the run has ended before
  pub record Ended (setup : Setup) (table : Table) (events : List (Event A)) (marks : List Bool) (k : ℕ) : Type 0 where
    pub tables : table_after setup table (take (suc k) events) marks ≡ table_after setup table (take k events) marks
    pub falls : fallen setup table (take (suc k) events) marks ≡ fallen setup table (take k events) marks
    pub answers : take (suc k) (answers_of setup table events marks) ≡ take k (answers_of setup table events marks)

  -- an event stands there
  pub record Onward (setup : Setup) (table : Table) (events : List (Event A)) (marks : List Bool) (k : ℕ) (event : Event A) (new : Outcome A) : Type 0 where
    pub stands : slice_get events k ≡ Some event
    pub answered : slice_get (answers_of setup table events marks) k ≡ Some new.answer
    pub tables : table_after setup table (take (suc k) events) marks ≡ new.table
    pub falls : fallen setup table (take (suc k) events) marks ≡ fallen setup table (take k events) marks +ℤ fall (table_after setup table (take k events) marks) event new.answer
    pub answers : take (suc k) (answers_of setup table events marks) ≡ take k (answers_of setup table events marks) ++ new.answer ∷ []

  pub record OnwardBy (setup : Setup) (table : Table) (events : List (Event A)) (marks : List Bool) (k : ℕ) : Type 0 where
    pub event : Event A
    pub memory : Bool
    pub by : Onward setup table events marks k event (step setup (table_after setup table (take k events) marks) event memory)

  pub onward : (setup : Setup) (events : List (Event A)) (table : Table) (marks : List Bool) (k : ℕ) → Ended setup table events marks k ⊎ OnwardBy setup table events marks k
  onward setup [] table marks zero = inl (record { tables = refl; falls = refl; answers = refl })
  onward setup [] table marks (suc k) = inl (record { tables = refl; falls = refl; answers = refl })
  onward setup (event ∷ events) table marks zero = inr (record {
    event = event;
    memory = get_or marks 0 true;
    by = record { stands = refl; answered = refl; tables = refl; falls = swap (fall table event (step setup table event (get_or marks 0 true)).answer); answers = refl };
  })
    where
      swap : (x : ℤ) → x +ℤ pos 0 ≡ pos 0 +ℤ x
      swap x = omega (arith, ints)
  onward setup (event ∷ events) table marks (suc k) = go (onward setup events (step setup table event (get_or marks 0 true)).table (drop 1 marks) k)
    where
      first : Outcome A
      first = step setup table event (get_or marks 0 true)

      by : ℤ
      by = fall table event first.answer

      regroup : (a b c : ℤ) → a +ℤ (b +ℤ c) ≡ (a +ℤ b) +ℤ c
      regroup a b c = omega (arith, ints)

      go : Ended setup first.table events (drop 1 marks) k ⊎ OnwardBy setup first.table events (drop 1 marks) k → Ended setup table (event ∷ events) marks (suc k) ⊎ OnwardBy setup table (event ∷ events) marks (suc k)
      go (inl h) = inl (record { tables = h.tables; falls = ap (λ x. by +ℤ x) h.falls; answers = ap (λ (xs : List (Answer A)). first.answer ∷ xs) h.answers })
      go (inr h) = inr (record {
        event = h.event;
        memory = h.memory;
        by = record {
          stands = h.by.stands;
          answered = h.by.answered;
          tables = h.by.tables;
          falls = ap (λ x. by +ℤ x) h.by.falls ∙ regroup by (fallen setup first.table (take k events) (drop 1 marks)) (fall (table_after setup first.table (take k events) (drop 1 marks)) h.event (step setup (table_after setup first.table (take k events) (drop 1 marks)) h.event h.memory).answer);
          answers = ap (λ (xs : List (Answer A)). first.answer ∷ xs) h.by.answers;
        };
      })
