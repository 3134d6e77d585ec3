-- What can still come of the sessions of a box is what can come of those that are kept.
use Rattle.std.proofs.Common.{◌≡◌, ◌≢◌, ◌⊎◌, ℕ, zero, suc, ◌+◌, ◌*◌, ◌<◌, ◌≤◌, ◌^◌, if◌then◌else◌, Bool, true, false, List, [], ◌∷◌, ◌++◌, length, Option, Some, None, cond, refl, sym, ap, ◌∙◌, inl, inr, arith}
use Rattle.std.proofs.lemmas.Bool.{cases_eq, eq-eqb, ne_eqb}
use Rattle.std.proofs.Math.Nat.{mul-le-mul_right}
use Rattle.std.specs.Ordering.{nat_cmp, eq_by_cmp, is_eq}
use Rattle.std.specs.declared.cmp.Ordering.TheVariants.{Less}
use Rattle.std.specs.Cmp.{unsigned_tied}
use Rattle.std.specs.List.{AllByRecursion}
use Rattle.std.specs.List.Sorted.{IsStrictlySortedBy}
use Rattle.std.specs.Map.{lookup, keys_of, values_of}
use Rattle.std.specs.BTreeMap.{BTreeMap, get, values, btree_map_len, IsOrdered}
use Rattle.reply_box.specs.declared.seat.Seat.{Seat}
use Rattle.reply_box.specs.Sessions.{Session, session_worth, sessions_worth}
use Rattle.reply_box.specs.declared.seat.SessionState.TheVariants.{Open, Left}
use Rattle.reply_box.specs.Seats.{each_below, state_of, session_of, sessions_of, seat_worth, seats_worth, IsBox}

-- ---- sums over the numbers below another

abbrev total : (ℕ → ℕ) → ℕ → ℕ
total f zero = 0
total f (suc n) = total f n + f n

total-alike : (f g : ℕ → ℕ) (n : ℕ) → ((k : ℕ) → k < n → g k ≡ f k) → total g n ≡ total f n
total-alike f g zero alike = refl
total-alike f g (suc n) alike = let a = total-alike f g n (λ k l. alike k (omega arith)) in let b = alike n (omega arith) in omega arith

total-none : (f : ℕ → ℕ) (n : ℕ) → ((k : ℕ) → f k ≡ 0) → total f n ≡ 0
total-none f zero none = refl
total-none f (suc n) none = let a = total-none f n none in let b = none n in omega arith

-- one number has more
total-more : (f g : ℕ → ℕ) (n k : ℕ) → k < n → f k ≡ 0 → ((j : ℕ) → j ≢ k → g j ≡ f j) → total g n ≡ total f n + g k
total-more f g zero k less none others = absurd (omega arith)
total-more f g (suc n) k less none others = elim (cases_eq n k) [
  | inl same ↦
      let a = total-alike f g n (λ j l. others j (λ e. absurd (omega arith))) in
      let b : g n ≡ g k = ap g same in
      let c : f n ≡ 0 = ap f same ∙ none in
      omega arith
  | inr other ↦
      let a = total-more f g n k (omega arith) none others in
      let b = others n other in
      omega arith
]

-- ---- sessions by number

abbrev one_worth : Session → ℕ
one_worth session = length session.outbox + session_worth session.state

worth-append : (xs : List Session) (x : Session) → sessions_worth (xs ++ x ∷ []) ≡ sessions_worth xs + one_worth x
worth-append [] x = omega arith
worth-append (y ∷ xs) x = let a = worth-append xs x in omega arith

worth-below : (f : ℕ → Session) (n : ℕ) → sessions_worth (each_below f n) ≡ total (λ k. one_worth (f k)) n
worth-below f zero = refl
worth-below f (suc n) = let a = worth-append (each_below f n) (f n) in let b = worth-below f n in omega arith

-- ---- sessions as they are kept

module _ {A : Type 0} where
  abbrev at : List (ℕ × Seat A) → ℕ → Option (Seat A)
  at es k = lookup (λ q. eq_by_cmp nat_cmp k q) es

  at_first : (e : ℕ × Seat A) (es : List (ℕ × Seat A)) (k : ℕ) → k ≡ e.0 → at (e ∷ es) k ≡ Some e.1
  at_first e es k same = ap (λ b. cond b (Some e.1) (at es k)) (unsigned_tied k e.0 ∙ eq-eqb k e.0 same)

  at_rest : (e : ℕ × Seat A) (es : List (ℕ × Seat A)) (k : ℕ) → k ≢ e.0 → at (e ∷ es) k ≡ at es k
  at_rest e es k other = ap (λ b. cond b (Some e.1) (at es k)) (unsigned_tied k e.0 ∙ ne_eqb k e.0 other)

  none_at : (k : ℕ) (es : List (ℕ × Seat A)) → AllByRecursion (λ y. nat_cmp k y ≡ Less) (keys_of es) → at es k ≡ None
  none_at k [] above = refl
  none_at k (e ∷ es) above = ap (λ o. cond (is_eq o) (Some e.1) (at es k)) above.0 ∙ none_at k es above.1

  abbrev worth_at : List (ℕ × Seat A) → ℕ → ℕ
  worth_at es k = one_worth (session_of (at es k))

  worth-entries : (n : ℕ) (es : List (ℕ × Seat A)) → IsStrictlySortedBy nat_cmp (keys_of es) → ((k : ℕ) (seat : Seat A) → at es k ≡ Some seat → k < n) → seats_worth (values_of es) ≡ total (worth_at es) n
  unfolding IsStrictlySortedBy
  worth-entries n [] sorted below = sym (total-none (worth_at []) n (λ k. refl))
  worth-entries n (e ∷ es) sorted below =
      let absent = none_at e.0 es sorted.0 in
      let rest = worth-entries n es sorted.1 (λ k seat found. by k seat found (cases_eq k e.0)) in
      let more = total-more (worth_at es) (worth_at (e ∷ es)) n e.0 (below e.0 e.1 (at_first e es e.0 refl)) (ap (λ o. one_worth (session_of o)) absent) (λ j other. ap (λ o. one_worth (session_of o)) (at_rest e es j other)) in
      let here : worth_at (e ∷ es) e.0 ≡ seat_worth e.1 = ap (λ o. one_worth (session_of o)) (at_first e es e.0 refl) in
      omega arith
    where
      by : (k : ℕ) (seat : Seat A) → at es k ≡ Some seat → ((k ≡ e.0) ⊎ (k ≢ e.0)) → k < n
      by k seat found (inl same) = let no : None ≡ Some seat = sym (none_at e.0 es sorted.0) ∙ ap (at es) (sym same) ∙ found in absurd (cc)
      by k seat found (inr other) = below k seat (at_rest e es k other ∙ found)

  pub worth_kept : (next window : ℕ) (m : BTreeMap ℕ (Seat A)) → IsBox next m window → IsOrdered nat_cmp m → seats_worth (values m) ≡ sessions_worth (sessions_of next m)
  worth_kept next window m is ordered =
      worth-entries next m.entries ordered (λ k seat found. is.below k seat found) ∙ sym (worth-below (λ k. session_of (get nat_cmp m k)) next)

  few_worth : (window : ℕ) (es : List (ℕ × Seat A)) → IsStrictlySortedBy nat_cmp (keys_of es) → ((k : ℕ) (seat : Seat A) → at es k ≡ Some seat → length seat.outbox.items ≤ window) → seats_worth (values_of es) ≤ length es * (window + 2)
  unfolding IsStrictlySortedBy
  few_worth window [] sorted each = omega arith
  few_worth window (e ∷ es) sorted each =
      let first = each e.0 e.1 (at_first e es e.0 refl) in
      let ends = ends_few e.1 in
      let rest = few_worth window es sorted.1 (λ k seat found. by k seat found (cases_eq k e.0)) in
      omega arith
    where
      ends_few : (seat : Seat A) → session_worth (state_of seat) ≤ 2
      ends_few seat = left seat.left
        where
          left : (b : Bool) → session_worth (if b then Left else Open) ≤ 2
          left true = omega arith
          left false = omega arith

      by : (k : ℕ) (seat : Seat A) → at es k ≡ Some seat → ((k ≡ e.0) ⊎ (k ≢ e.0)) → length seat.outbox.items ≤ window
      by k seat found (inl same) = let no : None ≡ Some seat = sym (none_at e.0 es sorted.0) ∙ ap (at es) (sym same) ∙ found in absurd (cc)
      by k seat found (inr other) = each k seat (at_rest e es k other ∙ found)

  -- they fit 64 bits, since 64 sessions at most are kept
  pub worth_fits : (next window : ℕ) (m : BTreeMap ℕ (Seat A)) → IsBox next m window → IsOrdered nat_cmp m → window < 2 ^ 32 → seats_worth (values m) < 2 ^ 64
  worth_fits next window m is ordered small =
      let a = few_worth window m.entries ordered (λ k seat found. let b = (is.each k seat found).within in omega arith) in
      let b = is.few in
      let c = mul-le-mul_right (window + 2) (counted-few b) in
      omega arith
    where
      counted-few : btree_map_len m ≤ 64 → length m.entries ≤ 64
      counted-few h = h
