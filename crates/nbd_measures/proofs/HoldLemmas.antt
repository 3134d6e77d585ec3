-- What is noted of holds, and what is read of the last whole second.
use Rattle.std.proofs.Common.{◌≡◌, ℕ, ◌+◌, ◌-◌, ◌<◌, ◌≤◌, ◌==◌, nat_le, true, false, max, List, [], ◌∷◌, refl, sym, ap, ◌∙◌, subst, inl, inr, arith}
use Rattle.std.specs.Prelude.{if◌then◌else◌}
use Rattle.std.proofs.lemmas.Bool.{cases_Bool}
use Rattle.std.proofs.lemmas.Bool.Decides.{nat_tests}
use Rattle.nbd_measures.specs.declared.holds.HoldCount.{HoldCount}
use Rattle.nbd_measures.specs.Holds.{second_of, begun, noted, count_of, longest_at, longest_before, AreInOrder}

-- no hold ended that late
none_later : (holds : List (ℕ × ℕ)) (second k : ℕ) → AreInOrder second holds → second + 1 < k → longest_before k holds ≡ 0
unfolding AreInOrder longest_before
none_later [] second k order late = refl
none_later (hold ∷ earlier) second k order late =
    let before : second_of hold.0 ≤ second = order.0 in
    let off : (second_of hold.0 + 1 == k) ≡ false = grind (arith, nat_tests) in
    rw off (none_later earlier (second_of hold.0) k order.1 (omega (arith, before)))

order_later : (holds : List (ℕ × ℕ)) (second later : ℕ) → second ≤ later → AreInOrder second holds → AreInOrder later holds
unfolding AreInOrder
order_later [] second later le order = tt
order_later (hold ∷ earlier) second later le order =
    let before : second_of hold.0 ≤ second = order.0 in (omega (arith, before), order.1)

-- a second that is no later
pub begun_same : (h : HoldCount) (second : ℕ) → second ≤ h.second → begun h second ≡ h
unfolding begun
begun_same h second same = let on : nat_le second h.second ≡ true = grind (arith, nat_tests) in rw on refl

-- a later one
pub begun_later : (h : HoldCount) (second : ℕ) → h.second < second
    → begun h second ≡ record { total = h.total; second = second; longest = 0; before = if second - h.second == 1 then h.longest else 0 }
unfolding begun
begun_later h second late = let off : nat_le second h.second ≡ false = grind (arith, nat_tests) in rw off refl

-- what is counted is that of these holds
pub record Counts (h : HoldCount) (holds : List (ℕ × ℕ)) : Type 0 where
  pub order : AreInOrder h.second holds
  pub longest : h.longest ≡ longest_before (h.second + 1) holds
  pub before : h.before ≡ longest_before h.second holds

before_later : (h : HoldCount) (holds : List (ℕ × ℕ)) (second : ℕ) → Counts h holds → h.second < second
    → (if second - h.second == 1 then h.longest else 0) ≡ longest_before second holds
before_later h holds second counts late =
    elim (cases_Bool (second - h.second == 1)) [
      | inl next ↦
          let is : h.second + 1 ≡ second = grind (arith, nat_tests) in
          rw next (counts.longest ∙ ap (λ (k : ℕ). longest_before k holds) is)
      | inr other ↦
          let apart : h.second + 1 < second = grind (arith, nat_tests) in
          rw other (sym (none_later holds h.second second counts.order apart))
    ]

begun_counts : (h : HoldCount) (holds : List (ℕ × ℕ)) (second : ℕ) → Counts h holds → h.second ≤ second
    → Counts (begun h second) holds × ((begun h second).second ≡ second)
unfolding begun
begun_counts h holds second counts le =
    elim (cases_Bool (nat_le second h.second)) [
      | inl same ↦
          let is : h.second ≡ second = grind (arith, nat_tests) in
          rw same (counts, is)
      | inr later ↦
          let late : h.second < second = grind (arith, nat_tests) in
          rw later (
            record {
              order = order_later holds h.second second le counts.order;
              longest = sym (none_later holds h.second (second + 1) counts.order (omega arith));
              before = before_later h holds second counts late;
            },
            refl,
          )
    ]

-- with the latest hold
noted_counts : (h : HoldCount) (total : ℕ) (hold : ℕ × ℕ) (earlier : List (ℕ × ℕ)) → Counts h earlier → h.second ≡ second_of hold.0
    → Counts (record h { total = total; longest = max h.longest hold.1 }) (hold ∷ earlier)
unfolding AreInOrder longest_before
noted_counts h total hold earlier counts at =
    let on : (second_of hold.0 + 1 == h.second + 1) ≡ true = grind (arith, nat_tests) in
    let off : (second_of hold.0 + 1 == h.second) ≡ false = grind (arith, nat_tests) in
    record {
      order = (omega (arith, at), subst (λ (k : ℕ). AreInOrder k earlier) at counts.order);
      longest = rw on (ap (λ (n : ℕ). max n hold.1) counts.longest);
      before = rw off counts.before;
    }

counts_of : (holds : List (ℕ × ℕ)) (second : ℕ) → AreInOrder second holds → Counts (count_of holds) holds × ((count_of holds).second ≤ second)
unfolding count_of noted AreInOrder longest_before
counts_of [] second order = (record { order = tt; longest = refl; before = refl }, omega arith)
counts_of (hold ∷ earlier) second order =
    let so = counts_of earlier (second_of hold.0) order.1 in
    let here = begun_counts (count_of earlier) earlier (second_of hold.0) so.0 so.1 in
    let at : (begun (count_of earlier) (second_of hold.0)).second ≡ second_of hold.0 = here.1 in
    (noted_counts (begun (count_of earlier) (second_of hold.0)) _ hold earlier here.0 at, omega (arith, at, order.0))

pub longest_at-count_of : (holds : List (ℕ × ℕ)) (now : ℕ) → AreInOrder (second_of now) holds
    → longest_at (count_of holds) now ≡ longest_before (second_of now) holds
longest_at-count_of holds now order =
    let so = counts_of holds (second_of now) order in
    let here = begun_counts (count_of holds) holds (second_of now) so.0 so.1 in
    here.0.before ∙ ap (λ (k : ℕ). longest_before k holds) here.1
