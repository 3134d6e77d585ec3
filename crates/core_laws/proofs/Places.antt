-- What is so at each place of a run: the answer there is that of a step from the table before.
use Rattle.std.proofs.Common.{◌≡◌, ◌≢◌, ◌↔◌, ◌<◌, ◌^◌, ℕ, zero, suc, Bool, true, false, not, ◌==◌, nat_le, List, [], ◌∷◌, length, filter, take, drop, get_or, slice_get, Some, ℤ, refl, sym, ap, ◌∙◌, subst, arith}
use Rattle.std.proofs.lemmas.Bool.Decides.{nat_tests}
use Rattle.std.proofs.lemmas.Option.{same_Some, none-some}
use Rattle.nbd_wire.specs.Grammar.{RequestMessage}
use Rattle.nbd_commands.specs.Terms.{Terms}
use Rattle.nbd_commands.specs.Verdict.{verdict_of}
use Rattle.reply_box.specs.Sessions.{is_open_at}
use Rattle.server_table.specs.declared.event.Event.{Event}
use Rattle.server_table.specs.declared.event.Event.TheVariants.{Arrive}
use Rattle.server_table.specs.declared.event.Answer.{Answer}
use Rattle.server_table.specs.declared.event.Answer.TheVariants.{Accepted, Answered, NoMemory}
use Rattle.tag_clock.specs.Tags.{later}
use Rattle.server_table.specs.Table.{Table, Setup, side, waits_in, shifted}
use Rattle.server_table.specs.Steps.{Outcome, step, outstanding_in, table_after, answers_of}
use Rattle.core_laws.specs.Statements.{PassesAllElse, HasFullQueue}
use Rattle.lone_export.proofs.Cases.{if_told, some_told}

module _ {A : Type 0} where
  pub at_place : (setup : Setup) (P : Answer A → Type 0) (event : Event A) (events : List (Event A)) (table : Table) (marks : List Bool) (k : ℕ) →
      slice_get events k ≡ Some event → ((memory : Bool) → P (step setup (table_after setup table (take k events) marks) event memory).answer) →
      (said : Answer A) → slice_get (answers_of setup table events marks) k ≡ Some said → P said
  at_place setup P event [] table marks k there holds said is = absurd (none-some event there)
  at_place setup P event (other ∷ events) table marks zero there holds said is =
      subst P (same_Some _ said is) (subst (λ (x : Event A). P (step setup table x (get_or marks 0 true)).answer) (sym (same_Some other event there)) (holds (get_or marks 0 true)))
  at_place setup P event (other ∷ events) table marks (suc k) there holds said is =
      at_place setup P event events (step setup table other (get_or marks 0 true)).table (drop 1 marks) k there holds said is

  -- ---- an arrival that nothing else refuses

  -- where memory was there, or wasn't wanted
  abbrev pub TellsFullQueue : Table → ℕ → Terms → Bool → Answer A → Type 0
  TellsFullQueue table e terms memory said = (memory ≡ false → said ≢ NoMemory) → (said ≡ Answered 5) ↔ HasFullQueue table e terms

  pub queue_at : (setup : Setup) (table : Table) (e s t : ℕ) (q : RequestMessage) (terms : Terms) (memory : Bool) → PassesAllElse setup table e s q terms →
      TellsFullQueue table e terms memory (step setup table (Arrive e s t q) memory).answer
  queue_at setup table e s t q terms memory h =
      some_told P (slice_get setup.exports e) (λ other is.
      let same : other ≡ terms = same_Some other terms (sym is ∙ h.there) in
      if_told P (not (is_open_at (side table e).sessions s)) (λ c. absurd (closed h.is_open c)) (λ c1.
      if_told P (nat_le (2 ^ 56) (side table e).count) (λ c. absurd (worn (side table e).count h.young c)) (λ c2.
      if_told P (outstanding_in e s table == other.window) (λ c. absurd (held (outstanding_in e s table) other.window terms.window (ap (λ (x : Terms). x.window) same) h.spare c)) (λ c3.
      if_told P (not memory) (λ c. λ had. absurd (had (wanting memory c) refl)) (λ c4.
      if_told P (not (verdict_of other q == 0)) (λ c. absurd (refused (verdict_of other q) (ap (λ (x : Terms). verdict_of x q) same ∙ h.fine) c)) (λ c5.
      if_told P (length (filter (waits_in e) table.rows) == other.depth)
      (λ c. λ had. (λ said. is_full (length (filter (waits_in e) table.rows)) other.depth terms.depth (ap (λ (x : Terms). x.depth) same) c, λ full. refl))
      (λ c. λ had. (λ said. absurd (differ (side (shifted e t table) e).next (later (side (shifted e t table) e).last_l (side (shifted e t table) e).rates.l_interval t) said), λ full. absurd (not_full (length (filter (waits_in e) table.rows)) other.depth terms.depth (ap (λ (x : Terms). x.depth) same) full c)))
      )))))) (λ none. absurd (none-some terms (sym none ∙ h.there)))
    where
      P : Outcome A → Type 0
      P new = TellsFullQueue table e terms memory new.answer

      closed : {b : Bool} → b ≡ true → not b ≡ true → ⊥
      closed {b} h c = grind (arith, h, c)

      worn : (n : ℕ) → n < 2 ^ 56 → nat_le (2 ^ 56) n ≡ true → ⊥
      worn n h c = grind (arith, nat_tests, h, c)

      held : (n a b : ℕ) → a ≡ b → n ≢ b → (n == a) ≡ true → ⊥
      held n a b same h c = h (grind (arith, nat_tests, same, c))

      refused : (n : ℕ) → n ≡ 0 → not (n == 0) ≡ true → ⊥
      refused n h c = grind (arith, nat_tests, h, c)

      is_full : (n a b : ℕ) → a ≡ b → (n == a) ≡ true → n ≡ b
      is_full n a b same c = grind (arith, nat_tests, same, c)

      not_full : (n a b : ℕ) → a ≡ b → n ≡ b → (n == a) ≡ false → ⊥
      not_full n a b same h c = grind (arith, nat_tests, same, h, c)

      wanting : (b : Bool) → not b ≡ true → b ≡ false
      wanting b c = grind (arith, c)

      differ : (n : ℕ) (tag : ℤ) → ◌≡◌ {A = Answer A} (Accepted n tag) (Answered 5) → ⊥
      differ n tag h = grind (arith, h)
