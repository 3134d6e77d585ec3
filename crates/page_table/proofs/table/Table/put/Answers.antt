use Rattle.std.proofs.Common.{◌≡◌, ◌∙◌, ℕ, None, true, false, inl, inr, refl, sym, ap}
use Rattle.std.proofs.lemmas.Bool.{cases_eq}
use Rattle.page_table.specs.Table.{Stored, in_chunks, in_table, is_kept}
use Rattle.page_table.proofs.RegionsLemmas.{err_so}
use Rattle.number_sets.proofs.MarksLemmas.{none_there}
use Rattle.page_table.proofs.TableLemmas.{none_is, is_stored, whole_is, same_is, filled_here, filled_others}
use Rattle.page_table.proofs.table.Table.put.Goals as goal

pub add-requires : goal.add-requires
add-requires g c = record { none = none_is (record { chunks = c.exchange.new.self; holes = c.self.inside.holes.rows }) c.args.number c.in-Err.ensures.absent }

pub returns-in-Ok-clause-here : goal.returns-in-Ok-clause-here
returns-in-Ok-clause-here g c =
    whole_is (record { chunks = c.exchange.new.self; holes = c.fill.new.self.rows }) c.args.number c.args.page c.in-Ok.ensures.here
    (filled_here c.self.inside.holes.rows c.fill.new.self.rows c.args.number c.fill.ensures.holes)

pub returns-in-Ok-clause-others : goal.returns-in-Ok-clause-others
returns-in-Ok-clause-others g c = λ k apart.
    let i = c.self.inside in
    same_is (record { chunks = i.chunks; holes = i.holes.rows }) (record { chunks = c.exchange.new.self; holes = c.fill.new.self.rows }) k (c.exchange.ensures.others k apart)
    (filled_others i.holes.rows c.fill.new.self.rows c.args.number c.fill.ensures.holes k apart)
    ∙ ap (λ (table : Stored). in_table table k) c.self.view_is

pub returns-in-Err-clause-others : goal.returns-in-Err-clause-others
returns-in-Err-clause-others g c = λ k apart.
    let i = c.self.inside in
    c.add.ensures.others k apart
    ∙ same_is (record { chunks = i.chunks; holes = i.holes.rows }) (record { chunks = c.exchange.new.self; holes = i.holes.rows }) k (c.exchange.ensures.others k apart) (λ j. refl)
    ∙ ap (λ (table : Stored). in_table table k) c.self.view_is

pub returns-in-Err-clause-stored : goal.returns-in-Err-clause-stored
returns-in-Err-clause-stored g c = λ stored.
    let n : ℕ = c.args.number in
    let bad : false ≡ true = c.in-Err.ensures.stored ∙ ap (λ (table : Stored). is_kept table.chunks n) c.self.view_is ∙ sym (is_stored c.args.self.now n) ∙ stored in
    absurd (cc)

pub returns-in-Err-clause-no_memory : goal.returns-in-Err-clause-no_memory
returns-in-Err-clause-no_memory g c =
    let i = c.self.inside in
    let n : ℕ = c.args.number in
    let now : Stored = c.args.self.now in
    let none : in_table now n ≡ None =
    none_is now n (none_there (in_chunks now.chunks n) (ap (λ (table : Stored). is_kept table.chunks n) (sym c.self.view_is) ∙ sym c.in-Err.ensures.stored)) in
    err_so c.add.result (in_table c.add.new.self n ≡ None) ((k : ℕ) → in_table c.add.new.self k ≡ in_table now k) (λ gone k.
    elim (cases_eq k n) [
      | inl e ↦ ap (in_table c.add.new.self) e ∙ gone ∙ sym none ∙ ap (in_table now) (sym e)
      | inr apart ↦ c.add.ensures.others k apart
          ∙ same_is (record { chunks = i.chunks; holes = i.holes.rows }) (record { chunks = c.exchange.new.self; holes = i.holes.rows }) k (c.exchange.ensures.others k apart) (λ j. refl)
          ∙ ap (λ (table : Stored). in_table table k) c.self.view_is
    ]) c.add.ensures.no_memory
