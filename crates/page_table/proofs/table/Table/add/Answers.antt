use Rattle.std.proofs.Common.{◌≡◌, ◌∙◌, ℕ, None, ap, arith}
use Rattle.page_table.specs.Holes.{is_hole}
use Rattle.page_table.specs.Table.{Stored, in_chunks, in_table}
use Rattle.page_table.proofs.HolesLemmas.{Rows}
use Rattle.page_table.proofs.TableLemmas.{none_is, none_back, whole_is, same_is, no_holes, room_added, room_unchanged}
use Rattle.page_table.proofs.table.Table.add.Goals as goal

pub add-requires : goal.add-requires
add-requires g c = record { none = ap (λ (table : Stored). in_chunks table.chunks c.args.number) c.self.view_is ∙ none_back c.args.self.now c.args.number c.requires.none }

pub invariant_of-self-in-Err : goal.invariant_of-self-in-Err
invariant_of-self-in-Err g c =
    let i = c.self.inside in
    let n : ℕ = c.args.number in
    let none : in_chunks i.chunks n ≡ None = ap (λ (table : Stored). in_chunks table.chunks n) c.self.view_is ∙ none_back c.args.self.now n c.requires.none in
    room_unchanged i.chunks c.add.new.self i.holes c.remove_pages.new.self n (omega arith) c.self.invariant none c.add.ensures.others (c.remove_pages.ensures.rows ∙ c.add_page.ensures.rows) c.in-Err.ensures.no_memory
    (omega (arith, c.remove_pages.ensures.pages, c.in_ok-add_page.ensures.pages))

pub returns-in-Err-clause-others : goal.returns-in-Err-clause-others
returns-in-Err-clause-others g c = λ k apart.
    let i = c.self.inside in
    same_is (record { chunks = i.chunks; holes = i.holes.rows }) (record { chunks = c.add.new.self; holes = c.remove_pages.new.self.rows }) k (c.add.ensures.others k apart)
    (λ j. ap (λ (rows : Rows). is_hole rows k j) (c.remove_pages.ensures.rows ∙ c.add_page.ensures.rows))
    ∙ ap (λ (table : Stored). in_table table k) c.self.view_is

pub returns-in-Err-clause-no_memory : goal.returns-in-Err-clause-no_memory
returns-in-Err-clause-no_memory g c = none_is (record { chunks = c.add.new.self; holes = c.remove_pages.new.self.rows }) c.args.number c.in-Err.ensures.no_memory

pub invariant_of-self-in_default : goal.invariant_of-self-in_default
invariant_of-self-in_default g c =
    let i = c.self.inside in
    let n : ℕ = c.args.number in
    let none : in_chunks i.chunks n ≡ None = ap (λ (table : Stored). in_chunks table.chunks n) c.self.view_is ∙ none_back c.args.self.now n c.requires.none in
    room_added i.chunks c.add.new.self i.holes c.add_page.new.self n (omega arith) c.self.invariant none c.add.ensures.others c.add_page.ensures.rows c.args.page c.in_default.ensures.here c.in_ok-add_page.ensures.pages

pub returns-clause-here : goal.returns-clause-here
returns-clause-here g c =
    let i = c.self.inside in
    let n : ℕ = c.args.number in
    let none : in_chunks i.chunks n ≡ None = ap (λ (table : Stored). in_chunks table.chunks n) c.self.view_is ∙ none_back c.args.self.now n c.requires.none in
    whole_is (record { chunks = c.add.new.self; holes = c.add_page.new.self.rows }) n c.args.page c.in_default.ensures.here
    (λ k. ap (λ (rows : Rows). is_hole rows n k) c.add_page.ensures.rows ∙ no_holes i.chunks i.holes n c.self.invariant none k)

pub returns-clause-others : goal.returns-clause-others
returns-clause-others g c = λ k apart.
    let i = c.self.inside in
    same_is (record { chunks = i.chunks; holes = i.holes.rows }) (record { chunks = c.add.new.self; holes = c.add_page.new.self.rows }) k (c.add.ensures.others k apart)
    (λ j. ap (λ (rows : Rows). is_hole rows k j) c.add_page.ensures.rows)
    ∙ ap (λ (table : Stored). in_table table k) c.self.view_is
