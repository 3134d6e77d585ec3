use Rattle.std.proofs.Common.{◌≡◌, ◌∙◌, ℕ, Some, None, is_some, length, refl, sym, ap, arith}
use Rattle.page_table.specs.Table.{Stored, in_chunks, in_table, cleared}
use Rattle.page_table.proofs.TableLemmas.{none_is, some_is, dug_here, dug_others, room_for}
use Rattle.page_table.proofs.table.Table.clear.Goals as goal

pub returns-in_default-clause-here : goal.returns-in_default-clause-here
returns-in_default-clause-here g c =
    let n : ℕ = c.args.number in
    let none : in_table c.args.self.now n ≡ None = none_is c.args.self.now n (ap (λ (table : Stored). in_chunks table.chunks n) (sym c.self.view_is) ∙ c.in_default.ensures.none refl) in
    none ∙ ap (cleared c.args.start c.args.count) (sym none)

pub dig-requires-clause-room : goal.dig-requires-clause-room
dig-requires-clause-room g c = λ ordered none. room_for c.self.inside.chunks c.self.inside.holes c.args.number c.self.invariant (ap is_some c.in-Some.ensures.some) (omega arith) ordered none

pub returns-in-Err-clause-here : goal.returns-in-Err-clause-here
returns-in-Err-clause-here g c =
    let i = c.self.inside in
    let n : ℕ = c.args.number in
    let there : in_chunks i.chunks n ≡ Some c.in-Some.page.now = c.in-Some.ensures.some in
    dug_here (record { chunks = i.chunks; holes = i.holes.rows }) (record { chunks = i.chunks; holes = c.dig.new.self.rows }) n c.args.start c.args.count refl c.dig.ensures.holes
    (λ page is. let same : page ≡ c.in-Some.page.now = some_is page c.in-Some.page.now (sym is ∙ there) in omega (arith, ap length same, c.as_slice-whole.ensures.whole, c.requires))
    ∙ ap (λ (table : Stored). cleared c.args.start c.args.count (in_table table n)) c.self.view_is

pub returns-in-Err-clause-others : goal.returns-in-Err-clause-others
returns-in-Err-clause-others g c = λ k apart.
    let i = c.self.inside in
    dug_others (record { chunks = i.chunks; holes = i.holes.rows }) (record { chunks = i.chunks; holes = c.dig.new.self.rows }) c.args.number c.args.start c.args.count refl c.dig.ensures.holes k apart
    ∙ ap (λ (table : Stored). in_table table k) c.self.view_is
