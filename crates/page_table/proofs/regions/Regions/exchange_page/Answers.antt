use Rattle.std.proofs.Common.{◌≡◌, ◌∙◌, ◌/◌, ◌%◌, ◌<◌, ℕ, Option, None, Some, length, get_or, set, ap, arith}
use Rattle.page_table.specs.Table.{Chunk, Regions, chunk_of, in_chunk}
use Rattle.page_table.proofs.RegionsLemmas.{Region, chunk_past, before_is, after_is, place_is, others_are, all_are, if_ok_so, ok_so, err_so}
use Rattle.page_table.proofs.regions.Regions.exchange_page.Goals as goal

pub returns-then-number-len-clause-none : goal.returns-then-number-len-clause-none
returns-then-number-len-clause-none g c =
    let i = c.self.inside in
    ap (λ (chunk : Option Chunk). in_chunk chunk c.args.place)
    (chunk_past i.regions.items c.args.self.now c.args.number c.self.view_is (omega (arith, c.len.ensures, c.if-number-len.true, i.regions.ok.0)))

pub returns-clause-before : goal.returns-clause-before
returns-clause-before g c =
    let n : ℕ = c.args.number in
    let rows : Regions = c.self.inside.regions.items in
    let below : n / 256 < length rows = omega (arith, c.len.ensures, c.if-number-len.false, c.self.inside.regions.ok.0) in
    let row : Region = c.index_mut.result.now in
    if_ok_so c.exchange_page.result (λ before. in_chunk (get_or row (n % 256) None) c.args.place ≡ Some before) (λ before. in_chunk (chunk_of c.args.self.now n) c.args.place ≡ Some before)
    (λ before is. ap (λ (chunk : Option Chunk). in_chunk chunk c.args.place) (before_is rows c.args.self.now c.self.view_is n row below c.index_mut.ensures.value) ∙ is)
    c.exchange_page.ensures.before

pub returns-clause-here : goal.returns-clause-here
returns-clause-here g c =
    let n : ℕ = c.args.number in
    let rows : Regions = c.self.inside.regions.items in
    let below : n / 256 < length rows = omega (arith, c.len.ensures, c.if-number-len.false, c.self.inside.regions.ok.0) in
    let row : Region = c.index_mut.result.now in
    let after : Region = c.exchange_page.new.self in
    ok_so c.exchange_page.result (in_chunk (get_or after (n % 256) None) c.args.place ≡ Some c.args.page)
    (in_chunk (chunk_of (set rows (n / 256) after) n) c.args.place ≡ Some c.args.page)
    (λ is. ap (λ (chunk : Option Chunk). in_chunk chunk c.args.place) (after_is rows c.args.self.now c.self.view_is n row below c.index_mut.ensures.value after) ∙ is)
    c.exchange_page.ensures.here

pub returns-clause-places : goal.returns-clause-places
returns-clause-places g c = λ k apart.
    let n : ℕ = c.args.number in
    let rows : Regions = c.self.inside.regions.items in
    let below : n / 256 < length rows = omega (arith, c.len.ensures, c.if-number-len.false, c.self.inside.regions.ok.0) in
    place_is rows c.args.self.now c.self.view_is n c.index_mut.result.now below c.index_mut.ensures.value c.exchange_page.new.self (λ page. page) k
    (c.exchange_page.ensures.places k apart)

pub returns-clause-others : goal.returns-clause-others
returns-clause-others g c =
    let n : ℕ = c.args.number in
    let rows : Regions = c.self.inside.regions.items in
    let below : n / 256 < length rows = omega (arith, c.len.ensures, c.if-number-len.false, c.self.inside.regions.ok.0) in
    others_are rows c.args.self.now c.self.view_is n c.index_mut.result.now below c.index_mut.ensures.value c.exchange_page.new.self c.exchange_page.ensures.others

pub returns-clause-none : goal.returns-clause-none
returns-clause-none g c =
    let n : ℕ = c.args.number in
    let rows : Regions = c.self.inside.regions.items in
    let below : n / 256 < length rows = omega (arith, c.len.ensures, c.if-number-len.false, c.self.inside.regions.ok.0) in
    let row : Region = c.index_mut.result.now in
    err_so c.exchange_page.result (in_chunk (get_or row (n % 256) None) c.args.place ≡ None) (in_chunk (chunk_of c.args.self.now n) c.args.place ≡ None)
    (λ is. ap (λ (chunk : Option Chunk). in_chunk chunk c.args.place) (before_is rows c.args.self.now c.self.view_is n row below c.index_mut.ensures.value) ∙ is)
    c.exchange_page.ensures.none

pub returns-clause-same : goal.returns-clause-same
returns-clause-same g c =
    let n : ℕ = c.args.number in
    let rows : Regions = c.self.inside.regions.items in
    let below : n / 256 < length rows = omega (arith, c.len.ensures, c.if-number-len.false, c.self.inside.regions.ok.0) in
    let row : Region = c.index_mut.result.now in
    let after : Region = c.exchange_page.new.self in
    err_so c.exchange_page.result (after ≡ row) ((q : ℕ) → chunk_of (set rows (n / 256) after) q ≡ chunk_of c.args.self.now q)
    (all_are rows c.args.self.now c.self.view_is n row below c.index_mut.ensures.value after) c.exchange_page.ensures.same
