use Rattle.std.proofs.Common.{◌+◌, ◌-◌, ◌*◌, ◌%◌, ◌/◌, ℕ, refl}
use Rattle.page_table.specs.Table.{in_table}
use Rattle.export_store.proofs.ZeroLemmas.{all_zeroed}
use Rattle.export_store.proofs.zeroing.zero_by.Goals as goal

pub returns-then-last-first : goal.returns-then-last-first
returns-then-last-first g c =
    let whole = c.whole_pages-whole.result in
    let offset : ℕ = c.args.offset in
    let count : ℕ = c.args.count in
    let start : ℕ = offset % 4096 in
    let last : ℕ = (offset + count - 1) / 4096 in
    all_zeroed c.args.size offset count (offset / 4096) last start c.min.result (offset + count - last * 4096) whole.first whole.end
    c.requires.some c.requires.within refl refl c.min.ensures refl refl
    (in_table c.args.pages.now) (in_table c.remove.new.self) (in_table c.clear.new.self) (in_table c.clear.new.self)
    c.whole_pages-whole.ensures c.remove.ensures c.clear.ensures.here c.clear.ensures.others
    (λ apart. absurd (apart c.if-last-first.true)) (λ one k. refl) (λ k apart. refl) c.requires.inside

pub returns : goal.returns
returns g c =
    let whole = c.whole_pages-whole.result in
    let offset : ℕ = c.args.offset in
    let count : ℕ = c.args.count in
    let start : ℕ = offset % 4096 in
    let last : ℕ = (offset + count - 1) / 4096 in
    all_zeroed c.args.size offset count (offset / 4096) last start c.min.result (offset + count - last * 4096) whole.first whole.end
    c.requires.some c.requires.within refl refl c.min.ensures refl refl
    (in_table c.args.pages.now) (in_table c.remove.new.self) (in_table c.clear.new.self) (in_table c.clear-2.new.self)
    c.whole_pages-whole.ensures c.remove.ensures c.clear.ensures.here c.clear.ensures.others
    (λ apart. c.clear-2.ensures.here) (λ one. absurd (c.if-last-first.false one)) c.clear-2.ensures.others c.requires.inside
