use Rattle.std.proofs.Common.{◌≡◌, ◌∙◌, ◌+◌, ◌*◌, ℕ, length, refl, ap, arith}
use Rattle.std.specs.Int.{div_ceil}
use Rattle.number_sets.specs.Bits.{count_of}
use Rattle.number_sets.proofs.CountLemmas.{count_le, count_is}
use Rattle.export_store.specs.Pages.{Pages, is_stored, is_held_zeros, is_held, held_pages}
use Rattle.export_store.proofs.HeldLemmas.{held_count}
use Rattle.export_store.proofs.paged.Paged.held.Goals as goal

pub overflow_add-result : goal.overflow_add-result
overflow_add-result g c =
    let i = c.self.inside in
    let old : Pages = record { size = i.size; chunks = i.pages; zeros = i.zeros } in
    let n : ℕ = div_ceil i.size 4096 in
    let stored : c.stored.result ≡ count_of (is_stored old) 0 (256 * c.div_ceil.result) = c.stored.ensures in
    let marked : c.count.result ≡ count_of (is_held_zeros old) 0 (16384 * c.div_ceil-2.result) = c.count.ensures in
    let all = held_count old c.self.invariant n refl (256 * c.div_ceil.result) (16384 * c.div_ceil-2.result) (omega (arith, c.div_ceil-pages.ensures, c.div_ceil.ensures)) (omega (arith, c.div_ceil-pages.ensures, c.div_ceil-2.ensures)) in
    omega (arith, stored, marked, all, count_le (is_held old) 0 n, c.div_ceil-pages.ensures)

pub returns : goal.returns
returns g c =
    let i = c.self.inside in
    let old : Pages = record { size = i.size; chunks = i.pages; zeros = i.zeros } in
    let n : ℕ = div_ceil i.size 4096 in
    let stored : c.stored.result ≡ count_of (is_stored old) 0 (256 * c.div_ceil.result) = c.stored.ensures in
    let marked : c.count.result ≡ count_of (is_held_zeros old) 0 (16384 * c.div_ceil-2.result) = c.count.ensures in
    let all = held_count old c.self.invariant n refl (256 * c.div_ceil.result) (16384 * c.div_ceil-2.result) (omega (arith, c.div_ceil-pages.ensures, c.div_ceil.ensures)) (omega (arith, c.div_ceil-pages.ensures, c.div_ceil-2.ensures)) in
    let both : c.stored.result + c.count.result ≡ count_of (is_held old) 0 n = omega (arith, stored, marked, all) in
    both ∙ count_is (is_held old) 0 n ∙ ap (λ (p : Pages). length (held_pages p)) c.self.view_is
