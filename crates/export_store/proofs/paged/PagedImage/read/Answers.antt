use Rattle.std.proofs.Common.{◌≡◌, ◌+◌, ◌-◌, ◌*◌, ◌/◌, ◌%◌, ℕ, List, length, sym, ap, ◌∙◌, arith, refl}
use Rattle.std.specs.List.{concat}
use Rattle.std.specs.Int.{div_ceil}
use Rattle.payload.specs.Bytes.{range_of}
use Rattle.export_store.specs.Pages.{page_of}
use Rattle.export_store.proofs.PageLemmas.{length-pages}
use Rattle.export_store.proofs.ImageLemmas.{range_of-image, range_of-several}
use Rattle.export_store.proofs.paged.PagedImage.read.Goals as goal

pub returns-then-in_page-count : goal.returns-then-in_page-count
returns-then-in_page-count g c =
    let offset : ℕ = c.args.offset in
    let count : ℕ = c.args.count in
    c.of.ensures
    ∙ ap (λ (page : List ℕ). range_of page (offset % 4096) count) c.in_ok-page.ensures.bytes
    ∙ sym (range_of-image c.args.self.now c.page_of.ensures.pages offset count (omega (arith, c.in_page.ensures, c.if-in_page-count.true)) c.requires)

pub among-requires-clause-within : goal.among-requires-clause-within
among-requires-clause-within g c =
    let offset : ℕ = c.args.offset in
    let first : ℕ = offset / 4096 in
    let end : ℕ = c.div_ceil-end.result in
    let is : end ≡ div_ceil (offset + c.args.count) 4096 = c.div_ceil-end.ensures ∙ ap (λ (n : ℕ). div_ceil n 4096) c.end_of.ensures.end in
    let long : length (concat c.in_ok-pages.pages.items) ≡ 4096 * end - 4096 * first =
    ap length c.in_ok-pages.ensures.bytes ∙ length-pages (page_of c.args.self.now) c.end_of.ensures.pages.whole first end in
    omega (arith, is, long)

pub returns : goal.returns
returns g c =
    let offset : ℕ = c.args.offset in
    let count : ℕ = c.args.count in
    let start : ℕ = offset % 4096 in
    let first : ℕ = offset / 4096 in
    let end : ℕ = c.div_ceil-end.result in
    let is : end ≡ div_ceil (offset + count) 4096 = c.div_ceil-end.ensures ∙ ap (λ (n : ℕ). div_ceil n 4096) c.end_of.ensures.end in
    let size : start + count - start ≡ count = omega arith in
    c.in_ok-payload.ensures
    ∙ ap (λ (n : ℕ). range_of (concat c.in_ok-pages.pages.items) start n) size
    ∙ ap (λ (bytes : List ℕ). range_of bytes start count) c.in_ok-pages.ensures.bytes
    ∙ range_of-several c.args.self.now c.end_of.ensures.pages offset count first end c.requires refl (omega (arith, is))
