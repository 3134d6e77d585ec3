use Rattle.std.proofs.Common.{◌≡◌, ℕ, List, Option, ◌%◌, ◌/◌, length, unwrap_or, is_some, inl, inr, sym, ap, ◌∙◌, arith}
use Rattle.std.proofs.lemmas.Bool.{cases_eq}
use Rattle.payload.specs.Bytes.{overwritten}
use Rattle.payload.specs.Rows.{zero_page}
use Rattle.payload.proofs.Overwriting.{overwritten-all}
use Rattle.export_store.specs.Pages.{is_stored, page_of}
use Rattle.export_store.proofs.ImageLemmas.{image_written}
use Rattle.export_store.proofs.paged.Paged.put_page.Goals as goal

pub returns-clause-written : goal.returns-clause-written
returns-clause-written g c =
    let after = c.in-Ok.ensures in
    let pages = c.end_of-end.ensures.pages in
    let old = c.args.self.now in
    let number = c.args.offset / 4096 in
    let page = c.args.page in
    let shown = λ (p : Option (List ℕ)). unwrap_or p zero_page in
    let all : overwritten (page_of old number) 0 (length page) page ≡ page = overwritten-all (page_of old number) page (pages.whole number ∙ sym c.requires.whole) in
    let start : 0 ≡ c.args.offset % 4096 = sym c.requires.paged in
    image_written old c.replace.new.self c.args.offset page pages after.size (omega arith) (omega arith)
    (ap shown after.here ∙ sym all ∙ ap (λ (n : ℕ). overwritten (page_of old number) n (length page) page) start)
    (λ k apart. ap shown (after.others k apart))

pub returns-clause-stored : goal.returns-clause-stored
returns-clause-stored g c =
    let after = c.in-Ok.ensures in
    let number = c.args.offset / 4096 in λ k there.
    elim (cases_eq k number) [
      | inl e ↦ ap (is_stored c.replace.new.self) e ∙ ap is_some after.here
      | inr apart ↦ ap is_some (after.others k apart) ∙ there
    ]
