use Rattle.std.proofs.Common.{◌∙◌, ◌+◌, ◌≤◌, ◌||◌, replicate, refl, ap, arith}
use Rattle.payload.specs.Bytes.{overwritten}
use Rattle.export_store.specs.Pages.{Pages, image_of, is_held, has_byte_of}
use Rattle.export_store.proofs.ImageLemmas.{length_seen, on_err, image_same, IsPaged-same, held_of_stored}
use Rattle.export_store.proofs.ZeroLemmas.{IsPaged-kept, kept_pages, image_zeroed}
use Rattle.export_store.proofs.paged.Paged.hold_zeros.Goals as goal

pub emptied_pages-empty-requires-clause-within : goal.emptied_pages-empty-requires-clause-within
emptied_pages-empty-requires-clause-within g c = omega (arith, length_seen _ _ c.self.view_is c.self.invariant, c.requires.within)

pub invariant_of-self : goal.invariant_of-self
invariant_of-self g c =
    let i = c.self.inside in
    IsPaged-same _ (record { size = i.size; chunks = i.pages; zeros = c.add.new.self }) c.self.invariant refl (λ k. refl) c.in_err-add.ensures.no_memory

pub returns-in_err-add-clause-no_memory : goal.returns-in_err-add-clause-no_memory
returns-in_err-add-clause-no_memory g c =
    let i = c.self.inside in
    on_err _ _ (image_same _ _ c.self.view_is c.self.invariant (record { size = i.size; chunks = i.pages; zeros = c.add.new.self }) refl (λ k. refl))

pub zero_pages-requires-clause-within : goal.zero_pages-requires-clause-within
zero_pages-requires-clause-within g c = omega (arith, length_seen _ _ c.self.view_is c.self.invariant, c.requires.within)

pub zero_pages-requires-clause-inside : goal.zero_pages-requires-clause-inside
zero_pages-requires-clause-inside g c = λ k stored.
    let i = c.self.inside in
    c.self.invariant.within k (held_of_stored (record { size = i.size; chunks = i.pages; zeros = i.zeros }) k stored)

pub invariant_of-self-2 : goal.invariant_of-self-2
invariant_of-self-2 g c =
    let i = c.self.inside in
    let old : Pages = record { size = i.size; chunks = i.pages; zeros = i.zeros } in
    let new : Pages = record { size = i.size; chunks = c.zero_pages.new.pages; zeros = c.add.new.self } in
    IsPaged-kept old new c.args.offset c.args.count c.self.invariant refl c.requires.some (omega (arith, length_seen _ _ c.self.view_is c.self.invariant, c.requires.within)) c.zero_pages.ensures
    c.emptied_pages-empty.result.first c.emptied_pages-empty.result.end c.emptied_pages-empty.ensures c.in_ok-add.ensures.added

pub returns-clause-zeroed : goal.returns-clause-zeroed
returns-clause-zeroed g c =
    let i = c.self.inside in
    let old : Pages = record { size = i.size; chunks = i.pages; zeros = i.zeros } in
    let new : Pages = record { size = i.size; chunks = c.zero_pages.new.pages; zeros = c.add.new.self } in
    let within : c.args.offset + c.args.count ≤ i.size = omega (arith, length_seen _ _ c.self.view_is c.self.invariant, c.requires.within) in
    image_zeroed old new c.args.offset c.args.count c.self.invariant
    (IsPaged-kept old new c.args.offset c.args.count c.self.invariant refl c.requires.some within c.zero_pages.ensures
    c.emptied_pages-empty.result.first c.emptied_pages-empty.result.end c.emptied_pages-empty.ensures c.in_ok-add.ensures.added)
    refl within c.zero_pages.ensures
    ∙ ap (λ (p : Pages). overwritten (image_of p) c.args.offset c.args.count (replicate c.args.count 0)) c.self.view_is

pub returns-clause-held : goal.returns-clause-held
returns-clause-held g c = λ k.
    let i = c.self.inside in
    let old : Pages = record { size = i.size; chunks = i.pages; zeros = i.zeros } in
    let new : Pages = record { size = i.size; chunks = c.zero_pages.new.pages; zeros = c.add.new.self } in
    kept_pages old new c.args.offset c.args.count c.self.invariant refl c.requires.some (omega (arith, length_seen _ _ c.self.view_is c.self.invariant, c.requires.within)) c.zero_pages.ensures
    c.emptied_pages-empty.result.first c.emptied_pages-empty.result.end c.emptied_pages-empty.ensures c.in_ok-add.ensures.added k
    ∙ ap (λ (p : Pages). is_held p k || has_byte_of c.args.offset c.args.count k) c.self.view_is
