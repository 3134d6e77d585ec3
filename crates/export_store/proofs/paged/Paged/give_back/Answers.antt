use Rattle.std.proofs.Common.{◌∙◌, ◌+◌, ◌≤◌, ◌&&◌, not, replicate, refl, ap, arith}
use Rattle.payload.specs.Bytes.{overwritten}
use Rattle.export_store.specs.Pages.{Pages, image_of, is_held, lies_whole_in}
use Rattle.export_store.proofs.ImageLemmas.{length_seen, held_of_stored}
use Rattle.export_store.proofs.ZeroLemmas.{IsPaged-given, given_pages, image_zeroed}
use Rattle.export_store.proofs.paged.Paged.give_back.Goals as goal

pub whole_pages-whole-requires : goal.whole_pages-whole-requires
whole_pages-whole-requires g c = omega (arith, length_seen _ _ c.self.view_is c.self.invariant, c.requires.within)

pub zero_pages-requires-clause-within : goal.zero_pages-requires-clause-within
zero_pages-requires-clause-within g c = omega (arith, length_seen _ _ c.self.view_is c.self.invariant, c.requires.within)

pub zero_pages-requires-clause-inside : goal.zero_pages-requires-clause-inside
zero_pages-requires-clause-inside g c = λ k stored.
    let i = c.self.inside in
    c.self.invariant.within k (held_of_stored (record { size = i.size; chunks = i.pages; zeros = i.zeros }) k stored)

pub invariant_of-self : goal.invariant_of-self
invariant_of-self g c =
    let i = c.self.inside in
    let old : Pages = record { size = i.size; chunks = i.pages; zeros = i.zeros } in
    let new : Pages = record { size = i.size; chunks = c.zero_pages.new.pages; zeros = c.remove.new.self } in
    IsPaged-given old new c.args.offset c.args.count c.self.invariant refl c.requires.some (omega (arith, length_seen _ _ c.self.view_is c.self.invariant, c.requires.within)) c.zero_pages.ensures
    c.whole_pages-whole.result.first c.whole_pages-whole.result.end c.whole_pages-whole.ensures c.remove.ensures

pub returns-clause-zeroed : goal.returns-clause-zeroed
returns-clause-zeroed g c =
    let i = c.self.inside in
    let old : Pages = record { size = i.size; chunks = i.pages; zeros = i.zeros } in
    let new : Pages = record { size = i.size; chunks = c.zero_pages.new.pages; zeros = c.remove.new.self } in
    let within : c.args.offset + c.args.count ≤ i.size = omega (arith, length_seen _ _ c.self.view_is c.self.invariant, c.requires.within) in
    image_zeroed old new c.args.offset c.args.count c.self.invariant
    (IsPaged-given old new c.args.offset c.args.count c.self.invariant refl c.requires.some within c.zero_pages.ensures
    c.whole_pages-whole.result.first c.whole_pages-whole.result.end c.whole_pages-whole.ensures c.remove.ensures)
    refl within c.zero_pages.ensures
    ∙ ap (λ (p : Pages). overwritten (image_of p) c.args.offset c.args.count (replicate c.args.count 0)) c.self.view_is

pub returns-clause-held : goal.returns-clause-held
returns-clause-held g c = λ k.
    let i = c.self.inside in
    let old : Pages = record { size = i.size; chunks = i.pages; zeros = i.zeros } in
    let new : Pages = record { size = i.size; chunks = c.zero_pages.new.pages; zeros = c.remove.new.self } in
    given_pages old new c.args.offset c.args.count c.self.invariant refl c.requires.some (omega (arith, length_seen _ _ c.self.view_is c.self.invariant, c.requires.within)) c.zero_pages.ensures
    c.whole_pages-whole.result.first c.whole_pages-whole.result.end c.whole_pages-whole.ensures c.remove.ensures k
    ∙ ap (λ (p : Pages). is_held p k && not (lies_whole_in p.size c.args.offset c.args.count k)) c.self.view_is
