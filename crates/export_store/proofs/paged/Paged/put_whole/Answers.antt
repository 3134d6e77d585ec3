use Rattle.std.proofs.Common.{ℕ, ◌+◌, ◌≤◌, ◌/◌, ◌≡◌, length, sym, ap, ◌∙◌, arith}
use Rattle.std.specs.List.{concat}
use Rattle.payload.specs.Bytes.{overwritten}
use Rattle.export_store.specs.Pages.{Pages, image_of, is_stored, is_held}
use Rattle.export_store.proofs.ImageLemmas.{length_seen, length-image_of}
use Rattle.export_store.proofs.WholeLemmas.{Puts, puts, so_between, held_put, IsPaged-put, image_put}
use Rattle.export_store.proofs.paged.Paged.put_whole.Goals as goal

pub exchange-requires-clause-stored : goal.exchange-requires-clause-stored
exchange-requires-clause-stored g c = λ k inside.
    let i = c.self.inside in
    let first : ℕ = c.args.offset / 4096 in
    let row = c.as_mut_slice.result.now in
    let long : length row ≡ length c.args.pages.items = ap length c.as_mut_slice.ensures.value in
    so_between (is_stored (record { size = i.size; chunks = i.pages; zeros = i.zeros })) first (length row) k
    (λ j below. ap (λ (p : Pages). is_stored p (first + j)) c.self.view_is ∙ c.requires.stored j (omega (arith, long, below))) inside

pub invariant_of-self : goal.invariant_of-self
invariant_of-self g c =
    let i = c.self.inside in
    let old : Pages = record { size = i.size; chunks = i.pages; zeros = i.zeros } in
    let new : Pages = record { size = i.size; chunks = c.exchange.new.self; zeros = i.zeros } in
    let change : Puts old new c.args.offset c.args.pages.items =
    puts i.size i.pages c.exchange.new.self i.zeros c.args.self.now c.args.offset c.args.pages.items c.as_mut_slice.result.now c.self.view_is c.as_mut_slice.ensures.value
    c.requires.paged c.requires.whole c.requires.stored c.exchange.ensures in
    IsPaged-put old new c.args.offset c.args.pages.items change c.self.invariant

pub returns-clause-written : goal.returns-clause-written
returns-clause-written g c =
    let i = c.self.inside in
    let old : Pages = record { size = i.size; chunks = i.pages; zeros = i.zeros } in
    let new : Pages = record { size = i.size; chunks = c.exchange.new.self; zeros = i.zeros } in
    let change : Puts old new c.args.offset c.args.pages.items =
    puts i.size i.pages c.exchange.new.self i.zeros c.args.self.now c.args.offset c.args.pages.items c.as_mut_slice.result.now c.self.view_is c.as_mut_slice.ensures.value
    c.requires.paged c.requires.whole c.requires.stored c.exchange.ensures in
    let within : c.args.offset + length (concat c.args.pages.items) ≤ length (image_of old) =
    omega (arith, c.requires.within, c.requires.counted, length_seen old _ c.self.view_is c.self.invariant, length-image_of old c.self.invariant) in
    image_put old new c.args.offset c.args.pages.items change c.self.invariant within
    ∙ ap (λ (p : Pages). overwritten (image_of p) c.args.offset (length (concat c.args.pages.items)) (concat c.args.pages.items)) c.self.view_is
    ∙ ap (λ (n : ℕ). overwritten (image_of c.args.self.now) c.args.offset n (concat c.args.pages.items)) (sym c.requires.counted)

pub returns-clause-held : goal.returns-clause-held
returns-clause-held g c = λ k.
    let i = c.self.inside in
    let old : Pages = record { size = i.size; chunks = i.pages; zeros = i.zeros } in
    let new : Pages = record { size = i.size; chunks = c.exchange.new.self; zeros = i.zeros } in
    let change : Puts old new c.args.offset c.args.pages.items =
    puts i.size i.pages c.exchange.new.self i.zeros c.args.self.now c.args.offset c.args.pages.items c.as_mut_slice.result.now c.self.view_is c.as_mut_slice.ensures.value
    c.requires.paged c.requires.whole c.requires.stored c.exchange.ensures in
    held_put old new c.args.offset c.args.pages.items change k
    ∙ ap (λ (p : Pages). is_held p k) c.self.view_is
