use Rattle.std.proofs.Common.{◌≡◌, ◌∙◌, Some, sym}
use Rattle.export_store.specs.Pages.{stored_page, image_of}
use Rattle.export_store.proofs.ImageLemmas.{either_way, image_stored}
use Rattle.export_store.proofs.paged.Paged.store.Goals as goal

pub returns-clause-bytes : goal.returns-clause-bytes
returns-clause-bytes g c =
    let now = c.args.self.now in
    let new = c.replace.new.self in
    let number = c.args.number in
    either_way c.replace.result (stored_page new number ≡ Some c.zeros.result) (image_of new ≡ image_of now) (image_of new ≡ image_of now) c.replace.ensures.here c.replace.ensures.no_memory
    (λ here. image_stored now new number c.zeros.result c.zeros.ensures.zeros c.replace.ensures.size here c.replace.ensures.others (sym c.stores.ensures ∙ c.if-stores.false)) (λ same. same)
