use Rattle.export_store.proofs.ImageLemmas.{IsPaged-none, image_of-none, none_is_held}
use Rattle.export_store.proofs.paged.PagedImage.zeros.Goals as goal

pub invariant_of-result : goal.invariant_of-result
invariant_of-result g c = IsPaged-none (record { size = c.args.size; chunks = c.new-pages.result; zeros = c.none-zeros.result }) c.new-pages.ensures c.none-zeros.ensures

pub returns-clause-zeros : goal.returns-clause-zeros
returns-clause-zeros g c = image_of-none (record { size = c.args.size; chunks = c.new-pages.result; zeros = c.none-zeros.result }) c.new-pages.ensures c.none-zeros.ensures

pub returns-clause-none_held : goal.returns-clause-none_held
returns-clause-none_held g c = none_is_held (record { size = c.args.size; chunks = c.new-pages.result; zeros = c.none-zeros.result }) c.new-pages.ensures c.none-zeros.ensures
