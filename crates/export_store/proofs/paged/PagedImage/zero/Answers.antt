use Rattle.export_store.proofs.ZeroLemmas.{held_of_nothing}
use Rattle.export_store.proofs.paged.PagedImage.zero.Goals as goal

pub returns-then-count-eq0-clause-held : goal.returns-then-count-eq0-clause-held
returns-then-count-eq0-clause-held g c = λ k.
    held_of_nothing c.args.self.now c.args.offset c.args.count k c.args.keep c.end_of-end.ensures.pages c.if-count-eq0.true
