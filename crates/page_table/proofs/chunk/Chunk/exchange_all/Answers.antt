use Rattle.page_table.specs.declared.chunk.Pages.TheVariants.{Nowhere, One}
use Rattle.page_table.proofs.ChunkLemmas.{seen}
use Rattle.page_table.proofs.RunLemmas.{none_put, one_exchanged}
use Rattle.page_table.proofs.chunk.Chunk.exchange_all.Goals as goal

pub returns-in-Nowhere-clause-here : goal.returns-in-Nowhere-clause-here
returns-in-Nowhere-clause-here g c =
    let now = c.args.self.now in
    none_put now 256 c.args.first c.args.pages.now c.requires.some c.requires.there (seen c.self.inside.pages Nowhere now c.self.view_is c.in-Nowhere.is)

pub returns-in-One-clause-here : goal.returns-in-One-clause-here
returns-in-One-clause-here g c = λ k.
    let now = c.args.self.now in
    let at = c.in-One.at in
    let stored = c.in-One.stored in
    one_exchanged now 256 c.args.first c.args.pages.now c.requires.some c.requires.there at stored (seen c.self.inside.pages (One at stored) now c.self.view_is c.in-One.is)
    c.swap.new.x c.index-pages-0.result k c.requires.within c.swap.ensures.x_after
