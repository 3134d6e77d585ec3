use Rattle.std.proofs.Common.{sym}
use Rattle.page_table.specs.declared.chunk.Pages.TheVariants.{Nowhere, One}
use Rattle.page_table.proofs.ChunkLemmas.{seen, none_at, one_here, one_other}
use Rattle.page_table.proofs.chunk.Chunk.get.Goals as goal

pub returns-in-Nowhere-clause-none : goal.returns-in-Nowhere-clause-none
returns-in-Nowhere-clause-none g c = λ absent.
    none_at c.args.self.now 256 (seen c.self.inside.pages Nowhere c.args.self.now c.self.view_is c.in-Nowhere.is) c.args.place

pub returns-then-at-place-clause-some : goal.returns-then-at-place-clause-some
returns-then-at-place-clause-some g c =
    let at = c.in-One.at in
    let page = c.in-One.page in
    one_here c.args.self.now 256 at page (seen c.self.inside.pages (One at page) c.args.self.now c.self.view_is c.in-One.is) c.args.place c.if-at-place.true c.requires

pub returns-else-at-place-clause-none : goal.returns-else-at-place-clause-none
returns-else-at-place-clause-none g c = λ absent.
    let at = c.in-One.at in
    let page = c.in-One.page in
    one_other c.args.self.now 256 at page (seen c.self.inside.pages (One at page) c.args.self.now c.self.view_is c.in-One.is) c.args.place (λ is. c.if-at-place.false (sym is))
