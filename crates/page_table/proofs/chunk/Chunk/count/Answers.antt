use Rattle.std.proofs.Common.{◌∙◌, sym, ap, arith}
use Rattle.page_table.specs.Table.{taken}
use Rattle.page_table.specs.declared.chunk.Pages.TheVariants.{One}
use Rattle.page_table.proofs.ChunkLemmas.{seen, one_long, one_counted}
use Rattle.page_table.proofs.chunk.Chunk.count.Goals as goal

pub returns-in-One-clause-count : goal.returns-in-One-clause-count
returns-in-One-clause-count g c =
    let one = seen c.self.inside.pages (One c.in-One.at c.in-One.field-1) c.args.self.now c.self.view_is c.in-One.is in
    sym (ap taken one ∙ one_counted 256 c.in-One.at c.in-One.field-1 (omega arith))

pub returns-in-One-clause-long : goal.returns-in-One-clause-long
returns-in-One-clause-long g c =
    let one = seen c.self.inside.pages (One c.in-One.at c.in-One.field-1) c.args.self.now c.self.view_is c.in-One.is in
    one_long c.args.self.now 256 c.in-One.at c.in-One.field-1 one
