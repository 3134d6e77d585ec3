use Rattle.std.proofs.Common.{◌≡◌, Some, None, get_or, sym}
use Rattle.page_table.specs.declared.chunk.Pages.TheVariants.{Nowhere, One, Many}
use Rattle.page_table.proofs.ChunkLemmas.{seen, none_long, one_here, one_long, many_long}
use Rattle.page_table.proofs.chunk.Chunk.add.Goals.{in-Nowhere, in-One+in-Ok, in-One+in-Err, in-Many+in-Err+in-Some-1, in-Many+in-Err+in-None-1, in-Many+in-Ok-1}
use Rattle.page_table.proofs.chunk.Chunk.add.Goals as goal

pub together-requires-clause-apart : goal.together-requires-clause-apart
together-requires-clause-apart g c = λ is.
    let now = c.args.self.now in
    let one = seen c.self.inside.pages (One c.in-One.at c.in-One.first) now c.self.view_is (sym c.in-One.ensures.value) in
    let here : get_or now c.args.place None ≡ Some c.in-One.first = one_here now 256 c.in-One.at c.in-One.first one c.args.place (sym is) c.requires.place in
    cc

pub returns-clause-long : goal.returns-clause-long
returns-clause-long g c =
    let now = c.args.self.now in
    let pages = c.self.inside.pages in
    let view = c.self.view_is in
    elim c.match-replace.branch [
      | in-Nowhere w ↦ none_long now 256 (seen pages Nowhere now view (sym w.in-Nowhere.ensures.value))
      | in-One+in-Ok w ↦ one_long now 256 w.in-One.at w.in-One.first (seen pages (One w.in-One.at w.in-One.first) now view (sym w.in-One.ensures.value))
      | in-One+in-Err w ↦ one_long now 256 w.in-One.at w.in-One.first (seen pages (One w.in-One.at w.in-One.first) now view (sym w.in-One.ensures.value))
      | in-Many+in-Err+in-Some-1 w ↦
          many_long pages (Many w.in-Many.pages) now 256 view (sym w.in-Many.ensures.value) w.add.ensures.long
      | in-Many+in-Err+in-None-1 w ↦
          many_long pages (Many w.in-Many.pages) now 256 view (sym w.in-Many.ensures.value) w.add.ensures.long
      | in-Many+in-Ok-1 w ↦
          many_long pages (Many w.in-Many.pages) now 256 view (sym w.in-Many.ensures.value) w.add.ensures.long
    ]
