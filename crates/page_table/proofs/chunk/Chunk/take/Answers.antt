use Rattle.std.proofs.Common.{◌∙◌, None, get_or, set, sym, ap}
use Rattle.page_table.specs.declared.chunk.Pages.TheVariants.{Nowhere, One, Many}
use Rattle.page_table.specs.Chunk.{in_pages}
use Rattle.page_table.proofs.ChunkLemmas.{seen, none_at, none_long, none_kept, one_here, one_other, one_long, one_gone, one_kept, many_long}
use Rattle.page_table.proofs.chunk.Chunk.take.Goals.{in-Nowhere, in-One+then-at-place, in-One+else-at-place, in-Many}
use Rattle.page_table.proofs.chunk.Chunk.take.Goals as goal

pub returns-clause-before : goal.returns-clause-before
returns-clause-before g c =
    let now = c.args.self.now in
    let place = c.args.place in
    let shown = seen c.self.inside.pages in
    let view = c.self.view_is in
    elim c.match-replace.branch [
      | in-Nowhere w ↦ ap (λ made. made.1) w.pages-is ∙ sym (none_at now 256 (shown Nowhere now view (sym w.in-Nowhere.ensures.value)) place)
      | in-One+then-at-place w ↦
          let one = shown (One w.in-One.at w.in-One.page) now view (sym w.in-One.ensures.value) in
          ap (λ made. made.1) w.pages-is ∙ sym (one_here now 256 w.in-One.at w.in-One.page one place w.if-at-place.true c.requires)
      | in-One+else-at-place w ↦
          let one = shown (One w.in-One.at w.in-One.page) now view (sym w.in-One.ensures.value) in
          ap (λ made. made.1) w.pages-is ∙ sym (one_other now 256 w.in-One.at w.in-One.page one place (λ is. w.if-at-place.false (sym is)))
      | in-Many w ↦
          let many = shown (Many w.in-Many.pages) now view (sym w.in-Many.ensures.value) in
          ap (λ made. made.1) w.pages-is ∙ w.take-taken.ensures.before ∙ ap (λ all. get_or all place None) (sym many)
    ]

pub returns-clause-after : goal.returns-clause-after
returns-clause-after g c =
    let now = c.args.self.now in
    let place = c.args.place in
    let shown = seen c.self.inside.pages in
    let view = c.self.view_is in
    elim c.match-replace.branch [
      | in-Nowhere w ↦
          let none = shown Nowhere now view (sym w.in-Nowhere.ensures.value) in
          ap (λ made. in_pages made.0) w.pages-is ∙ sym (none_kept now 256 none place ∙ none)
      | in-One+then-at-place w ↦
          let one = shown (One w.in-One.at w.in-One.page) now view (sym w.in-One.ensures.value) in
          ap (λ made. in_pages made.0) w.pages-is ∙ sym (one_gone now 256 w.in-One.at w.in-One.page one place w.if-at-place.true)
      | in-One+else-at-place w ↦
          let one = shown (One w.in-One.at w.in-One.page) now view (sym w.in-One.ensures.value) in
          ap (λ made. in_pages made.0) w.pages-is ∙ sym (one_kept now 256 w.in-One.at w.in-One.page one place (λ is. w.if-at-place.false (sym is)) ∙ one)
      | in-Many w ↦
          let many = shown (Many w.in-Many.pages) now view (sym w.in-Many.ensures.value) in
          ap (λ made. in_pages made.0) w.pages-is ∙ w.take-taken.ensures.after ∙ ap (λ all. set all place None) (sym many)
    ]

pub returns-clause-long : goal.returns-clause-long
returns-clause-long g c =
    let now = c.args.self.now in
    let pages = c.self.inside.pages in
    let view = c.self.view_is in
    elim c.match-replace.branch [
      | in-Nowhere w ↦ none_long now 256 (seen pages Nowhere now view (sym w.in-Nowhere.ensures.value))
      | in-One+then-at-place w ↦ one_long now 256 w.in-One.at w.in-One.page (seen pages (One w.in-One.at w.in-One.page) now view (sym w.in-One.ensures.value))
      | in-One+else-at-place w ↦ one_long now 256 w.in-One.at w.in-One.page (seen pages (One w.in-One.at w.in-One.page) now view (sym w.in-One.ensures.value))
      | in-Many w ↦ many_long pages (Many w.in-Many.pages) now 256 view (sym w.in-Many.ensures.value) w.take-taken.ensures.long
    ]
