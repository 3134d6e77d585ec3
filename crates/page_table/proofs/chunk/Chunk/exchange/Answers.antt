use Rattle.std.proofs.Common.{◌∙◌, ◌≡◌, Some, None, get_or, sym, ap, subst}
use Rattle.std.specs.Prelude.{OnErr}
use Rattle.page_table.specs.declared.chunk.Pages.TheVariants.{Nowhere, One, Many}
use Rattle.page_table.proofs.ChunkLemmas.{seen, none_at, none_long, one_here, one_other, one_put, one_long, many_long}
use Rattle.page_table.proofs.chunk.Chunk.exchange.Goals.{in-Nowhere, in-One+else-at-place, in-Many}
use Rattle.page_table.proofs.chunk.Chunk.exchange.Goals as goal

pub returns-then-at-place-clause-before : goal.returns-then-at-place-clause-before
returns-then-at-place-clause-before g c =
    let at = c.in-One.at in
    let stored = c.in-One.stored in
    let one = seen c.self.inside.pages (One at stored) c.args.self.now c.self.view_is c.in-One.is in
    one_here c.args.self.now 256 at stored one c.args.place c.if-at-place.true c.requires ∙ ap (λ page. Some page) (sym c.replace.ensures.value)

pub returns-then-at-place-clause-after : goal.returns-then-at-place-clause-after
returns-then-at-place-clause-after g c =
    let at = c.in-One.at in
    let stored = c.in-One.stored in
    let one = seen c.self.inside.pages (One at stored) c.args.self.now c.self.view_is c.in-One.is in
    one_put c.args.self.now 256 at stored one c.args.place c.replace.new.dest c.args.page c.if-at-place.true c.replace.ensures.after

pub returns-then-at-place-clause-long : goal.returns-then-at-place-clause-long
returns-then-at-place-clause-long g c =
    let at = c.in-One.at in
    let stored = c.in-One.stored in
    one_long c.args.self.now 256 at stored (seen c.self.inside.pages (One at stored) c.args.self.now c.self.view_is c.in-One.is)

pub returns-clause-none : goal.returns-clause-none
returns-clause-none g c =
    let now = c.args.self.now in
    let place = c.args.place in
    let shown = seen c.self.inside.pages in
    elim c.match-self.branch [
      | in-Nowhere w ↦ subst (λ r. OnErr r (get_or now place None ≡ None)) (sym w.result-is) (none_at now 256 (shown Nowhere now c.self.view_is w.in-Nowhere.is) place)
      | in-One+else-at-place w ↦
          let one = shown (One w.in-One.at w.in-One.stored) now c.self.view_is w.in-One.is in
          subst (λ r. OnErr r (get_or now place None ≡ None)) (sym w.result-is) (one_other now 256 w.in-One.at w.in-One.stored one place (λ is. w.if-at-place.false (sym is)))
      | in-Many w ↦
          let many = shown (Many w.in-Many.pages) now c.self.view_is w.in-Many.is in
          subst (λ r. OnErr r (get_or now place None ≡ None)) (sym w.result-is)
          (subst (λ all. OnErr w.exchange.result (get_or all place None ≡ None)) (sym many) w.exchange.ensures.none)
    ]

pub returns-clause-long : goal.returns-clause-long
returns-clause-long g c =
    let now = c.args.self.now in
    let pages = c.self.inside.pages in
    let view = c.self.view_is in
    elim c.match-self.branch [
      | in-Nowhere w ↦ none_long now 256 (seen pages Nowhere now view w.in-Nowhere.is)
      | in-One+else-at-place w ↦ one_long now 256 w.in-One.at w.in-One.stored (seen pages (One w.in-One.at w.in-One.stored) now view w.in-One.is)
      | in-Many w ↦ many_long pages (Many w.in-Many.pages) now 256 view w.in-Many.is w.exchange.ensures.long
    ]
