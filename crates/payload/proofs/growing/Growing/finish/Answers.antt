use Rattle.std.proofs.Common.{◌++◌, List, ℕ, ◌∙◌}
use Rattle.std.specs.List.{concat}
use Rattle.std.proofs.lemmas.Result.{IfOk-weaker}
use Rattle.payload.proofs.RowLemmas.{behind_start}
use Rattle.payload.proofs.growing.Growing.finish.Goals as goal

pub returns : goal.returns
returns g c =
    let inside = c.self.inside in
    let front = concat inside.pages.items ++ inside.last.items in
    let same = behind_start (concat c.in_ok-pages.pages.items) front inside.start inside.end c.in_ok-pages.ensures.bytes c.self.invariant.long c.self.invariant.within in
    IfOk-weaker c.among.result _ _ (λ payload is. is ∙ same ∙ c.self.view_is) c.among.ensures
