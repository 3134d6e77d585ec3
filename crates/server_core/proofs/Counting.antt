-- The counted steps of all exports together.
use Rattle.std.proofs.Common.{◌≡◌, ◌+◌, List, [], ◌∷◌, map, refl, sym, ◌∙◌, ap}
use Rattle.std.specs.List.{sum_by}
use Rattle.std.proofs.lemmas.List.Sums.{sum_by-cons}
use Rattle.server_table.specs.Table.{Side}
use Rattle.server_table.specs.Parts.{side_of}
use Rattle.server_core.specs.Members.{Standing}
use Rattle.server_core.specs.Served.{parts}

pub steps_all : (ms : List Standing) → sum_by (λ (m : Standing). m.part.count) ms ≡ sum_by (λ (one : Side). one.count) (map side_of (parts ms))
steps_all [] = refl
steps_all (m ∷ ms) =
    sum_by-cons (λ (x : Standing). x.part.count) m ms
    ∙ ap (λ n. m.part.count + n) (steps_all ms)
    ∙ sym (sum_by-cons (λ (one : Side). one.count) (side_of m.part) (map side_of (parts ms)))
