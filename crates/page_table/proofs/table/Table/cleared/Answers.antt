use Rattle.std.proofs.Common.{◌≡◌, ◌∙◌, ℕ, List, Some, length, take, replicate, ap, arith}
use Rattle.std.proofs.lemmas.List.{length-replicate}
use Rattle.payload.specs.Bytes.{overwritten}
use Rattle.page_table.specs.Table.{cleared}
use Rattle.page_table.proofs.TableLemmas.{zeros_of}
use Rattle.page_table.proofs.table.Table.cleared.Goals as goal

pub returns : goal.returns
returns g c =
    let start : ℕ = c.args.start in
    let count : ℕ = c.args.count in
    let current : List ℕ = c.in_ok-current.current in
    let part : take count c.as_slice.result.now ≡ replicate count 0 = zeros_of c.as_slice.result.now count (c.as_slice.ensures.bytes ∙ c.zeros-zeros.ensures.zeros) (omega (arith, c.requires.within)) in
    ap (λ (bytes : List ℕ). Some bytes)
    (c.in_ok-after.ensures.bytes
    ∙ ap (λ (bytes : List ℕ). overwritten current start (length bytes) bytes) part
    ∙ ap (λ (n : ℕ). overwritten current start n (replicate count 0)) (length-replicate {A = ℕ} count 0))
    ∙ ap (cleared start count) c.in_ok-current.ensures
