use Rattle.std.proofs.Common.{◌≡◌, ◌∙◌, ◌*◌, ℕ, List, length, ap, arith}
use Rattle.number_sets.specs.Bits.{is_set, count_of}
use Rattle.number_sets.proofs.CountLemmas.{count_le}
use Rattle.number_sets.proofs.bitmap.Bitmap.count.Goals as goal

pub returns-clause-count : goal.returns-clause-count
returns-clause-count g c =
    let words = c.as_slice.result.now in
    let all : 64 * length words ≡ 16384 = omega (arith, ap length c.as_slice.ensures.value, c.self.invariant) in
    c.count.ensures ∙ ap (count_of (is_set words) 0) all ∙ ap (λ (w : List ℕ). count_of (is_set w) 0 16384) (c.as_slice.ensures.value ∙ c.self.view_is)

pub returns-clause-few : goal.returns-clause-few
returns-clause-few g c =
    let words = c.as_slice.result.now in
    omega (arith, c.count.ensures, count_le (is_set words) 0 (64 * length words), ap length c.as_slice.ensures.value, c.self.invariant)
