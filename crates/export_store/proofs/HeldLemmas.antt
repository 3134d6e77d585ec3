-- How many pages are held.
use Rattle.std.proofs.Common.{◌≡◌, ℕ, ◌+◌, ◌*◌, ◌<◌, ◌≤◌, inl, inr, false, arith}
use Rattle.std.specs.Int.{div_ceil}
use Rattle.number_sets.specs.Bits.{count_of}
use Rattle.number_sets.proofs.CountLemmas.{count-upto, count_both}
use Rattle.export_store.specs.Pages.{Pages, IsPaged, is_stored, is_held_zeros, is_held}
use Rattle.export_store.proofs.ImageLemmas.{held_of_stored}
use Rattle.export_store.proofs.ZeroLemmas.{either, held_of_zeros}

-- no page behind the image is held
module _ (pages : Pages) (is : IsPaged pages) (n : ℕ) (all : n ≡ div_ceil pages.size 4096) where
  none_stored : (k : ℕ) → n ≤ k → is_stored pages k ≡ false
  none_stored k behind =
      elim (either (is_stored pages k)) [
        | inl stored ↦ let below : 4096 * k < pages.size = is.within k (held_of_stored pages k stored) in absurd (omega arith)
        | inr none ↦ none
      ]

  none_marked : (k : ℕ) → n ≤ k → is_held_zeros pages k ≡ false
  none_marked k behind =
      elim (either (is_held_zeros pages k)) [
        | inl zeros ↦ let below : 4096 * k < pages.size = is.within k (held_of_zeros pages k zeros) in absurd (omega arith)
        | inr none ↦ none
      ]

  pub held_count : (a b : ℕ) → n ≤ a → n ≤ b → count_of (is_stored pages) 0 a + count_of (is_held_zeros pages) 0 b ≡ count_of (is_held pages) 0 n
  held_count a b more too =
      omega (
        arith,
        count_both (is_stored pages) (is_held_zeros pages) 0 n is.apart,
        count-upto (is_stored pages) n a more (λ k above below. none_stored k above),
        count-upto (is_held_zeros pages) n b too (λ k above below. none_marked k above),
      )
