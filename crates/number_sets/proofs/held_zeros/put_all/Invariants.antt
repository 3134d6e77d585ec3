use Rattle.std.proofs.Common.{◌≡◌, ℕ, ◌/◌, ◌<◌, ◌≤◌, true, false, IsSome}
use Rattle.std.specs.Int.{div_ceil}
use Rattle.number_sets.specs.Bits.{is_between}
use Rattle.number_sets.specs.Marks.{bitmap_of, is_marked}
use Rattle.number_sets.proofs.RangeLemmas.{ArePut}
use Rattle.number_sets.proofs.held_zeros.put_all.Given as goal

abbrev pub invariant-loop-bitmap : goal.invariant-loop-bitmap
invariant-loop-bitmap g l = record {
  begun : l.first / 16384 ≤ l.bitmap;
  put : ArePut true (λ k. k / 16384) l.first l.end (is_marked l.fn.bitmaps.entries) (is_marked l.bitmaps.entries) l.bitmap;
  there : (q : ℕ) → l.first / 16384 ≤ q → q < div_ceil l.end 16384 → IsSome (bitmap_of l.bitmaps.entries q);
  others : (q : ℕ) → is_between (l.first / 16384) (div_ceil l.end 16384) q ≡ false → bitmap_of l.bitmaps.entries q ≡ bitmap_of l.fn.bitmaps.entries q;
}
