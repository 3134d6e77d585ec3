use Rattle.std.proofs.Common.{◌≡◌, ℕ, ◌<◌, ◌≤◌, true, false, max, IfSome}
use Rattle.number_sets.specs.Bits.{any_set, is_between}
use Rattle.number_sets.specs.Marks.{bitmap_of, is_marked}
use Rattle.number_sets.proofs.held_zeros.drop_all_empty.Given as goal

abbrev pub invariant-loop-number : goal.invariant-loop-number
invariant-loop-number g l = record {
  begun : l.first ≤ l.number;
  upto : l.number ≤ max l.first l.end;
  same : (k : ℕ) → is_marked l.bitmaps.entries k ≡ is_marked l.fn.bitmaps.entries k;
  used : (q : ℕ) → l.first ≤ q → q < l.number → IfSome (bitmap_of l.bitmaps.entries q) (λ words. any_set words ≡ true);
  others : (q : ℕ) → is_between l.first l.number q ≡ false → bitmap_of l.bitmaps.entries q ≡ bitmap_of l.fn.bitmaps.entries q;
}
