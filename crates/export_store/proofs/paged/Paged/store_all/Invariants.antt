use Rattle.std.proofs.Common.{◌≡◌, ℕ, ◌/◌, ◌<◌, ◌≤◌, ◌||◌, ◌&&◌, true, nat_le, nat_lt}
use Rattle.export_store.specs.Pages.{image_of, is_stored, is_held}
use Rattle.export_store.proofs.paged.Paged.store_all.Given as goal

abbrev pub invariant-loop-number : goal.invariant-loop-number
invariant-loop-number g l = record {
  size : l.self.size ≡ l.fn.self.size;
  bytes : image_of l.self ≡ image_of l.fn.self;
  held : (k : ℕ) → is_held l.self k ≡ (is_held l.fn.self k || (nat_le (l.offset / 4096) k && nat_lt k l.number));
  stored : (k : ℕ) → l.offset / 4096 ≤ k → k < l.number → is_stored l.self k ≡ true;
}
