-- When a finite map by number takes two keys for one.
use Rattle.std.proofs.Common.{◌≡◌, ◌≢◌, ℕ, true, false, ◌∙◌}
use Rattle.std.proofs.lemmas.Bool.{eq-eqb, ne_eqb}
use Rattle.std.specs.Ordering.{nat_cmp, eq_by_cmp}
use Rattle.std.specs.Cmp.{unsigned_tied}

pub tied_same : (m n : ℕ) → m ≡ n → eq_by_cmp nat_cmp m n ≡ true
tied_same m n e = unsigned_tied m n ∙ eq-eqb m n e

pub tied_other : (m n : ℕ) → m ≢ n → eq_by_cmp nat_cmp m n ≡ false
tied_other m n e = unsigned_tied m n ∙ ne_eqb m n e
