-- Places of which none is taken, or one alone.
use Rattle.std.proofs.Common.{◌≡◌, ◌≢◌, ℕ, zero, suc, ◌<◌, Option, Some, None, is_some, List, length, get_or, set, replicate, refl, sym, ap, ◌∙◌, arith}
use Rattle.std.specs.List.{filter}
use Rattle.std.proofs.lemmas.List.{length-set, length-replicate, set-set, set_comm, set-get_or, get_or-set_same, get_or-set_other}
use Rattle.page_table.specs.declared.chunk.Pages.{Pages}
use Rattle.page_table.specs.Table.{Chunk}
use Rattle.page_table.specs.Chunk.{in_pages}

-- what a chunk shows of the pages in it
pub seen : {A : Type 0} (pages inside : Pages A) (chunk : Chunk) → in_pages pages ≡ chunk → pages ≡ inside → chunk ≡ in_pages inside
seen pages inside chunk view is = sym view ∙ ap in_pages is

-- what a place has where no item is
pub nones_at : {X : Type 0} (n k : ℕ) → ◌≡◌ {A = Option X} (get_or (replicate n None) k None) None
nones_at zero k = refl
nones_at (suc n) zero = refl
nones_at (suc n) (suc k) = nones_at n k

-- no place is taken
module _ {X : Type 0} (all : List (Option X)) (n : ℕ) (none : all ≡ replicate n None) where
  pub none_long : length all ≡ n
  none_long = ap length none ∙ length-replicate n None

  pub none_at : (k : ℕ) → get_or all k None ≡ None
  none_at k = ap (λ (places : List (Option X)). get_or places k None) none ∙ nones_at n k

  pub none_kept : (k : ℕ) → set all k None ≡ all
  none_kept k = ap (λ (x : Option X). set all k x) (sym (none_at k)) ∙ set-get_or all k None

-- how many are taken
pub nones_counted : (X : Type 0) (n : ℕ) → length (filter is_some (replicate {A = Option X} n None)) ≡ 0
nones_counted X zero = refl
nones_counted X (suc n) = nones_counted X n

pub one_counted : {X : Type 0} (n at : ℕ) (x : X) → at < n → length (filter is_some (set (replicate n None) at (Some x))) ≡ 1
one_counted zero at x below = absurd (omega arith)
one_counted {X} (suc n) zero x below = ap suc (nones_counted X n)
one_counted (suc n) (suc at) x below = one_counted n at x (omega arith)

-- one place is taken
module _ {X : Type 0} (all : List (Option X)) (n at : ℕ) (x : X) (one : all ≡ set (replicate n None) at (Some x)) where
  pub one_long : length all ≡ n
  one_long = ap length one ∙ length-set (replicate n None) at (Some x) ∙ length-replicate n None

  pub one_here : (k : ℕ) → at ≡ k → k < n → get_or all k None ≡ Some x
  one_here k is below =
      ap (λ (places : List (Option X)). get_or places k None) one
      ∙ ap (λ (i : ℕ). get_or (set (replicate n None) i (Some x)) k None) is
      ∙ get_or-set_same (replicate n None) k (Some x) None (omega (arith, length-replicate {A = Option X} n None))

  pub one_other : (k : ℕ) → k ≢ at → get_or all k None ≡ None
  one_other k apart =
      ap (λ (places : List (Option X)). get_or places k None) one
      ∙ get_or-set_other (replicate n None) at k (Some x) None apart
      ∙ nones_at n k

  -- it holds another item
  pub one_put : (k : ℕ) (y z : X) → at ≡ k → y ≡ z → set (replicate n None) at (Some y) ≡ set all k (Some z)
  one_put k y z is same =
      sym (set-set (replicate n None) at (Some x) (Some y))
      ∙ ap (λ (places : List (Option X)). set places at (Some y)) (sym one)
      ∙ ap (λ (i : ℕ). set all i (Some y)) is
      ∙ ap (λ (item : X). set all k (Some item)) same

  -- it holds none any more, or was another
  pub one_gone : (k : ℕ) → at ≡ k → set all k None ≡ replicate n None
  one_gone k is =
      ap (λ (i : ℕ). set all i None) (sym is)
      ∙ ap (λ (places : List (Option X)). set places at None) one
      ∙ set-set (replicate n None) at (Some x) None
      ∙ none_kept (replicate n None) n refl at

  pub one_kept : (k : ℕ) → k ≢ at → set all k None ≡ all
  one_kept k apart = ap (λ (x : Option X). set all k x) (sym (one_other k apart)) ∙ set-get_or all k None

  -- two are
  pub two : (after : List (Option X)) (k : ℕ) (y : X) → after ≡ set all k (Some y) → at ≢ k → after ≡ set (set (replicate n None) k (Some y)) at (Some x)
  two after k y put apart = put ∙ ap (λ (places : List (Option X)). set places k (Some y)) one ∙ set_comm (replicate n None) at k (Some x) (Some y) apart

-- a chunk has as many places as what is inside
pub many_long : {A : Type 0} (pages inside : Pages A) (chunk : Chunk) (n : ℕ) → in_pages pages ≡ chunk → pages ≡ inside → length (in_pages inside) ≡ n → length chunk ≡ n
many_long pages inside chunk n view is long = ap length (seen pages inside chunk view is) ∙ long
