-- Chunks after one of them has changed.
use Rattle.std.proofs.Common.{◌≡◌, ◌≢◌, ℕ, ◌+◌, ◌-◌, ◌*◌, ◌/◌, ◌%◌, ◌<◌, ◌≤◌, inl, inr, Bool, true, false, cond, zero, suc, set, min, is_some, IsSome, IfSome, Result, Ok, Err, OnOk, OnErr, Option, None, Some, List, [], ◌∷◌, length, get_or, replicate, if◌then◌else◌, refl, sym, ap, subst, ◌∙◌, arith}
use Rattle.std.proofs.lemmas.Bool.{cases_eq}
use Rattle.number_sets.specs.Bits.{is_between}
use Rattle.number_sets.proofs.MarksLemmas.{if_none}
use Rattle.page_table.specs.Table.{Chunk, Regions, in_chunk, chunk_of, in_chunks, is_kept, taken, AreTaken}
use Rattle.number_sets.proofs.CountLemmas.{count_of, count-zero, count-cons, count-none, count_list, count_some}
use Rattle.number_sets.proofs.RangeLemmas.{between_yes, between_part}
use Rattle.page_table.proofs.ChunkLemmas.{one_here, one_other}
use Rattle.page_table.proofs.RegionsLemmas.{none_counted, some_below, ok_so, err_so}

-- what follows from both
pub either_way : {T E : Type 0} (r : Result T E) (P Q R : Type 0) → (P → R) → (Q → R) → OnOk r P → OnErr r Q → R
either_way (Ok x) P Q R left right p q = left p
either_way (Err e) P Q R left right p q = right q

-- what is under a number
pub table_is : (chunks : Regions) (k q : ℕ) → k / 256 ≡ q → in_chunks chunks k ≡ in_chunk (chunk_of chunks q) (k % 256)
unfolding in_chunks
table_is chunks k q is = ap (λ (p : ℕ). in_chunk (chunk_of chunks p) (k % 256)) is

pub found_is : (chunks : Regions) (k q : ℕ) (chunk : Chunk) → k / 256 ≡ q → Some chunk ≡ chunk_of chunks q → get_or chunk (k % 256) None ≡ in_chunks chunks k
found_is chunks k q chunk is found = ap (λ (c : Option Chunk). in_chunk c (k % 256)) found ∙ sym (table_is chunks k q is)

pub absent_is : (chunks : Regions) (k q : ℕ) → k / 256 ≡ q → chunk_of chunks q ≡ None → in_chunks chunks k ≡ None
absent_is chunks k q is absent = table_is chunks k q is ∙ ap (λ (c : Option Chunk). in_chunk c (k % 256)) absent

-- there is no chunk where there is no region
no_chunk : (chunks : Regions) → chunks ≡ [] → (q : ℕ) → chunk_of chunks q ≡ None
unfolding chunk_of
no_chunk chunks none q = ap (λ (all : Regions). chunk_of all q) none

pub none_in_chunks : (chunks : Regions) → chunks ≡ [] → (k : ℕ) → in_chunks chunks k ≡ None
none_in_chunks chunks none k = absent_is chunks k (k / 256) refl (no_chunk chunks none (k / 256))

-- no chunk is there, so each that is has a place that is taken
pub none_taken : (chunks : Regions) → chunks ≡ [] → AreTaken chunks
none_taken chunks none number = if_none (chunk_of chunks number) (λ chunk. 0 < taken chunk) (no_chunk chunks none number)

-- a chunk that is there
pub taken_found : (chunks : Regions) (q : ℕ) (chunk : Chunk) → AreTaken chunks → Some chunk ≡ chunk_of chunks q → 0 < taken chunk
taken_found chunks q chunk all found = subst (λ (c : Option Chunk). IfSome c (λ chunk. 0 < taken chunk)) (sym found) (all q)

-- one in which there is a page
pub taken_there : (chunk : Option Chunk) (place : ℕ) (page : List ℕ) → in_chunk chunk place ≡ Some page → IfSome chunk (λ chunk. 0 < taken chunk)
taken_there None place page is = tt
taken_there (Some chunk) place page is =
    omega (arith, count_some is_some chunk place (some_below chunk place (subst (λ (o : Option (List ℕ)). IsSome o) (sym is) refl)) (ap is_some is))

-- one that has the same pages as one in which there are some
none_filtered : (chunk : Chunk) → ((k : ℕ) → get_or chunk k None ≡ None) → taken chunk ≡ 0
none_filtered [] none = refl
none_filtered (None ∷ chunk) none = none_filtered chunk (λ k. none (suc k))
none_filtered (Some page ∷ chunk) none = let bad : ◌≡◌ {A = Option (List ℕ)} (Some page) None = none zero in absurd (cc)

pub taken_kept : (old : Chunk) (new : Option Chunk) → ((k : ℕ) → in_chunk new k ≡ get_or old k None) → 0 < taken old → IfSome new (λ chunk. 0 < taken chunk)
taken_kept old None same some = tt
taken_kept old (Some chunk) same some =
    elim (cases_eq (taken chunk) 0) [
      | inl none ↦ omega (arith, some, none_filtered old (λ k. sym (same k) ∙ none_counted chunk k none))
      | inr more ↦ omega (arith, more)
    ]

-- the same chunks
pub taken_same : (old new : Regions) → ((p : ℕ) → chunk_of new p ≡ chunk_of old p) → AreTaken old → AreTaken new
taken_same old new same was p = subst (λ (c : Option Chunk). IfSome c (λ chunk. 0 < taken chunk)) (sym (same p)) (was p)

-- One chunk has changed.
module _ (old new : Regions) (q : ℕ) (others : (p : ℕ) → p ≢ q → chunk_of new p ≡ chunk_of old p) where
  pub other_chunk : (k : ℕ) → k / 256 ≢ q → in_chunks new k ≡ in_chunks old k
  other_chunk k apart =
      table_is new k (k / 256) refl ∙ ap (λ (chunk : Option Chunk). in_chunk chunk (k % 256)) (others (k / 256) apart) ∙ sym (table_is old k (k / 256) refl)

  same_place : (k : ℕ) → k / 256 ≡ q → in_chunk (chunk_of new q) (k % 256) ≡ in_chunk (chunk_of old q) (k % 256) → in_chunks new k ≡ in_chunks old k
  same_place k is same = table_is new k q is ∙ same ∙ sym (table_is old k q is)

  pub other_places : (number : ℕ) → number / 256 ≡ q → ((k : ℕ) → k ≢ number % 256 → in_chunk (chunk_of new q) k ≡ in_chunk (chunk_of old q) k)
      → (k : ℕ) → k ≢ number → in_chunks new k ≡ in_chunks old k
  other_places number is same k apart =
      elim (cases_eq (k / 256) q) [
        | inl e ↦ same_place k e (same (k % 256) (λ place. apart (omega arith)))
        | inr other ↦ other_chunk k other
      ]

  pub taken_after : AreTaken old → IfSome (chunk_of new q) (λ chunk. 0 < taken chunk) → AreTaken new
  taken_after was here p =
      elim (cases_eq p q) [
        | inl e ↦ subst (λ (n : ℕ). IfSome (chunk_of new n) (λ chunk. 0 < taken chunk)) (sym e) here
        | inr apart ↦ subst (λ (c : Option Chunk). IfSome c (λ chunk. 0 < taken chunk)) (sym (others p apart)) (was p)
      ]

-- how many pages of a chunk are stored
pub count_chunk : (chunks : Regions) (q n begin : ℕ) (chunk : Chunk) → n ≡ 256 → begin ≡ 256 * q → length chunk ≡ n → Some chunk ≡ chunk_of chunks q
    → taken chunk ≡ count_of (is_kept chunks) begin n
count_chunk chunks q n begin chunk all begins long found =
    sym (count_list is_some chunk (is_kept chunks) begin n (sym long) (λ i j below at.
    let block : j / 256 ≡ q = omega arith in
    let place : j % 256 ≡ i = omega arith in
    ap is_some (sym (found_is chunks j q chunk block found)) ∙ ap (λ (p : ℕ). is_some (get_or chunk p None)) place))

pub count_absent : (chunks : Regions) (q n begin : ℕ) → n ≡ 256 → begin ≡ 256 * q → chunk_of chunks q ≡ None → count_of (is_kept chunks) begin n ≡ 0
count_absent chunks q n begin all begins absent =
    count-none (is_kept chunks) begin n (λ k above below. ap is_some (absent_is chunks k q (omega arith) absent))

-- between two chunks where there is none
pub none_between : (chunks : Regions) (from to : ℕ) → ((q : ℕ) → from ≤ q → q < to → chunk_of chunks q ≡ None) → (k : ℕ) → 256 * from ≤ k → k < 256 * to → in_chunks chunks k ≡ None
none_between chunks from to none k above below = absent_is chunks k (k / 256) refl (none (k / 256) (omega arith) (omega arith))

-- Pages of a chunk are stored no longer, and the chunk goes, or stays as long as a place is taken.
module _ (old new : Regions) (q first end : ℕ) (others : (p : ℕ) → p ≢ q → chunk_of new p ≡ chunk_of old p) where
  pub whole_gone : first ≤ q * 256 → q * 256 + 256 ≤ end → chunk_of new q ≡ None → (k : ℕ) → k / 256 ≡ q → in_chunks new k ≡ (if is_between first end k then None else in_chunks old k)
  whole_gone above below gone k is =
      let inside : is_between first end k ≡ true = between_yes first end k (omega arith) (omega arith) in
      absent_is new k q is gone ∙ ap (λ (b : Bool). if b then None else in_chunks old k) (sym inside)

  pub places_gone : (from to : ℕ) → from ≡ first - q * 256 → to ≡ min (end - q * 256) 256
      → ((k : ℕ) → in_chunk (chunk_of new q) k ≡ (if is_between from to k then None else in_chunk (chunk_of old q) k))
      → (k : ℕ) → k / 256 ≡ q → in_chunks new k ≡ (if is_between first end k then None else in_chunks old k)
  places_gone from to begins ends here k is =
      table_is new k q is ∙ here (k % 256)
      ∙ ap (λ (b : Bool). if b then None else in_chunk (chunk_of old q) (k % 256)) (between_part first end (q * 256) 256 from to k (k % 256) begins ends (omega arith) (omega arith))
      ∙ ap (λ (page : Option (List ℕ)). if is_between first end k then None else page) (sym (table_is old k q is))

pub some_of : (page : Option (List ℕ)) (bytes : List ℕ) → page ≡ Some bytes → true ≡ is_some page
some_of page bytes there = sym (ap is_some there)

-- of a chunk in which no place is taken nothing is stored
none_in_chunk : (chunk : Option Chunk) (n k : ℕ) → IfSome chunk (λ c. n ≡ taken c) → n ≡ 0 → in_chunk chunk k ≡ None
none_in_chunk None n k left none = refl
none_in_chunk (Some chunk) n k left none = none_counted chunk k (sym left ∙ none)

-- the same where it is empty and goes
pub places_all_gone : (old mid new : Regions) (q first end from to n : ℕ) → from ≡ first - q * 256 → to ≡ min (end - q * 256) 256 → ((p : ℕ) → p ≢ q → chunk_of mid p ≡ chunk_of old p)
    → ((k : ℕ) → in_chunk (chunk_of mid q) k ≡ (if is_between from to k then None else in_chunk (chunk_of old q) k))
    → IfSome (chunk_of mid q) (λ c. n ≡ taken c) → n ≡ 0 → chunk_of new q ≡ None → (k : ℕ) → k / 256 ≡ q → in_chunks new k ≡ (if is_between first end k then None else in_chunks old k)
places_all_gone old mid new q first end from to n begins ends others here left none gone k is =
    absent_is new k q is gone ∙ sym (table_is mid k q is ∙ none_in_chunk (chunk_of mid q) n (k % 256) left none) ∙ places_gone old mid q first end others from to begins ends here k is

-- fewer lie in so many places where some went
less_cond : (a b : Bool) → (b ≡ true → a ≡ true) → cond b 1 0 ≤ cond a 1 0
less_cond true true so = omega arith
less_cond true false so = omega arith
less_cond false false so = omega arith
less_cond false true so = let bad : false ≡ true = so refl in absurd (cc)

count_less : (p q : ℕ → Bool) (from n : ℕ) → ((k : ℕ) → from ≤ k → k < from + n → q k ≡ true → p k ≡ true) → count_of q from n ≤ count_of p from n
count_less p q from zero so = omega (arith, count-zero p from, count-zero q from)
count_less p q from (suc n) so =
    omega (arith, count-cons p from n, count-cons q from n, less_cond (p from) (q from) (so from (omega arith) (omega arith)), count_less p q (from + 1) n (λ k above below. so k (omega arith) (omega arith)))

left_in : (b : Bool) (page : Option (List ℕ)) → is_some (if b then None else page) ≡ true → is_some page ≡ true
left_in true page left = absurd (cc)
left_in false page left = left

pub count_left : (old new : Regions) (q first end : ℕ) → ((k : ℕ) → k / 256 ≡ q → in_chunks new k ≡ (if is_between first end k then None else in_chunks old k))
    → count_of (is_kept new) (256 * q) 256 ≤ count_of (is_kept old) (256 * q) 256
count_left old new q first end here =
    count_less (is_kept old) (is_kept new) (256 * q) 256 (λ k above below left. left_in (is_between first end k) (in_chunks old k) (sym (ap is_some (here k (omega arith))) ∙ left))

-- A page comes to a chunk in which there was none in its place, or does not.
module _ {T E : Type 0} (r : Result T E) (old new : Option Chunk) (place : ℕ) (was : in_chunk old place ≡ None) (none : OnErr r (in_chunk new place ≡ None))
    (places : (k : ℕ) → k ≢ place → in_chunk new k ≡ in_chunk old k) where
  pub taken_added : (chunk : Chunk) (page : List ℕ) → OnOk r (in_chunk new place ≡ Some page) → Some chunk ≡ old → 0 < taken chunk → IfSome new (λ chunk. 0 < taken chunk)
  taken_added chunk page here found some =
      either_way r (in_chunk new place ≡ Some page) (in_chunk new place ≡ None) (IfSome new (λ chunk. 0 < taken chunk)) (taken_there new place page)
      (λ gone. taken_kept chunk new (λ k. elim (cases_eq k place) [
        | inl e ↦ ap (in_chunk new) e ∙ gone ∙ sym was ∙ ap (in_chunk old) (sym e)
        | inr apart ↦ places k apart
      ] ∙ ap (λ (c : Option Chunk). in_chunk c k) (sym found)) some) here none

-- A chunk of one page comes where there was none, or does not.
module _ {T E : Type 0} (r : Result T E) (old new : Option Chunk) (chunk : Chunk) (n place : ℕ) (page : List ℕ) (below : place < n) (held : chunk ≡ set (replicate n None) place (Some page))
    (was : old ≡ None) (here : OnOk r (new ≡ Some chunk)) (gone : OnErr r (new ≡ None)) where
  pub added_here : OnOk r (in_chunk new place ≡ Some page)
  added_here =
      ok_so r (new ≡ Some chunk) (in_chunk new place ≡ Some page)
      (λ is. ap (λ (c : Option Chunk). in_chunk c place) is ∙ one_here chunk n place page held place refl below) here

  pub added_gone : OnErr r (in_chunk new place ≡ None)
  added_gone = err_so r (new ≡ None) (in_chunk new place ≡ None) (ap (λ (c : Option Chunk). in_chunk c place)) gone

  pub added_others : (k : ℕ) → k ≢ place → in_chunk new k ≡ in_chunk old k
  added_others k apart =
      either_way r (new ≡ Some chunk) (new ≡ None) (in_chunk new k ≡ in_chunk old k)
      (λ is. ap (λ (c : Option Chunk). in_chunk c k) is ∙ one_other chunk n place page held k apart ∙ ap (λ (c : Option Chunk). in_chunk c k) (sym was))
      (λ none. ap (λ (c : Option Chunk). in_chunk c k) (none ∙ sym was)) here gone

  pub added_taken : IfSome new (λ chunk. 0 < taken chunk)
  added_taken =
      either_way r (in_chunk new place ≡ Some page) (new ≡ None) (IfSome new (λ chunk. 0 < taken chunk)) (taken_there new place page)
      (if_none new (λ chunk. 0 < taken chunk)) added_here gone
