-- The bytes of a page of which some are zeros.
use Rattle.std.proofs.Common.{◌≡◌, ℕ, zero, suc, ◌+◌, ◌||◌, ◌&&◌, ◌≤◌, ◌<◌, Bool, true, false, nat_lt, if◌then◌else◌, Option, Some, None, List, [], ◌∷◌, length, replicate, get_or, refl, sym, ap, ◌∙◌, arith, rules}
use Rattle.std.proofs.lemmas.List.{places, same_lists}
use Rattle.std.proofs.lemmas.Bool.Decides.{nat_tests}
use Rattle.payload.specs.Bytes.{overwritten}
use Rattle.number_sets.specs.Bits.{is_between}
use Rattle.page_table.specs.Table.{shown, shown_page, cleared}

pub length-shown : (hole : ℕ → Bool) (number : ℕ) (bytes : List ℕ) → length (shown hole number bytes) ≡ length bytes
length-shown hole number [] = refl
length-shown hole number (byte ∷ bytes) = ap suc (length-shown hole (suc number) bytes)

-- where none is such
pub shown_none : (hole : ℕ → Bool) (number : ℕ) (bytes : List ℕ) → ((k : ℕ) → hole k ≡ false) → shown hole number bytes ≡ bytes
shown_none hole number [] none = refl
shown_none hole number (byte ∷ bytes) none =
    ap (λ (b : Bool). (if b then 0 else byte) ∷ shown hole (suc number) bytes) (none number)
    ∙ ap (λ (rest : List ℕ). byte ∷ rest) (shown_none hole (suc number) bytes none)

-- where the same are
pub shown_same : (old new : ℕ → Bool) (number : ℕ) (bytes : List ℕ) → ((k : ℕ) → new k ≡ old k) → shown new number bytes ≡ shown old number bytes
shown_same old new number [] same = refl
shown_same old new number (byte ∷ bytes) same =
    ap (λ (b : Bool). (if b then 0 else byte) ∷ shown new (suc number) bytes) (same number)
    ∙ ap (λ (rest : List ℕ). (if old number then 0 else byte) ∷ rest) (shown_same old new (suc number) bytes same)

pub page_none : (hole : ℕ → Bool) (page : Option (List ℕ)) → ((k : ℕ) → hole k ≡ false) → shown_page hole page ≡ page
page_none hole None none = refl
page_none hole (Some page) none = ap (λ (bytes : List ℕ). Some bytes) (shown_none hole 0 page none)

pub page_same : (old new : ℕ → Bool) (page : Option (List ℕ)) → ((k : ℕ) → new k ≡ old k) → shown_page new page ≡ shown_page old page
page_same old new None same = refl
page_same old new (Some page) same = ap (λ (bytes : List ℕ). Some bytes) (shown_same old new 0 page same)

pub shown_at : (hole : ℕ → Bool) (number : ℕ) (bytes : List ℕ) (k d : ℕ) → k < length bytes
    → get_or (shown hole number bytes) k d ≡ (if hole (number + k) then 0 else get_or bytes k d)
shown_at hole number [] k d below = absurd (omega arith)
shown_at hole number (byte ∷ bytes) zero d below =
    let place : number ≡ number + 0 = omega arith in
    ap (λ (n : ℕ). if hole n then 0 else byte) place
shown_at hole number (byte ∷ bytes) (suc k) d below =
    let place : suc number + k ≡ number + suc k = omega arith in
    shown_at hole (suc number) bytes k d (omega arith) ∙ ap (λ (n : ℕ). if hole n then 0 else get_or bytes k d) place

-- once a range more is such
pub shown_dug : (old new : ℕ → Bool) (bytes : List ℕ) (start count : ℕ) → start + count ≤ length bytes → ((k : ℕ) → new k ≡ (old k || is_between start (start + count) k))
    → shown new 0 bytes ≡ overwritten (shown old 0 bytes) start count (replicate count 0)
shown_dug old new bytes start count within dug =
    let long = length-shown old 0 bytes in
    let same = length-shown new 0 bytes in
    same_lists _ _ (search (rules, places)) (λ k d h. grind (arith, places, nat_tests, shown_at new 0 bytes k d, shown_at old 0 bytes k d, dug k))

pub page_dug : (old new : ℕ → Bool) (page : Option (List ℕ)) (start count : ℕ) → ((bytes : List ℕ) → page ≡ Some bytes → start + count ≤ length bytes)
    → ((k : ℕ) → new k ≡ (old k || is_between start (start + count) k)) → shown_page new page ≡ cleared start count (shown_page old page)
page_dug old new None start count within dug = refl
page_dug old new (Some bytes) start count within dug = ap (λ (all : List ℕ). Some all) (shown_dug old new bytes start count (within bytes refl) dug)

-- bytes of which those before a number are shown
abbrev pub AreShown : (ℕ → Bool) → List ℕ → List ℕ → ℕ → Type 0
AreShown hole was now number = (k d : ℕ) → k < length was → get_or now k d ≡ (if nat_lt k number && hole k then 0 else get_or was k d)

pub shown_all : (hole : ℕ → Bool) (was now : List ℕ) (number : ℕ) → length now ≡ length was → length was ≤ number → AreShown hole was now number → now ≡ shown hole 0 was
shown_all hole was now number long upto so =
    same_lists _ _ (long ∙ sym (length-shown hole 0 was)) (λ k d h.
    let below : k < length was = omega (arith, long, length-shown hole 0 was, h) in
    let inside : nat_lt k number ≡ true = grind (arith, nat_tests) in
    so k d below
    ∙ ap (λ (b : Bool). if b && hole k then 0 else get_or was k d) inside
    ∙ ap (λ (n : ℕ). if hole n then 0 else get_or was k d) (omega arith)
    ∙ sym (shown_at hole 0 was k d below))
