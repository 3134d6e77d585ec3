-- Why a head that has its spelling is refused.
use Rattle.std.proofs.Common.{◌≡◌, ℕ, ◌^◌, ◌<◌, ◌≤◌, Option, Some, None, if◌then◌else◌, nat_le, nat_lt, List, refl, ap, ◌∙◌}
use Rattle.std.proofs.lemmas.Bool.{le-leb, lt-leb, lt-ltb, le-ltb}
use Rattle.nbd_wire.specs.Grammar.{option_head_text}
use Rattle.nbd_wire.proofs.FieldLemmas.{wide32}
use Rattle.nbd_options.specs.declared.haggle.HeadFault.{HeadFault}
use Rattle.nbd_options.specs.declared.haggle.HeadFault.TheVariants as faults
use Rattle.nbd_options.specs.Haggled.{head_fault, told_length}

pub told_length-text : (number count : ℕ) → count < 2 ^ 32 → told_length (option_head_text number count) ≡ count
unfolding option_head_text
told_length-text number count small = wide32.again count small

abbrev by_count : ℕ → ℕ → Option HeadFault
by_count seen count = if nat_le 1000 seen then Some faults.TooMany else if nat_lt 65536 count then Some faults.TooLong else None

at_text : (seen number count : ℕ) → head_fault seen (option_head_text number count) ≡ by_count seen (told_length (option_head_text number count))
unfolding option_head_text
at_text seen number count = refl

pub head_fault-text : (seen number count : ℕ) → count < 2 ^ 32 → head_fault seen (option_head_text number count) ≡ by_count seen count
head_fault-text seen number count small = at_text seen number count ∙ ap (by_count seen) (told_length-text number count small)

-- the three outcomes of such a head
pub too_many : (seen : ℕ) (bytes : List ℕ) (number count : ℕ) → bytes ≡ option_head_text number count → count < 2 ^ 32 → 1000 ≤ seen
    → head_fault seen bytes ≡ Some faults.TooMany
too_many seen bytes number count spelled small many = rw (spelled, head_fault-text seen number count small, le-leb 1000 seen many) refl

pub too_long : (seen : ℕ) (bytes : List ℕ) (number count : ℕ) → bytes ≡ option_head_text number count → count < 2 ^ 32 → seen < 1000 → 65536 < count
    → head_fault seen bytes ≡ Some faults.TooLong
too_long seen bytes number count spelled small few long =
    rw (spelled, head_fault-text seen number count small, lt-leb 1000 seen few, lt-ltb 65536 count long) refl

pub taken : (seen : ℕ) (bytes : List ℕ) (number count : ℕ) → bytes ≡ option_head_text number count → count < 2 ^ 32 → seen < 1000 → count ≤ 65536
    → head_fault seen bytes ≡ None
taken seen bytes number count spelled small few short =
    rw (spelled, head_fault-text seen number count small, lt-leb 1000 seen few, le-ltb 65536 count short) refl
