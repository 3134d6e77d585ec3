-- Which lines are texts, and what these ask for.
use Rattle.std.proofs.Common.{◌≡◌, ℕ, ◌≤◌, nat_lt, true, false, List, length, refl}
use Rattle.std.specs.Prelude.{Err}
use Rattle.std.specs.Str.{is_utf8, IsUtf8}
use Rattle.std.proofs.lemmas.Bool.{false_from_ne_true, le-ltb}
use Rattle.std.proofs.lemmas.Str.{IsUtf8-from_is_utf8, is_utf8-from_IsUtf8}
use Rattle.nbd_control.specs.Commands.{command_of, spelled_command}
use Rattle.nbd_control.specs.declared.refusal.Refused.TheVariants as why

pub command_of_text : {A : Type 0} (line : List ℕ) → length line ≤ 4096 → IsUtf8 line → command_of {A = A} line ≡ spelled_command line
command_of_text line short text = rw (le-ltb 4096 (length line) short, is_utf8-from_IsUtf8 line text) refl

pub command_of_no_text : {A : Type 0} (line : List ℕ) → length line ≤ 4096 → (IsUtf8 line → ⊥) → command_of {A = A} line ≡ Err why.NotUtf8
command_of_no_text line short other =
    let no_text : is_utf8 line ≡ false = false_from_ne_true (is_utf8 line) (λ text. other (IsUtf8-from_is_utf8 line text)) in
    rw (le-ltb 4096 (length line) short, no_text) refl
