-- Which bytes are escaped in a basic string.
use Rattle.std.proofs.Common.{◌≡◌, ◌≢◌, ℕ, ◌<◌, ◌≤◌, ◌==◌, nat_lt, Bool, true, false, List, [], ◌∷◌, ◌++◌, refl, sym, ap, ◌∙◌, inl, inr, arith}
use Rattle.std.specs.List.{flat_map}
use Rattle.std.proofs.lemmas.Bool.{cases_Bool}
use Rattle.std.proofs.lemmas.Bool.Decides.{nat_tests}
use Rattle.toml_writer.specs.Text.{needs_escape, quotes_after, escape_text, escaped}
use Rattle.nbd_control.specs.Quoting.{basic_byte}

pub needs_quote : needs_escape false 0 34 ≡ true
unfolding needs_escape
needs_quote = refl

pub needs_backslash : needs_escape false 0 92 ≡ true
unfolding needs_escape
needs_backslash = refl

pub needs_delete : needs_escape false 0 127 ≡ true
unfolding needs_escape
needs_delete = refl

-- of the others the control characters
pub needs_other : (byte : ℕ) → byte ≢ 34 → byte ≢ 92 → byte ≢ 127 → needs_escape false 0 byte ≡ nat_lt byte 32
unfolding needs_escape
needs_other byte quote backslash delete =
    elim (cases_Bool (nat_lt byte 32)) [
      | inl low ↦ grind (arith, nat_tests)
      | inr high ↦ grind (arith, nat_tests)
    ]

-- no quote stands as it is
quotes_after_none : (byte : ℕ) → quotes_after false 0 byte ≡ 0
unfolding quotes_after needs_escape
quotes_after_none byte =
    elim (cases_Bool (byte == 34)) [
      | inl same ↦ rw same refl
      | inr other ↦ rw other refl
    ]

-- the kit's text of a basic string
pub flat_map-basic_byte : (text : List ℕ) → flat_map basic_byte text ≡ escaped false 0 text
unfolding basic_byte escaped
flat_map-basic_byte [] = refl
flat_map-basic_byte (byte ∷ more) = rw (flat_map-basic_byte more, quotes_after_none byte) refl
