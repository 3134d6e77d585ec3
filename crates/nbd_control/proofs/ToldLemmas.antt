-- A name that is told is read back.
use Rattle.std.proofs.Common.{◌≡◌, ℕ, Bool, true, false, ◌&&◌, ◌==◌, List, [], ◌∷◌, ◌++◌, slice_index, Some, refl, codes, ◌∙◌, inl, inr, arith, append_assoc}
use Rattle.std.proofs.lemmas.Bool.{cases_Bool, and_left}
use Rattle.toml_parser.specs.Lexical.{first}
use Rattle.toml_parser.specs.Strings.{body, quoted, one_line}
use Rattle.toml_writer.specs.Text.{escaped, needs_escape}
use Rattle.toml_writer.proofs.Escapes.{Escaped-needed, apart_from_plain, needs_quote}
use Rattle.toml_writer.proofs.Bodies.{escaped-cons, escaped-nil, body_escaped}
use Rattle.nbd_control.specs.Quoting.{basic_text}
use Rattle.nbd_control.proofs.QuotingLemmas.{flat_map-basic_byte}

-- no two quotes stand at the front of what the first quote is followed by
front_quotes : (s rest : List ℕ) → let t = escaped false 0 s ++ (34 ∷ 32 ∷ rest) in (first t == 34 && slice_index t 1 == 34) ≡ false
front_quotes [] rest = rw (escaped-nil false 0) refl
front_quotes (c ∷ cs) rest =
    let step = escaped-cons false 0 c cs (34 ∷ 32 ∷ rest) in
    elim (cases_Bool (needs_escape false 0 c)) [
      | inl needed ↦ let e = Escaped-needed false 0 c needed in rw (step, needed, e.text) refl
      | inr plain ↦ let apart = apart_from_plain false 0 c 34 plain (needs_quote 0) in rw (step, plain) (and_left (c == 34) _ apart)
    ]

on_one_line : (t : List ℕ) → (first t == 34 && slice_index t 1 == 34) ≡ false → quoted (34 ∷ t) ≡ one_line (34 ∷ t)
unfolding quoted
on_one_line t other = rw other refl

line_read : (s rest : List ℕ) → one_line (34 ∷ (escaped false 0 s ++ (34 ∷ 32 ∷ rest))) ≡ Some (s, 32 ∷ rest)
unfolding one_line
line_read s rest = body_escaped false s (32 ∷ rest) 0 _ (omega arith) refl (omega arith)

pub quoted-basic_text : (s rest : List ℕ) → quoted (basic_text s ++ 32 ∷ rest) ≡ Some (s, 32 ∷ rest)
quoted-basic_text s rest =
    let t = escaped false 0 s ++ (34 ∷ 32 ∷ rest) in
    let e : basic_text s ++ 32 ∷ rest ≡ 34 ∷ t = rw (flat_map-basic_byte s, append_assoc (escaped false 0 s) (codes "\"") (32 ∷ rest)) refl in
    rw e (on_one_line t (front_quotes s rest) ∙ line_read s rest)
