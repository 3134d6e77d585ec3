-- Names in quotes.
use Rattle.std.specs.Prelude.{ℕ, ◌==◌, false, if◌then◌else◌, List, [], ◌∷◌, ◌++◌, codes}
use Rattle.std.specs.List.{flat_map}
use Rattle.toml_writer.specs.Text.{needs_escape, escape_text}

-- a byte as a basic string of TOML has it
unfoldable pub basic_byte : ℕ → List ℕ
basic_byte byte = if needs_escape false 0 byte then escape_text byte else byte ∷ []

-- a text as a basic string of TOML
abbrev pub basic_text : List ℕ → List ℕ
basic_text text = codes "\"" ++ (flat_map basic_byte text ++ codes "\"")

-- a byte as the value of a label has it
abbrev pub label_byte : ℕ → List ℕ
label_byte byte =
    if byte == 92 then codes "\\\\"
    else (if byte == 34 then codes "\\\""
    else (if byte == 10 then codes "\\n"
    else byte ∷ []))

-- a text as the value of a label, without the quotes round it
abbrev pub label_text : List ℕ → List ℕ
label_text text = flat_map label_byte text
