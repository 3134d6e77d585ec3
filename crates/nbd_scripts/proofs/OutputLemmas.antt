-- The lines of the output, one by one.
use Rattle.std.proofs.Common.{◌≡◌, ℕ, ◌+◌, ◌<◌, ◌≤◌, ◌==◌, min, false, List, [], ◌∷◌, ◌++◌, length, length-append, append_assoc, append-nil, refl, ap, sym, ◌∙◌, arith, inl, inr, codes}
use Rattle.std.specs.Prelude.{if◌then◌else◌}
use Rattle.std.proofs.lemmas.Bool.{cases_eq}
use Rattle.std.proofs.lemmas.List.{nil_from_length}
use Rattle.hex.specs.Hex.{encode_lower, encode_with}
use Rattle.nbd_scripts.specs.Output.{lines_behind}

-- behind the last byte of a line
break_behind : (filled : ℕ) (more : List ℕ) → filled + 1 ≤ 16 → (filled + 1 < 16 → more ≡ [])
    → (if filled == 15 then codes "\n" ++ lines_behind 0 more else lines_behind (filled + 1) more) ≡ codes "\n" ++ lines_behind 0 more
unfolding lines_behind
break_behind filled more fits last =
    elim (cases_eq filled 15) [
      | inl full ↦ rw full refl
      | inr short ↦
          let off : (filled == 15) ≡ false = grind arith in
          let none : more ≡ [] = last (omega (arith, short)) in
          let some : (filled + 1 == 0) ≡ false = grind arith in
          rw (off, none, some) refl
    ]

-- the front line, with what stands in it already, is full, or it is the last
pub line_behind : (filled : ℕ) (row more : List ℕ) → 0 < length row → filled + length row ≤ 16 → (filled + length row < 16 → more ≡ [])
    → lines_behind filled (row ++ more) ≡ encode_lower row ++ (codes "\n" ++ lines_behind 0 more)
unfolding encode_with lines_behind
line_behind filled [] more some fits last = absurd (omega arith)
line_behind filled (byte ∷ []) more some fits last = ap (λ (t : List ℕ). encode_lower (byte ∷ []) ++ t) (break_behind filled more fits last)
line_behind filled (byte ∷ next ∷ row) more some fits last =
    let off : (filled == 15) ≡ false = grind arith in
    let rest = line_behind (filled + 1) (next ∷ row) more (omega arith) (omega arith) (λ short. last (omega arith)) in
    rw off (ap (λ (t : List ℕ). encode_lower (byte ∷ []) ++ t) rest)

-- 16 bytes, or all that there are, are the front line
front_line : (all row more : List ℕ) → all ≡ row ++ more → length row ≡ min 16 (length all) → 0 < length all
    → lines_behind 0 all ≡ encode_lower row ++ (codes "\n" ++ lines_behind 0 more)
front_line all row more parts size some =
    let sum : length all ≡ length row + length more = ap length parts ∙ length-append row more in
    rw parts (line_behind 0 row more (omega (arith, sum, size, some)) (omega (arith, size)) (λ short. nil_from_length more (omega (arith, sum, size, short))))

-- one more line is written
pub line_added : (said text all row more : List ℕ) → text ++ lines_behind 0 all ≡ lines_behind 0 said
    → all ≡ row ++ more → length row ≡ min 16 (length all) → 0 < length all
    → ((text ++ encode_lower row) ++ codes "\n") ++ lines_behind 0 more ≡ lines_behind 0 said
line_added said text all row more so_far parts size some =
    append_assoc (text ++ encode_lower row) (codes "\n") (lines_behind 0 more)
    ∙ append_assoc text (encode_lower row) (codes "\n" ++ lines_behind 0 more)
    ∙ ap (λ (t : List ℕ). text ++ t) (sym (front_line all row more parts size some))
    ∙ so_far

-- every line is written, and then the last
pub last_line_added : (said text all word : List ℕ) → text ++ lines_behind 0 all ≡ lines_behind 0 said → all ≡ []
    → ((text ++ codes "end ") ++ word) ++ codes "\n" ≡ lines_behind 0 said ++ (codes "end " ++ (word ++ codes "\n"))
unfolding lines_behind
last_line_added said text all word so_far none =
    let whole : text ≡ lines_behind 0 said = sym (append-nil text) ∙ (rw none at so_far) in
    append_assoc (text ++ codes "end ") word (codes "\n")
    ∙ append_assoc text (codes "end ") (word ++ codes "\n")
    ∙ ap (λ (t : List ℕ). t ++ (codes "end " ++ (word ++ codes "\n"))) whole
