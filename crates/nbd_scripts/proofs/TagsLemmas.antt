-- The lines of what waits, one by one.
use Rattle.std.proofs.Common.{◌≡◌, ℕ, ◌+◌, ◌<◌, ◌≤◌, List, [], ◌++◌, length, drop, get_or, append_assoc, append-nil, Option, refl, sym, ap, ◌∙◌, subst}
use Rattle.std.proofs.lemmas.List.{drop_more}
use Rattle.std.proofs.Math.ListN.{drop_of_length-le}
use Rattle.std.specs.Io.KnownBytes.{Appends}
use Rattle.tag_clock.specs.declared.Tags.{Tags}
use Rattle.nbd_stream.proofs.KnownLemmas.{Appends-then}
use Rattle.nbd_scripts.specs.Waiting.{tag_line, tag_lines, waiting_line, waiting_text}

-- what is written so far and the lines that are left, from this place on, are the whole text
pub record Written (told : List (ℕ × Tags)) (at : ℕ) (old new : Option (List ℕ)) : Type 0 where
  pub so_far : List ℕ
  pub gave : Appends old new so_far
  pub whole : so_far ++ tag_lines (drop at told) ≡ waiting_text told

pub written_first : (told : List (ℕ × Tags)) (old new : Option (List ℕ)) → Appends old new (waiting_line (length told)) → Written told 0 old new
written_first told old new line = record { so_far = waiting_line (length told); gave = line; whole = refl }

pub written_more : (told : List (ℕ × Tags)) (at : ℕ) (default : ℕ × Tags) (old between new : Option (List ℕ)) → Written told at old between → at < length told
    → Appends between new (tag_line (get_or told at default)) → Written told (at + 1) old new
unfolding tag_lines
written_more told at default old between new so within line =
    let one = get_or told at default in
    let more = tag_lines (drop (at + 1) told) in
    let split : tag_lines (drop at told) ≡ tag_line one ++ more = rw (drop_more told at default within) refl in
    record {
      so_far = so.so_far ++ tag_line one;
      gave = Appends-then old between new so.so_far (tag_line one) so.gave line;
      whole = append_assoc so.so_far (tag_line one) more ∙ ap (λ (t : List ℕ). so.so_far ++ t) (sym split) ∙ so.whole;
    }

pub written_last : (told : List (ℕ × Tags)) (at : ℕ) (old new : Option (List ℕ)) → Written told at old new → length told ≤ at → Appends old new (waiting_text told)
unfolding tag_lines
written_last told at old new so end =
    let none : tag_lines (drop at told) ≡ [] = rw (drop_of_length-le told end) refl in
    subst (λ (t : List ℕ). Appends old new t) (sym (append-nil so.so_far) ∙ ap (λ (t : List ℕ). so.so_far ++ t) (sym none) ∙ so.whole) so.gave
