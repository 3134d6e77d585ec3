-- The lines of exports, written one by one.
use Rattle.std.proofs.Common.{◌≡◌, ℕ, ◌+◌, ◌<◌, ◌≤◌, List, [], ◌++◌, length, drop, get_or, append_assoc, append-nil, Option, refl, sym, ap, ◌∙◌, subst}
use Rattle.std.proofs.lemmas.List.{drop_more}
use Rattle.std.proofs.Math.ListN.{drop_of_length-le}
use Rattle.std.specs.Io.KnownBytes.{Appends}
use Rattle.nbd_commands.specs.Exports.{Export}
use Rattle.nbd_stream.proofs.KnownLemmas.{Appends-then}
use Rattle.nbdq_cli.specs.Lines.{lines_of}

-- what is written so far and the lines that are left, from this place on, are the head and all lines
pub record Written (line : ℕ → Export → List ℕ) (head : List ℕ) (exports : List Export) (at : ℕ) (old new : Option (List ℕ)) : Type 0 where
  pub so_far : List ℕ
  pub gave : Appends old new so_far
  pub whole : so_far ++ lines_of line at (drop at exports) ≡ head ++ lines_of line 0 exports

module _ (line : ℕ → Export → List ℕ) (head : List ℕ) (exports : List Export) where
  pub written_first : (old new : Option (List ℕ)) → Appends old new head → Written line head exports 0 old new
  written_first old new gave = record { so_far = head; gave = gave; whole = refl }

  pub written_more : (at : ℕ) (export : Export) (old between new : Option (List ℕ)) → Written line head exports at old between → at < length exports
      → get_or exports at export ≡ export → Appends between new (line at export) → Written line head exports (at + 1) old new
  unfolding lines_of
  written_more at export old between new so within here gave =
      let more = lines_of line (at + 1) (drop (at + 1) exports) in
      let split : lines_of line at (drop at exports) ≡ line at export ++ more = rw (drop_more exports at export within, here) refl in
      record {
        so_far = so.so_far ++ line at export;
        gave = Appends-then old between new so.so_far (line at export) so.gave gave;
        whole = append_assoc so.so_far (line at export) more ∙ ap (λ (t : List ℕ). so.so_far ++ t) (sym split) ∙ so.whole;
      }

  pub written_last : (at : ℕ) (old new : Option (List ℕ)) → Written line head exports at old new → length exports ≤ at
      → Appends old new (head ++ lines_of line 0 exports)
  unfolding lines_of
  written_last at old new so end =
      let none : lines_of line at (drop at exports) ≡ [] = rw (drop_of_length-le exports end) refl in
      subst (λ (t : List ℕ). Appends old new t) (sym (append-nil so.so_far) ∙ ap (λ (t : List ℕ). so.so_far ++ t) (sym none) ∙ so.whole) so.gave
