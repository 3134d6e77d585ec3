-- A text of which a beginning is written.
use Rattle.std.proofs.Common.{◌≡◌, ℕ, List, [], ◌++◌, append_assoc, append-nil, Option, Some, None, refl, sym, ap, ◌∙◌, subst}
use Rattle.std.proofs.lemmas.List.{append_cancel_left}
use Rattle.std.specs.Io.KnownBytes.{append_known, Appends}
use Rattle.nbd_stream.specs.Streams.{WritesPart}
use Rattle.nbd_stream.proofs.TextPartLemmas.{part_behind}
use Rattle.nbd_scripts.specs.Told.{CutShort}

-- what the output would hold with all of it
pub written_on : (old : Option (List ℕ)) (text : List ℕ) → Appends old (append_known old text) text
written_on None text = tt
written_on (Some xs) text = refl

pub cut_short : (IsSuch : Option (List ℕ) → Type 0) (old new : Option (List ℕ)) (text : List ℕ) → ((all : Option (List ℕ)) → Appends old all text → IsSuch all) → WritesPart old new text → CutShort IsSuch old new
cut_short IsSuch old new text such part = record { text = text; whole = such (append_known old text) (written_on old text); part = part }

pub cut_short_so : (IsSuch IsSo : Option (List ℕ) → Type 0) (old new : Option (List ℕ)) → ((all : Option (List ℕ)) → IsSuch all → IsSo all) → CutShort IsSuch old new → CutShort IsSo old new
cut_short_so IsSuch IsSo old new so cut = record { text = cut.text; whole = so (append_known old cut.text) cut.whole; part = cut.part }

-- a beginning of what is written behind a text is, with that text in front, a beginning of the whole
pub part_of_whole : (old between new : Option (List ℕ)) (first text whole : List ℕ) → Appends old between first → Appends old (append_known between text) whole → WritesPart between new text
    → WritesPart old new whole
part_of_whole None between new first text whole front all part = (whole, [], append-nil whole, tt)
part_of_whole (Some xs) None new first text whole front all part = absurd front
part_of_whole (Some xs) (Some ys) new first text whole front all part =
    let is : first ++ text ≡ whole = append_cancel_left xs (first ++ text) whole (sym (append_assoc xs first text) ∙ ap (λ (t : List ℕ). t ++ text) (sym front) ∙ all) in
    subst (WritesPart (Some xs) new) is (part_behind (Some xs) (Some ys) new first text front part)
