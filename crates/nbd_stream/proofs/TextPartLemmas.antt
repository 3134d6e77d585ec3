-- Parts of a text that is written in two pieces.
use Rattle.std.proofs.Common.{ℕ, List, ◌++◌, Option, Result, Ok, Err, ◌∙◌, sym, ap, append_assoc}
use Rattle.std.specs.Prelude.{OnErr}
use Rattle.std.specs.Io.KnownBytes.{Appends}
use Rattle.nbd_stream.specs.Streams.{WritesPart}
use Rattle.nbd_stream.proofs.KnownLemmas.{Appends-then}

-- a part of the first text is a part of both
pub part_before : (u v : Option (List ℕ)) (a b : List ℕ) → WritesPart u v a → WritesPart u v (a ++ b)
part_before u v a b h = (h.0, h.1 ++ b, sym (append_assoc h.0 h.1 b) ∙ ap (λ t. t ++ b) h.2, h.3)

-- the first text, and a part of the second
pub part_behind : (u v w : Option (List ℕ)) (a b : List ℕ) → Appends u v a → WritesPart v w b → WritesPart u w (a ++ b)
part_behind u v w a b x h = (a ++ h.0, h.1, append_assoc a h.0 h.1 ∙ ap (λ t. a ++ t) h.2, Appends-then u v w a h.0 x h.3)

pub on_err : {T E : Type 0} {P Q : Type 0} (r : Result T E) → (P → Q) → OnErr r P → OnErr r Q
on_err (Ok x) f h = h
on_err (Err e) f h = f h
