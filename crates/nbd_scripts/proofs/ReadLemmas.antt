-- What is read of known bytes.
use Rattle.std.proofs.Common.{ℕ, List, [], append-nil, Option, Some, None, refl, subst}
use Rattle.std.specs.Io.KnownBytes.{Consumes, IsAtEnd}
use Rattle.nbd_stream.proofs.KnownLemmas.{Consumes-then}
use Rattle.nbd_scripts.specs.Told.{IsWhole}

pub nothing_read : (known : Option (List ℕ)) → Consumes known known []
nothing_read None = tt
nothing_read (Some bytes) = refl

-- what was read so far is all, where the last read took nothing and told the end
pub all_read : (old between new : Option (List ℕ)) (text : List ℕ) → Consumes old between text → Consumes between new [] → IsAtEnd new → IsWhole old new text
all_read old between new text so_far none end = record {
  took = subst (Consumes old new) (append-nil text) (Consumes-then old between new text [] so_far none);
  end = end;
}
