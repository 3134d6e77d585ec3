-- What a command wrote, by how it went.
use Rattle.std.proofs.Common.{◌≡◌, ℕ, List, Option, inl, inr}
use Rattle.std.specs.Prelude.{◌⊎◌}
use Rattle.std.specs.Io.KnownBytes.{Appends}
use Rattle.nbd_stream.specs.Streams.{WritesPart}
use Rattle.nbd_scripts.specs.Told.{Writes}
use Rattle.nbd_scripts.specs.declared.outcome.Outcome.{Outcome}
use Rattle.nbd_scripts.specs.declared.outcome.Outcome.TheVariants.{Done, NoMemory, WriteFailed}

module _ (text : List ℕ) (old new : Option (List ℕ)) (went : Outcome) where
  pub written_done : Writes text Done old new went → went ≡ Done → Appends old new text
  written_done (inl here) is = here.1
  written_done (inr (inl none)) is = absurd cc
  written_done (inr (inr failed)) is = absurd cc

  pub nothing_written : Writes text Done old new went → went ≡ NoMemory → new ≡ old
  nothing_written (inl here) is = absurd cc
  nothing_written (inr (inl none)) is = none.1
  nothing_written (inr (inr failed)) is = absurd cc

  pub part_written : Writes text Done old new went → went ≡ WriteFailed → WritesPart old new text
  part_written (inl here) is = absurd cc
  part_written (inr (inl none)) is = absurd cc
  part_written (inr (inr failed)) is = failed.1

  -- how a last text may go
  pub text_went : Writes text Done old new went → (went ≡ Done) ⊎ (went ≡ NoMemory) ⊎ (went ≡ WriteFailed)
  text_went (inl here) = inl here.0
  text_went (inr (inl none)) = inr (inl none.0)
  text_went (inr (inr failed)) = inr (inr failed.0)
