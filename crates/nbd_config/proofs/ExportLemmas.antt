-- Exports in turn: the next value adds one, refuses the rest, or is missing.
use Rattle.std.proofs.Common.{◌≡◌, ℕ, ◌+◌, ◌<◌, ◌≤◌, List, ◌∷◌, length, drop, get_or, Ok, Err, refl}
use Rattle.std.proofs.lemmas.List.{drop_more}
use Rattle.std.proofs.Math.ListN.{drop_of_length-le}
use Rattle.toml.specs.Data.{Data}
use Rattle.toml.specs.View.{view}
use Rattle.toml.specs.declared.value.Value.{Value}
use Rattle.nbd_commands.specs.Exports.{Export}
use Rattle.nbd_config.specs.declared.refusals.Place.TheVariants as places
use Rattle.nbd_config.specs.declared.refusals.FileRefusal.{FileRefusal}
use Rattle.nbd_config.specs.declared.refusals.FileError.{FileError}
use Rattle.nbd_config.specs.declared.refusals.FileError.TheVariants as errors
use Rattle.nbd_config.specs.Entries.{values_of}
use Rattle.nbd_config.specs.Configured.{exports_behind, next_export, IsNext, IfRefused}

pub value_here : (values : List Value) (i : ℕ) (value : Value) → i < length values → get_or values i value ≡ value
    → values_of (drop i values) ≡ view value ∷ values_of (drop (i + 1) values)
value_here values i value within here = rw (drop_more values i value within, here) refl

pub goes_on : (earlier exports : List Export) (value : Data) (more : List Data) → IsNext earlier value exports
    → exports_behind exports more ≡ exports_behind earlier (value ∷ more)
goes_on earlier exports value more (export, says, grown) = rw (says, grown) refl

pub stops : (earlier : List Export) (value : Data) (more : List Data) (at : ℕ) (refusal : FileRefusal) → length earlier ≡ at
    → next_export earlier value ≡ Err refusal.reason → refusal.place ≡ places.Export at
    → exports_behind earlier (value ∷ more) ≡ Err refusal
stops earlier value more at refusal long says place = rw (says, long, ← place) refl

pub ends : (exports : List Export) (values : List Value) (i : ℕ) → length values ≤ i → exports_behind exports (values_of (drop i values)) ≡ Ok exports
ends exports values i end = rw (drop_of_length-le values end) refl

-- what follows from what is said of a refusal
pub refused_so : (P Q : FileRefusal → Type 0) (error : FileError) → ((refusal : FileRefusal) → P refusal → Q refusal) → IfRefused P error → IfRefused Q error
refused_so P Q (errors.Refused refusal) follows h = follows refusal h
refused_so P Q errors.NoMemory follows h = tt
