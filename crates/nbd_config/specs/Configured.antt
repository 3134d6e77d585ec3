-- What a configuration file configures, or why it is refused: by the first case that fits, of the text, of the top level, and
-- then of each export in order.
use Rattle.std.specs.Prelude.{◌≡◌, ℕ, not, if◌then◌else◌, List, [], ◌∷◌, ◌++◌, length, Option, Some, None, Result, Ok, Err}
use Rattle.std.specs.Str.{is_utf8}
use Rattle.toml.specs.Data.{Data, table, Members}
use Rattle.toml.specs.Parse.{parse_document}
use Rattle.nbd_base.specs.Words.{when_some}
use Rattle.nbd_commands.specs.Exports.{Export, Offer}
use Rattle.nbd_commands.specs.Refusals.{first_refusal, is_outside, code_of}
use Rattle.nbd_commands.specs.declared.settings.Refusal.TheVariants.{ExportCount, BadInflight}
use Rattle.nbd_config.specs.declared.refusals.Reason.{Reason}
use Rattle.nbd_config.specs.declared.refusals.Reason.TheVariants.{NotToml, BadEntry, MissingKey, Value}
use Rattle.nbd_config.specs.declared.refusals.Place.{Place}
use Rattle.nbd_config.specs.declared.refusals.Place.TheVariants as places
use Rattle.nbd_config.specs.declared.refusals.FileRefusal.{FileRefusal}
use Rattle.nbd_config.specs.declared.refusals.FileError.{FileError}
use Rattle.nbd_config.specs.declared.refusals.FileError.TheVariants as errors
use Rattle.nbd_config.specs.Entries.{fits_top, fits_export, all_members, exports_at, inflight_at, export_in}

-- the number of a reason's kind
abbrev pub code_of_reason : Reason → ℕ
code_of_reason NotToml = 1
code_of_reason BadEntry = 2
code_of_reason MissingKey = 3
code_of_reason (Value refusal) = code_of refusal

abbrev pub refused : Place → Reason → FileRefusal
refused place reason = record { reason = reason; place = place }

module _ {A E B : Type 0} where
  -- f of what went well, g of what didn't
  abbrev pub by_result : Result A E → (A → B) → (E → B) → B
  by_result (Ok x) f g = f x
  by_result (Err e) f g = g e

-- an export behind earlier ones, unless its values are refused
abbrev pub allowed : List Export → Export → Result Export Reason
allowed earlier export = when_some (first_refusal earlier export) (λ refusal. Err (Value refusal)) (Ok export)

-- the export that a value asks for, or why it asks for none
abbrev pub export_asked : Data → Result Export Reason
export_asked (table members) =
    if not (all_members fits_export members) then Err BadEntry
    else when_some (export_in members) Ok (Err MissingKey)
export_asked value = Err BadEntry

-- behind earlier exports
abbrev pub next_export : List Export → Data → Result Export Reason
next_export earlier value = by_result (export_asked value) (allowed earlier) Err

-- earlier exports and those that these values ask for, or the first refusal
abbrev pub exports_behind : List Export → List Data → Result (List Export) FileRefusal
exports_behind earlier [] = Ok earlier
exports_behind earlier (value ∷ more) =
    by_result (next_export earlier value) (λ export. exports_behind (earlier ++ export ∷ []) more) (λ reason. Err (refused (places.Export (length earlier)) reason))

-- why the top level is refused
abbrev pub top_refusal : Members → Option Reason
top_refusal members =
    if not (all_members fits_top members) then Some BadEntry
    else (if is_outside 64 (length (exports_at members)) then Some (Value ExportCount)
    else (if is_outside 4096 (inflight_at members) then Some (Value BadInflight)
    else None))

abbrev pub offer_of : Members → Result Offer FileRefusal
offer_of members = by_result (exports_behind [] (exports_at members)) (λ exports. Ok (record { exports = exports; inflight = inflight_at members })) Err

-- of a whole table
abbrev pub configured : Members → Result Offer FileRefusal
configured members = when_some (top_refusal members) (λ reason. Err (refused places.Top reason)) (offer_of members)

-- the table of a text that is UTF-8 and TOML
abbrev pub table_of : List ℕ → Option Members
table_of text = if is_utf8 text then parse_document text else None

-- of the text of a file
abbrev pub configured_by : List ℕ → Result Offer FileRefusal
configured_by text = when_some (table_of text) configured (Err (refused places.Top NotToml))

-- it is the next export, behind the others
abbrev pub IsNext : List Export → Data → List Export → Type 0
IsNext earlier value exports = (export : Export) × (next_export earlier value ≡ Ok export) × (exports ≡ earlier ++ export ∷ [])

-- of what a call answers as refused. Want of memory is no refusal
abbrev pub IfRefused : (FileRefusal → Type 0) → FileError → Type 0
IfRefused P (errors.Refused refusal) = P refusal
IfRefused P errors.NoMemory = Unit {0}
