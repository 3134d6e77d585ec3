-- A whole table, and a whole text.
use Rattle.std.proofs.Common.{◌≡◌, ℕ, ◌+◌, Bool, true, false, List, [], ◌∷◌, ◌++◌, length, length-append, Option, Some, None, Ok, Err, IsUtf8, refl, inl, inr, arith}
use Rattle.std.specs.Prelude.{not, if◌then◌else◌, Result}
use Rattle.std.specs.Str.{is_utf8}
use Rattle.std.proofs.lemmas.Bool.{cases_Bool}
use Rattle.std.proofs.lemmas.Str.{IsUtf8-from_is_utf8, is_utf8-from_IsUtf8}
use Rattle.toml.specs.Data.{Data, Members}
use Rattle.toml.specs.Parse.{parse_document}
use Rattle.nbd_commands.specs.Exports.{Export}
use Rattle.nbd_commands.specs.Refusals.{is_outside, whole_refusal}
use Rattle.nbd_commands.specs.declared.settings.Refusal.{Refusal}
use Rattle.nbd_commands.specs.declared.settings.Refusal.TheVariants.{ExportCount, BadInflight}
use Rattle.nbd_config.specs.declared.refusals.Reason.{Reason}
use Rattle.nbd_config.specs.declared.refusals.Reason.TheVariants.{NotToml, BadEntry, Value}
use Rattle.nbd_config.specs.declared.refusals.Place.TheVariants as places
use Rattle.nbd_config.specs.Entries.{exports_at, inflight_at, fits_top, all_members}
use Rattle.nbd_config.specs.Configured.{exports_behind, next_export, top_refusal, configured, configured_by, refused, by_result}

-- a case that was passed by
passed : {A : Type 0} (b : Bool) (x : A) (rest : Option A) → (if b then Some x else rest) ≡ None → (b ≡ false) × (rest ≡ None)
passed true x rest h = absurd (cc)
passed false x rest h = (refl, h)

-- each value gave an export
pub as_many : (earlier exports : List Export) (values : List Data) → exports_behind earlier values ≡ Ok exports → length exports ≡ length earlier + length values
as_many earlier exports [] h = let same : earlier ≡ exports = cc in rw same (omega arith)
as_many earlier exports (value ∷ more) h = one (next_export earlier value) (λ export. as_many (earlier ++ export ∷ []) exports more) h
  where
    one : (said : Result Export Reason)
        → ((export : Export) → exports_behind (earlier ++ export ∷ []) more ≡ Ok exports → length exports ≡ length (earlier ++ export ∷ []) + length more)
        → by_result said (λ export. exports_behind (earlier ++ export ∷ []) more) (λ reason. Err (refused (places.Export (length earlier)) reason)) ≡ Ok exports
        → length exports ≡ length earlier + length (value ∷ more)
    one (Ok export) rest h = omega (arith, rest export h, length-append earlier (export ∷ []))
    one (Err reason) rest h = absurd (cc)

some_none : {A : Type 0} (o : Option A) (x : A) → o ≡ Some x → o ≡ None → ⊥
some_none o x some none = cc

-- so many exports, and so many requests in service, aren't refused again
pub never_again : (members : Members) (exports : List Export) (refusal : Refusal) → top_refusal members ≡ None → exports_behind [] (exports_at members) ≡ Ok exports
    → whole_refusal exports (inflight_at members) ≡ Some refusal → ⊥
never_again members exports refusal top whole again =
    let long : length exports ≡ length (exports_at members) = omega (arith, as_many [] exports (exports_at members) whole) in
    let fit = passed (not (all_members fits_top members)) BadEntry _ top in
    let count = passed (is_outside 64 (length (exports_at members))) (Value ExportCount) _ fit.1 in
    let inflight = passed (is_outside 4096 (inflight_at members)) (Value BadInflight) _ count.1 in
    let few : is_outside 64 (length exports) ≡ false = rw long count.0 in
    let none : whole_refusal exports (inflight_at members) ≡ None = rw (few, inflight.0) refl in
    absurd (some_none _ _ again none)

pub by_table : (text : List ℕ) (top : Members) → IsUtf8 text → parse_document text ≡ Some top → configured_by text ≡ configured top
by_table text top utf8 parsed = rw (is_utf8-from_IsUtf8 text utf8, parsed) refl

pub by_none : (text : List ℕ) → (IsUtf8 text → parse_document text ≡ None) → configured_by text ≡ Err (refused places.Top NotToml)
by_none text unparsed =
    elim (cases_Bool (is_utf8 text)) [
      | inl utf8 ↦ rw (utf8, unparsed (IsUtf8-from_is_utf8 text utf8)) refl
      | inr other ↦ rw other refl
    ]
