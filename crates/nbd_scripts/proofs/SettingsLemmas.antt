-- Settings, one field after the other.
use Rattle.std.proofs.Common.{◌≡◌, ℕ, ◌+◌, ◌<◌, ◌≤◌, List, [], ◌∷◌, length, drop, slice_index_or, Some, None, refl, arith}
use Rattle.std.specs.Prelude.{Err}
use Rattle.std.specs.Borrow.{Bor}
use Rattle.std.proofs.lemmas.List.{drop_more}
use Rattle.std.proofs.Math.ListN.{drop_of_length-le}
use Rattle.nbd_scripts.specs.declared.fault.LineFault.TheVariants.{Form}
use Rattle.nbd_text.specs.Fields.{texts_of}
use Rattle.nbd_scripts.specs.Settings.{Settings, with_setting, with_settings}
use Rattle.nbd_scripts.specs.Head.{Plan, export_line}

module _ (fields : List (Bor (List ℕ))) (s : Settings) (i : ℕ) where
  -- the field at a place
  pub settings_more : (d : Bor (List ℕ)) (next : Settings) → i < length fields → with_setting s (slice_index_or fields i d).now ≡ Some next
      → with_settings next (texts_of (drop (i + 1) fields)) ≡ with_settings s (texts_of (drop i fields))
  unfolding with_settings
  settings_more d next within is = rw (drop_more fields i d within, is) refl

  -- the field at a place, which is refused
  pub settings_missed : (d : Bor (List ℕ)) → i < length fields → with_setting s (slice_index_or fields i d).now ≡ None
      → with_settings s (texts_of (drop i fields)) ≡ None
  unfolding with_settings
  settings_missed d within is = rw (drop_more fields i d within, is) refl

  -- at the end of the fields
  pub settings_end : length fields ≤ i → with_settings s (texts_of (drop i fields)) ≡ Some s
  unfolding with_settings
  settings_end end = rw (drop_of_length-le fields end) refl

-- an export's line without a name or a size
pub export_short : (plan : Plan) (fields : List (Bor (List ℕ))) → length fields < 2 → export_line plan (texts_of fields) ≡ Err Form
unfolding export_line
export_short plan [] short = refl
export_short plan (name ∷ []) short = refl
export_short plan (name ∷ size ∷ more) short = absurd (grind arith)
