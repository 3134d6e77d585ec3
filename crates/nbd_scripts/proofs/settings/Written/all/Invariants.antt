use Rattle.std.proofs.Common.{◌≡◌, drop}
use Rattle.nbd_text.specs.Fields.{texts_of}
use Rattle.nbd_scripts.specs.Heads.{settings_of}
use Rattle.nbd_scripts.specs.Settings.{no_settings, with_settings}
use Rattle.nbd_scripts.proofs.settings.Written.all.Given as goal

-- the fields that are left say the rest
abbrev pub invariant-loop-field : goal.invariant-loop-field
invariant-loop-field l = with_settings (settings_of l.written) (texts_of (drop l.field-index l.fields)) ≡ with_settings no_settings (texts_of l.fields)
