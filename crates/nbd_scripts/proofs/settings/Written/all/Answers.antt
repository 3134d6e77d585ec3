use Rattle.std.proofs.Common.{◌≡◌, [], sym, ◌∙◌, None, rules}
use Rattle.nbd_text.specs.Fields.{texts_of}
use Rattle.nbd_scripts.specs.Heads.{settings_of}
use Rattle.nbd_scripts.specs.Settings.{no_settings, with_settings}
use Rattle.nbd_scripts.proofs.SettingsLemmas.{settings_more, settings_missed, settings_end}
use Rattle.nbd_scripts.proofs.settings.Written.all.Goals as goal

pub returns-in_err-field-clause-missed : goal.returns-in_err-field-clause-missed
returns-in_err-field-clause-missed c =
    let missed : with_settings no_settings (texts_of c.args.fields.now) ≡ None =
    sym c.loop-field.invariant ∙ settings_missed c.args.fields.now (settings_of c.loop-field.written) c.loop-field.field-index (record { ref_ptr = (0, 0); now = [] }) c.loop-field-test.true c.in_err-field.ensures.refused.1 in
    search rules

pub loop-field-preserved : goal.loop-field-preserved
loop-field-preserved c =
    settings_more c.args.fields.now (settings_of c.loop-field.written) c.loop-field.field-index (record { ref_ptr = (0, 0); now = [] }) (settings_of c.field.new.self) c.loop-field-test.true c.in_ok-field.ensures.taken
    ∙ c.loop-field.invariant

pub returns-clause-said : goal.returns-clause-said
returns-clause-said c =
    sym c.loop-field.invariant ∙ settings_end c.args.fields.now (settings_of c.loop-field.written) c.loop-field.field-index c.loop-field-test.false
