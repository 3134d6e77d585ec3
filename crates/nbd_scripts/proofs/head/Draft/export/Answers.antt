use Rattle.nbd_scripts.specs.Heads.{plan_of}
use Rattle.nbd_scripts.proofs.SettingsLemmas.{export_short}
use Rattle.nbd_scripts.proofs.head.Draft.export.Goals as goal

pub returns-in_default-clause-refused : goal.returns-in_default-clause-refused
returns-in_default-clause-refused g c = export_short (plan_of c.args.self.now) c.args.fields.now c.in_default.len_below
