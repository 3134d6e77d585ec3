use Rattle.std.proofs.Common.{ap}
use Rattle.nbd_control.specs.Commands.{front_name, quoted_name}
use Rattle.nbd_control.proofs.ToldLemmas.{quoted-basic_text}
use Rattle.nbd_control.proofs.laws.told_names.Goals as goal

pub returns : goal.returns
unfolding front_name
returns c = λ name rest. ap quoted_name (quoted-basic_text name rest)
