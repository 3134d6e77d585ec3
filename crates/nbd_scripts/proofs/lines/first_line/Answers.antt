use Rattle.std.proofs.Common.{sym}
use Rattle.nbd_scripts.specs.Lines.{is_feed}
use Rattle.nbd_scripts.proofs.LineLemmas.{before_place, after_place, before_no_place, after_no_place}
use Rattle.nbd_scripts.proofs.lines.first_line.Goals as goal

pub returns-in-Some-clause-line : goal.returns-in-Some-clause-line
returns-in-Some-clause-line c = before_place is_feed c.args.bytes.now c.in-Some.at (cc)

pub returns-in-Some-clause-behind : goal.returns-in-Some-clause-behind
returns-in-Some-clause-behind c = after_place is_feed c.args.bytes.now c.in-Some.at (cc)

pub returns-in-None-clause-line : goal.returns-in-None-clause-line
returns-in-None-clause-line c = before_no_place is_feed c.args.bytes.now (cc)

pub returns-in-None-clause-behind : goal.returns-in-None-clause-behind
returns-in-None-clause-behind c = sym (after_no_place is_feed c.args.bytes.now (cc))
