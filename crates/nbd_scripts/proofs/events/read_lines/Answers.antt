use Rattle.std.proofs.Common.{◌≡◌, sym, ◌∙◌, length, arith, rules}
use Rattle.nbd_scripts.specs.Events.{Takes}
use Rattle.nbd_scripts.proofs.LineLemmas.{Cuts, nothing_left}
use Rattle.nbd_scripts.proofs.BodyLemmas.{goes_first, goes_more, line_missed, body_read}
use Rattle.nbd_scripts.proofs.events.read_lines.Goals as goal

pub loop-rest-init : goal.loop-rest-init
loop-rest-init g c = record { goes = goes_first g.row.A.Denot c.args.body.above c.args.body.text.now c.new-lines.result.items (search rules); counted = search rules }

pub returns-in-Err : goal.returns-in-Err
returns-in-Err g c =
    let line = c.first_line.result.0.now in
    let after = c.first_line.result.1.now in
    let cuts : Cuts c.loop-rest.rest.now line after = record { some = search rules; is_line = c.first_line.ensures.line; is_after = c.first_line.ensures.behind } in
    line_missed g.row.A.Denot c.args.body.above c.args.body.text.now c.loop-rest.lines.items c.in-Err.fault c.loop-rest.above c.loop-rest.rest.now line after c.loop-rest.invariant.goes cuts c.in-Err.ensures.refused

pub loop-rest-preserved : goal.loop-rest-preserved
loop-rest-preserved g c =
    let line = c.first_line.result.0.now in
    let after = c.first_line.result.1.now in
    let cuts : Cuts c.loop-rest.rest.now line after = record { some = search rules; is_line = c.first_line.ensures.line; is_after = c.first_line.ensures.behind } in
    let taken : Takes {A = g.row.A.Denot} line c.loop-rest.lines.items c.take_line.new.lines.items = search rules in
    record {
      goes = goes_more g.row.A.Denot c.args.body.above c.args.body.text.now c.loop-rest.lines.items c.take_line.new.lines.items c.loop-rest.above c.loop-rest.rest.now line after c.loop-rest.invariant.goes cuts taken;
      counted = omega (arith, c.first_line.ensures.shorter, c.loop-rest.invariant.counted);
    }

pub returns : goal.returns
returns g c =
    let none : length c.loop-rest.rest.now ≡ 0 = nothing_left c.loop-rest.rest.now (sym c.is_empty.ensures ∙ c.loop-rest-test.false) in
    body_read g.row.A.Denot c.args.body.above c.args.body.text.now c.loop-rest.lines.items c.loop-rest.above c.loop-rest.rest.now c.loop-rest.invariant.goes none
