use Rattle.std.proofs.Common.{◌≡◌, sym, ◌∙◌, length, Ok, true, false, inr, arith, rules}
use Rattle.nbd_scripts.specs.Heads.{plan_of}
use Rattle.nbd_scripts.specs.Head.{is_end, plan_after}
use Rattle.nbd_scripts.specs.declared.fault.LineFault.TheVariants as fault
use Rattle.nbd_scripts.proofs.LineLemmas.{Cuts, nothing_left}
use Rattle.nbd_scripts.proofs.HeadLemmas.{reads_first, reads_more, refused_line, head_refused, head_read, head_open}
use Rattle.nbd_scripts.proofs.head.read_head.Goals as goal

pub loop-rest-init : goal.loop-rest-init
loop-rest-init g c = record { reads = reads_first c.args.script.now (plan_of c.new-draft.result) c.new-draft.ensures; counted = omega arith }

pub returns-in-Ok : goal.returns-in-Ok
returns-in-Ok g c =
    let line = c.first_line.result.0.now in
    let after = c.first_line.result.1.now in
    let cuts : Cuts c.loop-rest.rest.now line after = record { some = search rules; is_line = c.first_line.ensures.line; is_after = c.first_line.ensures.behind } in
    let end : is_end line ≡ true = search rules in
    head_read c.args.script.now (plan_of c.loop-rest.draft) c.in-Ok.config c.loop-rest.above c.loop-rest.rest.now line after c.loop-rest.invariant.reads cuts end c.in-Ok.ensures.made

pub returns-in-Err : goal.returns-in-Err
returns-in-Err g c =
    let line = c.first_line.result.0.now in
    let after = c.first_line.result.1.now in
    let cuts : Cuts c.loop-rest.rest.now line after = record { some = search rules; is_line = c.first_line.ensures.line; is_after = c.first_line.ensures.behind } in
    let end : is_end line ≡ true = search rules in
    head_refused c.args.script.now (plan_of c.loop-rest.draft) (fault.Value c.in-Err.refusal) c.loop-rest.above c.loop-rest.rest.now line after c.loop-rest.invariant.reads cuts end c.in-Err.ensures.refused

pub returns-in-Err-line : goal.returns-in-Err-line
returns-in-Err-line g c =
    let line = c.first_line.result.0.now in
    let after = c.first_line.result.1.now in
    let cuts : Cuts c.loop-rest.rest.now line after = record { some = search rules; is_line = c.first_line.ensures.line; is_after = c.first_line.ensures.behind } in
    let other : is_end line ≡ false = search rules in
    refused_line g.row.A.Denot c.args.script.now (plan_of c.loop-rest.draft) c.in-Err-line.fault c.loop-rest.above c.loop-rest.rest.now line after c.loop-rest.invariant.reads cuts other c.in-Err-line.ensures.refused

pub loop-rest-preserved : goal.loop-rest-preserved
loop-rest-preserved g c =
    let line = c.first_line.result.0.now in
    let after = c.first_line.result.1.now in
    let cuts : Cuts c.loop-rest.rest.now line after = record { some = search rules; is_line = c.first_line.ensures.line; is_after = c.first_line.ensures.behind } in
    let other : is_end line ≡ false = search rules in
    let taken : plan_after (plan_of c.loop-rest.draft) line ≡ Ok (plan_of c.line.new.self) = search rules in
    record {
      reads = reads_more c.args.script.now (plan_of c.loop-rest.draft) (plan_of c.line.new.self) c.loop-rest.above c.loop-rest.rest.now line after c.loop-rest.invariant.reads cuts other taken;
      counted = omega (arith, c.first_line.ensures.shorter, c.loop-rest.invariant.counted);
    }

pub returns : goal.returns
returns g c =
    let none : length c.loop-rest.rest.now ≡ 0 = nothing_left c.loop-rest.rest.now (sym c.is_empty.ensures ∙ c.loop-rest-test.false) in
    rw c.max.ensures (inr (head_open c.args.script.now (plan_of c.loop-rest.draft) c.loop-rest.above c.loop-rest.rest.now c.loop-rest.invariant.reads none))
