use Rattle.std.proofs.Common.{◌<◌, ◌≤◌, length, set, sym, subst, rules}
use Rattle.server_table.specs.declared.event.Event.TheVariants.{Retune}
use Rattle.server_core.specs.Served.{served_of, answer_of_retune}
use Rattle.server_core.specs.Made.{Makes}
use Rattle.server_core.proofs.Retuned.{kept_retune, seats_retune, stepped_retune, moves_retune}
use Rattle.server_core.proofs.Accepting.{rates_short}
use Rattle.server_core.proofs.Made.{retunes, makes_of, makes_absent}
use Rattle.server_core.proofs.server.Server.retune.Goals as goal

pub returns-then-export-len : goal.returns-then-export-len
returns-then-export-len g c =
    let i = c.self.inside in
    let le : length i.members.items ≤ c.args.export = search rules in
    makes_absent i.members.items i.latest i.inflight (retunes c.args.export c.args.rates) c.self.view_is le

pub invariant_of-self : goal.invariant_of-self
invariant_of-self g c =
    let e = c.args.export in
    let lt : e < length c.self.inside.members.items = search rules in
    let at = c.index_mut-tuned.ensures.value in
    kept_retune e c.args.rates c.retune.new.self c.retune.result c.self.invariant lt at c.retune.ensures.retunes (c.retune.ensures.short (rates_short e c.self.invariant lt at))

pub returns : goal.returns
returns g c =
    let i = c.self.inside in
    let A = g.row.I-Alloc.Denot in
    let ms = i.members.items in
    let e = c.args.export in
    let rates = c.args.rates in
    let m = c.index_mut-tuned.result.now in
    let m' = c.retune.new.self in
    let r = c.retune.result in
    let lt : e < length ms = search rules in
    let at = c.index_mut-tuned.ensures.value in
    subst (λ x. Makes {A = A} c.args.self.now (Retune e rates) (served_of (set ms e m') i.latest i.inflight) (answer_of_retune x)) (sym c.retuned.ensures)
    (makes_of ms i.latest i.inflight (retunes e rates) c.self.view_is (stepped_retune ms i.latest i.inflight e rates m m' r lt at c.retune.ensures.retunes)
    (moves_retune ms i.latest i.inflight e rates m m' r lt at c.retune.ensures.journal) (seats_retune ms e rates m m' r at c.retune.ensures.retunes))
