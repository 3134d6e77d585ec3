use Rattle.std.proofs.Common.{◌≡◌, ◌∷◌, [], map, length, refl, sym, ◌∙◌, ap, subst, List, rules}
use Rattle.server_table.specs.Table.{opening_table}
use Rattle.server_table.specs.Steps.{answers_of}
use Rattle.server_table.specs.Shares.{marks_of}
use Rattle.server_core.specs.Served.{Served, setup_for, opening_served}
use Rattle.server_core.proofs.Goings.{Going, one_more}
use Rattle.std.proofs.lemmas.Iterator.Adapters.{YieldsList-from_vec}
use Rattle.std.proofs.lemmas.Iterator.Consumers.{YieldsList-end}
use Rattle.server_table.specs.declared.event.Event.{Event}
use Rattle.server_core.proofs.runs.answer_each.Goals as goal

map_same : {X : Type 0} (xs : List X) → map (λ x. x) xs ≡ xs
map_same [] = refl
map_same (x ∷ xs) = ap (λ l. x ∷ l) (map_same xs)

pub loop-event-init : goal.loop-event-init
loop-event-init g c = record {
  told = c.new-told.ensures.items;
  table = ap (λ (v : Served). v.table) c.in_ok-server.ensures;
  setup = ap (λ (v : Served). v.setup) c.in_ok-server.ensures;
  long = ap (λ l. length (marks_of l)) c.new-told.ensures.items;
}

pub loop-event-preserved : goal.loop-event-preserved
loop-event-preserved g c =
    let A = g.row.I-Alloc.Denot in
    let first : Served = opening_served (setup_for c.args.config.now) in
    let i = c.loop-event.invariant in
    let had : Going A first c.loop-event.yielded c.loop-event.told.items c.loop-event.server = record { told = i.told; table = i.table; setup = i.setup; long = i.long } in
    let has = one_more A first c.loop-event.server c.event-answer.new.self c.loop-event.yielded c.loop-event.told.items c.push.new.self.items c.in-Some.event c.event-answer.result had c.event-answer.ensures.step c.in_ok-push.ensures.items in
    record { told = has.told; table = has.table; setup = has.setup; long = has.long }

pub returns : goal.returns
returns g c =
    let A = g.row.I-Alloc.Denot in
    let gives = c.into_iter-event-iterator.ensures.into_iter_gives in
    let each = YieldsList-from_vec {s = c.into_iter-event-iterator.result} c.args.events.items gives.0 (search rules) in
    let ends = YieldsList-end each c.loop-event.yielded c.loop-event.event-iterator c.loop-event.yielded_by c.next.result c.next.new.self c.in-None.is c.next.ensures.steps in
    let all : c.loop-event.yielded ≡ c.args.events.items = sym (map_same c.loop-event.yielded) ∙ ends.0 in
    subst (λ (l : List (Event A)). c.loop-event.told.items ≡ answers_of (setup_for c.args.config.now) (opening_table (setup_for c.args.config.now)) l (marks_of c.loop-event.told.items)) all c.loop-event.invariant.told
