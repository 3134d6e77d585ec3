use Rattle.std.proofs.Common.{◌≡◌, ◌+◌, true, List, [], ◌∷◌, ◌++◌, ap, sym, subst, ◌∙◌}
use Rattle.lone_export.specs.declared.step.Step.{Step}
use Rattle.step_log.specs.Steps.{kept_step, kept_log}
use Rattle.export_cell.specs.Journal.{IsLogged}
use Rattle.export_cell.specs.Based.{Based, based, has_place, IsBased, Follows}
use Rattle.export_cell.proofs.Kept.{kept_pushed}
use Rattle.export_cell.proofs.Queues.{based-push, value-push, follows-same, logged-same}
use Rattle.export_cell.proofs.base.Base.put_off.Goals as goal

pub invariant_of-self-2 : goal.invariant_of-self-2
invariant_of-self-2 g c =
    let A = g.row.I-Alloc.Denot in
    let i = c.self.inside in
    let one = c.args.step in
    let queue = kept_log i.queue.items in
    let longer = kept_log c.push_back_reserved.new.self.items in
    let grown = kept_pushed i.queue.items c.push_back_reserved.new.self.items one (c.push_back_reserved.ensures.items ∙ ap (λ (xs : List (Step A)). xs ++ one ∷ []) c.widen.ensures.items) in
    let bytes = c.payload_of-bytes.ensures.bytes in
    let logged = subst (λ (b : Based). IsLogged b.terms b.inflight b.state (kept_step one)) (sym c.self.view_is) (logged-same c.args.self.now c.make_place.new.self (kept_step one) c.make_place.ensures.same c.requires) in
    let place : has_place c.payload_of-bytes.result queue ≡ true = ap (λ (b : Based). has_place c.payload_of-bytes.result b.queue) c.self.view_is ∙ c.in_default.ensures.place in
    subst (λ n. IsBased i.replica longer (i.payload + n)) (sym bytes)
    (based-push i.replica queue longer (kept_step one) i.payload c.self.invariant logged (subst (λ n. has_place n queue ≡ true) bytes place) grown)

pub returns-clause-ok : goal.returns-clause-ok
returns-clause-ok g c =
    let A = g.row.I-Alloc.Denot in
    let i = c.self.inside in
    let one = c.args.step in
    let queue = kept_log i.queue.items in
    let longer = kept_log c.push_back_reserved.new.self.items in
    let grown = kept_pushed i.queue.items c.push_back_reserved.new.self.items one (c.push_back_reserved.ensures.items ∙ ap (λ (xs : List (Step A)). xs ++ one ∷ []) c.widen.ensures.items) in
    follows-same c.args.self.now c.make_place.new.self (based i.replica longer) (kept_step one) c.make_place.ensures.same
    (subst (λ (b : Based). Follows b (based i.replica longer) (kept_step one)) c.self.view_is (value-push i.replica queue longer (kept_step one) grown))
