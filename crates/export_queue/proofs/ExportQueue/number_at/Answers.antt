use Rattle.std.proofs.Common.{◌<◌, ◌≤◌, Option, None, length, slice_get, sym, ◌∙◌, ap, subst, rules}
use Rattle.std.specs.Prelude.{ℕ, option_map}
use Rattle.export_queue.specs.Queue.{Queue}
use Rattle.export_queue.proofs.Rows.{waiting_number, no_number}
use Rattle.export_queue.proofs.ExportQueue.number_at.Goals as goal

pub returns-then-place-len : goal.returns-then-place-len
returns-then-place-len g c =
    let T = g.row.T.Denot in
    let i = c.self.inside in
    let past : length i.ring.items ≤ c.args.place = subst (λ n. n ≤ c.args.place) c.len.ensures.len c.if-place-len.true in
    sym (no_number i.ring i.out i.picked i.inflight c.args.place past) ∙ ap (λ (q : Queue T). option_map (λ (row : ℕ × T). row.0) (slice_get q.waiting c.args.place)) c.self.view_is

pub returns : goal.returns
returns g c =
    let T = g.row.T.Denot in
    let i = c.self.inside in
    let within : c.args.place < length i.ring.items = subst (λ n. c.args.place < n) c.len.ensures.len c.if-place-len.false in
    sym (waiting_number i.ring i.out i.picked i.inflight c.args.place within) ∙ ap (λ (q : Queue T). option_map (λ (row : ℕ × T). row.0) (slice_get q.waiting c.args.place)) c.self.view_is
