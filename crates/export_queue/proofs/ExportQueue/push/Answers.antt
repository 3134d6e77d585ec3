use Rattle.std.proofs.Common.{◌≡◌, true, false, ◌+◌, length, ap, ◌∙◌, arith}
use Rattle.circular_buffer.specs.Buffer.{Buffer}
use Rattle.export_queue.specs.Queue.{Queue, view_of, after_push}
use Rattle.export_queue.proofs.Rows.{push_view, length-numbered, all_taken}
use Rattle.export_queue.proofs.ExportQueue.push.Goals as goal

pub returns-in-Err-clause-variant : goal.returns-in-Err-clause-variant
returns-in-Err-clause-variant g c = rw (← c.self.view_is, length-numbered) c.in-Err.ensures.variant

pub returns-in-Err-clause-full : goal.returns-in-Err-clause-full
returns-in-Err-clause-full g c =
    let i = c.self.inside in
    let err = c.in-Err.ensures.err in
    let counted = c.len.ensures.len in
    let within = c.len.ensures.within.0 in (
      err.0,
      ap (λ (b : Buffer g.row.T.Denot). view_of b i.out i.picked i.inflight) err.1 ∙ c.self.view_is,
      rw (← c.self.view_is, length-numbered) (all_taken (length i.ring.items) i.ring.capacity (omega arith) (λ less. let no : false ≡ true = c.in-Err.ensures.variant.1 less in absurd (cc))),
    )

pub returns-clause-variant : goal.returns-clause-variant
returns-clause-variant g c = rw (← c.self.view_is, length-numbered) c.in_default.ensures.variant

pub returns-clause-ok : goal.returns-clause-ok
returns-clause-ok g c =
    let i = c.self.inside in (
      rw (← c.self.view_is) (ap (λ n. i.picked + n) c.len.ensures.len),
      push_view i.ring c.put_behind.new.ring i.out c.args.item i.picked i.inflight c.in_default.ensures.ok
          ∙ ap (λ (q : Queue g.row.T.Denot). after_push q c.args.item) c.self.view_is,
    )
