use Rattle.std.proofs.Common.{subst, sym, Err, Ok}
use Rattle.std.specs.Vec.{vec_capacity}
use Rattle.std.specs.VecDeque.{deque_capacity}
use Rattle.export_cell.specs.Journal.{JournalMove, step_answer_of_retuned}
use Rattle.lone_export.specs.declared.step.Step.TheVariants.{Retune}
use Rattle.server_core.specs.Kept.{AreShort}
use Rattle.server_core.specs.Members.{Kept, Standing, standing_of, Retunes}
use Rattle.server_core.proofs.Retuned.{HasRetuned, refused_kept, refused_retunes, refused_short, retuned_kept, retuned_retunes, done_short, short_rates}
use Rattle.server_core.proofs.member.Member.retune.Goals as goal

pub invariant_of-self : goal.invariant_of-self
invariant_of-self g c =
    let i = c.self.inside in
    let m : Kept = record { whole = i.cell.live; journal = i.cell.journal; room = i.cell.room; share = i.shares; waiting = i.waiting.items; waiting_room = deque_capacity i.waiting; out = i.out.items; out_room = vec_capacity i.out } in
    let new = c.retune.new.self in
    refused_kept g.row.I-Alloc.Denot m new.live new.journal new.room c.args.rates c.in-Err.refused c.self.invariant c.in-Err.ensures.step c.retune.ensures.slots

pub returns-in-Err-clause-retunes : goal.returns-in-Err-clause-retunes
returns-in-Err-clause-retunes g c =
    let i = c.self.inside in
    let m : Kept = record { whole = i.cell.live; journal = i.cell.journal; room = i.cell.room; share = i.shares; waiting = i.waiting.items; waiting_room = deque_capacity i.waiting; out = i.out.items; out_room = vec_capacity i.out } in
    let new = c.retune.new.self in
    subst (λ (v : Standing). Retunes v (standing_of (record m { whole = new.live; journal = new.journal; room = new.room })) c.args.rates (Err c.in-Err.refused)) c.self.view_is
    (refused_retunes g.row.I-Alloc.Denot m new.live new.journal new.room c.args.rates c.in-Err.refused c.self.invariant c.in-Err.ensures.step c.in-Err.ensures.no_memory c.retune.ensures.slots)

pub returns-in-Err-clause-short : goal.returns-in-Err-clause-short
returns-in-Err-clause-short g c = λ short.
    refused_short g.row.I-Alloc.Denot c.self.inside.cell.live c.retune.new.self.live c.args.rates c.in-Err.refused c.in-Err.ensures.step c.retune.ensures.slots
    (subst (λ (v : Standing). AreShort v.part.rates) (sym c.self.view_is) short)

pub returns-in-Err-clause-journal : goal.returns-in-Err-clause-journal
returns-in-Err-clause-journal g c =
    subst (λ (v : Standing). JournalMove {A = g.row.I-Alloc.Denot} v.part.terms (Retune c.args.rates) (step_answer_of_retuned (Err c.in-Err.refused)) v.journal c.retune.new.self.journal) c.self.view_is c.in-Err.ensures.journal

pub invariant_of-self-2 : goal.invariant_of-self-2
invariant_of-self-2 g c =
    let i = c.self.inside in
    let m : Kept = record { whole = i.cell.live; journal = i.cell.journal; room = i.cell.room; share = i.shares; waiting = i.waiting.items; waiting_room = deque_capacity i.waiting; out = i.out.items; out_room = vec_capacity i.out } in
    let new = c.retune.new.self in
    let has : HasRetuned g.row.I-Alloc.Denot m new.live c.args.rates c.retune-2.new.self = record {
      does = c.in_default.ensures.step;
      slots = c.retune.ensures.slots;
      tuning = c.tuning-tuning.result;
      is = c.tuning-tuning.ensures;
      r = c.r_interval.result;
      p = c.p_interval.result;
      r_is = c.r_interval.ensures.value;
      p_is = c.p_interval.ensures.value;
      clock = c.retune-2.ensures;
    } in
    retuned_kept g.row.I-Alloc.Denot m new.live new.journal new.room c.args.rates c.retune-2.new.self c.self.invariant has

pub returns-clause-retunes : goal.returns-clause-retunes
returns-clause-retunes g c =
    let i = c.self.inside in
    let m : Kept = record { whole = i.cell.live; journal = i.cell.journal; room = i.cell.room; share = i.shares; waiting = i.waiting.items; waiting_room = deque_capacity i.waiting; out = i.out.items; out_room = vec_capacity i.out } in
    let new = c.retune.new.self in
    let has : HasRetuned g.row.I-Alloc.Denot m new.live c.args.rates c.retune-2.new.self = record {
      does = c.in_default.ensures.step;
      slots = c.retune.ensures.slots;
      tuning = c.tuning-tuning.result;
      is = c.tuning-tuning.ensures;
      r = c.r_interval.result;
      p = c.p_interval.result;
      r_is = c.r_interval.ensures.value;
      p_is = c.p_interval.ensures.value;
      clock = c.retune-2.ensures;
    } in
    subst (λ (v : Standing). Retunes v (standing_of (record m { whole = new.live; journal = new.journal; room = new.room; share = c.retune-2.new.self })) c.args.rates (Ok tt)) c.self.view_is
    (retuned_retunes g.row.I-Alloc.Denot m new.live new.journal new.room c.args.rates c.retune-2.new.self c.self.invariant has)

pub returns-clause-short : goal.returns-clause-short
returns-clause-short g c = λ _.
    done_short {A = g.row.I-Alloc.Denot} c.self.inside.cell.live c.retune.new.self.live c.args.rates c.in_default.ensures.step
    (short_rates c.args.rates c.tuning-tuning.result c.r_interval.result c.l_interval.result c.p_interval.result c.tuning-tuning.ensures c.r_interval.ensures.value c.l_interval.ensures.value c.p_interval.ensures.value
    c.r_interval.ensures.range c.l_interval.ensures.range c.p_interval.ensures.range)

pub returns-clause-journal : goal.returns-clause-journal
returns-clause-journal g c =
    subst (λ (v : Standing). JournalMove {A = g.row.I-Alloc.Denot} v.part.terms (Retune c.args.rates) (step_answer_of_retuned (Ok c.in_default.field-0)) v.journal c.retune.new.self.journal) c.self.view_is c.in_default.ensures.journal
