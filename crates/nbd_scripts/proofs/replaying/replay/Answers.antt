use Rattle.std.proofs.Common.{◌≡◌, ℕ, ◌+◌, Option, List, [], length, drop, refl, sym, ◌∙◌, subst, inl, inr, rules}
use Rattle.std.specs.Prelude.{◌⊎◌}
use Rattle.std.proofs.lemmas.List.{append-nil}
use Rattle.std.proofs.lemmas.Iterator.Adapters.{YieldsList-from_vec}
use Rattle.std.proofs.lemmas.Iterator.Consumers.{YieldsList-so_far, YieldsList-turn, YieldsList-end}
use Rattle.server_core.specs.Served.{setup_for}
use Rattle.nbd_scripts.specs.declared.replay_line.ReplayLine.{ReplayLine}
use Rattle.nbd_scripts.specs.Replayed.{Replays, ReplaysFirst, TellsLine, steps_line}
use Rattle.nbd_scripts.specs.Told.{CountsWrite, CutShort}
use Rattle.nbd_scripts.proofs.PartLemmas.{cut_short_so}
use Rattle.nbd_scripts.proofs.ReplayLemmas.{written_first, written_more, written_last, first_written, none_written, last_cut, line_cut, line_went, line_made, line_left, line_begun, map_same, front_of, front_with}
use Rattle.nbd_scripts.proofs.ToldLemmas.{written_done, nothing_written, part_written, text_went}
use Rattle.nbd_scripts.proofs.replaying.replay.Goals as goal

pub returns-in_default-clause-no_memory : goal.returns-in_default-clause-no_memory
returns-in_default-clause-no_memory g c = λ is. none_written g.row.A.Denot (setup_for c.args.config.now) c.args.lines.items (g.W.Write.contents c.args.output.now.inner)

pub loop-line-init : goal.loop-line-init
loop-line-init g c = record { so_far = written_first g.row.A.Denot (setup_for c.args.config.now) c.in-Ok.server (g.W.Write.contents c.args.output.now.inner) c.in-Ok.ensures; kept = refl }

pub loop-line-preserved : goal.loop-line-preserved
loop-line-preserved g c =
    let A = g.row.A.Denot in
    let old = g.W.Write.contents c.args.output.now.inner in
    let between = g.W.Write.contents c.loop-line.output.inner in
    let new = g.W.Write.contents c.tell_line.new.output.inner in
    let told : TellsLine {A = A} c.loop-line.server c.in-Some.line c.tell_line.new.server between new c.tell_line.result = search rules in
    let made = line_made A c.loop-line.server c.in-Some.line c.tell_line.new.server between new c.tell_line.result told c.in-Done.is in
    record {
      so_far = written_more A (setup_for c.args.config.now) c.loop-line.yielded c.in-Some.line c.loop-line.server c.tell_line.new.server old between new c.loop-line.invariant.so_far made;
      kept = c.tell_line.ensures.counted.1 (λ is. absurd cc) ∙ c.loop-line.invariant.kept;
    }

pub returns-in_default-tell_line : goal.returns-in_default-tell_line
returns-in_default-tell_line g c =
    let A = g.row.A.Denot in
    let setup = setup_for c.args.config.now in
    let old = g.W.Write.contents c.args.output.now.inner in
    let between = g.W.Write.contents c.loop-line.output.inner in
    let new = g.W.Write.contents c.tell_line.new.output.inner in
    let lines = c.args.lines.items in
    let first = c.loop-line.yielded in
    let line = c.in-Some.line in
    let now = c.loop-line.server in
    let next = c.tell_line.new.server in
    let went = c.tell_line.result in
    let told : TellsLine {A = A} now line next between new went = search rules in
    let gives = c.into_iter-line-iterator.ensures.into_iter_gives in
    let each = YieldsList-from_vec {s = c.into_iter-line-iterator.result} lines gives.0 (search rules) in
    let so_far = YieldsList-so_far each first c.loop-line.line-iterator c.loop-line.yielded_by in
    let turn = YieldsList-turn each first c.loop-line.line-iterator c.loop-line.yielded_by c.next.result c.next.new.self line c.in-Some.is c.next.ensures.steps in
    let either : Option (List ℕ) → Type 0 = λ all. Replays {A = A} setup lines old all ⊎ ReplaysFirst {A = A} setup lines old all in
    record {
      done = λ is. absurd (c.in_default-tell_line.not-Done is);
      failed = line_went A now line next between new went told;
      no_memory = λ is. subst (ReplaysFirst {A = A} setup lines old) (sym (line_left A now line next between new went told is))
          (first_written A setup lines first (drop (length first) lines) now old between (front_of first lines so_far) c.loop-line.invariant.so_far);
      write_failed = λ is. cut_short_so (ReplaysFirst {A = A} setup lines old) either old new (λ all some. inr some)
          (line_cut A setup lines first (drop (length first + 1) lines) line now next old between new (front_with first lines line so_far turn) c.loop-line.invariant.so_far
          (line_begun A now line next between new went told is));
      counted = subst (λ (n : ℕ). CountsWrite went n c.tell_line.new.output.failures) c.loop-line.invariant.kept c.tell_line.ensures.counted;
    }

pub returns : goal.returns
returns g c =
    let A = g.row.A.Denot in
    let setup = setup_for c.args.config.now in
    let old = g.W.Write.contents c.args.output.now.inner in
    let between = g.W.Write.contents c.loop-line.output.inner in
    let new = g.W.Write.contents c.write_steps.new.output.inner in
    let lines = c.args.lines.items in
    let yielded = c.loop-line.yielded in
    let last = c.loop-line.server in
    let steps = c.steps.result in
    let went = c.write_steps.result in
    let told = c.write_steps.ensures.told in
    let gives = c.into_iter-line-iterator.ensures.into_iter_gives in
    let each = YieldsList-from_vec {s = c.into_iter-line-iterator.result} lines gives.0 (search rules) in
    let ends = YieldsList-end each yielded c.loop-line.line-iterator c.loop-line.yielded_by c.next.result c.next.new.self c.in-None.is c.next.ensures.steps in
    let all : yielded ≡ lines = sym (map_same yielded) ∙ ends.0 in
    let either : Option (List ℕ) → Type 0 = λ all. Replays {A = A} setup lines old all ⊎ ReplaysFirst {A = A} setup lines old all in
    record {
      done = λ is. subst (λ (l : List (ReplayLine A)). Replays {A = A} setup l old new) all
          (written_last A setup yielded last old between new steps c.loop-line.invariant.so_far c.steps.ensures (written_done (steps_line steps) between new went told is));
      failed = text_went (steps_line steps) between new went told;
      no_memory = λ is. subst (ReplaysFirst {A = A} setup lines old) (sym (nothing_written (steps_line steps) between new went told is))
          (first_written A setup lines yielded [] last old between (sym all ∙ sym (append-nil yielded)) c.loop-line.invariant.so_far);
      write_failed = λ is. cut_short_so (Replays {A = A} setup lines old) either old new (λ whole this. inl this)
          (subst (λ (l : List (ReplayLine A)). CutShort (Replays {A = A} setup l old) old new) all
          (last_cut A setup yielded last old between new steps c.loop-line.invariant.so_far c.steps.ensures (part_written (steps_line steps) between new went told is)));
      counted = subst (λ (n : ℕ). CountsWrite went n c.write_steps.new.output.failures) c.loop-line.invariant.kept c.write_steps.ensures.counted;
    }
