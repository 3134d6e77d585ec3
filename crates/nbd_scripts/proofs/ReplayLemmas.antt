-- A replay goes on by one line.
use Rattle.std.proofs.Common.{◌≡◌, ℕ, List, [], ◌∷◌, ◌++◌, append_assoc, append-nil, Option, Some, sym, ◌∙◌, ap, refl, subst, length, take, drop, get_or, ◌+◌, ◌<◌, map, arith, inl, inr}
use Rattle.std.proofs.lemmas.List.{take-append-drop, drop_more}
use Rattle.std.specs.Prelude.{◌⊎◌}
use Rattle.std.specs.Io.KnownBytes.{append_known, Appends}
use Rattle.server_table.specs.declared.event.Event.{Event}
use Rattle.server_table.specs.declared.event.Answer.{Answer}
use Rattle.server_table.specs.Table.{Table, Setup, opening_table}
use Rattle.server_table.specs.Steps.{step, table_after}
use Rattle.server_table.specs.Shares.{mark_of, marks_of}
use Rattle.server_core.specs.Served.{Served, Stepped, opening_served}
use Rattle.server_core.proofs.Goings.{Going, one_more}
use Rattle.nbd_stream.specs.Streams.{WritesPart}
use Rattle.nbd_stream.proofs.KnownLemmas.{Appends-then}
use Rattle.nbd_stream.proofs.BufferLemmas.{Appends-none}
use Rattle.nbd_stream.proofs.TextPartLemmas.{part_behind}
use Rattle.nbd_scripts.specs.declared.outcome.Outcome.{Outcome}
use Rattle.nbd_scripts.specs.declared.outcome.Outcome.TheVariants as outcome
use Rattle.nbd_scripts.specs.declared.replay_line.ReplayLine.{ReplayLine}
use Rattle.nbd_scripts.specs.declared.replay_line.ReplayLine.TheVariants as asked
use Rattle.nbd_scripts.specs.Answers.{line_of}
use Rattle.nbd_scripts.specs.Waiting.{tags_text}
use Rattle.nbd_scripts.specs.Replayed.{events_of, text_of, steps_line, steps_in, Replays, ReplaysFirst, IsMade, TellsLine}
use Rattle.nbd_scripts.specs.Told.{CutShort, Writes}
use Rattle.nbd_scripts.proofs.PartLemmas.{cut_short, part_of_whole}

module _ (A : Type 0) where
  pub events_push_event : (lines : List (ReplayLine A)) (event : Event A) → events_of (lines ++ asked.Event event ∷ []) ≡ events_of lines ++ event ∷ []
  unfolding events_of
  events_push_event [] event = refl
  events_push_event (asked.Event first ∷ lines) event = ap (λ (l : List (Event A)). first ∷ l) (events_push_event lines event)
  events_push_event (asked.Tags export ∷ lines) event = events_push_event lines event

  pub events_push_tags : (lines : List (ReplayLine A)) (export : ℕ) → events_of (lines ++ asked.Tags export ∷ []) ≡ events_of lines
  unfolding events_of
  events_push_tags [] export = refl
  events_push_tags (asked.Event first ∷ lines) export = ap (λ (l : List (Event A)). first ∷ l) (events_push_tags lines export)
  events_push_tags (asked.Tags other ∷ lines) export = events_push_tags lines export

  -- a list of answers that is as long as the events
  pub text_push_event : (setup : Setup) (table : Table) (lines : List (ReplayLine A)) (answers : List (Answer A)) (event : Event A) (said : Answer A) → length (marks_of answers) ≡ length (events_of lines)
      → text_of setup table (lines ++ asked.Event event ∷ []) (answers ++ said ∷ []) ≡ text_of setup table lines answers ++ line_of said
  unfolding text_of events_of
  text_push_event setup table [] [] event said long = append-nil (line_of said)
  text_push_event setup table [] (answer ∷ answers) event said long = absurd (grind arith)
  text_push_event setup table (asked.Event first ∷ lines) [] event said long = absurd (grind arith)
  text_push_event setup table (asked.Event first ∷ lines) (answer ∷ answers) event said long =
      let next = (step setup table first (mark_of answer)).table in
      ap (λ (l : List ℕ). line_of answer ++ l) (text_push_event setup next lines answers event said (grind arith))
      ∙ sym (append_assoc (line_of answer) (text_of setup next lines answers) (line_of said))
  text_push_event setup table (asked.Tags export ∷ lines) answers event said long =
      ap (λ (l : List ℕ). tags_text setup table export ++ l) (text_push_event setup table lines answers event said long)
      ∙ sym (append_assoc (tags_text setup table export) (text_of setup table lines answers) (line_of said))

  pub text_push_tags : (setup : Setup) (table : Table) (lines : List (ReplayLine A)) (answers : List (Answer A)) (export : ℕ) → length (marks_of answers) ≡ length (events_of lines)
      → text_of setup table (lines ++ asked.Tags export ∷ []) answers ≡ text_of setup table lines answers ++ tags_text setup (table_after setup table (events_of lines) (marks_of answers)) export
  unfolding text_of events_of
  text_push_tags setup table [] [] export long = append-nil (tags_text setup table export)
  text_push_tags setup table [] (answer ∷ answers) export long = absurd (grind arith)
  text_push_tags setup table (asked.Event first ∷ lines) [] export long = absurd (grind arith)
  text_push_tags setup table (asked.Event first ∷ lines) (answer ∷ answers) export long =
      let next = (step setup table first (mark_of answer)).table in
      ap (λ (l : List ℕ). line_of answer ++ l) (text_push_tags setup next lines answers export (grind arith))
      ∙ sym (append_assoc (line_of answer) (text_of setup next lines answers) (tags_text setup (table_after setup next (events_of lines) (marks_of answers)) export))
  text_push_tags setup table (asked.Tags other ∷ lines) answers export long =
      ap (λ (l : List ℕ). tags_text setup table other ++ l) (text_push_tags setup table lines answers export long)
      ∙ sym (append_assoc (tags_text setup table other) (text_of setup table lines answers) (tags_text setup (table_after setup table (events_of lines) (marks_of answers)) export))

  -- what is told of the lines so far is written
  pub record Written (setup : Setup) (lines : List (ReplayLine A)) (last : Served) (old new : Option (List ℕ)) : Type 0 where
    pub answers : List (Answer A)
    pub going : Going A (opening_served setup) (events_of lines) answers last
    pub text : Appends old new (text_of setup (opening_table setup) lines answers)

  pub written_first : (setup : Setup) (server : Served) (old : Option (List ℕ)) → server ≡ opening_served setup → Written setup [] server old old
  unfolding events_of text_of
  written_first setup server old is = record {
    answers = [];
    going = record { told = refl; table = ap (λ (v : Served). v.table) is; setup = ap (λ (v : Served). v.setup) is; long = refl };
    text = Appends-none old;
  }

  written_event : (setup : Setup) (lines : List (ReplayLine A)) (event : Event A) (said : Answer A) (now next : Served) (old between new : Option (List ℕ))
      → Written setup lines now old between → Stepped now event next said → Appends between new (line_of said) → Written setup (lines ++ asked.Event event ∷ []) next old new
  written_event setup lines event said now next old between new so_far one line = record {
    answers = so_far.answers ++ said ∷ [];
    going = subst (λ (l : List (Event A)). Going A (opening_served setup) l (so_far.answers ++ said ∷ []) next) (sym (events_push_event lines event))
        (one_more A (opening_served setup) now next (events_of lines) so_far.answers (so_far.answers ++ said ∷ []) event said so_far.going one refl);
    text = subst (λ (l : List ℕ). Appends old new l) (sym (text_push_event setup (opening_table setup) lines so_far.answers event said so_far.going.long))
        (Appends-then old between new (text_of setup (opening_table setup) lines so_far.answers) (line_of said) so_far.text line);
  }

  written_tags : (setup : Setup) (lines : List (ReplayLine A)) (export : ℕ) (now next : Served) (old between new : Option (List ℕ))
      → Written setup lines now old between → next ≡ now → Appends between new (tags_text now.setup now.table export) → Written setup (lines ++ asked.Tags export ∷ []) next old new
  written_tags setup lines export now next old between new so_far same told =
      let here : tags_text now.setup now.table export ≡ tags_text setup (table_after setup (opening_table setup) (events_of lines) (marks_of so_far.answers)) export =
      ap (λ (s : Setup). tags_text s now.table export) so_far.going.setup ∙ ap (λ (t : Table). tags_text setup t export) so_far.going.table in
      record {
        answers = so_far.answers;
        going = subst (λ (l : List (Event A)). Going A (opening_served setup) l so_far.answers next) (sym (events_push_tags lines export))
            (subst (λ (s : Served). Going A (opening_served setup) (events_of lines) so_far.answers s) (sym same) so_far.going);
        text = subst (λ (l : List ℕ). Appends old new l) (sym (text_push_tags setup (opening_table setup) lines so_far.answers export so_far.going.long))
            (Appends-then old between new (text_of setup (opening_table setup) lines so_far.answers) (tags_text setup (table_after setup (opening_table setup) (events_of lines) (marks_of so_far.answers)) export) so_far.text
            (subst (λ (l : List ℕ). Appends between new l) here told));
      }

  pub written_more : (setup : Setup) (lines : List (ReplayLine A)) (line : ReplayLine A) (now next : Served) (old between new : Option (List ℕ))
      → Written setup lines now old between → IsMade now line next between new → Written setup (lines ++ line ∷ []) next old new
  written_more setup lines (asked.Event event) now next old between new so_far made = written_event setup lines event made.0 now next old between new so_far made.1 made.2
  written_more setup lines (asked.Tags export) now next old between new so_far made = written_tags setup lines export now next old between new so_far made.0 made.1

  -- all lines are told, and then the last line is
  last_told : (setup : Setup) (lines : List (ReplayLine A)) (last : Served) (old between : Option (List ℕ)) (steps : ℕ) (so_far : Written setup lines last old between) → steps ≡ steps_in last.table
      → (all : Option (List ℕ)) → Appends old all (text_of setup (opening_table setup) lines so_far.answers ++ steps_line steps) → Replays setup lines old all
  last_told setup lines last old between steps so_far is all written = record {
    answers = so_far.answers;
    answered = so_far.going.told;
    written = subst (λ (n : ℕ). Appends old all (text_of setup (opening_table setup) lines so_far.answers ++ steps_line n)) (is ∙ ap steps_in so_far.going.table) written;
  }

  pub written_last : (setup : Setup) (lines : List (ReplayLine A)) (last : Served) (old between new : Option (List ℕ)) (steps : ℕ)
      → Written setup lines last old between → steps ≡ steps_in last.table → Appends between new (steps_line steps) → Replays setup lines old new
  written_last setup lines last old between new steps so_far is line =
      last_told setup lines last old between steps so_far is new (Appends-then old between new (text_of setup (opening_table setup) lines so_far.answers) (steps_line steps) so_far.text line)

  -- a beginning of the last line is written
  pub last_cut : (setup : Setup) (lines : List (ReplayLine A)) (last : Served) (old between new : Option (List ℕ)) (steps : ℕ)
      → Written setup lines last old between → steps ≡ steps_in last.table → WritesPart between new (steps_line steps) → CutShort (Replays setup lines old) old new
  last_cut setup lines last old between new steps so_far is part =
      cut_short (Replays setup lines old) old new (text_of setup (opening_table setup) lines so_far.answers ++ steps_line steps) (last_told setup lines last old between steps so_far is)
      (part_behind old between new (text_of setup (opening_table setup) lines so_far.answers) (steps_line steps) so_far.text part)

  -- what is told of the first lines is written, and nothing of those behind them
  pub first_written : (setup : Setup) (lines first behind : List (ReplayLine A)) (last : Served) (old new : Option (List ℕ)) → lines ≡ first ++ behind → Written setup first last old new
      → ReplaysFirst setup lines old new
  first_written setup lines first behind last old new are so_far = record {
    first = first;
    behind = behind;
    are = are;
    answers = so_far.answers;
    answered = so_far.going.told;
    written = so_far.text;
  }

  pub none_written : (setup : Setup) (lines : List (ReplayLine A)) (old : Option (List ℕ)) → ReplaysFirst setup lines old old
  none_written setup lines old = first_written setup lines [] lines (opening_served setup) old old refl (written_first setup (opening_served setup) old refl)

  -- a beginning is written of what one line more is told
  pub line_cut : (setup : Setup) (lines first behind : List (ReplayLine A)) (line : ReplayLine A) (now next : Served) (old between new : Option (List ℕ)) → lines ≡ (first ++ line ∷ []) ++ behind
      → Written setup first now old between → CutShort (IsMade now line next between) between new → CutShort (ReplaysFirst setup lines old) old new
  line_cut setup lines first behind line now next old between new are so_far cut =
      let more = written_more setup first line now next old between (append_known between cut.text) so_far cut.whole in
      let whole = text_of setup (opening_table setup) (first ++ line ∷ []) more.answers in
      let told : (all : Option (List ℕ)) → Appends old all whole → ReplaysFirst setup lines old all =
      λ all written. record {
        first = first ++ line ∷ [];
        behind = behind;
        are = are;
        answers = more.answers;
        answered = more.going.told;
        written = written;
      } in
      cut_short (ReplaysFirst setup lines old) old new whole told
      (part_of_whole old between new (text_of setup (opening_table setup) first so_far.answers) cut.text whole so_far.text more.text cut.part)

  -- a line that was told into an empty text, which is then written
  told_on : (now : Served) (line : ReplayLine A) (next : Served) (text : List ℕ) (old new : Option (List ℕ)) → IsMade now line next (Some []) (Some text) → Appends old new text → IsMade now line next old new
  told_on now (asked.Event event) next text old new made written = (made.0, made.1, subst (Appends old new) made.2 written)
  told_on now (asked.Tags export) next text old new made written = (made.0, subst (Appends old new) made.1 written)

  module _ (now : Served) (line : ReplayLine A) (next : Served) (old new : Option (List ℕ)) (went : Outcome) where
    pub line_told : (text : List ℕ) → IsMade now line next (Some []) (Some text) → Writes text outcome.Done old new went → TellsLine now line next old new went
    line_told text made (inl here) = subst (TellsLine now line next old new) (sym here.0) (told_on now line next text old new made here.1)
    line_told text made (inr (inl none)) = subst (TellsLine now line next old new) (sym none.0) none.1
    line_told text made (inr (inr failed)) =
        subst (TellsLine now line next old new) (sym failed.0)
        (cut_short (IsMade now line next old) old new text (λ all written. told_on now line next text old all made written) failed.1)

    -- how a line may go
    pub line_went : TellsLine now line next old new went → (went ≡ outcome.Done) ⊎ (went ≡ outcome.NoMemory) ⊎ (went ≡ outcome.WriteFailed)
    line_went told = ways went told
      where
        ways : (o : Outcome) → TellsLine now line next old new o → (o ≡ outcome.Done) ⊎ (o ≡ outcome.NoMemory) ⊎ (o ≡ outcome.WriteFailed)
        ways outcome.Done told = inl refl
        ways outcome.NoMemory told = inr (inl refl)
        ways outcome.WriteFailed told = inr (inr refl)
        ways outcome.Refused told = absurd told
        ways outcome.ReadFailed told = absurd told

    pub line_made : TellsLine now line next old new went → went ≡ outcome.Done → IsMade now line next old new
    line_made told is = subst (TellsLine now line next old new) is told

    pub line_left : TellsLine now line next old new went → went ≡ outcome.NoMemory → new ≡ old
    line_left told is = subst (TellsLine now line next old new) is told

    pub line_begun : TellsLine now line next old new went → went ≡ outcome.WriteFailed → CutShort (IsMade now line next old) old new
    line_begun told is = subst (TellsLine now line next old new) is told

pub map_same : {X : Type 0} (xs : List X) → map (λ x. x) xs ≡ xs
map_same [] = refl
map_same (x ∷ xs) = ap (λ l. x ∷ l) (map_same xs)

-- what was yielded is a front
pub front_of : {X : Type 0} (yielded all : List X) → map (λ x. x) yielded ≡ take (length yielded) all → all ≡ yielded ++ drop (length yielded) all
front_of yielded all is = sym (take-append-drop (length yielded) all) ∙ ap (λ l. l ++ drop (length yielded) all) (sym is ∙ map_same yielded)

-- and so it is with the next one
pub front_with : {X : Type 0} (yielded all : List X) (x : X) → map (λ y. y) yielded ≡ take (length yielded) all → (length yielded < length all) × (x ≡ get_or all (length yielded) x)
    → all ≡ (yielded ++ x ∷ []) ++ drop (length yielded + 1) all
front_with yielded all x is next =
    let rest = drop (length yielded + 1) all in
    front_of yielded all is
    ∙ ap (λ l. yielded ++ l) (drop_more all (length yielded) x next.0 ∙ ap (λ y. y ∷ rest) (sym next.1))
    ∙ sym (append_assoc yielded (x ∷ []) rest)
