-- A body goes on by one line.
use Rattle.std.proofs.Common.{◌≡◌, ℕ, ◌+◌, List, [], ◌∷◌, ◌++◌, length, ap, sym, ◌∙◌, subst, Err, arith}
use Rattle.std.proofs.lemmas.List.{append-nil, length_push}
use Rattle.nbd_scripts.specs.declared.fault.LineFault.{LineFault}
use Rattle.nbd_scripts.specs.declared.fault.LineFault.TheVariants as fault
use Rattle.nbd_scripts.specs.declared.events.Lines.TheVariants as bodies
use Rattle.nbd_scripts.specs.declared.replay_line.ReplayLine.{ReplayLine}
use Rattle.nbd_scripts.specs.Faults.{IsRefused}
use Rattle.nbd_scripts.specs.Lines.{lines_in, Begins}
use Rattle.nbd_scripts.specs.Events.{line_asks, Asks, MissesLine, Takes}
use Rattle.nbd_scripts.specs.Events.Asks.{nothing, behind_line}
use Rattle.nbd_scripts.specs.Bodies.{IsBody}
use Rattle.nbd_scripts.proofs.LineLemmas.{Cuts, begins_first, begins_more, lines_next, lines_none}

module _ (A : Type 0) where
  -- what is left of a body that began with so many lines above, behind lines that ask for this
  pub record Goes (start : ℕ) (text : List ℕ) (asked : List (ReplayLine A)) (above : ℕ) (rest : List ℕ) : Type 0 where
    pub front : List (List ℕ)
    pub begins : Begins text front rest
    pub asks : Asks front asked
    pub counted : above ≡ start + length front

  pub goes_first : (start : ℕ) (text : List ℕ) (asked : List (ReplayLine A)) → asked ≡ [] → Goes start text asked start text
  goes_first start text asked none = record {
    front = [];
    begins = begins_first text;
    asks = let P : List (ReplayLine A) → Type 0 = λ l. Asks [] l in subst P (sym none) nothing;
    counted = omega arith;
  }

  one_more : (start above : ℕ) (front : List (List ℕ)) (line : List ℕ) → above ≡ start + length front → above + 1 ≡ start + length (front ++ line ∷ [])
  one_more start above front line is = omega (arith, length_push front line)

  pub goes_more : (start : ℕ) (text : List ℕ) (asked more : List (ReplayLine A)) (above : ℕ) (rest line after : List ℕ) → Goes start text asked above rest → Cuts rest line after
      → Takes line asked more → Goes start text more (above + 1) after
  goes_more start text asked more above rest line after so cuts takes = record {
    front = so.front ++ line ∷ [];
    begins = begins_more text so.front rest line after so.begins cuts;
    asks = let P : List (ReplayLine A) → Type 0 = λ l. Asks (so.front ++ line ∷ []) l in subst P (sym takes.taken) (behind_line so.front line asked takes.these so.asks takes.asks);
    counted = one_more start above so.front line so.counted;
  }

  misses_line : (start : ℕ) (text : List ℕ) (asked : List (ReplayLine A)) (fault : LineFault) (above : ℕ) (rest line after : List ℕ) → Goes start text asked above rest → Cuts rest line after
      → line_asks {A = A} line ≡ Err fault → MissesLine A start text (above + 1) fault
  misses_line start text asked fault above rest line after so cuts missed = record {
    lines = so.front;
    line = line;
    more = lines_in after;
    asked = asked;
    are = lines_next text so.front rest line after so.begins cuts;
    asks = so.asks;
    missed = missed;
    counted = ap (λ (n : ℕ). n + 1) so.counted;
  }

  -- the same of what the code tells
  pub line_missed : (start : ℕ) (text : List ℕ) (asked : List (ReplayLine A)) (fault : LineFault) (above : ℕ) (rest line after : List ℕ) → Goes start text asked above rest → Cuts rest line after
      → IsRefused (line_asks {A = A} line) fault → IsBody {A = A} start text (bodies.Refused (above + 1) fault)
  line_missed start text asked fault.Form above rest line after so cuts missed = misses_line start text asked fault.Form above rest line after so cuts missed
  line_missed start text asked (fault.Value refusal) above rest line after so cuts missed = misses_line start text asked (fault.Value refusal) above rest line after so cuts missed
  line_missed start text asked fault.NoMemory above rest line after so cuts missed = tt

  pub body_read : (start : ℕ) (text : List ℕ) (asked : List (ReplayLine A)) (above : ℕ) (rest : List ℕ) → Goes start text asked above rest → length rest ≡ 0 → Asks (lines_in text) asked
  body_read start text asked above rest so none =
      let all : lines_in text ≡ so.front = so.begins.lines ∙ ap (λ (l : List (List ℕ)). so.front ++ l) (lines_none rest none) ∙ append-nil so.front in
      let P : List (List ℕ) → Type 0 = λ l. Asks l asked in subst P (sym all) so.asks
