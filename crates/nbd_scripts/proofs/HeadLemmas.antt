-- A head goes on by one line.
use Rattle.std.proofs.Common.{◌≡◌, ℕ, ◌+◌, max, true, false, List, [], ◌∷◌, ◌++◌, length, refl, ap, sym, ◌∙◌, codes, subst, inl}
use Rattle.std.proofs.lemmas.List.{append-nil, length_push}
use Rattle.std.proofs.lemmas.Slice.Eq.{bytes_eq-Decides}
use Rattle.std.specs.Prelude.{Ok, Err, Some}
use Rattle.nbd_commands.specs.Exports.{Offer}
use Rattle.nbd_scripts.specs.declared.fault.LineFault.{LineFault}
use Rattle.nbd_scripts.specs.declared.fault.LineFault.TheVariants as fault
use Rattle.nbd_scripts.specs.declared.head.Head.TheVariants as heads
use Rattle.nbd_scripts.specs.Faults.{IsRefused}
use Rattle.nbd_scripts.specs.Heads.{IsHead}
use Rattle.nbd_scripts.specs.Lines.{lines_in, Begins}
use Rattle.nbd_scripts.specs.Head.{Plan, no_plan, offered, plan_after, is_end, line_fault, Configures, HasHead, RefusesLine, LacksEnd}
use Rattle.nbd_scripts.specs.Head.Configures.{nothing, behind_line}
use Rattle.nbd_scripts.proofs.LineLemmas.{Cuts, begins_first, begins_more, lines_next, lines_none}

-- what is left of a script, behind so many lines that configure this
pub record Reads (script : List ℕ) (plan : Plan) (above : ℕ) (rest : List ℕ) : Type 0 where
  pub front : List (List ℕ)
  pub begins : Begins script front rest
  pub configures : Configures front plan
  pub counted : above ≡ length front

pub reads_first : (script : List ℕ) (plan : Plan) → plan ≡ no_plan → Reads script plan 0 script
reads_first script plan is = record { front = []; begins = begins_first script; configures = rw is nothing; counted = refl }

one_more : (above : ℕ) (front : List (List ℕ)) (line : List ℕ) → above ≡ length front → above + 1 ≡ length (front ++ line ∷ [])
one_more above front line is = ap (λ (n : ℕ). n + 1) is ∙ sym (length_push front line)

pub reads_more : (script : List ℕ) (plan next : Plan) (above : ℕ) (rest line after : List ℕ) → Reads script plan above rest → Cuts rest line after
    → is_end line ≡ false → plan_after plan line ≡ Ok next → Reads script next (above + 1) after
reads_more script plan next above rest line after so cuts other taken = record {
  front = so.front ++ line ∷ [];
  begins = begins_more script so.front rest line after so.begins cuts;
  configures = behind_line so.front line plan next so.configures other taken;
  counted = one_more above so.front line so.counted;
}

refused_by : (script : List ℕ) (plan : Plan) (fault : LineFault) (above : ℕ) (rest line after : List ℕ) → Reads script plan above rest → Cuts rest line after
    → line_fault plan line ≡ Some fault → RefusesLine script (above + 1) fault
refused_by script plan fault above rest line after so cuts refused = record {
  lines = so.front;
  line = line;
  more = lines_in after;
  plan = plan;
  are = lines_next script so.front rest line after so.begins cuts;
  configures = so.configures;
  refused = refused;
  counted = ap (λ (n : ℕ). n + 1) so.counted;
}

pub line_refused : (script : List ℕ) (plan : Plan) (fault : LineFault) (above : ℕ) (rest line after : List ℕ) → Reads script plan above rest → Cuts rest line after
    → is_end line ≡ false → plan_after plan line ≡ Err fault → RefusesLine script (above + 1) fault
line_refused script plan fault above rest line after so cuts other refused = refused_by script plan fault above rest line after so cuts (rw (other, refused) refl)

-- the same of what the code tells
pub refused_line : (A : Type 0) (script : List ℕ) (plan : Plan) (fault : LineFault) (above : ℕ) (rest line after : List ℕ) → Reads script plan above rest → Cuts rest line after
    → is_end line ≡ false → IsRefused (plan_after plan line) fault → IsHead {A = A} script (heads.Refused (above + 1) fault)
refused_line A script plan fault.Form above rest line after so cuts other refused = inl (line_refused script plan fault.Form above rest line after so cuts other refused)
refused_line A script plan (fault.Value refusal) above rest line after so cuts other refused = line_refused script plan (fault.Value refusal) above rest line after so cuts other refused
refused_line A script plan fault.NoMemory above rest line after so cuts other refused = tt

pub head_refused : (script : List ℕ) (plan : Plan) (fault : LineFault) (above : ℕ) (rest line after : List ℕ) → Reads script plan above rest → Cuts rest line after
    → is_end line ≡ true → offered plan ≡ Err fault → RefusesLine script (above + 1) fault
head_refused script plan fault above rest line after so cuts end refused = refused_by script plan fault above rest line after so cuts (rw (end, refused) refl)

pub head_read : (script : List ℕ) (plan : Plan) (offer : Offer) (above : ℕ) (rest line after : List ℕ) → Reads script plan above rest → Cuts rest line after
    → is_end line ≡ true → offered plan ≡ Ok offer → HasHead script offer (above + 1) after
head_read script plan offer above rest line after so cuts end offers =
    let is : line ≡ codes "---" = (bytes_eq-Decides line (codes "---")).0 end in
    record {
      lines = so.front;
      plan = plan;
      begins = let P : List ℕ → Type 0 = λ l. Begins script (so.front ++ l ∷ []) after in subst P is (begins_more script so.front rest line after so.begins cuts);
      configures = so.configures;
      offers = offers;
      counted = ap (λ (n : ℕ). n + 1) so.counted;
    }

pub head_open : (script : List ℕ) (plan : Plan) (above : ℕ) (rest : List ℕ) → Reads script plan above rest → length rest ≡ 0 → LacksEnd script (max above 1)
head_open script plan above rest so none =
    let all : lines_in script ≡ so.front = so.begins.lines ∙ ap (λ (l : List (List ℕ)). so.front ++ l) (lines_none rest none) ∙ append-nil so.front in
    record {
      plan = plan;
      configures = let P : List (List ℕ) → Type 0 = λ l. Configures l plan in subst P (sym all) so.configures;
      counted = ap (λ (n : ℕ). max n 1) (so.counted ∙ ap length (sym all));
    }
