use Rattle.std.proofs.Common.{◌≡◌, ℕ, List, ◌++◌, ap, ◌∙◌, rules, codes}
use Rattle.std.proofs.lemmas.List.{nil_from_length}
use Rattle.std.specs.Slice.Iter.{chunks_rest}
use Rattle.hex.specs.Hex.{encode_lower}
use Rattle.nbd_scripts.specs.Output.{lines_behind, word_of}
use Rattle.nbd_scripts.proofs.OutputLemmas.{line_added, last_line_added}
use Rattle.nbd_scripts.proofs.conversation.spelled.Goals as goal

pub loop-row-init : goal.loop-row-init
loop-row-init g c = (search rules, tt, search rules, search rules)

pub loop-row-preserved : goal.loop-row-preserved
loop-row-preserved g c =
    let row = c.in-Some.row.now in
    let more = chunks_rest c.next.new.self in
    let steps = c.in-Some.ensures.steps in
    let size = c.loop-row.invariant.2 in
    let text : c.push.new.self.items ≡ (c.loop-row.text.items ++ encode_lower row) ++ codes "\n" = search rules in (
      search rules,
      tt,
      steps.0 ∙ size,
      ap (λ (t : List ℕ). t ++ lines_behind 0 more) text
          ∙ line_added _ _ _ row more c.loop-row.invariant.3 steps.1.0 (rw size at steps.1.1) steps.1.2,
    )

pub returns : goal.returns
returns g c =
    let word = word_of c.args.end in
    let text : c.push-2.new.self.items ≡ ((c.loop-row.text.items ++ codes "end ") ++ word) ++ codes "\n" = search rules in
    text ∙ last_line_added _ _ _ word c.loop-row.invariant.3 (nil_from_length _ c.in-None.ensures.steps.1.0)
