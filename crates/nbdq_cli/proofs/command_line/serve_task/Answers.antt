use Rattle.std.proofs.Common.{Option, codes, subst, ◌∙◌, rules}
use Rattle.std.specs.Str.Parse.{ParsesUnsigned, ExplainsUnsignedError, HasUnsignedDigitsIfOk}
use Rattle.clap.specs.Words.{Text, found_of, rows_of, one_of}
use Rattle.clap.proofs.WalkLemmas.{first_value-rows, one_text-rows}
use Rattle.nbdq_cli.specs.Asked.{IsSessions}
use Rattle.nbdq_cli.proofs.AskedLemmas.{count_is}
use Rattle.nbdq_cli.proofs.command_line.serve_task.Goals as goal

pub returns : goal.returns
returns c =
    let found = found_of c.args.given.now in
    record {
      tcp = c.in_ok-kept.ensures ∙ c.get_str.ensures ∙ first_value-rows found (codes "tcp");
      unix = c.in_ok-kept-2.ensures ∙ c.get_str-2.ensures ∙ first_value-rows found (codes "unix");
      control = c.in_ok-kept-3.ensures ∙ c.get_str-3.ensures ∙ first_value-rows found (codes "control");
      workers =
          count_is _ (λ bs r. ParsesUnsigned 64 10 bs r × ExplainsUnsignedError 10 bs r × HasUnsignedDigitsIfOk bs r) (one_of (codes "workers") (rows_of found)) c.get_one.result 4 c.unwrap_or.result
          (λ none. c.get_one.ensures.none (one_text-rows found (codes "workers") ∙ none)) (λ t some. c.get_one.ensures.value t (one_text-rows found (codes "workers") ∙ some)) (λ u x g. g.0) (search rules);
      sessions =
          let P : Option Text → Type 0 = λ said. IsSessions said c.sessions_of.result in
          subst P (c.get_str-4.ensures ∙ first_value-rows found (codes "sessions")) c.sessions_of.ensures;
    }
