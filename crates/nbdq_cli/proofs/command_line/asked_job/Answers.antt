use Rattle.std.proofs.Common.{◌≡◌, List, [], Option, map, option_map, subst, refl, rules}
use Rattle.clap.specs.Words.{FailsBy, HasKind, Row, Text, fault_of, subcommand_name_of, subcommand_rows_of}
use Rattle.clap.specs.declared.builder.value_parser.ValueParser.TheVariants as parsers
use Rattle.nbdq_cli.specs.Asked.{command_in, faults_in, number_faults, sessions_text, wants_number, IsJob}
use Rattle.nbdq_cli.specs.Commands.{program}
use Rattle.nbdq_cli.proofs.AskedLemmas.{names_same, command_is, fails_by, refused_by_words, refused_by_number, not_refused}
use Rattle.nbdq_cli.proofs.command_line.asked_job.Goals as goal

pub returns-in_err-matches-clause-refused : goal.returns-in_err-matches-clause-refused
returns-in_err-matches-clause-refused g c =
    let words = map g.S.AsStr.text c.args.words.now in
    let told : FailsBy (fault_of program words) c.try_get_matches_from.result =
    fails_by parsers.String _ words c.try_get_matches_from.result c.in_ok-command.ensures refl c.try_get_matches_from.ensures.kinds in
    let first : HasKind (fault_of program words) c.in_err-matches.field-0.0 = rw c.in_err-matches.was at told in
    let kind : HasKind (faults_in words) c.in_err-matches.field-0.0 = refused_by_words words c.in_err-matches.field-0.0 first in
    search rules

pub returns-in_err-check_sessions-clause-refused : goal.returns-in_err-check_sessions-clause-refused
returns-in_err-check_sessions-clause-refused g c =
    let words = map g.S.AsStr.text c.args.words.now in
    let matches = c.in_ok-matches.matches in
    let error = c.in_err-check_sessions.field-0.0 in
    let told : FailsBy (fault_of program words) c.try_get_matches_from.result =
    fails_by parsers.String _ words c.try_get_matches_from.result c.in_ok-command.ensures refl c.try_get_matches_from.ensures.kinds in
    let none : fault_of program words ≡ [] = rw c.in_ok-matches.was at told in
    let found : subcommand_rows_of matches ≡ command_in words = command_is _ words matches c.in_ok-command.ensures c.in_ok-matches.ensures.matches in
    let checked : FailsBy (number_faults (wants_number (sessions_text (subcommand_rows_of matches))) words) c.check_sessions.result = c.check_sessions.ensures in
    let more : HasKind (number_faults (wants_number (sessions_text (subcommand_rows_of matches))) words) error = rw c.in_err-check_sessions.was at checked in
    let kind : HasKind (faults_in words) error = refused_by_number words matches found error none more in
    search rules

pub returns-clause-asked : goal.returns-clause-asked
returns-clause-asked g c =
    let words = map g.S.AsStr.text c.args.words.now in
    let matches = c.in_ok-matches.matches in
    let job = c.in_ok-job_of.field-0 in
    let found : subcommand_rows_of matches ≡ command_in words = command_is _ words matches c.in_ok-command.ensures c.in_ok-matches.ensures.matches in
    let named : subcommand_name_of matches ≡ option_map (λ said. said.0) (subcommand_rows_of matches) = names_same _ _ _ in
    let P : Option Text → Type 0 = λ name. IsJob name (option_map (λ said. said.1) (subcommand_rows_of matches)) job in
    let Q : Option (Text × List Row) → Type 0 = λ said. IsJob (option_map (λ s. s.0) said) (option_map (λ s. s.1) said) job in
    subst Q found (subst P named c.in_ok-job_of.ensures)

pub returns-clause-refused : goal.returns-clause-refused
returns-clause-refused g c =
    let words = map g.S.AsStr.text c.args.words.now in
    let matches = c.in_ok-matches.matches in
    let told : FailsBy (fault_of program words) c.try_get_matches_from.result =
    fails_by parsers.String _ words c.try_get_matches_from.result c.in_ok-command.ensures refl c.try_get_matches_from.ensures.kinds in
    let none : fault_of program words ≡ [] = rw c.in_ok-matches.was at told in
    let found : subcommand_rows_of matches ≡ command_in words = command_is _ words matches c.in_ok-command.ensures c.in_ok-matches.ensures.matches in
    let checked : FailsBy (number_faults (wants_number (sessions_text (subcommand_rows_of matches))) words) c.check_sessions.result = c.check_sessions.ensures in
    let no_more : number_faults (wants_number (sessions_text (subcommand_rows_of matches))) words ≡ [] = rw c.in_ok-check_sessions.was at checked in
    not_refused words matches found none no_more
