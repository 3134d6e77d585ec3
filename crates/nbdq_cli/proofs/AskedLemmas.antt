-- What is asked for, by what the parse of the words found.
use Rattle.std.proofs.Common.{◌≡◌, ℕ, Bool, false, true, List, [], ◌∷◌, inl, inr, sym, Option, Some, None, option_map, unwrap_or, Ok, Err, refl, ap, ◌∙◌, subst}
use Rattle.std.specs.Prelude.{Result, ℤ, pos, codes, option_and_then}
use Rattle.std.specs.Str.Parse.{ParsesUnsigned}
use Rattle.clap.specs.Kinds.{Kinds, or_else}
use Rattle.clap.specs.Words.{App, FailsBy, HasKind, HasMatchesOf, Row, Text, fault_of, first_of, is_simple, is_simple_and_free, subcommand_of, subcommand_rows_of, ReadsOne, NarrowsTo}
use Rattle.clap.specs.declared.error.Error.{Error}
use Rattle.clap.specs.declared.parser.matches.ArgMatches.{ArgMatches}
use Rattle.nbdq_cli.specs.Asked.{command_in, faults_in, number_faults, sessions_text, wants_number, IsCount}
use Rattle.clap.specs.declared.builder.value_parser.ValueParser.{ValueParser}
use Rattle.clap.specs.declared.builder.value_parser.ValueParser.TheVariants as parsers
use Rattle.nbdq_cli.specs.Commands.{counting_program, numbers_up_to, program, program_with}

-- the number of an option
pub count_is : (E : Type 0) (G : List ℕ → Result ℕ E → Type 0) (o : Option Text) (r : Option ℕ) (default n : ℕ) → (o ≡ None → r ≡ None) → ((t : Text) → o ≡ Some t → ReadsOne G t r)
    → ((u : List ℕ) (x : Result ℕ E) → G u x → ParsesUnsigned 64 10 u x) → n ≡ unwrap_or r default → IsCount o default n
count_is E G None r default n none value only is = is ∙ ap (λ (x : Option ℕ). unwrap_or x default) (none refl)
count_is E G (Some t) (Some v) default n none value only is = λ number. is ∙ (only t (Ok v) (value t refl)).1
count_is E G (Some t) None default n none value only is = λ number. let bad = value t refl in absurd (only t (Err bad.0) bad.1 number)

pub names_same : {X : Type 0} (f : X → Text) (g : X → List Row) (o : Option X) → option_map f o ≡ option_map (λ (p : Text × List Row). p.0) (option_map (λ x. (f x, g x)) o)
names_same f g None = refl
names_same f g (Some x) = refl

pub command_is : (c : App) (words : List Text) (m : ArgMatches) → c ≡ program → HasMatchesOf c words m → subcommand_rows_of m ≡ command_in words
unfolding command_in
command_is c words m is has = (has (ap is_simple is)).1 ∙ ap (λ (a : App). subcommand_of a words) is

-- a parse of the program fails by the faults of the definition
pub fails_by : {T : Type 0} (p : ValueParser) (c : App) (words : List Text) (r : Result T Error) → c ≡ program_with p → is_simple_and_free (program_with p) ≡ true
    → (is_simple_and_free c ≡ true → FailsBy (fault_of c words) r) → FailsBy (fault_of (program_with p) words) r
fails_by p c words r is free told = let P : App → Type 0 = λ a. FailsBy (fault_of a words) r in subst P is (told (ap is_simple_and_free is ∙ free))

-- the same where a number stands behind `--sessions`
pub fails_by_number : {T : Type 0} (c : App) (words : List Text) (r : Result T Error) → c ≡ counting_program → (is_simple_and_free c ≡ true → FailsBy (fault_of c words) r)
    → FailsBy (number_faults true words) r
unfolding number_faults
fails_by_number c words r is told = fails_by (numbers_up_to 1000000) c words r is refl told

pub none_wanted : (wanted : Bool) (words : List Text) → wanted ≡ false → number_faults wanted words ≡ []
unfolding number_faults
none_wanted wanted words not_wanted = rw not_wanted refl

-- the kinds of the first of two lists that has some
pub kind_of_first : (a b : Kinds) (e : Error) → HasKind a e → HasKind (or_else a b) e
kind_of_first [] b e (inl memory) = inl memory
kind_of_first [] b e (inr bad) = absurd bad
kind_of_first (k ∷ ks) b e has = has

pub kind_of_second : (a b : Kinds) (e : Error) → a ≡ [] → HasKind b e → HasKind (or_else a b) e
kind_of_second a b e none has = rw none has

pub none_of_both : (a b : Kinds) → a ≡ [] → b ≡ [] → or_else a b ≡ []
none_of_both a b one two = rw one two

-- the faults of the words, by those of their two readings
module _ (words : List Text) (m : ArgMatches) (is : subcommand_rows_of m ≡ command_in words) where
  abbrev pub more : Kinds
  more = number_faults (wants_number (sessions_text (subcommand_rows_of m))) words

  both : or_else (fault_of program words) more ≡ faults_in words
  unfolding faults_in
  both = ap (λ (said : Option (Text × List Row)). or_else (fault_of program words) (number_faults (wants_number (sessions_text said)) words)) is

  pub refused_by_number : (e : Error) → fault_of program words ≡ [] → HasKind more e → HasKind (faults_in words) e
  refused_by_number e none has = let P : Kinds → Type 0 = λ k. HasKind k e in subst P both (kind_of_second (fault_of program words) more e none has)

  pub not_refused : fault_of program words ≡ [] → more ≡ [] → faults_in words ≡ []
  not_refused none no_more = sym both ∙ none_of_both (fault_of program words) more none no_more

pub said_by_rows : (said : Option (Text × List Row)) → sessions_text said ≡ option_and_then (λ rows. first_of (codes "sessions") rows) (option_map (λ p. p.1) said)
said_by_rows None = refl
said_by_rows (Some s) = refl

pub refused_by_words : (words : List Text) (e : Error) → HasKind (fault_of program words) e → HasKind (faults_in words) e
unfolding faults_in
refused_by_words words e has = kind_of_first (fault_of program words) (number_faults (wants_number (sessions_text (command_in words))) words) e has

-- the numbers of 64 bits, narrowed to those from 1 on
module _ (p r : ValueParser) (low high : ℤ) (all : p ≡ parsers.Unsigned 0 18446744073709551615) (least : low ≡ pos 1) (narrows : NarrowsTo p (Some low) (Some high) r) where
  from_one : NarrowsTo (parsers.Unsigned 0 18446744073709551615) (Some (pos 1)) (Some high) r
  from_one =
      let P : ValueParser → Type 0 = λ q. NarrowsTo q (Some low) (Some high) r in
      let Q : ℤ → Type 0 = λ l. NarrowsTo (parsers.Unsigned 0 18446744073709551615) (Some l) (Some high) r in
      subst Q least (subst P all narrows)

  pub up_to_64 : high ≡ pos 64 → r ≡ numbers_up_to 64
  up_to_64 most = let Q : ℤ → Type 0 = λ h. NarrowsTo (parsers.Unsigned 0 18446744073709551615) (Some (pos 1)) (Some h) r in subst Q most from_one

  pub up_to_a_million : high ≡ pos 1000000 → r ≡ numbers_up_to 1000000
  up_to_a_million most = let Q : ℤ → Type 0 = λ h. NarrowsTo (parsers.Unsigned 0 18446744073709551615) (Some (pos 1)) (Some h) r in subst Q most from_one
