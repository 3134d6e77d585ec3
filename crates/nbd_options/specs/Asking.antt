-- Which sessions are asked for, and how that is answered.
use Rattle.std.specs.Prelude.{ℕ, List, [], ◌∷◌}
use Rattle.nbd_options.specs.declared.answers.Next.{Next}
use Rattle.nbd_options.specs.declared.answers.Next.TheVariants as nexts
use Rattle.nbd_options.specs.declared.attach.Attached.{Attached}

-- a session of an export was asked for, by the export's place in the table, and the answer
pub record Asking : Type 0 where
  pub export : ℕ
  pub answer : Attached

abbrev pub one_asking : ℕ → Attached → Asking
one_asking n attached = record { export = n; answer = attached }

-- what is asked for by what comes after an option: a session of the export that GO or EXPORT_NAME goes to, and else none
abbrev pub asked_by : Next → Attached → List Asking
asked_by (nexts.Go n) attached = one_asking n attached ∷ []
asked_by (nexts.ByName n) attached = one_asking n attached ∷ []
asked_by nexts.Again attached = []
asked_by nexts.Abort attached = []
asked_by nexts.Close attached = []
