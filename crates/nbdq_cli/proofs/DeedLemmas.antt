-- What the program did, one thing after another.
use Rattle.std.proofs.Common.{◌≡◌, ℕ, Bool, List, [], ◌∷◌, Option, Result, Ok, Err, refl, subst}
use Rattle.clap.specs.Words.{kind_of}
use Rattle.nbd_base.specs.Logs.{Notes}
use Rattle.nbd_base.proofs.Logs.{notes_nothing, notes_then}
use Rattle.clap.specs.declared.error.Error.{Error}
use Rattle.nbdq_cli.specs.declared.command_line.Job.{Job}
use Rattle.nbdq_cli.specs.declared.outcome.Ending.{Ending}
use Rattle.nbdq_cli.specs.declared.outcome.Ending.TheVariants as ends
use Rattle.nbdq_cli.specs.Outcomes.{end_of_kind, status_of_end, text_of_end}
use Rattle.nbdq_cli.specs.Deeds.{end_shown, line_told, ComesTo, Deed, Dispatches, Explains, RefusedWith, Refuses, Runs, Shows}

pub dispatches : (asked : Result Job Error) (a b c : Option (List Deed)) (end : Ending) (status : ℕ) → ComesTo asked a b end → Notes b c (line_told (text_of_end end)) → status ≡ status_of_end end
    → Dispatches asked a c status
dispatches asked a b c end status comes told exit = record {
  deeds = comes.deeds;
  end = end;
  goes = comes.goes;
  done = notes_then a b c comes.deeds (line_told (text_of_end end)) comes.done told;
  exit = exit;
}

pub ran : (job : Job) (a b : Option (List Deed)) (end : Ending) → Notes a b (Runs job end ∷ []) → ComesTo (Ok job) a b end
ran job a b end did = record { deeds = Runs job end ∷ []; goes = refl; done = did }

pub refused : (error : Error) (a b : Option (List Deed)) (end : Ending) → RefusedWith error a b end → ComesTo (Err error) a b end
refused error a b end with_it = record { deeds = with_it.deeds; goes = with_it.refuses; done = with_it.done }

-- the version was to be shown
pub shown : (error : Error) (a b : Option (List Deed)) (written : Bool) (end : Ending) → ends.Version ≡ end_of_kind (kind_of error) → end ≡ end_shown written
    → Notes a b (Shows error written ∷ []) → RefusedWith error a b end
shown error a b written end is comes did = record {
  deeds = Shows error written ∷ [];
  refuses = subst (λ (e : Ending). Refuses e error (Shows error written ∷ []) end) is (written, refl, comes);
  done = did;
}

pub explained : (error : Error) (a b : Option (List Deed)) → ends.Usage ≡ end_of_kind (kind_of error) → Notes a b (Explains error ∷ []) → RefusedWith error a b ends.Usage
explained error a b is did = record {
  deeds = Explains error ∷ [];
  refuses = subst (λ (e : Ending). Refuses e error (Explains error ∷ []) ends.Usage) is (refl, refl);
  done = did;
}

-- any other end
otherwise : (error : Error) (end : Ending) → (end ≡ ends.Version → ⊥) → (end ≡ ends.Usage → ⊥) → Refuses end error [] end
otherwise error (ends.Ran outcome) no_version no_usage = (refl, refl)
otherwise error ends.Version no_version no_usage = absurd (no_version refl)
otherwise error ends.Usage no_version no_usage = absurd (no_usage refl)
otherwise error ends.NoListener no_version no_usage = (refl, refl)
otherwise error ends.BadAddress no_version no_usage = (refl, refl)
otherwise error ends.CannotListen no_version no_usage = (refl, refl)
otherwise error ends.NoSocket no_version no_usage = (refl, refl)
otherwise error ends.SocketFailed no_version no_usage = (refl, refl)

pub unshown : (error : Error) (a : Option (List Deed)) (end : Ending) → end ≡ end_of_kind (kind_of error) → (end ≡ ends.Version → ⊥) → (end ≡ ends.Usage → ⊥) → RefusedWith error a a end
unshown error a end is no_version no_usage = record {
  deeds = [];
  refuses = subst (λ (e : Ending). Refuses e error [] end) is (otherwise error end no_version no_usage);
  done = notes_nothing a;
}
