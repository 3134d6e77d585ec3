-- The steps of a request that are made at once with one that comes after them.
use Rattle.std.proofs.Common.{◌≡◌, ℕ, true, [], ◌∷◌, sym, subst}
use Rattle.lone_export.specs.Lone.{Whole, DoesAll}
use Rattle.lone_export.specs.declared.step.Step.TheVariants.{Arrive, Pick, Perform, Take}
use Rattle.export_cell.specs.declared.deferred.Arrival.{Arrival}
use Rattle.export_cell.specs.declared.deferred.Deferred.{Deferred}
use Rattle.export_cell.specs.declared.deferred.Deferred.TheVariants as deferred
use Rattle.export_cell.specs.Past.{arrival_of, Comes}

module _ {A : Type 0} (old new : Whole) (a : Arrival A) (s : ℕ) where
  -- the three steps of a READ that are deferred, and the take of its reply
  taken : DoesAll {A = A} old new (arrival_of a ∷ Pick ∷ Perform old.state.next true ∷ Take s ∷ []) → Comes {A = A} old (deferred.Read a) (Take s) new deferred.Nothing
  taken does = record { goes = record { state = does.state; terms = does.terms; inflight = does.inflight }; past = tt }

  pub read_taken : (steps : Deferred A) → steps ≡ deferred.Read a → a.session ≡ s → DoesAll {A = A} old new (Arrive s a.moment a.request ∷ Pick ∷ Perform old.state.next true ∷ Take s ∷ []) → Comes {A = A} old steps (Take s) new deferred.Nothing
  read_taken steps is same does =
      subst (λ (x : Deferred A). Comes {A = A} old x (Take s) new deferred.Nothing) (sym is)
      (taken (subst (λ (n : ℕ). DoesAll {A = A} old new (Arrive n a.moment a.request ∷ Pick ∷ Perform old.state.next true ∷ Take s ∷ [])) (sym same) does))
