-- A conversation behind another.
use Rattle.std.proofs.Common.{ℕ, List, [], ◌++◌, Option, Result, Ok, Err, sym, subst, append_assoc}
use Rattle.nbd_session.specs.declared.outcomes.TalkFault.{TalkFault}
use Rattle.nbd_session.specs.declared.outcomes.TalkFault.TheVariants as faults
use Rattle.nbd_session.specs.Outcomes.{Claims, Converses, Going}
use Rattle.nbd_stream.proofs.KnownLemmas.{Appends-then, Consumes-then}
use Rattle.nbd_stream.proofs.BufferLemmas.{Appends-none, Consumes-none}

module _ {E : Type 0} where
  pub Claims-after : (Told : Option (List ℕ) → E → Type 0) (P Q : List ℕ → List ℕ → E → Type 0) (new : Option (List ℕ)) (b0 t0 b t : List ℕ) (answer : Result E TalkFault)
      → ((c u : List ℕ) (e : E) → Q c u e → P (b0 ++ c) (t0 ++ u) e) → Claims Told Q new b t answer → Claims Told P new (b0 ++ b) (t0 ++ t) answer
  Claims-after Told P Q new b0 t0 b t (Ok e) on h = (on b t e h.0, h.1)
  Claims-after Told P Q new b0 t0 b t (Err faults.ReadFailed) on h = (h.0, on b t h.0 h.1)
  Claims-after Told P Q new b0 t0 b t (Err faults.WriteFailed) on h = (h.0, h.1, subst (λ (u : List ℕ). P (b0 ++ b) u h.1) (sym (append_assoc t0 t h.0)) (on b (t ++ h.0) h.1 h.2))
  Claims-after Told P Q new b0 t0 b t (Err faults.NoMemory) on h = (h.0, h.1, subst (λ (u : List ℕ). P (b0 ++ b) u h.1) (sym (append_assoc t0 t h.0)) (on b (t ++ h.0) h.1 h.2))

  pub Converses-after : (Told : Option (List ℕ) → E → Type 0) (P Q : List ℕ → List ℕ → E → Type 0) (i0 i1 i2 o0 o1 o2 : Option (List ℕ)) (answer : Result E TalkFault)
      → Going P Q i0 i1 o0 o1 → Converses Told Q i1 i2 o1 o2 answer → Converses Told P i0 i2 o0 o2 answer
  Converses-after Told P Q i0 i1 i2 o0 o1 o2 answer before then = record {
    bytes = before.bytes ++ then.bytes;
    text = before.text ++ then.text;
    took = Consumes-then i0 i1 i2 before.bytes then.bytes before.took then.took;
    gave = Appends-then o0 o1 o2 before.text then.text before.gave then.gave;
    claim = Claims-after Told P Q i2 before.bytes before.text then.bytes then.text answer before.onward then.claim;
  }

  pub Going-after : (P Q T : List ℕ → List ℕ → E → Type 0) (i0 i1 i2 o0 o1 o2 : Option (List ℕ)) → Going P Q i0 i1 o0 o1 → Going Q T i1 i2 o1 o2 → Going P T i0 i2 o0 o2
  Going-after P Q T i0 i1 i2 o0 o1 o2 a b = record {
    bytes = a.bytes ++ b.bytes;
    text = a.text ++ b.text;
    took = Consumes-then i0 i1 i2 a.bytes b.bytes a.took b.took;
    gave = Appends-then o0 o1 o2 a.text b.text a.gave b.gave;
    onward = λ c u e q. subst (λ (x : List ℕ). P x ((a.text ++ b.text) ++ u) e) (sym (append_assoc a.bytes b.bytes c))
        (subst (λ (y : List ℕ). P (a.bytes ++ (b.bytes ++ c)) y e) (sym (append_assoc a.text b.text u)) (a.onward (b.bytes ++ c) (b.text ++ u) e (b.onward c u e q)));
  }

  pub Going-start : (P : List ℕ → List ℕ → E → Type 0) (i o : Option (List ℕ)) → Going P P i i o o
  Going-start P i o = record { bytes = []; text = []; took = Consumes-none i; gave = Appends-none o; onward = λ b t e p. p }
