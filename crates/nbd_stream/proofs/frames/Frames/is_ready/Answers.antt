use Rattle.std.proofs.Common.{◌≡◌, ℕ, ◌<◌, ◌==◌, Bool, List, length, subst, ap, ◌∙◌, arith}
use Rattle.std.specs.Prelude.{IsTrue, not}
use Rattle.std.proofs.lemmas.Bool.Decides.{nat_tests}
use Rattle.nbd_wire.specs.Grammar.{BeginsWhole, RequestMessage}
use Rattle.nbd_stream.specs.Frames.{Reading}
use Rattle.nbd_stream.proofs.FrameLemmas.{begins_ready}
use Rattle.nbd_stream.proofs.frames.Frames.is_ready.Goals as goal

some_there : (n m : ℕ) (none : Bool) → none ≡ (n == 0) → n ≡ m → (IsTrue (not none) → 0 < m) × (0 < m → IsTrue (not none))
some_there n m none t is = (grind (arith, nat_tests), grind (arith, nat_tests))

pub returns-clause-ready : goal.returns-clause-ready
returns-clause-ready g c =
    some_there (length c.as_slice.result.now) c.args.self.now.ready c.is_empty.result c.is_empty.ensures
    (ap (λ (l : List RequestMessage). length l) c.as_slice.ensures.value ∙ ap (λ (r : Reading). r.ready) c.self.view_is)

pub returns-clause-first : goal.returns-clause-first
returns-clause-first g c = λ t.
    let ready = c.self.inside.ready.items in
    let some : 0 < length ready = (some_there (length c.as_slice.result.now) (length ready) c.is_empty.result c.is_empty.ensures (ap (λ (l : List RequestMessage). length l) c.as_slice.ensures.value)).0 t in
    subst BeginsWhole (ap (λ (r : Reading). r.kept) c.self.view_is) (begins_ready ready c.self.inside.intake.held c.self.invariant.each some)
