use Rattle.std.proofs.Common.{◌≡◌, Option, Some, None, sym, subst, ◌∙◌}
use Rattle.nbd_wire.specs.Grammar.{RequestMessage}
use Rattle.nbd_wire.specs.Pieces.{Decoding}
use Rattle.nbd_stream.specs.Intake.{nothing_held, IsTakenIn}
use Rattle.nbd_stream.proofs.intake.Intake.fetch.Goals as goal

-- a decoder that holds nothing holds nothing beside a long WRITE
taken_beside : (begun : Option RequestMessage) (d : Decoding) → d ≡ nothing_held → IsTakenIn begun d
taken_beside (Some m) d none = none
taken_beside None d none = tt

pub invariant_of-self : goal.invariant_of-self
invariant_of-self g c =
    let decoder = c.self.inside.decoder in
    let none = subst (λ (begun : Option RequestMessage). IsTakenIn begun decoder) (sym c.take.ensures.value ∙ c.in-Some.is) c.self.invariant in
    taken_beside c.read_on.new.begun decoder none
