use Rattle.std.proofs.Common.{◌≡◌, ◌<◌, Some, ap, sym, subst, ◌∙◌}
use Rattle.nbd_stream.specs.Frames.{Stream}
use Rattle.nbd_stream.proofs.frames.FrameReader.next.Goals as goal

pub returns-clause-again : goal.returns-clause-again
returns-clause-again g c = λ e is.
    let told : c.self.inside.frames.ended ≡ Some e = ap (λ (v : Stream). v.reading.ended) c.self.view_is ∙ is in
    let h = c.next.ensures.again e told in
    (h.0, (λ i. record { left = g.R.Read.remaining (h.2 i).inner; failures = (h.2 i).failures; reading = h.1 i }) ∙ c.self.view_is)

pub returns-clause-ready : goal.returns-clause-ready
returns-clause-ready g c = λ none some.
    let h = c.next.ensures.ready (ap (λ (v : Stream). v.reading.ended) c.self.view_is ∙ none) (subst (λ (v : Stream). 0 < v.reading.ready) (sym c.self.view_is) some) in (
      h.0,
      (λ i. g.R.Read.remaining (h.1 i).inner) ∙ ap (λ (v : Stream). v.left) c.self.view_is,
      (λ i. (h.1 i).failures) ∙ ap (λ (v : Stream). v.failures) c.self.view_is,
    )
