-- To the same requests one text is said, and one end comes.
use Rattle.std.proofs.Common.{◌≡◌, ℕ, ◌<◌, cond, eqb, List, [], ◌∷◌, ◌++◌, Option, Some, None, length, refl, sym, ap, subst, ◌∙◌, arith, inl, inr, append_assoc}
use Rattle.std.specs.List.{flat_map}
use Rattle.std.proofs.lemmas.Bool.{cond-true, cond-false, eq-eqb, ne_eqb}
use Rattle.std.proofs.lemmas.List.{length-append}
use Rattle.nbd_wire.specs.declared.requests.RequestHead.{RequestHead}
use Rattle.nbd_wire.specs.Grammar.{head_text, request_text, RequestMessage, IsRequest}
use Rattle.nbd_wire.proofs.HeadLemmas.{length-head_text}
use Rattle.nbd_wire.proofs.Places.{Place, unfinished, other, long, whole, place_of, head_at, head_of_whole, place_whole, place_unfinished, place_other, place_long, one_request}
use Rattle.nbd_commands.specs.Terms.{Terms}
use Rattle.nbd_session.specs.declared.outcomes.End.{End}
use Rattle.nbd_session.specs.declared.outcomes.End.TheVariants as ends
use Rattle.nbd_session.specs.Requests.{after, after_all, reply_to, replies, FindsWorn, AreAnswered, IsAnswered, StopsBy, Ends, Serves}
use Rattle.lone_export.specs.Alone.{Alone}

-- ---- the end at a request's place

abbrev by_place : Place → ℕ → Option End
by_place unfinished kind = Some ends.Cut
by_place other kind = Some ends.BadMagic
by_place long kind = Some ends.TooLong
by_place whole kind = cond (eqb kind 2) (Some ends.Disc) None

abbrev stop_of : List ℕ → Option End
stop_of [] = Some ends.Over
stop_of (b ∷ bytes) = by_place (place_of (b ∷ bytes)) (head_at (b ∷ bytes)).kind

stop_behind : (bytes : List ℕ) → 0 < length bytes → stop_of bytes ≡ by_place (place_of bytes) (head_at bytes).kind
stop_behind [] lt = absurd (omega (arith, lt))
stop_behind (b ∷ bytes) lt = refl

stop_at : (bytes : List ℕ) (p : Place) → 0 < length bytes → place_of bytes ≡ p → stop_of bytes ≡ by_place p (head_at bytes).kind
stop_at bytes p lt is = stop_behind bytes lt ∙ ap (λ (q : Place). by_place q (head_at bytes).kind) is

long_request : (m : RequestMessage) (more : List ℕ) → 0 < length (request_text m ++ more)
long_request m more = omega (arith, length-append (request_text m) more, length-append (head_text m.head) m.payload, length-head_text m.head)

stop_of_whole : (m : RequestMessage) (more : List ℕ) → IsRequest m → stop_of (request_text m ++ more) ≡ cond (eqb m.head.kind 2) (Some ends.Disc) None
stop_of_whole m more p =
    stop_at (request_text m ++ more) whole (long_request m more) (place_whole m more p)
    ∙ ap (λ (h : RequestHead). cond (eqb h.kind 2) (Some ends.Disc) None) (head_of_whole m more p)

goes_by : (m : RequestMessage) (more : List ℕ) → IsAnswered m → stop_of (request_text m ++ more) ≡ None
goes_by m more p = stop_of_whole m more p.request ∙ cond-false (eqb m.head.kind 2) _ _ (ne_eqb _ _ p.no_disc)

stopped : (bytes : List ℕ) (e : End) → StopsBy bytes e → stop_of bytes ≡ Some e
stopped bytes ends.Over h = ap stop_of h
stopped bytes ends.Cut h = stop_at bytes unfinished h.0 (place_unfinished bytes h.1)
stopped bytes ends.BadMagic h = stop_at bytes other (omega (arith, h.0)) (place_other bytes h)
stopped bytes ends.TooLong (h, more, spelled, fits, too) =
    stop_at bytes long (omega (arith, ap length spelled, length-append (head_text h) more, length-head_text h)) (place_long bytes (h, more, spelled, fits, too))
stopped bytes ends.Disc (h, more, spelled, fits, two) =
    let m : RequestMessage = record { head = h; payload = [] } in
    let p : IsRequest m = record { fits = fits; write = λ w. absurd (omega (arith, w, two)); short = λ t. absurd (omega (arith, t.write, two)); other = λ _. refl } in
    ap stop_of (spelled ∙ sym (append_assoc (head_text h) [] more)) ∙ (stop_of_whole m more p ∙ cond-true (eqb h.kind 2) _ _ (eq-eqb _ _ two))
stopped bytes ends.Abort h = absurd h
stopped bytes ends.NoExport h = absurd h
stopped bytes ends.BadFlags h = absurd h
stopped bytes ends.TooMany h = absurd h
stopped bytes ends.Worn h = absurd h

abbrev end_or : Option End → End
end_or None = ends.Over
end_or (Some e) = e

pub one_end : (o : Option End) (e f : End) → o ≡ Some e → o ≡ Some f → e ≡ f
one_end o e f p q = ap end_or (sym p ∙ q)

pub no_end : (o : Option End) (e : End) → o ≡ None → o ≡ Some e → ⊥
no_end o e p q = let r : None ≡ Some e = sym p ∙ q in cc

-- ---- the requests

module _ (terms : Terms) where
  one_stop : (s : Alone) (bytes : List ℕ) (e f : End) → Ends terms s bytes e → Ends terms s bytes f → e ≡ f
  one_stop s bytes e f (inl p) (inl q) = one_end (stop_of bytes) e f (stopped bytes e p) (stopped bytes f q)
  one_stop s bytes e f (inl p) (inr (is, w)) = absurd (no_end (stop_of bytes) e (ap stop_of w.spelled ∙ goes_by w.message w.more w.answered) (stopped bytes e p))
  one_stop s bytes e f (inr (is, w)) (inl q) = absurd (no_end (stop_of bytes) f (ap stop_of w.spelled ∙ goes_by w.message w.more w.answered) (stopped bytes f q))
  one_stop s bytes e f (inr p) (inr q) = p.0 ∙ sym q.0

  not_both : (s : Alone) (m : RequestMessage) (more : List ℕ) (e : End) → IsAnswered m → (FindsWorn terms s m → ⊥) → Ends terms s (request_text m ++ more) e → ⊥
  not_both s m more e p lt (inl q) = no_end (stop_of (request_text m ++ more)) e (goes_by m more p) (stopped (request_text m ++ more) e q)
  not_both s m more e p lt (inr (is, w)) = lt (subst (λ (k : RequestMessage). FindsWorn terms s k) (sym (one_request m w.message more w.more p.request w.answered.request w.spelled).0) w.worn)

  one_service : (ms ns : List RequestMessage) (s : Alone) (r q : List ℕ) (e f : End) → flat_map request_text ms ++ r ≡ flat_map request_text ns ++ q
      → AreAnswered terms s ms → AreAnswered terms s ns → Ends terms (after_all terms s ms) r e → Ends terms (after_all terms s ns) q f
      → (replies terms s ms ≡ replies terms s ns) × (e ≡ f)
  one_service [] [] s r q e f same a b x y = (refl, one_stop s r e f x (subst (λ (t : List ℕ). Ends terms s t f) (sym same) y))
  one_service [] (n ∷ ns) s r q e f same a b x y =
      absurd (not_both s n (flat_map request_text ns ++ q) e b.0 b.1 (subst (λ (t : List ℕ). Ends terms s t e) (same ∙ append_assoc (request_text n) (flat_map request_text ns) q) x))
  one_service (m ∷ ms) [] s r q e f same a b x y =
      absurd (not_both s m (flat_map request_text ms ++ r) f a.0 a.1 (subst (λ (t : List ℕ). Ends terms s t f) (sym same ∙ append_assoc (request_text m) (flat_map request_text ms) r) y))
  one_service (m ∷ ms) (n ∷ ns) s r q e f same a b x y =
      let one = one_request m n (flat_map request_text ms ++ r) (flat_map request_text ns ++ q) a.0.request b.0.request
      (sym (append_assoc (request_text m) (flat_map request_text ms) r) ∙ (same ∙ append_assoc (request_text n) (flat_map request_text ns) q)) in
      let is : n ≡ m = sym one.0 in
      let tail = one_service ms ns (after terms s m) r q e f one.1 a.2
      (subst (λ (k : RequestMessage). AreAnswered terms (after terms s k) ns) is b.2) x
      (subst (λ (k : RequestMessage). Ends terms (after_all terms (after terms s k) ns) q f) is y) in
      (ap (λ (t : List ℕ). reply_to terms s m ++ t) tail.0 ∙ ap (λ (k : RequestMessage). reply_to terms s k ++ replies terms (after terms s k) ns) one.0, tail.1)

  pub one_serving : (s : Alone) (bytes t u : List ℕ) (e f : End) → Serves terms s bytes t e → Serves terms s bytes u f → (t ≡ u) × (e ≡ f)
  one_serving s bytes t u e f a b =
      let one = one_service a.requests b.requests s a.rest b.rest e f (sym a.spelled ∙ b.spelled) a.answered b.answered a.ends b.ends in
      (a.said ∙ (one.0 ∙ sym b.said), one.1)

  -- the text to a beginning of the requests is a beginning of the text to them
  more_service : (ms ns : List RequestMessage) (s : Alone) (r q more : List ℕ) (e f : End) → (flat_map request_text ms ++ r) ++ more ≡ flat_map request_text ns ++ q
      → AreAnswered terms s ms → AreAnswered terms s ns → Ends terms (after_all terms s ns) q f → (v : List ℕ) × (replies terms s ns ≡ replies terms s ms ++ v)
  more_service [] ns s r q more e f same a b y = (replies terms s ns, refl)
  more_service (m ∷ ms) [] s r q more e f same a b y =
      absurd (not_both s m ((flat_map request_text ms ++ r) ++ more) f a.0 a.1 (subst (λ (t : List ℕ). Ends terms s t f)
      (sym same ∙ (ap (λ (t : List ℕ). t ++ more) (append_assoc (request_text m) (flat_map request_text ms) r) ∙ append_assoc (request_text m) (flat_map request_text ms ++ r) more)) y))
  more_service (m ∷ ms) (n ∷ ns) s r q more e f same a b y =
      let one = one_request m n ((flat_map request_text ms ++ r) ++ more) (flat_map request_text ns ++ q) a.0.request b.0.request
      (sym (append_assoc (request_text m) (flat_map request_text ms ++ r) more) ∙ (ap (λ (t : List ℕ). t ++ more) (sym (append_assoc (request_text m) (flat_map request_text ms) r))
      ∙ (same ∙ append_assoc (request_text n) (flat_map request_text ns) q))) in
      let is : n ≡ m = sym one.0 in
      let tail = more_service ms ns (after terms s m) r q more e f one.1 a.2
      (subst (λ (k : RequestMessage). AreAnswered terms (after terms s k) ns) is b.2)
      (subst (λ (k : RequestMessage). Ends terms (after_all terms (after terms s k) ns) q f) is y) in (
        tail.0,
        ap (λ (k : RequestMessage). reply_to terms s k ++ replies terms (after terms s k) ns) is
            ∙ (ap (λ (t : List ℕ). reply_to terms s m ++ t) tail.1 ∙ sym (append_assoc (reply_to terms s m) (replies terms (after terms s m) ms) tail.0)),
      )

  pub more_serving : (s : Alone) (bytes more t u : List ℕ) (e f : End) → Serves terms s bytes t e → Serves terms s (bytes ++ more) u f → (v : List ℕ) × (u ≡ t ++ v)
  more_serving s bytes more t u e f a b =
      let go = more_service a.requests b.requests s a.rest b.rest more e f (ap (λ (x : List ℕ). x ++ more) (sym a.spelled) ∙ b.spelled) a.answered b.answered b.ends in
      (go.0, b.said ∙ (go.1 ∙ ap (λ (x : List ℕ). x ++ go.0) (sym a.said)))
