-- One request after another, up to the end.
use Rattle.std.proofs.Common.{◌≡◌, ℕ, ◌+◌, ◌<◌, ◌≤◌, ◌^◌, List, [], ◌∷◌, ◌++◌, Option, Some, None, Err, refl, sym, ap, subst, ◌∙◌, inl, append_assoc, arith}
use Rattle.std.specs.List.{flat_map}
use Rattle.std.specs.Prelude.{IfSome, IfNone, OnSome}
use Rattle.nbd_wire.specs.Grammar.{request_text, reply_text, RequestMessage, ReplyMessage}
use Rattle.nbd_session.specs.declared.outcomes.End.{End}
use Rattle.nbd_session.specs.declared.outcomes.End.TheVariants as ends
use Rattle.nbd_session.specs.declared.outcomes.TalkFault.TheVariants as faults
use Rattle.nbd_session.specs.Requests.{opened, after, reply_to, FindsWorn, Serves, StopsBy, IsAnswered}
use Rattle.nbd_session.specs.Outcomes.{IsTold, Converses}
use Rattle.nbd_commands.specs.Terms.{Terms}
use Rattle.lone_export.specs.Alone.{Alone}
use Rattle.lone_export.specs.Lone.{Whole}
use Rattle.nbd_session.specs.Plainly.{reply_of, steps_for, behind, IsIdle}
use Rattle.nbd_session.proofs.Turns.{IsTurn, turn, rests_behind, count_is, few_steps, finds_fresh, finds_worn, opened_count}
use Rattle.nbd_stream.proofs.BufferLemmas.{Appends-none, Consumes-none}

pub stops : (terms : Terms) (s : Alone) (bytes : List ℕ) (end : End) → StopsBy bytes end → Serves terms s bytes [] end
stops terms s bytes end h = record { requests = []; rest = bytes; spelled = refl; said = refl; answered = tt; ends = inl h }

pub goes_on : (terms : Terms) (s : Alone) (m : RequestMessage) (bytes text : List ℕ) (end : End) → IsAnswered m → (FindsWorn terms s m → ⊥)
    → Serves terms (after terms s m) bytes text end → Serves terms s (request_text m ++ bytes) (reply_to terms s m ++ text) end
goes_on terms s m bytes text end answered fresh later = record {
  requests = m ∷ later.requests;
  rest = later.rest;
  spelled = ap (λ (t : List ℕ). request_text m ++ t) later.spelled ∙ sym (append_assoc (request_text m) (flat_map request_text later.requests) later.rest);
  said = ap (λ (t : List ℕ). reply_to terms s m ++ t) later.said;
  answered = (answered, fresh, later.answered);
  ends = later.ends;
}

-- nothing was read or written yet
pub begun : (terms : Terms) (s : Alone) (i o : Option (List ℕ)) → Converses IsTold (Serves terms s) i i o o (Err faults.NoMemory)
begun terms s i o = record { bytes = []; text = []; took = Consumes-none i; gave = Appends-none o; claim = ([], ends.Over, stops terms s [] ends.Over refl) }

-- ---- one request at an export at rest

-- an export at which a request was served
pub record IsServed (old new : Whole) (m : RequestMessage) (reply : ReplyMessage) : Type 0 where
  pub idle : IsIdle old
  pub fresh : old.state.count < 2 ^ 56
  pub said : reply ≡ reply_of old.terms old.state.image m
  pub left : new ≡ record old { state = behind old.terms old.state m }

module _ (terms : Terms) (old new : Whole) (m : RequestMessage) (reply : ReplyMessage) (same : old.terms ≡ terms) (h : IsServed old new m reply) where
  turned : IsTurn old.terms old.state m
  turned = turn old.terms old.state m h.idle.depth h.idle.window h.idle.rests h.fresh

  pub is_fresh : FindsWorn terms old.state m → ⊥
  is_fresh = subst (λ (t : Terms). FindsWorn t old.state m → ⊥) same (finds_fresh old.terms old.state m h.idle.depth h.idle.window h.idle.rests h.fresh)

  pub told : reply_text reply ≡ reply_to terms old.state m
  told = subst (λ (t : Terms). reply_text reply ≡ reply_to t old.state m) same (ap reply_text h.said ∙ sym turned.said)

  pub led : new.state ≡ after terms old.state m
  led = subst (λ (t : Terms). new.state ≡ after t old.state m) same (ap (λ (w : Whole). w.state) h.left ∙ sym turned.state)

  pub still_idle : IsIdle new
  still_idle = subst IsIdle (sym h.left) (record { rests = rests_behind old.terms old.state m h.idle.rests; slots = h.idle.slots; depth = h.idle.depth; window = h.idle.window; inflight = h.idle.inflight })

  pub still_terms : new.terms ≡ terms
  still_terms = ap (λ (w : Whole). w.terms) h.left ∙ same

  pub still_few : (old.state.count < new.state.count) × (new.state.count < 2 ^ 56 + 4)
  still_few =
      let count : new.state.count ≡ old.state.count + steps_for old.terms m = ap (λ (w : Whole). w.state.count) h.left ∙ count_is old.terms old.state m in
      let few = few_steps old.terms m in
      (omega (arith, few.0, count), omega (arith, few.1, count, h.fresh))

-- ---- the same, by what `serve` answered

pub served_by : (old new : Whole) (m : RequestMessage) (answer : Option ReplyMessage) (reply : ReplyMessage) → IsIdle old → answer ≡ Some reply
    → IfSome answer (λ r. r ≡ reply_of old.terms old.state.image m) → OnSome answer (new ≡ record old { state = behind old.terms old.state m }) → OnSome answer (old.state.count < 2 ^ 56) → IsServed old new m reply
served_by old new m None reply idle is said left fresh = absurd (cc)
served_by old new m (Some r) reply idle is said left fresh = record { idle = idle; fresh = fresh; said = (let e : r ≡ reply = cc in sym e) ∙ said; left = left }

pub worn_by_count : (terms : Terms) (old : Whole) (m : RequestMessage) → IsIdle old → (answer : Option ReplyMessage) → answer ≡ None → IfNone answer (2 ^ 56 ≤ old.state.count) → FindsWorn terms old.state m
worn_by_count terms old m idle None is worn = finds_worn terms old.state m idle.rests worn
worn_by_count terms old m idle (Some r) is worn = absurd (cc)

pub few_at_first : (terms : Terms) (s : Alone) → s ≡ opened terms → s.count < 2 ^ 56 + 4
few_at_first terms s is = let e : s.count ≡ 1 = ap (λ (x : Alone). x.count) is ∙ opened_count terms in omega (arith, e)
