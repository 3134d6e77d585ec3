-- The order of a session's replies.
use Rattle.std.proofs.Common.{◌≡◌, ℕ, true, false, List, [], ◌∷◌, ◌++◌, Option, Ok, Err, sym, ap, subst, ◌∙◌, append_assoc, inl, inr}
use Rattle.std.specs.Io.KnownBytes.{Appends, Keeps}
use Rattle.std.proofs.lemmas.List.{append-nil}
use Rattle.nbd_wire.specs.Grammar.{ReplyMessage, reply_text}
use Rattle.nbd_stream.specs.Streams.{WritesPart}
use Rattle.nbd_stream.proofs.KnownLemmas.{Appends-then, Appends-kept}
use Rattle.nbd_stream.proofs.BufferLemmas.{Appends-none}
use Rattle.nbd_stream.proofs.TextPartLemmas.{part_before, part_behind}
use Rattle.session_turns.specs.Outgoing.{Outgoing, texts_of}
use Rattle.session_turns.proofs.ReplyTexts.{texts-append}
use Rattle.session_turns.specs.InOrder.{Follows, IsBegun, IsTaken, IsWritten, IsReadyWritten, IsSent}

apart : {X : Type 0} → true ≡ false → X
apart e = absurd (cc)

apart_too : {X : Type 0} → false ≡ true → X
apart_too e = absurd (cc)

-- a part that was kept
part_kept : (u v w : Option (List ℕ)) (t : List ℕ) → WritesPart u v t → Keeps v w → WritesPart u w t
part_kept u v w t h k = (h.0, h.1, h.2, Appends-kept u v w h.0 h.3 k)

pub begun : IsBegun
begun start room new h = record {
  whole = λ _. ([], sym h.none, subst (λ t. Appends start t []) (sym h.begins) (Appends-none start));
  part = λ b. apart (sym b ∙ h.unbroken);
}

taken_on : (start : Option (List ℕ)) (replies more : List ReplyMessage) (old : Outgoing) → Follows start replies old → Follows start (replies ++ more) (record old { waiting = old.waiting ++ more })
taken_on start replies more old h = record {
  whole = λ b. let w = h.whole b in (w.0, ap (λ t. t ++ more) w.1 ∙ append_assoc w.0 old.waiting more, w.2);
  part = λ b. subst (WritesPart start old.text) (sym (texts-append replies more)) (part_before start old.text (texts_of replies) (texts_of more) (h.part b));
}

pub taken : IsTaken
taken start replies more old new h is = subst (Follows start (replies ++ more)) (sym is) (taken_on start replies more old h)

-- all that waits was written
written_on : (start text : Option (List ℕ)) (replies : List ReplyMessage) (old : Outgoing) → Follows start replies old → old.broken ≡ false → Appends old.text text (texts_of old.waiting) → Follows start replies (record old { text = text; waiting = [] })
written_on start text replies old h b all =
    let w = h.whole b in
    record {
      whole = λ _. (replies, sym (append-nil replies), subst (Appends start text) (sym (ap texts_of w.1 ∙ texts-append w.0 old.waiting)) (Appends-then start old.text text (texts_of w.0) (texts_of old.waiting) w.2 all));
      part = λ c. apart (sym c ∙ b);
    }

-- a write failed
broken_on : (start text : Option (List ℕ)) (n : ℕ) (replies : List ReplyMessage) (old : Outgoing) → WritesPart start text (texts_of replies) → Follows start replies (record old { text = text; failures = n; broken = true })
broken_on start text n replies old h = record { whole = λ c. apart c; part = λ _. h }

pub written : IsWritten
written start replies old new (Ok done) h x = subst (Follows start replies) (sym x.rest) (written_on start new.text replies old h x.unbroken x.whole)
written start replies old new (Err e) h (inl x) =
    let w = h.whole x.unbroken in
    let text : texts_of w.0 ++ texts_of old.waiting ≡ texts_of replies = sym (ap texts_of w.1 ∙ texts-append w.0 old.waiting) in
    let part = subst (WritesPart start new.text) text (part_behind start old.text new.text (texts_of w.0) (texts_of old.waiting) w.2 x.part) in
    subst (Follows start replies) (sym x.rest) (broken_on start new.text new.failures replies old part)
written start replies old new (Err e) h (inr x) = subst (Follows start replies) (sym x.1) h

-- the text of a reply behind those that were written, and before those that wait
ready_text_of : (xs ys : List ReplyMessage) (r : ReplyMessage) → (texts_of xs ++ reply_text r) ++ texts_of ys ≡ texts_of (xs ++ r ∷ ys)
ready_text_of xs ys r = append_assoc (texts_of xs) (reply_text r) (texts_of ys) ∙ sym (texts-append xs (r ∷ ys))

ready_on : (start text : Option (List ℕ)) (front : List ReplyMessage) (r : ReplyMessage) (old : Outgoing) → old.broken ≡ false → Appends start old.text (texts_of front) → Appends old.text text (reply_text r) → Follows start (front ++ r ∷ old.waiting) (record old { text = text; waiting = old.waiting })
ready_on start text front r old b before more =
    let end : texts_of front ++ reply_text r ≡ texts_of (front ++ r ∷ []) = sym (append-nil (texts_of front ++ reply_text r)) ∙ ready_text_of front [] r in
    record {
      whole = λ _. (front ++ r ∷ [], sym (append_assoc front (r ∷ []) old.waiting), subst (Appends start text) end (Appends-then start old.text text (texts_of front) (reply_text r) before more));
      part = λ c. apart (sym c ∙ b);
    }

pub ready_written : IsReadyWritten
ready_written start replies r old new (Ok done) b h x =
    let w = h.whole b in
    (w.0, w.1, subst (Follows start (w.0 ++ r ∷ old.waiting)) (sym x.rest) (ready_on start new.text w.0 r old b w.2 x.whole))
ready_written start replies r old new (Err e) b h (inl x) =
    let w = h.whole b in
    let some = part_before start new.text (texts_of w.0 ++ reply_text r) (texts_of old.waiting) (part_behind start old.text new.text (texts_of w.0) (reply_text r) w.2 x.part) in
    let part = subst (WritesPart start new.text) (ready_text_of w.0 old.waiting r) some in
    (w.0, w.1, subst (Follows start (w.0 ++ r ∷ old.waiting)) (sym x.rest) (broken_on start new.text new.failures (w.0 ++ r ∷ old.waiting) old part))
ready_written start replies r old new (Err e) b h (inr x) = apart (sym x.0 ∙ b)

sent_on : (start text : Option (List ℕ)) (n : ℕ) (replies : List ReplyMessage) (old : Outgoing) → Follows start replies old → Keeps old.text text → Follows start replies (record old { text = text; failures = n })
sent_on start text n replies old h k = record {
  whole = λ b. let w = h.whole b in (w.0, w.1, Appends-kept start old.text text (texts_of w.0) w.2 k);
  part = λ b. part_kept start old.text text (texts_of replies) (h.part b) k;
}

pub sent : IsSent
sent start replies old new h k is = subst (Follows start replies) (sym is) (sent_on start new.text new.failures replies old h k)
