-- Replies that are taken one after another.
use Rattle.std.proofs.Common.{◌≡◌, ℕ, List, [], ◌∷◌, ◌++◌, length, refl, sym, ap, subst, ◌∙◌, append_assoc}
use Rattle.std.proofs.lemmas.List.{append-nil}
use Rattle.nbd_wire.specs.Grammar.{ReplyMessage}
use Rattle.server_table.specs.declared.event.Answer.TheVariants as said
use Rattle.server_core.specs.declared.session.SessionId.{SessionId}
use Rattle.server_core.specs.Served.{Served}
use Rattle.server_lock.specs.Scores.{Score}
use Rattle.session_turns.specs.declared.taking.Stop.{Stop}
use Rattle.session_turns.specs.Taking.{TakeSays, Gives, Stops, Takes}

-- replies were taken, and stand behind those that the list had before
pub record HasTaken (A : Type 0) (old : Served) (p : Score) (s : SessionId) (before : List ReplyMessage) (room : ℕ) (all : List ReplyMessage) (here : ℕ) (new : Served) (q : Score) : Type 0 where
  pub replies : List ReplyMessage
  pub appended : all ≡ before ++ replies
  pub same_room : here ≡ room
  pub gives : Gives A old p s replies new q

module _ (A : Type 0) (s : SessionId) (mid new : Served) (m q : Score) where
  -- one more behind them
  pub one_more : (r : ReplyMessage) (rs : List ReplyMessage) (old : Served) (p : Score) → Gives A old p s rs mid m → TakeSays A mid m s (said.Reply r) new q → Gives A old p s (rs ++ r ∷ []) new q
  one_more r [] old p h step =
      let from : TakeSays A old m s (said.Reply r) new q = subst (λ (v : Served). TakeSays A v m s (said.Reply r) new q) (sym h.0) step in
      (new, q, subst (λ (v : Score). TakeSays A old v s (said.Reply r) new q) (sym h.1) from, (refl, refl))
  one_more r (x ∷ xs) old p h step = (h.0, h.1, h.2, one_more r xs h.0 h.1 h.3 step)

  module _ (old : Served) (p : Score) (before all : List ReplyMessage) (room here : ℕ) where
    pub takes_more : (r : ReplyMessage) (more : List ReplyMessage) (there : ℕ) → HasTaken A old p s before room all here mid m → TakeSays A mid m s (said.Reply r) new q
        → more ≡ all ++ r ∷ [] → there ≡ here → HasTaken A old p s before room more there new q
    takes_more r more there h step pushed same = record {
      replies = h.replies ++ r ∷ [];
      appended = pushed ∙ (ap (λ (t : List ReplyMessage). t ++ r ∷ []) h.appended ∙ append_assoc before h.replies (r ∷ []));
      same_room = same ∙ h.same_room;
      gives = one_more r h.replies old p h.gives step;
    }

    pub takes_until : (stop : Stop) → HasTaken A old p s before room all here mid m → Stops A mid m s room (length all) stop new q → Takes A old p s before room stop all new q
    takes_until stop h stops = record { replies = h.replies; appended = h.appended; mid = mid; m = m; gives = h.gives; stops = stops }

pub takes_none : (A : Type 0) (old : Served) (p : Score) (s : SessionId) (before : List ReplyMessage) (room : ℕ) → HasTaken A old p s before room before room old p
takes_none A old p s before room = record { replies = []; appended = sym (append-nil before); same_room = refl; gives = (refl, refl) }
