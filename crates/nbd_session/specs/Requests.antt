-- What a server says to the requests that bytes spell, and how it ends.
use Rattle.std.specs.Prelude.{◌≡◌, ◌≢◌, ℕ, ◌<◌, ◌≤◌, ◌⊎◌, true, List, [], ◌∷◌, ◌++◌, length, take}
use Rattle.std.specs.List.{flat_map}
use Rattle.nbd_wire.specs.declared.requests.RequestHead.{RequestHead}
use Rattle.nbd_wire.specs.Grammar.{head_text, request_text, reply_text, request_magic, RequestMessage, IsHead, IsTooLong, IsRequest, IsPartOfWrite}
use Rattle.nbd_commands.specs.Terms.{Terms}
use Rattle.lone_export.specs.Alone.{Alone, Moved, opening, own_step, alone, answers_alone}
use Rattle.lone_export.specs.declared.step.Step.{Step}
use Rattle.lone_export.specs.declared.step.Step.TheVariants.{Attach, Arrive, Pick, Perform, Take}
use Rattle.lone_export.specs.declared.step.StepAnswer.{StepAnswer}
use Rattle.lone_export.specs.declared.step.StepAnswer.TheVariants as said
use Rattle.nbd_session.specs.declared.outcomes.End.{End}
use Rattle.nbd_session.specs.declared.outcomes.End.TheVariants as ends

-- ---- the steps of an export whose only session, 0, is the client's

-- the session is attached
unfoldable pub opened : Terms → Alone
opened terms = (own_step {A = Unit {0}} terms (opening terms) Attach).state

-- a request of the session arrives at moment 0
unfoldable pub arriving : Terms → Alone → RequestMessage → Moved (Unit {0})
arriving terms state m = own_step terms state (Arrive 0 0 m)

-- what follows an arrival that was answered so: one that was accepted is picked and performed, where memory is there,
-- and its reply is taken; the reply to a refused one is taken
abbrev pub steps_behind : StepAnswer (Unit {0}) → List (Step (Unit {0}))
steps_behind (said.Accepted n tag) = Pick ∷ Perform n true ∷ Take 0 ∷ []
steps_behind (said.Answered error) = Take 0 ∷ []
steps_behind answer = []

-- the export behind a request
unfoldable pub after : Terms → Alone → RequestMessage → Alone
after terms state m = alone terms (arriving terms state m).state (steps_behind (arriving terms state m).answer)

-- a reply that was taken, as it is sent
abbrev pub sent : StepAnswer (Unit {0}) → List ℕ
sent (said.Reply reply) = reply_text reply
sent answer = []

-- what a request is told
unfoldable pub reply_to : Terms → Alone → RequestMessage → List ℕ
reply_to terms state m = flat_map sent (answers_alone terms (arriving terms state m).state (steps_behind (arriving terms state m).answer))

-- a request finds the export worn
abbrev pub FindsWorn : Terms → Alone → RequestMessage → Type 0
FindsWorn terms state m = (arriving terms state m).answer ≡ said.Worn

abbrev pub replies : Terms → Alone → List RequestMessage → List ℕ
replies terms state [] = []
replies terms state (m ∷ ms) = reply_to terms state m ++ replies terms (after terms state m) ms

abbrev pub after_all : Terms → Alone → List RequestMessage → Alone
after_all terms state [] = state
after_all terms state (m ∷ ms) = after_all terms (after terms state m) ms

-- ---- the end

-- what has a spelling and is answered: any request but DISC
pub record IsAnswered (m : RequestMessage) : Type 0 where
  pub request : IsRequest m
  pub no_disc : m.head.kind ≢ 2

-- each is answered, and none finds the export worn
abbrev pub AreAnswered : Terms → Alone → List RequestMessage → Type 0
AreAnswered terms state [] = Unit {0}
AreAnswered terms state (m ∷ ms) = IsAnswered m × (FindsWorn terms state m → ⊥) × AreAnswered terms (after terms state m) ms

-- the bytes from a message's place on, where no whole request to be answered stands there
abbrev pub StopsBy : List ℕ → End → Type 0
StopsBy bytes ends.Over = bytes ≡ []
StopsBy bytes ends.Cut = (0 < length bytes) × ((length bytes < 28) ⊎ IsPartOfWrite bytes)
StopsBy bytes ends.BadMagic = (28 ≤ length bytes) × (take 4 bytes ≢ request_magic)
StopsBy bytes ends.TooLong = (h : RequestHead) × (more : List ℕ) × (bytes ≡ head_text h ++ more) × IsHead h × IsTooLong h
StopsBy bytes ends.Disc = (h : RequestHead) × (more : List ℕ) × (bytes ≡ head_text h ++ more) × IsHead h × (h.kind ≡ 2)
StopsBy bytes ends.Abort = ⊥
StopsBy bytes ends.NoExport = ⊥
StopsBy bytes ends.BadFlags = ⊥
StopsBy bytes ends.TooMany = ⊥
StopsBy bytes ends.Worn = ⊥

-- a request stands there that finds the export worn
pub record WearsOut (terms : Terms) (state : Alone) (bytes : List ℕ) : Type 0 where
  pub message : RequestMessage
  pub more : List ℕ
  pub spelled : bytes ≡ request_text message ++ more
  pub answered : IsAnswered message
  pub worn : FindsWorn terms state message

abbrev pub Ends : Terms → Alone → List ℕ → End → Type 0
Ends terms state bytes end = StopsBy bytes end ⊎ ((end ≡ ends.Worn) × WearsOut terms state bytes)

-- To these bytes the server says this text, and so it ends: the bytes spell requests that are each answered,
-- and behind them stands what ends it.
pub record Serves (terms : Terms) (state : Alone) (bytes text : List ℕ) (end : End) : Type 0 where
  pub requests : List RequestMessage
  pub rest : List ℕ
  pub spelled : bytes ≡ flat_map request_text requests ++ rest
  pub said : text ≡ replies terms state requests
  pub answered : AreAnswered terms state requests
  pub ends : Ends terms (after_all terms state requests) rest end
