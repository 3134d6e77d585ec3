-- What the steps for requests come to, by the bytes of the export alone.
use Rattle.std.specs.Prelude.{◌≡◌, ℕ, ◌+◌, ◌<◌, ◌≤◌, ◌^◌, ◌⊎◌, ◌==◌, ◌↔◌, if◌then◌else◌, List, [], ◌∷◌, ◌++◌, replicate, Some}
use Rattle.std.specs.List.{flat_map}
use Rattle.nbd_wire.specs.Grammar.{request_text, reply_text, RequestMessage, ReplyMessage}
use Rattle.nbd_commands.specs.Terms.{Terms}
use Rattle.nbd_commands.specs.Verdict.{verdict_of}
use Rattle.nbd_commands.specs.Meaning.{image_after, data_of}
use Rattle.reply_box.specs.Sessions.{new_session}
use Rattle.lone_export.specs.Alone.{Alone, limit_tag}
use Rattle.lone_export.specs.Lone.{Whole}
use Rattle.nbd_session.specs.declared.outcomes.End.{End}
use Rattle.nbd_session.specs.declared.outcomes.End.TheVariants as ends
use Rattle.nbd_session.specs.Requests.{opened, after_all, replies, FindsWorn, IsAnswered, AreAnswered, StopsBy, Serves}

-- ---- one request

-- the reply to a request: its verdict, and what a READ without error brings
abbrev pub reply_of : Terms → List ℕ → RequestMessage → ReplyMessage
reply_of terms image m = record { error = verdict_of terms m; cookie = m.head.cookie; content = if verdict_of terms m == 0 then data_of image m else [] }

-- a refused request changes no byte
unfoldable pub image_behind : Terms → List ℕ → RequestMessage → List ℕ
image_behind terms image m = if verdict_of terms m == 0 then image_after image m else image

-- an accepted request is four steps (it arrives, is picked, performed, and its reply taken), a refused one two
unfoldable pub steps_for : Terms → RequestMessage → ℕ
steps_for terms m = if verdict_of terms m == 0 then 4 else 2

-- ---- one after another

abbrev pub zeros : Terms → List ℕ
zeros terms = replicate terms.size 0

abbrev pub plain_replies : Terms → List ℕ → List RequestMessage → List ℕ
plain_replies terms image [] = []
plain_replies terms image (m ∷ ms) = reply_text (reply_of terms image m) ++ plain_replies terms (image_behind terms image m) ms

abbrev pub image_behind_all : Terms → List ℕ → List RequestMessage → List ℕ
image_behind_all terms image [] = image
image_behind_all terms image (m ∷ ms) = image_behind_all terms (image_behind terms image m) ms

abbrev pub steps_for_all : Terms → List RequestMessage → ℕ
steps_for_all terms [] = 0
steps_for_all terms (m ∷ ms) = steps_for terms m + steps_for_all terms ms

-- What requests are told follows from zeros and their own changes; one step is counted for the session, and those for
-- each request; and the export is worn by 2^56 of them.
pub record ArePlain (terms : Terms) (ms : List RequestMessage) : Type 0 where
  pub said : replies terms (opened terms) ms ≡ plain_replies terms (zeros terms) ms
  pub image : (after_all terms (opened terms) ms).image ≡ image_behind_all terms (zeros terms) ms
  pub count : (after_all terms (opened terms) ms).count ≡ 1 + steps_for_all terms ms
  pub worn : (m : RequestMessage) → FindsWorn terms (after_all terms (opened terms) ms) m ↔ (2 ^ 56 ≤ 1 + steps_for_all terms ms)

-- Requests that are each answered, at an export where one may wait and one be outstanding.
abbrev pub RequestsArePlain : Type 0
RequestsArePlain = (terms : Terms) (ms : List RequestMessage) → 0 < terms.depth → 0 < terms.window → AreAnswered terms (opened terms) ms → ArePlain terms ms

-- ---- the whole

-- each is answered, and fewer than 2^56 steps were counted before it, this many before the first
abbrev pub AreAnsweredInTime : Terms → ℕ → List RequestMessage → Type 0
AreAnsweredInTime terms steps [] = Unit {0}
AreAnsweredInTime terms steps (m ∷ ms) = IsAnswered m × (steps < 2 ^ 56) × AreAnsweredInTime terms (steps + steps_for terms m) ms

-- a request stands there behind 2^56 steps or more
pub record ComesLate (steps : ℕ) (bytes : List ℕ) : Type 0 where
  pub message : RequestMessage
  pub more : List ℕ
  pub spelled : bytes ≡ request_text message ++ more
  pub answered : IsAnswered message
  pub late : 2 ^ 56 ≤ steps

-- To these bytes the server says this text, and so it ends, by the export's bytes and the count alone.
pub record ServesPlainly (terms : Terms) (bytes text : List ℕ) (end : End) : Type 0 where
  pub requests : List RequestMessage
  pub rest : List ℕ
  pub spelled : bytes ≡ flat_map request_text requests ++ rest
  pub said : text ≡ plain_replies terms (zeros terms) requests
  pub answered : AreAnsweredInTime terms 1 requests
  pub ends : StopsBy rest end ⊎ ((end ≡ ends.Worn) × ComesLate (1 + steps_for_all terms requests) rest)

-- Texts and ends are the same as by the steps of the export.
abbrev pub ServiceIsPlain : Type 0
ServiceIsPlain = (terms : Terms) (bytes text : List ℕ) (end : End) → 0 < terms.depth → 0 < terms.window → Serves terms (opened terms) bytes text end ↔ ServesPlainly terms bytes text end

-- ---- inside

-- no request is there, and the only session is open and has taken its replies
pub record IsAtRest (state : Alone) : Type 0 where
  pub none_waits : state.waiting ≡ []
  pub none_out : state.out ≡ []
  pub session : state.sessions ≡ new_session ∷ []

-- an export at rest in which one request may wait, be outstanding and be out
pub record IsIdle (w : Whole) : Type 0 where
  pub rests : IsAtRest w.state
  pub slots : w.slots ≡ []
  pub depth : 0 < w.terms.depth
  pub window : 0 < w.terms.window
  pub inflight : 0 < w.inflight

-- the state behind a request that found an export at rest
unfoldable pub behind : Terms → Alone → RequestMessage → Alone
behind terms state m =
    if verdict_of terms m == 0
    then record state { image = image_after state.image m; next = state.next + 1; last = Some (limit_tag state 0); count = state.count + 4 }
    else record state { count = state.count + 2 }
