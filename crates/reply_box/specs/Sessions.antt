-- The sessions of one export, by number, each with its outbox.
use Rattle.std.specs.Prelude.{ℕ, ◌+◌, ◌==◌, ◌&&◌, Bool, true, false, List, [], ◌∷◌, ◌++◌, length, drop, slice_get, Option, Some, None, if◌then◌else◌}
use Rattle.nbd_base.specs.Words.{when_some, change_at}
use Rattle.nbd_wire.specs.Grammar.{ReplyMessage}
use Rattle.reply_box.specs.declared.seat.SessionState.{SessionState}
use Rattle.reply_box.specs.declared.seat.SessionState.TheVariants.{Open, Left, Gone}

pub record Session : Type 0 where
  pub state : SessionState
  pub outbox : List ReplyMessage

abbrev pub new_session : Session
new_session = record { state = Open; outbox = [] }

abbrev pub is_open_state : SessionState → Bool
is_open_state Open = true
is_open_state Left = false
is_open_state Gone = false

abbrev pub is_left_state : SessionState → Bool
is_left_state Open = false
is_left_state Left = true
is_left_state Gone = false

abbrev pub is_here_state : SessionState → Bool
is_here_state Open = true
is_here_state Left = true
is_here_state Gone = false

-- the session isn't gone
abbrev pub is_here : Session → Bool
is_here session = is_here_state session.state

-- how session s stands, where it was attached
abbrev pub state_at : List Session → ℕ → Option SessionState
state_at sessions s = when_some (slice_get sessions s) (λ session. Some session.state) None

-- session s is open; has left; was attached and isn't gone
abbrev pub is_open_at : List Session → ℕ → Bool
is_open_at sessions s = when_some (slice_get sessions s) (λ session. is_open_state session.state) false

abbrev pub is_left_at : List Session → ℕ → Bool
is_left_at sessions s = when_some (slice_get sessions s) (λ session. is_left_state session.state) false

abbrev pub is_here_at : List Session → ℕ → Bool
is_here_at sessions s = when_some (slice_get sessions s) is_here false

-- the replies of session s that aren't taken, oldest first
abbrev pub outbox_at : List Session → ℕ → List ReplyMessage
outbox_at sessions s = when_some (slice_get sessions s) (λ session. session.outbox) []

-- session s isn't gone, and none of its replies waits
abbrev pub is_quiet_at : List Session → ℕ → Bool
is_quiet_at sessions s = when_some (slice_get sessions s) (λ session. is_here session && length session.outbox == 0) false

-- a reply goes to the end of the outbox, and is dropped where the session is gone
abbrev pub posted : ReplyMessage → Session → Session
posted reply session = if is_here session then record { state = session.state; outbox = session.outbox ++ reply ∷ [] } else session

abbrev pub post_at : ℕ → ReplyMessage → List Session → List Session
post_at s reply sessions = change_at (posted reply) s sessions

-- the oldest reply of session s is taken
abbrev pub take_at : ℕ → List Session → List Session
take_at s sessions = change_at (λ session. record { state = session.state; outbox = drop 1 session.outbox }) s sessions

abbrev pub leave_at : ℕ → List Session → List Session
leave_at s sessions = change_at (λ session. record { state = Left; outbox = session.outbox }) s sessions

abbrev pub drop_at : ℕ → List Session → List Session
drop_at s sessions = change_at (λ session. record { state = Gone; outbox = [] }) s sessions

-- ---- what can still come of sessions

-- a session can still leave and be gone
abbrev pub session_worth : SessionState → ℕ
session_worth Open = 2
session_worth Left = 1
session_worth Gone = 0

-- how many steps the sessions can still make at the most: each of their replies can be taken too
abbrev pub sessions_worth : List Session → ℕ
sessions_worth [] = 0
sessions_worth (session ∷ sessions) = length session.outbox + session_worth session.state + sessions_worth sessions
