-- What a contract sees of a `ReplyBox`, and what each of its calls does.
use Rattle.std.specs.Prelude.{◌≡◌, ℕ, ◌+◌, ◌-◌, ◌<◌, ◌≤◌, ◌^◌, ◌==◌, ◌&&◌, Bool, true, false, List, [], ◌∷◌, ◌++◌, length, filter, slice_get, Some, None, if◌then◌else◌, Result, Ok, Err}
use Rattle.nbd_base.specs.Words.{when_some, change_at}
use Rattle.nbd_wire.specs.Grammar.{ReplyMessage}
use Rattle.reply_box.specs.Sessions.{Session, new_session, is_here, is_open_at, is_left_at, is_here_at, outbox_at, post_at, take_at, leave_at, drop_at}
use Rattle.reply_box.specs.declared.fault.AttachFault.{AttachFault}
use Rattle.reply_box.specs.declared.fault.AttachFault.TheVariants.{Full, NoMemory}
use Rattle.reply_box.specs.declared.fault.AdmitFault.{AdmitFault}
use Rattle.reply_box.specs.declared.fault.AdmitFault.TheVariants.{NotOpen as NotOpened, Hold}
use Rattle.reply_box.specs.declared.fault.NotOpen.{NotOpen}
use Rattle.reply_box.specs.declared.seat.Taken.{Taken}
use Rattle.reply_box.specs.declared.seat.Taken.TheVariants.{Reply as OneReply, Empty, End}

-- all sessions ever attached, by number; how many replies each is owed; the window
pub record Box : Type 0 where
  pub sessions : List Session
  pub owed : List ℕ
  pub window : ℕ

abbrev pub empty_box : ℕ → Box
empty_box window = record { sessions = []; owed = []; window = window }

-- how many replies session s is owed
abbrev pub owed_at : List ℕ → ℕ → ℕ
owed_at owed s = when_some (slice_get owed s) (λ n. n) 0

-- what session s has outstanding: it is owed a reply, or its reply isn't taken
abbrev pub outstanding_at : Box → ℕ → ℕ
outstanding_at b s = owed_at b.owed s + length (outbox_at b.sessions s)

-- ---- attach

abbrev pub is_full : Box → Bool
is_full b = length (filter is_here b.sessions) == 64

abbrev pub attach_fault : Box → AttachFault
attach_fault b = if is_full b then Full else NoMemory

-- a new open session
abbrev pub after_attach : Box → Box
after_attach b = record { sessions = b.sessions ++ new_session ∷ []; owed = b.owed ++ 0 ∷ []; window = b.window }

-- ---- admit

-- what is so where session s is admitted, or refused
abbrev pub MayAdmit : Box → ℕ → Result (Unit {0}) AdmitFault → Type 0
MayAdmit b s (Ok done) = (is_open_at b.sessions s ≡ true) × ((outstanding_at b s == b.window) ≡ false)
MayAdmit b s (Err NotOpened) = is_open_at b.sessions s ≡ false
MayAdmit b s (Err Hold) = (is_open_at b.sessions s ≡ true) × ((outstanding_at b s == b.window) ≡ true)

-- session s is owed one more reply
abbrev pub after_admit : Box → ℕ → Box
after_admit b s = record { sessions = b.sessions; owed = change_at (λ n. n + 1) s b.owed; window = b.window }

abbrev pub Admits : Box → ℕ → Box → Result (Unit {0}) AdmitFault → Type 0
Admits old s new (Ok done) = MayAdmit old s (Ok done) × (new ≡ after_admit old s)
Admits old s new (Err e) = MayAdmit old s (Err e) × (new ≡ old)

-- ---- put

-- session s, if it isn't gone, is owed a reply
abbrev pub IsOwed : Box → ℕ → Type 0
IsOwed b s = is_here_at b.sessions s ≡ true → 0 < owed_at b.owed s

-- a reply that session s is owed is in its outbox, or dropped
abbrev pub after_put : Box → ℕ → ReplyMessage → Box
after_put b s reply = record { sessions = post_at s reply b.sessions; owed = change_at (λ n. n - 1) s b.owed; window = b.window }

-- ---- take

abbrev pub after_take : Box → ℕ → Box
after_take b s = record { sessions = take_at s b.sessions; owed = b.owed; window = b.window }

-- session s isn't gone, no reply waits for it, and this says whether none will come
abbrev pub IsQuiet : Box → ℕ → Bool → Type 0
IsQuiet b s ended = (is_here_at b.sessions s ≡ true) × (slice_get (outbox_at b.sessions s) 0 ≡ None) × ((is_left_at b.sessions s && outstanding_at b s == 0) ≡ ended)

module _ {A : Type 0} where
  abbrev pub Takes : Box → ℕ → Box → Result (Taken A) NotOpen → Type 0
  Takes old s new (Ok (OneReply reply)) = (is_here_at old.sessions s ≡ true) × (slice_get (outbox_at old.sessions s) 0 ≡ Some reply) × (new ≡ after_take old s)
  Takes old s new (Ok Empty) = IsQuiet old s false × (new ≡ old)
  Takes old s new (Ok End) = IsQuiet old s true × (new ≡ old)
  Takes old s new (Err e) = (is_here_at old.sessions s ≡ false) × (new ≡ old)

-- ---- leave and gone

abbrev pub after_leave : Box → ℕ → Box
after_leave b s = record { sessions = leave_at s b.sessions; owed = b.owed; window = b.window }

abbrev pub Leaves : Box → ℕ → Box → Result (Unit {0}) NotOpen → Type 0
Leaves old s new (Ok done) = (is_open_at old.sessions s ≡ true) × (new ≡ after_leave old s)
Leaves old s new (Err e) = (is_open_at old.sessions s ≡ false) × (new ≡ old)

-- nothing is owed to a session that is gone
abbrev pub after_gone : Box → ℕ → Box
after_gone b s = record { sessions = drop_at s b.sessions; owed = change_at (λ n. 0) s b.owed; window = b.window }

abbrev pub Goes : Box → ℕ → Box → Result (Unit {0}) NotOpen → Type 0
Goes old s new (Ok done) = (is_here_at old.sessions s ≡ true) × (new ≡ after_gone old s)
Goes old s new (Err e) = (is_here_at old.sessions s ≡ false) × (new ≡ old)

-- ---- what is true of every box

pub record IsInBounds (b : Box) : Type 0 where
  pub owed_each : length b.owed ≡ length b.sessions
  pub within : (s : ℕ) → outstanding_at b s ≤ b.window
  pub gone_owed : (s : ℕ) → is_here_at b.sessions s ≡ false → owed_at b.owed s ≡ 0
  pub gone_empty : (s : ℕ) → is_here_at b.sessions s ≡ false → outbox_at b.sessions s ≡ []
  pub few : length (filter is_here b.sessions) ≤ 64
  pub in_range : length b.sessions ≤ 2 ^ 63
