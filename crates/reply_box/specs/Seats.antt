-- How a `ReplyBox` is kept: a map of the sessions that are not gone.
use Rattle.std.specs.Prelude.{◌≡◌, ℕ, zero, suc, ◌+◌, ◌<◌, ◌≤◌, ◌^◌, ◌==◌, ◌&&◌, List, [], ◌∷◌, ◌++◌, length, filter, Option, Some, None, if◌then◌else◌}
use Rattle.std.specs.Ordering.{nat_cmp}
use Rattle.std.specs.BTreeMap.{BTreeMap, get, btree_map_len}
use Rattle.reply_box.specs.Sessions.{Session, is_here, session_worth}
use Rattle.reply_box.specs.Box.{Box}
use Rattle.reply_box.specs.declared.seat.Seat.{Seat}
use Rattle.reply_box.specs.declared.seat.SessionState.{SessionState}
use Rattle.reply_box.specs.declared.seat.SessionState.TheVariants.{Open, Left, Gone}
use Rattle.reply_box.specs.declared.seat.Taken.{Taken}
use Rattle.reply_box.specs.declared.seat.Taken.TheVariants.{Empty, End}

-- f of each number below n, in order
abbrev pub each_below : {X : Type 0} → (ℕ → X) → ℕ → List X
each_below f zero = []
each_below f (suc n) = each_below f n ++ f n ∷ []

module _ {A : Type 0} where
  abbrev pub state_of : Seat A → SessionState
  state_of seat = if seat.left then Left else Open

  -- what `take` answers where no reply waits
  abbrev pub quiet : Seat A → Taken A
  quiet seat = if seat.left && seat.owed == 0 then End else Empty

  -- what can still come of the sessions that are kept
  abbrev pub seat_worth : Seat A → ℕ
  seat_worth seat = length seat.outbox.items + session_worth (state_of seat)

  abbrev pub seats_worth : List (Seat A) → ℕ
  seats_worth [] = 0
  seats_worth (seat ∷ seats) = seat_worth seat + seats_worth seats

  -- a session that is not kept is gone, and owed nothing
  abbrev pub session_of : Option (Seat A) → Session
  session_of None = record { state = Gone; outbox = [] }
  session_of (Some seat) = record { state = state_of seat; outbox = seat.outbox.items }

  abbrev pub owed_of : Option (Seat A) → ℕ
  owed_of None = 0
  owed_of (Some seat) = seat.owed

  abbrev pub sessions_of : ℕ → BTreeMap ℕ (Seat A) → List Session
  sessions_of next seats = each_below (λ n. session_of (get nat_cmp seats n)) next

  abbrev pub box_of : ℕ → BTreeMap ℕ (Seat A) → ℕ → Box
  box_of next seats window = record {
    sessions = sessions_of next seats;
    owed = each_below (λ n. owed_of (get nat_cmp seats n)) next;
    window = window;
  }

  -- the outbox has room for all that the session is owed
  pub record IsSeat (window : ℕ) (seat : Seat A) : Type 0 where
    pub within : seat.owed + length seat.outbox.items ≤ window
    pub room : seat.outbox.capacity ≡ window

  pub record IsBox (next : ℕ) (seats : BTreeMap ℕ (Seat A)) (window : ℕ) : Type 0 where
    pub each : (n : ℕ) (seat : Seat A) → get nat_cmp seats n ≡ Some seat → IsSeat window seat
    pub below : (n : ℕ) (seat : Seat A) → get nat_cmp seats n ≡ Some seat → n < next
    pub counted : btree_map_len seats ≡ length (filter is_here (sessions_of next seats))
    pub few : btree_map_len seats ≤ 64
    pub in_range : next ≤ 2 ^ 63
