-- A handshake as haggling over the options that its bytes spell.
use Rattle.std.specs.Prelude.{◌≡◌, ℕ, ◌<◌, ◌≤◌, ◌^◌, ◌⊎◌, List, [], ◌++◌, length, take, Option, Some, None}
use Rattle.std.specs.List.{flat_map, AllByRecursion}
use Rattle.std.specs.Int.{w32, to_be_bytes}
use Rattle.nbd_options.specs.declared.attach.Attached.{Attached}
use Rattle.nbd_options.specs.declared.saying.HaggleEnd.{HaggleEnd}
use Rattle.nbd_options.specs.Exports.{ExportFacts}
use Rattle.nbd_options.specs.Haggled.{Asked, greeting_text, haggled}
use Rattle.nbd_session.specs.declared.outcomes.End.TheVariants as ends
use Rattle.nbd_session.specs.declared.outcomes.Entry.{Entry}
use Rattle.nbd_session.specs.declared.outcomes.Entry.TheVariants as entries
use Rattle.nbd_session.specs.Options.{asked_text, IsAsked, entry_after}
use Rattle.nbd_session.specs.Conversation.{Shaken}

-- how the handshake ended, by how haggling did; where that may go on, the input ended
abbrev pub EndsAs : Option HaggleEnd → Entry → Type 0
EndsAs (Some end) entry = entry ≡ entry_after end
EndsAs None entry = (entry ≡ entries.Out ends.Over) ⊎ (entry ≡ entries.Out ends.Cut)

-- what the bytes spell: these flags, whole options, each with an answer that attach may give, and behind them this head, if
-- one follows that is looked at
pub record IsSent (may : ℕ → Attached → Type 0) (table : List ExportFacts) (bytes : List ℕ) (flags : ℕ) (asked : List Asked) (head : Option (List ℕ)) : Type 0 where
  pub behind : List ℕ
  pub spelled : bytes ≡ to_be_bytes w32 flags ++ (flat_map asked_text asked ++ behind)
  pub fits : flags < 2 ^ 32
  pub each : AllByRecursion (IsAsked may table) asked
  pub few : length asked ≤ 1000
  pub headed : (h : List ℕ) → head ≡ Some h → h ≡ take 16 behind

-- what is said to the flags and options that the bytes spell, and to the head that follows them
pub record IsHaggled (may : ℕ → Attached → Type 0) (table : List ExportFacts) (bytes text : List ℕ) (entry : Entry) : Type 0 where
  pub flags : ℕ
  pub asked : List Asked
  pub head : Option (List ℕ)
  pub end : Option HaggleEnd
  pub sent : IsSent may table bytes flags asked head
  pub is : haggled table flags asked head ≡ record { text = text; end = end }
  pub ends : EndsAs end entry

-- The text of a handshake is the greeting, and then what haggling says. Where the input ended before the flags were
-- whole, it is the greeting.
abbrev pub HandshakeIsHaggled : (ℕ → Attached → Type 0) → List ExportFacts → Type 0
HandshakeIsHaggled may table = (bytes text : List ℕ) (entry : Entry) (rest : List ℕ) → Shaken may table bytes text entry rest
    → (later : List ℕ) × (text ≡ greeting_text ++ later) × (((later ≡ []) × (length bytes < 4) × EndsAs None entry) ⊎ IsHaggled may table bytes later entry)
