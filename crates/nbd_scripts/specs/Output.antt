-- What `talk` reads as the bytes of a client, and what it writes of the conversation: what the server said, as hex, and how
-- it ended.
use Rattle.std.specs.Prelude.{◌≡◌, ℕ, ◌+◌, ◌==◌, Bool, not, ◌||◌, if◌then◌else◌, List, [], ◌∷◌, ◌++◌, filter, codes, Option, Some, Ok}
use Rattle.std.specs.Io.KnownBytes.{Appends}
use Rattle.hex.specs.Hex.{encode_lower, decode_of}
use Rattle.nbd_commands.specs.Exports.{Export}
use Rattle.nbd_session.specs.Conversation.{Talked}
use Rattle.nbd_session.specs.Outcomes.{IsTold}
use Rattle.nbd_session.specs.declared.outcomes.End.{End}
use Rattle.nbd_session.specs.declared.outcomes.End.TheVariants.{Disc, Abort, NoExport, Over, Cut, BadFlags, BadMagic, TooLong, TooMany, Worn}

-- a space, tab, line feed or carriage return, which may stand between digits
abbrev pub is_gap : ℕ → Bool
is_gap byte = byte == 32 || byte == 9 || byte == 13 || byte == 10

-- what is left of a script's body without them
abbrev pub digits_of : List ℕ → List ℕ
digits_of body = filter (λ byte. not (is_gap byte)) body

-- the words of the last line
abbrev pub word_of : End → List ℕ
word_of Disc = codes "disc"
word_of Abort = codes "abort"
word_of NoExport = codes "no export"
word_of Over = codes "over"
word_of Cut = codes "cut"
word_of BadFlags = codes "bad flags"
word_of BadMagic = codes "bad magic"
word_of TooLong = codes "too long"
word_of TooMany = codes "too many"
word_of Worn = codes "worn"

-- the lines of these bytes, behind a line that has so many already: a line ends with its 16th byte, and with the last of all
unfoldable pub lines_behind : ℕ → List ℕ → List ℕ
lines_behind filled [] = if filled == 0 then [] else codes "\n"
lines_behind filled (byte ∷ more) = encode_lower (byte ∷ []) ++ (if filled == 15 then codes "\n" ++ lines_behind 0 more else lines_behind (filled + 1) more)

-- the whole text
abbrev pub printed : List ℕ → End → List ℕ
printed said end = lines_behind 0 said ++ (codes "end " ++ (word_of end ++ codes "\n"))

-- The conversation of the client whose bytes the body spells is written: of them the server read a front, and no less than
-- all where the conversation ended with the input.
pub record Prints (exports : List Export) (body : List ℕ) (old new : Option (List ℕ)) : Type 0 where
  pub sent : List ℕ
  pub unread : List ℕ
  pub said : List ℕ
  pub end : End
  pub spelled : decode_of (digits_of body) ≡ Ok (sent ++ unread)
  pub talked : Talked exports sent said end
  pub told : IsTold (Some unread) end
  pub written : Appends old new (printed said end)
