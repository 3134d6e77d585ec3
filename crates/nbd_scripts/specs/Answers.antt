-- What `replay` writes of the answers of a server.
use Rattle.std.specs.Prelude.{ℕ, if◌then◌else◌, List, [], ◌∷◌, ◌++◌, codes}
use Rattle.std.specs.Fmt.{decimal, signed_decimal}
use Rattle.hex.specs.Hex.{encode_lower}
use Rattle.nbd_wire.specs.Grammar.{ReplyMessage}
use Rattle.tag_clock.specs.declared.Phase.{Phase}
use Rattle.tag_clock.specs.declared.Phase.TheVariants.{Reservation, Weight}
use Rattle.server_table.specs.declared.event.Answer.{Answer}
use Rattle.server_table.specs.declared.event.Answer.TheVariants as said

abbrev pub word_of_phase : Phase → List ℕ
word_of_phase Reservation = codes "reservation"
word_of_phase Weight = codes "weight"

-- what a READ brought, as hex
abbrev pub word_of_content : List ℕ → List ℕ
word_of_content [] = codes "-"
word_of_content (byte ∷ more) = encode_lower (byte ∷ more)

-- its cookie, its error and what it brought
abbrev pub reply_line : ReplyMessage → List ℕ
reply_line reply = codes "reply " ++ decimal reply.cookie ++ codes " " ++ decimal reply.error ++ codes " " ++ word_of_content reply.content ++ codes "\n"

abbrev pub picked_line : ℕ → ℕ → Phase → List ℕ
picked_line export number phase = codes "export " ++ decimal export ++ codes " request " ++ decimal number ++ codes " " ++ word_of_phase phase ++ codes "\n"

module _ {A : Type 0} where
  -- the line of an answer
  abbrev pub line_of : Answer A → List ℕ
  line_of (said.Session session) = codes "session " ++ decimal session ++ codes "\n"
  line_of (said.Accepted number limit_tag) = codes "accepted " ++ decimal number ++ codes " " ++ signed_decimal limit_tag ++ codes "\n"
  line_of (said.Answered error) = codes "answered " ++ decimal error ++ codes "\n"
  line_of (said.Picked export number phase) = picked_line export number phase
  line_of said.Nothing = codes "none\n"
  line_of (said.Performed memory) = if memory then codes "performed\n" else codes "performed without memory\n"
  line_of (said.Reply reply) = reply_line reply
  line_of said.Empty = codes "empty\n"
  line_of said.End = codes "end\n"
  line_of said.Left = codes "left\n"
  line_of said.Dropped = codes "gone\n"
  line_of said.NoExport = codes "no export\n"
  line_of said.NotOpen = codes "not open\n"
  line_of said.Worn = codes "worn\n"
  line_of said.Full = codes "full\n"
  line_of said.Hold = codes "hold\n"
  line_of said.NotOut = codes "not out\n"
  line_of said.Retuned = codes "retuned\n"
  line_of said.Waiting = codes "waiting\n"
  line_of said.NoMemory = codes "no memory\n"
