-- What a server says to a client that haggles, and how haggling ends (NBD protocol, "Fixed newstyle negotiation").
use Rattle.std.specs.Prelude.{◌≡◌, ℕ, ◌+◌, Bool, not, nat_lt, nat_le, if◌then◌else◌, List, [], ◌∷◌, ◌++◌, take, drop, replicate, Option, Some, None, option_map, slice_get}
use Rattle.std.specs.List.{flat_map}
use Rattle.std.specs.Str.{bytes_eq}
use Rattle.std.specs.Int.{w16, w32, w64, to_be_bytes, from_be_bytes}
use Rattle.nbd_base.specs.Words.{when_some}
use Rattle.nbd_wire.specs.Grammar.{option_magic, option_reply_text}
use Rattle.nbd_options.specs.declared.answers.Next.{Next}
use Rattle.nbd_options.specs.declared.answers.Next.TheVariants as nexts
use Rattle.nbd_options.specs.declared.attach.Attached.{Attached}
use Rattle.nbd_options.specs.declared.attach.Attached.TheVariants as attached
use Rattle.nbd_options.specs.declared.haggle.HeadFault.{HeadFault}
use Rattle.nbd_options.specs.declared.haggle.HeadFault.TheVariants as faults
use Rattle.nbd_options.specs.declared.saying.HaggleEnd.{HaggleEnd}
use Rattle.nbd_options.specs.declared.saying.HaggleEnd.TheVariants as ends
use Rattle.nbd_options.specs.Exports.{ExportFacts}
use Rattle.nbd_options.specs.Replies.{ClientOption, ReplyMessage, policy, replies_to, next_after}

-- NBDMAGIC, IHAVEOPT and the server's flags, FIXED_NEWSTYLE and NO_ZEROES
unfoldable pub greeting_text : List ℕ
greeting_text = to_be_bytes w64 0x4e42444d41474943 ++ (option_magic ++ to_be_bytes w16 3)

-- Whether the client's flags have C_NO_ZEROES, bit 1. C_FIXED_NEWSTYLE, bit 0, may be set or not. Flags with another
-- bit are unknown.
abbrev pub wants_no_zeroes : ℕ → Option Bool
wants_no_zeroes flags = if nat_lt flags 4 then Some (nat_le 2 flags) else None

-- ---- the head of an option

-- the length of the data that a head of 16 bytes tells
abbrev pub told_length : List ℕ → ℕ
told_length bytes = from_be_bytes w32 (take 4 (drop 12 bytes))

-- why a head is refused, if it is, where this many options came before
abbrev pub head_fault : ℕ → List ℕ → Option HeadFault
head_fault seen bytes =
    if not (bytes_eq (take 8 bytes) option_magic) then Some faults.BadMagic
    else if nat_le 1000 seen then Some faults.TooMany
    else if nat_lt 65536 (told_length bytes) then Some faults.TooLong
    else None

-- ---- one option

abbrev pub reply_text : ReplyMessage → List ℕ
reply_text r = option_reply_text r.option r.kind r.content

abbrev pub texts : List ReplyMessage → List ℕ
texts replies = flat_map reply_text replies

-- the answer to EXPORT_NAME: the size, the transmission flags, and 124 zeros unless the client wants none
abbrev pub entry_text : Bool → Option ExportFacts → List ℕ
entry_text no_zeroes None = []
entry_text no_zeroes (Some e) = to_be_bytes w64 e.size ++ (to_be_bytes w16 e.flags ++ (if no_zeroes then [] else replicate 124 0))

-- a text, and how haggling ended by it, if it did
pub record Said : Type 0 where
  pub text : List ℕ
  pub end : Option HaggleEnd

abbrev pub goes_on : List ℕ → Said
goes_on text = record { text = text; end = None }

abbrev pub ends_by : List ℕ → HaggleEnd → Said
ends_by text end = record { text = text; end = Some end }

-- What is said to a GO of an export that is there, with the answer that attach gives. Where its sessions are full,
-- POLICY alone, and haggling goes on.
abbrev pub said_by_go : List ReplyMessage → ℕ → Attached → Said
said_by_go replies n attached.Given = ends_by (texts replies) (ends.Entered n)
said_by_go replies n attached.Full = goes_on (reply_text (policy 7))
said_by_go replies n attached.Other = ends_by [] ends.Refused

-- What is said to an EXPORT_NAME of an export that is there. Where its sessions are full, the session ends.
abbrev pub said_by_name : List ExportFacts → Bool → ℕ → Attached → Said
said_by_name table no_zeroes n attached.Given = ends_by (entry_text no_zeroes (slice_get table n)) (ends.Entered n)
said_by_name table no_zeroes n attached.Full = ends_by [] ends.Refused
said_by_name table no_zeroes n attached.Other = ends_by [] ends.Refused

-- what is said by an option's replies and what comes after it, with the answer that attach gives if it is asked
abbrev pub said_by : List ExportFacts → Bool → List ReplyMessage → Next → Attached → Said
said_by table no_zeroes replies (nexts.Go n) answer = said_by_go replies n answer
said_by table no_zeroes replies (nexts.ByName n) answer = said_by_name table no_zeroes n answer
said_by table no_zeroes replies nexts.Again answer = goes_on (texts replies)
said_by table no_zeroes replies nexts.Abort answer = ends_by (texts replies) ends.Aborted
said_by table no_zeroes replies nexts.Close answer = ends_by [] ends.NoExport

-- an option, with the answer that attach gives if it is asked
pub record Asked : Type 0 where
  pub option : ClientOption
  pub answer : Attached

abbrev pub said_to : List ExportFacts → Bool → Asked → Said
said_to table no_zeroes a = said_by table no_zeroes (replies_to table a.option) (next_after table a.option) a.answer

-- ---- all options

abbrev pub LeavesOpen : List ExportFacts → Bool → Asked → Type 0
LeavesOpen table no_zeroes a = (said_to table no_zeroes a).end ≡ None

abbrev pub texts_to : List ExportFacts → Bool → List Asked → List ℕ
texts_to table no_zeroes asked = flat_map (λ a. (said_to table no_zeroes a).text) asked

-- what is said first, and then what is said later, unless haggling ended before
abbrev pub and_then : List ℕ → Option HaggleEnd → Said → Said
and_then text None later = record { text = text ++ later.text; end = later.end }
and_then text (Some end) later = ends_by text end

-- a head that follows the options, if one does, ends haggling where it is refused
abbrev pub said_to_head : ℕ → Option (List ℕ) → Said
said_to_head seen None = goes_on []
said_to_head seen (Some bytes) = record { text = []; end = option_map ends.BadHead (head_fault seen bytes) }

-- what is said to options before which this many came, and to the head that follows them
abbrev pub said_from : List ExportFacts → Bool → ℕ → List Asked → Option (List ℕ) → Said
said_from table no_zeroes seen [] head = said_to_head seen head
said_from table no_zeroes seen (a ∷ later) head =
    and_then (said_to table no_zeroes a).text (said_to table no_zeroes a).end (said_from table no_zeroes (seen + 1) later head)

-- What is said behind the greeting to a client of these flags, to its options, and to the head that follows them. The
-- end is missing where it may go on.
abbrev pub haggled : List ExportFacts → ℕ → List Asked → Option (List ℕ) → Said
haggled table flags asked head =
    when_some (wants_no_zeroes flags) (λ no_zeroes. said_from table no_zeroes 0 asked head) (ends_by [] ends.BadFlags)
