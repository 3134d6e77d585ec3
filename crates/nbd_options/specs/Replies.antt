-- The replies to one option, and what comes after it (NBD protocol, "Option types", "Option reply types" and
-- "Information types").
use Rattle.std.specs.Prelude.{ℕ, ◌+◌, ◌*◌, ◌<◌, Bool, ◌||◌, ◌==◌, if◌then◌else◌, List, [], ◌∷◌, ◌++◌, map, length, take, drop, Option, Some, None, slice_get}
use Rattle.std.specs.List.{list_any}
use Rattle.std.specs.Int.{w16, w32, w64, to_be_bytes, from_be_bytes}
use Rattle.nbd_options.specs.declared.answers.Next.{Next}
use Rattle.nbd_options.specs.declared.answers.Next.TheVariants as nexts
use Rattle.nbd_options.specs.Exports.{ExportFacts, export_named}

-- an option of the client
pub record ClientOption : Type 0 where
  pub number : ℕ
  pub content : List ℕ

-- a reply to an option
pub record ReplyMessage : Type 0 where
  pub option : ℕ
  pub kind : ℕ
  pub content : List ℕ

abbrev pub reply : ℕ → ℕ → List ℕ → ReplyMessage
reply option kind content = record { option = option; kind = kind; content = content }

-- ---- replies without data, which are the last to their option

abbrev pub ack : ℕ → ReplyMessage
ack option = reply option 1 []

abbrev pub unsupported : ℕ → ReplyMessage
unsupported option = reply option 0x80000001 []

abbrev pub policy : ℕ → ReplyMessage
policy option = reply option 0x80000002 []

abbrev pub invalid : ℕ → ReplyMessage
invalid option = reply option 0x80000003 []

abbrev pub unknown : ℕ → ReplyMessage
unknown option = reply option 0x80000006 []

-- ---- LIST

-- SERVER: the length of a name, and the name
abbrev pub server : ExportFacts → ReplyMessage
server e = reply 3 2 (to_be_bytes w32 (length e.name) ++ e.name)

abbrev pub listing : List ExportFacts → List ReplyMessage
listing table = map server table ++ ack 3 ∷ []

-- ---- the data of INFO and GO: the length of a name, the name, a count, and that many types of information

abbrev pub name_length : List ℕ → ℕ
name_length content = from_be_bytes w32 (take 4 content)

abbrev pub type_count : List ℕ → ℕ
type_count content = from_be_bytes w16 (take 2 (drop (4 + name_length content) content))

-- and nothing else
abbrev pub is_shaped : List ℕ → Bool
is_shaped content = length content == 4 + name_length content + 2 + 2 * type_count content

abbrev pub name_in : List ℕ → List ℕ
name_in content = take (name_length content) (drop 4 content)

-- numbers of two bytes each
abbrev pub numbers_of : List ℕ → List ℕ
numbers_of [] = []
numbers_of (a ∷ []) = []
numbers_of (a ∷ b ∷ rest) = from_be_bytes w16 (a ∷ b ∷ []) ∷ numbers_of rest

abbrev pub is_asked : ℕ → List ℕ → Bool
is_asked kind types = list_any (λ t. t == kind) types

abbrev pub types_in : List ℕ → List ℕ
types_in content = numbers_of (drop (4 + name_length content + 2) content)

-- ---- the replies to INFO and GO

abbrev pub information : ℕ → ℕ → List ℕ → ReplyMessage
information option kind payload = reply option 3 (to_be_bytes w16 kind ++ payload)

abbrev pub export_information : ℕ → ExportFacts → ReplyMessage
export_information option e = information option 0 (to_be_bytes w64 e.size ++ to_be_bytes w16 e.flags)

abbrev pub name_information : ℕ → ExportFacts → ReplyMessage
name_information option e = information option 1 e.name

-- only where one is configured
abbrev pub description_information : ℕ → Option (List ℕ) → List ReplyMessage
description_information option None = []
description_information option (Some text) = information option 2 text ∷ []

-- the least block, the preferred one and the greatest, in bytes
abbrev pub block_information : ℕ → ReplyMessage
block_information option = information option 3 (to_be_bytes w32 1 ++ (to_be_bytes w32 4096 ++ to_be_bytes w32 33554432))

abbrev pub where_asked : Bool → List ReplyMessage → List ReplyMessage
where_asked asked replies = if asked then replies else []

-- EXPORT always and first, then NAME, DESCRIPTION and BLOCK_SIZE, each once and only if asked, and then ACK. Types
-- that are unknown are passed over.
abbrev pub told_of : ℕ → List ℕ → ExportFacts → List ReplyMessage
told_of option types e =
    export_information option e ∷ (where_asked (is_asked 1 types) (name_information option e ∷ [])
    ++ (where_asked (is_asked 2 types) (description_information option e.description)
    ++ (where_asked (is_asked 3 types) (block_information option ∷ [])
    ++ ack option ∷ [])))

abbrev pub told_at : ℕ → List ℕ → Option ExportFacts → List ReplyMessage
told_at option types None = unknown option ∷ []
told_at option types (Some e) = told_of option types e

-- ---- one option

-- an export by its place, where it is there
abbrev pub export_at : List ExportFacts → Option ℕ → Option ExportFacts
export_at table None = None
export_at table (Some n) = slice_get table n

abbrev pub informed : List ExportFacts → ClientOption → List ReplyMessage
informed table o =
    if is_shaped o.content
    then told_at o.number (types_in o.content) (export_at table (export_named table (name_in o.content)))
    else invalid o.number ∷ []

-- what is replied: to ABORT ACK, whatever its data; to LIST the list, but INVALID if it has data; to INFO and GO the
-- information; to EXPORT_NAME nothing; and to any other option UNSUP
abbrev pub replies_to : List ExportFacts → ClientOption → List ReplyMessage
replies_to table o =
    if o.number == 1 then []
    else if o.number == 2 then ack 2 ∷ []
    else if o.number == 3 then (if length o.content == 0 then listing table else invalid 3 ∷ [])
    else if o.number == 6 || o.number == 7 then informed table o
    else unsupported o.number ∷ []

abbrev pub by_name : Option ℕ → Next
by_name None = nexts.Close
by_name (Some n) = nexts.ByName n

abbrev pub gone_to : Option ℕ → Next
gone_to None = nexts.Again
gone_to (Some n) = nexts.Go n

-- what comes after: EXPORT_NAME chooses the export of that name or closes, ABORT ends, GO chooses the export that it
-- told of, and after any other option haggling goes on
abbrev pub next_after : List ExportFacts → ClientOption → Next
next_after table o =
    if o.number == 1 then by_name (export_named table o.content)
    else if o.number == 2 then nexts.Abort
    else if o.number == 7 then (if is_shaped o.content then gone_to (export_named table (name_in o.content)) else nexts.Again)
    else nexts.Again

-- the export that it names is there
abbrev pub IsWithin : List ExportFacts → Next → Type 0
IsWithin table (nexts.Go n) = n < length table
IsWithin table (nexts.ByName n) = n < length table
IsWithin table nexts.Again = Unit {0}
IsWithin table nexts.Abort = Unit {0}
IsWithin table nexts.Close = Unit {0}
