-- How heads, requests, replies and options are spelled (NBD protocol, "Values" and "Message format"). Numbers are
-- big-endian. A value has one spelling. No spelling of a head, a request, an option or a reply to an option begins another
-- of its kind; where a simple reply's data ends, the length of its READ says.
use Rattle.std.specs.Prelude.{◌≡◌, ◌≢◌, ℕ, ◌<◌, ◌≤◌, ◌^◌, ◌⊎◌, List, [], ◌++◌, length, take}
use Rattle.std.specs.Int.{w16, w32, w64, to_be_bytes}
use Rattle.nbd_wire.specs.declared.requests.RequestHead.{RequestHead}

-- NBD_REQUEST_MAGIC
abbrev pub request_magic : List ℕ
request_magic = to_be_bytes w32 0x25609513

-- IHAVEOPT
abbrev pub option_magic : List ℕ
option_magic = to_be_bytes w64 0x49484156454f5054

-- the head of a request: 28 bytes
unfoldable pub head_text : RequestHead → List ℕ
head_text h = request_magic ++ (to_be_bytes w16 h.flags ++ (to_be_bytes w16 h.kind ++ (to_be_bytes w64 h.cookie ++ (to_be_bytes w64 h.offset ++ to_be_bytes w32 h.length))))

-- each field fits its place
pub record IsHead (h : RequestHead) : Type 0 where
  pub flags : h.flags < 2 ^ 16
  pub kind : h.kind < 2 ^ 16
  pub cookie : h.cookie < 2 ^ 64
  pub offset : h.offset < 2 ^ 64
  pub count : h.length < 2 ^ 32

-- a WRITE of more than 32 MiB
pub record IsTooLong (h : RequestHead) : Type 0 where
  pub write : h.kind ≡ 1
  pub long : 33554432 < h.length

-- a request: its head, and what a WRITE brings
pub record RequestMessage : Type 0 where
  pub head : RequestHead
  pub payload : List ℕ

abbrev pub request_text : RequestMessage → List ℕ
request_text m = head_text m.head ++ m.payload

-- a WRITE has a payload of the length that its head says, 32 MiB at most; any other request has none
pub record IsRequest (m : RequestMessage) : Type 0 where
  pub fits : IsHead m.head
  pub write : m.head.kind ≡ 1 → length m.payload ≡ m.head.length
  pub short : IsTooLong m.head → ⊥
  pub other : m.head.kind ≢ 1 → m.payload ≡ []

-- a simple reply: an error, 0 for none, the cookie of its request, and what a READ without error brings
pub record ReplyMessage : Type 0 where
  pub error : ℕ
  pub cookie : ℕ
  pub content : List ℕ

-- each field fits its place
pub record IsReply (r : ReplyMessage) : Type 0 where
  pub error : r.error < 2 ^ 32
  pub cookie : r.cookie < 2 ^ 64

-- the head of a simple reply: 16 bytes
unfoldable pub reply_head_text : ℕ → ℕ → List ℕ
reply_head_text error cookie = to_be_bytes w32 0x67446698 ++ (to_be_bytes w32 error ++ to_be_bytes w64 cookie)

abbrev pub reply_text : ReplyMessage → List ℕ
reply_text r = reply_head_text r.error r.cookie ++ r.content

-- the head of an option: 16 bytes
unfoldable pub option_head_text : ℕ → ℕ → List ℕ
option_head_text number count = option_magic ++ (to_be_bytes w32 number ++ to_be_bytes w32 count)

-- an option of the client: its number and its data
abbrev pub option_text : ℕ → List ℕ → List ℕ
option_text number content = option_head_text number (length content) ++ content

-- its number and its length fit their places
pub record IsOption (o : ℕ) (content : List ℕ) : Type 0 where
  pub option : o < 2 ^ 32
  pub count : length content < 2 ^ 32

-- a reply of the server to an option
unfoldable pub option_reply_head_text : ℕ → ℕ → ℕ → List ℕ
option_reply_head_text option kind count = to_be_bytes w64 0x0003e889045565a9 ++ (to_be_bytes w32 option ++ (to_be_bytes w32 kind ++ to_be_bytes w32 count))

abbrev pub option_reply_text : ℕ → ℕ → List ℕ → List ℕ
option_reply_text option kind content = option_reply_head_text option kind (length content) ++ content

-- each number fits its place
pub record IsOptionReply (o k : ℕ) (content : List ℕ) : Type 0 where
  pub option : o < 2 ^ 32
  pub kind : k < 2 ^ 32
  pub count : length content < 2 ^ 32

-- ---- what stands at a request's place, where no whole request stands there

-- the head and a part of the payload of a WRITE
abbrev pub IsPartOfWrite : List ℕ → Type 0
IsPartOfWrite bytes = (h : RequestHead) × (part : List ℕ) × (bytes ≡ head_text h ++ part) × IsHead h × (IsTooLong h → ⊥) × (h.kind ≡ 1) × (length part < h.length)

-- no whole request and no refused head begins them
abbrev pub IsUnfinished : List ℕ → Type 0
IsUnfinished bytes = (length bytes < 28) ⊎ IsPartOfWrite bytes

-- another magic begins them
abbrev pub BeginsOther : List ℕ → Type 0
BeginsOther bytes = (28 ≤ length bytes) × (take 4 bytes ≢ request_magic)

-- the head of a WRITE that is too long begins them
abbrev pub BeginsTooLong : List ℕ → Type 0
BeginsTooLong bytes = (h : RequestHead) × (more : List ℕ) × (bytes ≡ head_text h ++ more) × IsHead h × IsTooLong h

-- a whole request begins them
abbrev pub BeginsWhole : List ℕ → Type 0
BeginsWhole bytes = (m : RequestMessage) × (more : List ℕ) × (bytes ≡ request_text m ++ more) × IsRequest m
