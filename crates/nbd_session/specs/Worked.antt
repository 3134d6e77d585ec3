-- Conversations worked out by hand, byte for byte: what a client of one export of 4,096 bytes called `a` sends, and what it is
-- told.
use Rattle.std.specs.Prelude.{ℕ, zero, suc, ◌/◌, ◌%◌, List, [], ◌∷◌, ◌++◌, replicate}
use Rattle.nbd_commands.specs.Exports.{Export, plain_export}

abbrev pub one_export : List Export
one_export = plain_export (97 ∷ []) 4096 ∷ []

-- this many bytes, written as one number
abbrev pub octets : ℕ → ℕ → List ℕ
octets zero n = []
octets (suc count) n = octets count (n / 256) ++ (n % 256) ∷ []

-- ---- pieces

-- NBDMAGIC, IHAVEOPT and the server's flags
abbrev pub greeting : List ℕ
greeting = octets 18 0x4e42444d4147494349484156454f50540003

-- the client's flags, C_FIXED_NEWSTYLE and C_NO_ZEROES, and EXPORT_NAME of `a`
abbrev pub enters : List ℕ
enters = octets 21 0x0000000349484156454f5054000000010000000161

-- the size of `a`, and its transmission flags
abbrev pub entered : List ℕ
entered = octets 10 0x0000000000001000056d

-- a WRITE of de ad be ef to the last four bytes
abbrev pub write_of_the_end : List ℕ
write_of_the_end = octets 32 0x256095130000000100000000000000010000000000000ffc00000004deadbeef

-- the reply to the first request, done
abbrev pub first_done : List ℕ
first_done = octets 16 0x67446698000000000000000000000001

-- ---- conversations

-- a write, a read of the same bytes, and DISC
abbrev pub written_bytes : List ℕ
written_bytes =
    enters
    ++ write_of_the_end
    ++ octets 28 0x256095130000000000000000000000020000000000000ffc00000004
    ++ octets 28 0x25609513000000020000000000000003000000000000000000000000

abbrev pub written_text : List ℕ
written_text = greeting ++ entered ++ first_done ++ octets 20 0x67446698000000000000000000000002deadbeef

-- an export and nothing more
abbrev pub chosen_bytes : List ℕ
chosen_bytes = enters

abbrev pub chosen_text : List ℕ
chosen_text = greeting ++ entered

-- the same with zeros behind the answer
abbrev pub zeros_bytes : List ℕ
zeros_bytes = octets 21 0x0000000149484156454f5054000000010000000161

abbrev pub zeros_text : List ℕ
zeros_text = greeting ++ entered ++ replicate 124 0

-- an unknown flag
abbrev pub unknown_flag_bytes : List ℕ
unknown_flag_bytes = octets 21 0x0000000449484156454f5054000000010000000161

abbrev pub unknown_flag_text : List ℕ
unknown_flag_text = greeting

-- no input
abbrev pub silent_bytes : List ℕ
silent_bytes = []

abbrev pub silent_text : List ℕ
silent_text = greeting

-- an export that isn't there
abbrev pub unnamed_bytes : List ℕ
unnamed_bytes = octets 22 0x0000000349484156454f505400000001000000027a7a

abbrev pub unnamed_text : List ℕ
unnamed_text = greeting

-- a write, and behind it a write and a read past the end
abbrev pub past_end_bytes : List ℕ
past_end_bytes =
    enters
    ++ write_of_the_end
    ++ octets 33 0x256095130000000100000000000000020000000000000ffc000000050102030405
    ++ octets 28 0x256095130000000000000000000000030000000000000ffc00000005
    ++ octets 28 0x256095130000000000000000000000040000000000000ffc00000004

abbrev pub past_end_text : List ℕ
past_end_text =
    greeting
    ++ entered
    ++ first_done
    ++ octets 16 0x674466980000001c0000000000000002
    ++ octets 16 0x67446698000000160000000000000003
    ++ octets 20 0x67446698000000000000000000000004deadbeef

-- a head that is cut
abbrev pub cut_head_bytes : List ℕ
cut_head_bytes = enters ++ octets 27 0x256095130000000000000000000000010000000000000000000000

abbrev pub cut_head_text : List ℕ
cut_head_text = greeting ++ entered

-- a payload that is cut
abbrev pub cut_payload_bytes : List ℕ
cut_payload_bytes = enters ++ octets 30 0x25609513000000010000000000000001000000000000000000000004dead

abbrev pub cut_payload_text : List ℕ
cut_payload_text = greeting ++ entered

-- another magic behind a read
abbrev pub other_magic_bytes : List ℕ
other_magic_bytes =
    enters
    ++ octets 28 0x25609513000000000000000000000001000000000000000000000001
    ++ octets 28 0x25609514000000000000000000000000000000000000000000000000

abbrev pub other_magic_text : List ℕ
other_magic_text = greeting ++ entered ++ first_done ++ octets 1 0x00

-- a write that is too long
abbrev pub too_long_bytes : List ℕ
too_long_bytes = enters ++ octets 28 0x25609513000000010000000000000001000000000000000002000001

abbrev pub too_long_text : List ℕ
too_long_text = greeting ++ entered
