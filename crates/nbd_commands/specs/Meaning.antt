-- What a request that isn't refused means for the bytes of an export.
use Rattle.std.specs.Prelude.{ℕ, ◌/◌, ◌%◌, Bool, ◌&&◌, ◌||◌, ◌==◌, if◌then◌else◌, List, [], replicate}
use Rattle.payload.specs.Bytes.{range_of, overwritten}
use Rattle.nbd_wire.specs.Grammar.{RequestMessage}
use Rattle.nbd_commands.specs.Verdict.{is_read, is_write, is_trim, is_write_zeroes}

-- the bytes after it
abbrev pub image_after : List ℕ → RequestMessage → List ℕ
image_after image m =
    if is_write m then overwritten image m.head.offset m.head.length m.payload
    else (if is_trim m || is_write_zeroes m then overwritten image m.head.offset m.head.length (replicate m.head.length 0)
    else image)

-- the data of its reply
abbrev pub data_of : List ℕ → RequestMessage → List ℕ
data_of image m = if is_read m then range_of image m.head.offset m.head.length else []

abbrev pub has_no_hole : RequestMessage → Bool
has_no_hole m = m.head.flags / 2 % 2 == 1

-- the requests that may want memory when they are performed
abbrev pub may_want_memory : RequestMessage → Bool
may_want_memory m = is_read m || is_write m || (is_write_zeroes m && has_no_hole m)
