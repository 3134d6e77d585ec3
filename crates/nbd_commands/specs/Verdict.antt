-- Which requests an export refuses (NBD protocol, "Command types", "Command flags" and "Error values").
use Rattle.std.specs.Prelude.{ℕ, ◌+◌, Bool, not, ◌&&◌, ◌||◌, ◌==◌, nat_lt, if◌then◌else◌, Option, Some, None}
use Rattle.nbd_base.specs.Words.{when_some}
use Rattle.nbd_wire.specs.Grammar.{RequestMessage}
use Rattle.nbd_commands.specs.Terms.{Terms}
use Rattle.nbd_commands.specs.declared.judging.RequestRefusal.{RequestRefusal}
use Rattle.nbd_commands.specs.declared.judging.RequestRefusal.TheVariants.{UnknownType, UnknownFlag, ReadOnly, TooLong, InvalidRange, NoSpace}

-- the types of requests
abbrev pub is_read : RequestMessage → Bool
is_read m = m.head.kind == 0

abbrev pub is_write : RequestMessage → Bool
is_write m = m.head.kind == 1

abbrev pub is_flush : RequestMessage → Bool
is_flush m = m.head.kind == 3

abbrev pub is_trim : RequestMessage → Bool
is_trim m = m.head.kind == 4

abbrev pub is_cache : RequestMessage → Bool
is_cache m = m.head.kind == 5

abbrev pub is_write_zeroes : RequestMessage → Bool
is_write_zeroes m = m.head.kind == 6

-- no flag but FUA (1) is set, and for WRITE_ZEROES NO_HOLE (2)
abbrev pub has_known_flags : RequestMessage → Bool
has_known_flags m = nat_lt m.head.flags (if is_write_zeroes m then 4 else 2)

-- the range ends past the size, as whole numbers
abbrev pub is_past_end : ℕ → RequestMessage → Bool
is_past_end size m = nat_lt size (m.head.offset + m.head.length)

-- ---- why a request is refused, by an export of this size

abbrev pub is_unknown_type : RequestMessage → Bool
is_unknown_type m = not (is_read m || is_write m || is_flush m || is_trim m || is_cache m || is_write_zeroes m)

abbrev pub has_unknown_flag : RequestMessage → Bool
has_unknown_flag m = not (has_known_flags m)

abbrev pub is_change_of_read_only : Bool → RequestMessage → Bool
is_change_of_read_only read_only m = read_only && (is_write m || is_trim m || is_write_zeroes m)

abbrev pub is_too_long_read : RequestMessage → Bool
is_too_long_read m = is_read m && nat_lt 33554432 m.head.length

abbrev pub has_invalid_range : ℕ → RequestMessage → Bool
has_invalid_range size m = (is_read m || is_trim m || is_cache m) && is_past_end size m

abbrev pub has_no_space : ℕ → RequestMessage → Bool
has_no_space size m = (is_write m || is_write_zeroes m) && is_past_end size m

-- why a request is refused: the first case that fits
abbrev pub refusal_at : ℕ → Bool → RequestMessage → Option RequestRefusal
refusal_at size read_only m =
    if is_unknown_type m then Some UnknownType
    else (if has_unknown_flag m then Some UnknownFlag
    else (if is_change_of_read_only read_only m then Some ReadOnly
    else (if is_too_long_read m then Some TooLong
    else (if has_invalid_range size m then Some InvalidRange
    else (if has_no_space size m then Some NoSpace
    else None)))))

abbrev pub error_of : RequestRefusal → ℕ
error_of UnknownType = 22
error_of UnknownFlag = 22
error_of ReadOnly = 1
error_of TooLong = 22
error_of InvalidRange = 22
error_of NoSpace = 28

-- the error of a request, 0 for none
abbrev pub verdict_at : ℕ → Bool → RequestMessage → ℕ
verdict_at size read_only m = when_some (refusal_at size read_only m) error_of 0

abbrev pub verdict_of : Terms → RequestMessage → ℕ
verdict_of terms m = verdict_at terms.size terms.read_only m
