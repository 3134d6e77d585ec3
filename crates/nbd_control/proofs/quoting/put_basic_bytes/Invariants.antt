use Rattle.std.proofs.Common.{◌≡◌, ◌++◌, drop}
use Rattle.std.specs.List.{flat_map}
use Rattle.nbd_control.specs.Quoting.{basic_byte}
use Rattle.nbd_control.proofs.quoting.put_basic_bytes.Given as goal

-- what is put so far and what is left are the whole
abbrev pub invariant-loop-byte : goal.invariant-loop-byte
invariant-loop-byte g l = l.text.items ++ flat_map basic_byte (drop l.byte-index l.bytes) ≡ l.fn.text.items ++ flat_map basic_byte l.bytes
