use Rattle.std.proofs.Common.{◌≡◌, take}
use Rattle.nbd_scripts.specs.Output.{digits_of}
use Rattle.nbd_scripts.proofs.conversation.digits_of.Given as goal

abbrev pub invariant-loop-byte : goal.invariant-loop-byte
invariant-loop-byte g l = l.digits.items ≡ digits_of (take l.byte-index l.body)
