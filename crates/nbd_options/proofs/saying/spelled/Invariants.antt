use Rattle.std.proofs.Common.{◌≡◌, take}
use Rattle.nbd_options.specs.Haggled.{texts}
use Rattle.nbd_options.proofs.saying.spelled.Given as goal

abbrev pub invariant-loop-reply : goal.invariant-loop-reply
invariant-loop-reply g l = record {
  so_far : l.text.items ≡ texts (take l.reply-index l.replies);
}
