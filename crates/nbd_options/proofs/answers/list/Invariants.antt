use Rattle.std.proofs.Common.{◌≡◌, map, take}
use Rattle.nbd_options.specs.Replies.{server}
use Rattle.nbd_options.proofs.answers.list.Given as goal

abbrev pub invariant-loop-export : goal.invariant-loop-export
invariant-loop-export g l = record {
  so_far : l.replies.items ≡ map server (take l.export-index l.exports);
}
