use Rattle.std.proofs.Common.{◌≡◌, ◌≤◌, length, map, take}
use Rattle.server_core.specs.Members.{told_tags}
use Rattle.server_core.proofs.member.Member.tags.Given as goal

-- the requests so far are told
abbrev pub invariant-loop-place : goal.invariant-loop-place
invariant-loop-place g l = record {
  told : l.told.items ≡ map told_tags (take l.place l.self.part.waiting);
  within : l.place ≤ length l.self.part.waiting;
}
