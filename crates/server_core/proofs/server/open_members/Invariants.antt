use Rattle.std.proofs.Common.{◌≡◌, take, map}
use Rattle.std.specs.List.{All}
use Rattle.nbd_commands.specs.Terms.{terms_of}
use Rattle.server_core.specs.Kept.{AreShort}
use Rattle.server_core.specs.Members.{Standing, opening_standing}
use Rattle.server_core.proofs.server.open_members.Given as goal

abbrev pub invariant-loop-export : goal.invariant-loop-export
invariant-loop-export g l = record {
  members : l.members.items ≡ map (λ export. opening_standing l.inflight (terms_of export)) (take l.export-index l.exports);
  short : All (λ (member : Standing). AreShort member.part.rates) l.members.items;
}
