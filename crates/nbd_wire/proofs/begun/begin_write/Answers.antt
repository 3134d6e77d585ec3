use Rattle.std.proofs.Common.{rules, ◌≡◌, ◌-◌, length, take, drop, subst, sym}
use Rattle.nbd_wire.specs.Grammar.{RequestMessage}
use Rattle.nbd_wire.specs.Pieces.{IsLong}
use Rattle.nbd_wire.proofs.BegunLemmas.{long_copied}
use Rattle.nbd_wire.proofs.begun.begin_write.Goals as goal

pub new-requires-2 : goal.new-requires-2
new-requires-2 g c =
    let bytes = c.args.bytes.now in
    let copied : c.append.new.self ≡ take (length bytes - 28) (drop 28 bytes) = search rules in
    (long_copied c.args.least bytes c.append.new.self c.in-Some.head copied c.in-Some.ensures.long.1).1

pub returns : goal.returns
returns g c =
    let bytes = c.args.bytes.now in
    let copied : c.append.new.self ≡ take (length bytes - 28) (drop 28 bytes) = search rules in
    subst (λ (m : RequestMessage). IsLong c.args.least bytes m) (sym c.new-2.ensures)
    (long_copied c.args.least bytes c.append.new.self c.in-Some.head copied c.in-Some.ensures.long.1)
