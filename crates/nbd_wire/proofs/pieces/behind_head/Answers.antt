use Rattle.std.proofs.Common.{◌++◌, subst, sym, Some, Ok}
use Rattle.nbd_wire.specs.Grammar.{head_text, RequestMessage}
use Rattle.nbd_wire.specs.Pieces.{IsFirst}
use Rattle.nbd_wire.proofs.PieceLemmas.{plain_first, write_first}
use Rattle.nbd_wire.proofs.pieces.behind_head.Goals as goal

pub returns-then-head-ne-WRITE : goal.returns-then-head-ne-WRITE
returns-then-head-ne-WRITE g c =
    subst (λ (q : RequestMessage). IsFirst (head_text c.args.head ++ c.args.rest.now) (Ok (Some q))) (sym c.of_bytes.ensures)
    (plain_first c.args.head c.args.rest.now c.new.result c.requires.fits c.requires.short c.if-head-ne-WRITE.true c.new.ensures)

pub returns-in-Ok : goal.returns-in-Ok
returns-in-Ok g c =
    subst (λ (q : RequestMessage). IsFirst (head_text c.args.head ++ c.args.rest.now) (Ok (Some q))) (sym c.new-in-Ok.ensures)
    (write_first c.args.head c.args.rest.now c.in-Ok.payload c.requires.fits c.requires.short c.if-head-ne-WRITE.false c.if-rest-count.false c.in-Ok.ensures)
