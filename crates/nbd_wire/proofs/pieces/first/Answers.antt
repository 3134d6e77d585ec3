use Rattle.nbd_wire.proofs.PieceLemmas.{first_behind, long_first}
use Rattle.nbd_wire.proofs.pieces.first.Goals as goal

pub returns-in-Err-TooLong : goal.returns-in-Err-TooLong
returns-in-Err-TooLong g c =
    let long = c.in-Err-TooLong.ensures.too_long cc in
    long_first c.args.bytes.now c.copy_from_slice.new.self long.0 c.copy_from_slice.ensures.after long.1 long.2 long.3

pub returns-in-Ok : goal.returns-in-Ok
returns-in-Ok g c = first_behind c.args.bytes.now c.copy_from_slice.new.self c.in-Ok.head c.behind_head.result c.copy_from_slice.ensures.after c.in-Ok.ensures.spelled.0 c.behind_head.ensures
