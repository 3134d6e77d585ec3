use Rattle.std.proofs.Common.{arith}
use Rattle.nbd_wire.proofs.HeadLemmas.{option_head_spelled}
use Rattle.nbd_wire.proofs.options.read_option_head.Goals as goal

pub returns-clause-spelled : goal.returns-clause-spelled
returns-clause-spelled c =
    (option_head_spelled c.args.bytes.now c.u64_at.result c.u32_at.result c.u32_at-2.result (omega arith) (λ i. omega (arith, c.fits-bytes i)) c.u64_at.ensures c.if-u64_at-ne-OPTION_MAGIC.false c.u32_at.ensures c.u32_at-2.ensures, omega arith, omega arith)
