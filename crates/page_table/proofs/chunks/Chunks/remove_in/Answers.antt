use Rattle.std.proofs.Common.{arith}
use Rattle.page_table.proofs.ChunksLemmas.{count_left}
use Rattle.page_table.proofs.chunks.Chunks.remove_in.Goals as goal

pub overflow_sub-result : goal.overflow_sub-result
overflow_sub-result g c =
    omega (arith, c.stored_in-before.ensures.count, c.stored_in.ensures.count, count_left c.args.self.now c.remove_part.new.self c.args.chunk c.args.first c.args.end c.remove_part.ensures.here)

pub returns-clause-count : goal.returns-clause-count
returns-clause-count g c =
    omega (arith, c.stored_in-before.ensures.count, c.stored_in.ensures.count, count_left c.args.self.now c.remove_part.new.self c.args.chunk c.args.first c.args.end c.remove_part.ensures.here)
