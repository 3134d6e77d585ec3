use Rattle.std.proofs.Common.{arith}
use Rattle.number_sets.proofs.BitsLemmas.{word_put}
use Rattle.number_sets.proofs.bits.put_some.Goals as goal

pub returns-clause-put : goal.returns-clause-put
returns-clause-put c =
    word_put c.args.words.now c.args.next c.word_of.result c.args.member c.if-next-ne0.false (omega (arith, c.requires.some, c.requires.within, c.if-end-next-lt64.false)) c.word_of.ensures
