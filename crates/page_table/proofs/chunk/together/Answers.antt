use Rattle.std.proofs.Common.{◌≡◌, Some, None, set, replicate, sym}
use Rattle.page_table.proofs.ChunkLemmas.{none_at, one_other, two}
use Rattle.page_table.proofs.chunk.together.Goals as goal

pub add-requires-clause-none : goal.add-requires-clause-none
add-requires-clause-none g c = none_at c.new-pages.result 256 c.new-pages.ensures c.args.place

pub add-requires-2-clause-none : goal.add-requires-2-clause-none
add-requires-2-clause-none g c =
    let one : c.add.new.self ≡ set (replicate 256 None) c.args.place (Some c.args.page) = cc (c.in-Ok.ensures.added) in
    one_other c.add.new.self 256 c.args.place c.args.page one c.args.first.0 (λ is. c.requires.apart (sym is))

pub returns-in-Ok-add-clause-made : goal.returns-in-Ok-add-clause-made
returns-in-Ok-add-clause-made g c =
    let one : c.add.new.self ≡ set (replicate 256 None) c.args.place (Some c.args.page) = cc (c.in-Ok.ensures.added) in
    two c.add.new.self 256 c.args.place c.args.page one c.add-2.new.self c.args.first.0 c.args.first.1 c.in-Ok-add.ensures.added c.requires.apart
