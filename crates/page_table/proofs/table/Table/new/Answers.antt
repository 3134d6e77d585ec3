use Rattle.page_table.proofs.TableLemmas.{room_none, none_is}
use Rattle.page_table.proofs.table.Table.new.Goals as goal

pub invariant_of-result : goal.invariant_of-result
invariant_of-result g c = room_none c.new.result c.none.result c.new.ensures c.none.ensures.rows c.none.ensures.pages

pub returns : goal.returns
returns g c = λ k. none_is (record { chunks = c.new.result; holes = c.none.result.rows }) k (c.new.ensures k)
