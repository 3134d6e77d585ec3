use Rattle.std.proofs.Common.{rules, tests, not, ◌==◌, length, ℕ, List}
use Rattle.std.proofs.lemmas.Iterator.Consumers.{YieldsList-at, YieldsList-from_filter, map_from_collect}
use Rattle.std.proofs.lemmas.Iterator.Splits.{YieldsList-from_slice_split}
use Rattle.nbd_text.specs.Fields.{is_space}
use Rattle.nbd_text.proofs.fields.fields_of.Goals as goal

pub returns : goal.returns
returns g c =
    map_from_collect _ c.collect.ensures.ran
    (YieldsList-from_filter _ (λ (field : List ℕ). not (length field == 0))
    (YieldsList-at c.filter.ensures.source (YieldsList-from_slice_split _ is_space c.args.line.now c.split.ensures.rest c.split.ensures.done c.split.ensures.closure (λ x r q k. search (rules, tests))))
    c.filter.ensures.closure (λ x r q k. search (rules, tests)))
