use Rattle.std.proofs.Common.{rules, ◌≡◌, Some, sym, codes}
use Rattle.toml.specs.Data.{as_array, get_member}
use Rattle.toml.specs.View.{view, table_view, array_view}
use Rattle.nbd_config.proofs.EntryLemmas.{listed}
use Rattle.nbd_config.proofs.entries.exports_at.Goals as goal

pub returns-in-Some-as_array : goal.returns-in-Some-as_array
returns-in-Some-as_array c =
    let found : get_member (codes "export") (table_view c.args.table.now) ≡ Some (view c.in-Some.value.now) = search rules in
    let array : as_array (view c.in-Some.value.now) ≡ Some (array_view c.in-Some-as_array.values.now) = search rules in
    let whole : c.as_slice.result.now ≡ c.in-Some-as_array.values.now.items = search rules in
    rw (found, array, whole) (sym (listed c.in-Some-as_array.values.now.items))
