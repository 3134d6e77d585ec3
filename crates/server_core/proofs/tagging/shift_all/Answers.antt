use Rattle.std.proofs.Common.{sym, subst, map, List}
use Rattle.std.proofs.lemmas.Int.{to_z-of_z}
use Rattle.tag_clock.specs.declared.Tags.{Tags}
use Rattle.tag_clock.specs.Tags.{shifted}
use Rattle.server_core.specs.Tagging.{AllTagsInRange}
use Rattle.server_core.proofs.tagging.shift_all.Goals as goal

pub shift_each-requires : goal.shift_each-requires
shift_each-requires g c =
    let fits = c.ranges.delta in
    rw to_z-of_z (subst (λ (l : List Tags). AllTagsInRange (map (shifted c.args.delta) l)) (sym c.make_contiguous.ensures.value) c.requires)
