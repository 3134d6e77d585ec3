use Rattle.std.proofs.Common.{sym, ◌∙◌, ap, subst, map}
use Rattle.std.specs.Prelude.{pos}
use Rattle.nbd_base.specs.Range.{InRange}
use Rattle.server_table.specs.Order.{AllParts}
use Rattle.server_table.specs.Ways.{parts_for}
use Rattle.server_core.specs.Kept.{TagsInRange}
use Rattle.server_core.specs.Members.{shifted_standing}
use Rattle.server_core.specs.Served.{parts}
use Rattle.server_core.specs.Way.{lowered_to, IsFallInRange}
use Rattle.server_core.proofs.Ways.{least_in_range, delta_is, delta_fits}
use Rattle.server_core.proofs.way.clear_way.Goals as goal

pub overflow_sub-least : goal.overflow_sub-least
overflow_sub-least g c =
    let m : InRange c.in-Some.least = least_in_range (parts c.args.members.now) c.in-Some.least c.in-Some.field-0-1 c.requires.before (sym c.least_first.ensures ∙ c.in-Some.is) in
    delta_fits c.in-Some.least c.tag.result c.args.at m c.tag.ensures.value c.tag.ensures.below

pub fall-requires-clause-delta : goal.fall-requires-clause-delta
fall-requires-clause-delta g c =
    let found = sym c.least_first.ensures ∙ c.in-Some.is in
    let m : InRange c.in-Some.least = least_in_range (parts c.args.members.now) c.in-Some.least c.in-Some.field-0-1 c.requires.before found in
    rw (delta_is c.in-Some.least c.tag.result c.args.at m c.tag.ensures.value c.tag.ensures.below) (subst (λ o. IsFallInRange o (pos c.args.at)) found c.requires.falls)

pub fall-requires-clause-after : goal.fall-requires-clause-after
fall-requires-clause-after g c =
    let found = sym c.least_first.ensures ∙ c.in-Some.is in
    let m : InRange c.in-Some.least = least_in_range (parts c.args.members.now) c.in-Some.least c.in-Some.field-0-1 c.requires.before found in
    rw (delta_is c.in-Some.least c.tag.result c.args.at m c.tag.ensures.value c.tag.ensures.below) (subst (λ o. AllParts TagsInRange (parts_for o (pos c.args.at) (parts c.args.members.now))) found c.requires.after)

pub returns-in-Some-clause-members : goal.returns-in-Some-clause-members
returns-in-Some-clause-members g c =
    let found = sym c.least_first.ensures ∙ c.in-Some.is in
    let m : InRange c.in-Some.least = least_in_range (parts c.args.members.now) c.in-Some.least c.in-Some.field-0-1 c.requires.before found in
    c.fall.ensures.members
    ∙ ap (λ d. map (shifted_standing d) c.args.members.now) (delta_is c.in-Some.least c.tag.result c.args.at m c.tag.ensures.value c.tag.ensures.below)
    ∙ ap (λ o. lowered_to o (pos c.args.at) c.args.members.now) (sym found)
