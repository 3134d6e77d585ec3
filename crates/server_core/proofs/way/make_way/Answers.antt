use Rattle.std.proofs.Common.{List, sym, ◌∙◌, ap, subst, rules}
use Rattle.std.specs.Prelude.{pos}
use Rattle.std.proofs.lemmas.List.{with_items_is}
use Rattle.server_core.specs.Members.{Standing}
use Rattle.server_table.specs.Order.{AllParts, heads}
use Rattle.server_table.specs.Ways.{least_first_p, parts_for}
use Rattle.server_core.specs.Kept.{TagsInRange}
use Rattle.server_core.specs.Served.{parts}
use Rattle.server_core.specs.Way.{lowered_to, IsFallInRange}
use Rattle.server_core.proofs.Ways.{busy_way, idle_way, idle_parts}
use Rattle.server_core.proofs.way.make_way.Goals as goal

pub returns-then-waiting-ne0-clause-members : goal.returns-then-waiting-ne0-clause-members
returns-then-waiting-ne0-clause-members g c = sym (busy_way c.args.waiting (pos c.args.at) c.args.members.now.items c.if-waiting-ne0.true)

pub clear_way-requires-clause-slots : goal.clear_way-requires-clause-slots
clear_way-requires-clause-slots g c = c.requires.slots ∙ ap (λ (l : List Standing). heads (parts l)) (sym c.deref_mut.ensures.value)

pub clear_way-requires-clause-falls : goal.clear_way-requires-clause-falls
clear_way-requires-clause-falls g c = subst (λ (l : List Standing). IsFallInRange (least_first_p (parts l)) (pos c.args.at)) (sym c.deref_mut.ensures.value) c.requires.falls

pub clear_way-requires-clause-before : goal.clear_way-requires-clause-before
clear_way-requires-clause-before g c = subst (λ (l : List Standing). AllParts TagsInRange (parts l)) (sym c.deref_mut.ensures.value) c.requires.before

pub clear_way-requires-clause-after : goal.clear_way-requires-clause-after
clear_way-requires-clause-after g c =
    subst (λ (l : List Standing). AllParts TagsInRange (parts_for (least_first_p (parts l)) (pos c.args.at) (parts l))) (sym c.deref_mut.ensures.value)
    (subst (AllParts TagsInRange) (idle_parts c.args.waiting (pos c.args.at) (parts c.args.members.now.items) c.if-waiting-ne0.false) c.requires.after)

pub returns-clause-members : goal.returns-clause-members
returns-clause-members g c =
    with_items_is c.args.members.now c.clear_way.new.members (search rules)
    ∙ c.clear_way.ensures.members
    ∙ ap (λ (l : List Standing). lowered_to (least_first_p (parts l)) (pos c.args.at) l) c.deref_mut.ensures.value
    ∙ sym (idle_way c.args.waiting (pos c.args.at) c.args.members.now.items c.if-waiting-ne0.false)

pub returns-clause-slots : goal.returns-clause-slots
returns-clause-slots g c =
    c.clear_way.ensures.slots ∙ ap (λ (l : List Standing). heads (parts l)) (sym (with_items_is c.args.members.now c.clear_way.new.members (search rules)))
