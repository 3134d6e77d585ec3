-- The P tags of one export fall: what it is with its tags.
use Rattle.std.proofs.Common.{◌≡◌, ℕ, Bool, false, cond, List, [], ◌∷◌, map, length, refl, sym, ◌∙◌, ap, subst}
use Rattle.std.specs.Prelude.{◌==◌, ℤ}
use Rattle.std.proofs.lemmas.List.{length-map}
use Rattle.nbd_base.specs.Range.{IsOptionInRange}
use Rattle.tag_clock.specs.declared.Tags.{Tags}
use Rattle.tag_clock.specs.Tags.{shifted}
use Rattle.tag_clock.specs.Clocks.{Share, lowered, share_shifted}
use Rattle.lone_export.specs.Alone.{Job}
use Rattle.server_table.specs.Parts.{Entry}
use Rattle.server_table.specs.Ways.{entry_shifted, part_shifted}
use Rattle.server_core.specs.Kept.{EntriesInRange, TagsInRange}
use Rattle.server_core.specs.Tagging.{AllTagsInRange}
use Rattle.server_core.specs.Members.{Kept, entries_of, part_of, standing_of, IsMember, shifted_standing}
use Rattle.server_core.proofs.Picking.{entries_length, tags_in_range}

entries_shifted : (d : ℤ) (jobs : List Job) (tags : List Tags) → entries_of jobs (map (shifted d) tags) ≡ map (entry_shifted d) (entries_of jobs tags)
entries_shifted d [] tags = refl
entries_shifted d (j ∷ js) [] = refl
entries_shifted d (j ∷ js) (t ∷ ts) = ap (λ l. record { number = j.number; session = j.session; request = j.request; tags = shifted d t } ∷ l) (entries_shifted d js ts)

some_waits : (m : Kept) → IsMember m → (length m.waiting == 0) ≡ false → (length (part_of m).waiting == 0) ≡ false
some_waits m h some = ap (λ n. n == 0) (entries_length m.whole.state.waiting m.waiting h.tagged ∙ sym h.tagged) ∙ some

pub shifts : (m : Kept) (d : ℤ) (waiting : List Tags) (share : Share) (room : ℕ) → IsMember m → (length m.waiting == 0) ≡ false → waiting ≡ map (shifted d) m.waiting → share ≡ share_shifted d m.share → standing_of (record { whole = m.whole; journal = m.journal; room = m.room; share = share; waiting = waiting; waiting_room = room; out = m.out; out_room = m.out_room }) ≡ shifted_standing d (standing_of m)
shifts m d waiting share room h some a b =
    ap (λ (l : List Tags). standing_of (record m { share = share; waiting = l; waiting_room = room })) a
    ∙ ap (λ (x : Share). standing_of (record m { share = x; waiting = map (shifted d) m.waiting; waiting_room = room })) b
    ∙ ap (λ (l : List Entry). record (standing_of m) { part = record (part_of m) { waiting = l; last_p = lowered d m.share.last_p } }) (entries_shifted d m.whole.state.waiting m.waiting)
    ∙ ap (λ (c : Bool). record (standing_of m) { part = record (part_of m) { waiting = map (entry_shifted d) (part_of m).waiting; last_p = cond c m.share.last_p (lowered d m.share.last_p) } }) (sym (some_waits m h some))

pub shift_in_range : (m : Kept) (d : ℤ) → IsMember m → TagsInRange (part_shifted d (part_of m)) → AllTagsInRange (map (shifted d) m.waiting)
shift_in_range m d h range =
    tags_in_range m.whole.state.waiting (map (shifted d) m.waiting) (length-map m.waiting (shifted d) ∙ h.tagged)
    (subst EntriesInRange (sym (entries_shifted d m.whole.state.waiting m.waiting)) range.waiting)

pub last_in_range : (m : Kept) (d : ℤ) → IsMember m → (length m.waiting == 0) ≡ false → TagsInRange (part_shifted d (part_of m)) → IsOptionInRange (lowered d m.share.last_p)
last_in_range m d h some range = subst (λ (c : Bool). IsOptionInRange (cond c m.share.last_p (lowered d m.share.last_p))) (some_waits m h some) range.last_p
