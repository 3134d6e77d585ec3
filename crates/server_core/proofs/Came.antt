-- What is kept when a request is accepted.
use Rattle.std.proofs.Common.{◌≡◌, ℕ, ◌+◌, ◌-◌, ◌*◌, ◌^◌, ◌<◌, ℤ, ◌≤ℤ◌, Option, Some, None, List, [], ◌∷◌, ◌++◌, length, sym, subst, arith}
use Rattle.std.specs.Prelude.{option_map}
use Rattle.std.proofs.lemmas.Int.{ints, clamps}
use Rattle.std.proofs.lemmas.List.{append_assoc, length-append}
use Rattle.nbd_wire.specs.Grammar.{RequestMessage}
use Rattle.tag_clock.specs.declared.Tags.{Tags}
use Rattle.tag_clock.specs.Tags.{later}
use Rattle.server_table.specs.Parts.{Entry, Part}
use Rattle.server_table.specs.Order.{TagBefore, Before, BeforeAll, IsRising, IsNumbered}
use Rattle.server_table.specs.Ways.{part_tags, accepted_part}
use Rattle.server_core.specs.Kept.{AllEntries, BelowLast, IsOptionWithin, TagsWithin, SameKind, LastKind, IsOptionShort, IsPart, picked}
use Rattle.server_core.proofs.Entries.{all_to, all_both, all_push, numbered_push}
use Rattle.server_core.proofs.Bounds.{next_within, own_within}

before_push : (a : Tags) (entries : List Entry) (x : Entry) → BeforeAll a entries → Before a x.tags → BeforeAll a (entries ++ x ∷ [])
before_push a [] x h one = (one, tt)
before_push a (e ∷ es) x h one = (h.0, before_push a es x h.1 one)

rising_push : (entries : List Entry) (x : Entry) → IsRising entries → AllEntries (λ e. Before e.tags x.tags) entries → IsRising (entries ++ x ∷ [])
rising_push [] x h all = (tt, tt)
rising_push (e ∷ es) x h all = (before_push e.tags es x h.0 all.0, rising_push es x h.1 all.1)

-- the tags of an arrival aren't below the last ones
abbrev pub r_of : Option ℤ → Option ℕ → ℕ → Option ℤ
r_of last interval t = option_map (λ i. later last i t) interval

above : (tag : ℤ) (last : Option ℤ) (interval t : ℕ) → TagBefore (Some tag) last → tag ≤ℤ later last interval t
above tag None interval t h = absurd h
above tag (Some last) interval t h = omega (arith, ints, clamps)

above_r : (tag last : Option ℤ) (interval : Option ℕ) (t : ℕ) → SameKind interval tag → TagBefore tag last → TagBefore tag (r_of last interval t)
above_r None None None t k h = tt
above_r None (Some last) None t k h = absurd h
above_r (Some tag) last None t k h = absurd k
above_r None last (Some interval) t k h = absurd k
above_r (Some tag) last (Some interval) t k h = above tag last interval t h

above_all : (p : Part) (t : ℕ) (entries : List Entry) → AllEntries (λ e. SameKind p.rates.r_interval e.tags.r) entries → AllEntries (BelowLast p) entries → AllEntries (λ e. Before e.tags (part_tags p t)) entries
above_all p t [] k b = tt
above_all p t (e ∷ es) k b = (record { r = above_r e.tags.r p.last_r p.rates.r_interval t k.0 b.0.r; l = above e.tags.l p.last_l p.rates.l_interval t b.0.l; p = above e.tags.p p.last_p p.rates.p_interval t b.0.p }, above_all p t es k.1 b.1)

same : (z : ℤ) → TagBefore (Some z) (Some z)
same z = omega (arith, ints)

same_option : (o : Option ℤ) → TagBefore o o
same_option None = tt
same_option (Some z) = same z

new_kind : (last : Option ℤ) (interval : Option ℕ) (t : ℕ) → SameKind interval (r_of last interval t)
new_kind last None t = tt
new_kind last (Some interval) t = tt

new_last_kind : (last : Option ℤ) (interval : Option ℕ) (t : ℕ) → LastKind interval (r_of last interval t)
new_last_kind last None t = tt
new_last_kind last (Some interval) t = tt

more_within : (k n : ℕ) (tag : Option ℤ) → IsOptionWithin (k * 2 ^ 30) (2 ^ 62 + n * 2 ^ 30) tag → IsOptionWithin (k * 2 ^ 30) (2 ^ 62 + (n + 1) * 2 ^ 30) tag
more_within k n None h = tt
more_within k n (Some tag) h = record { not_below = h.not_below; not_above = let a = h.not_above in omega (arith, ints) }

more_tags : (total n k : ℕ) (tags : Tags) → TagsWithin total n k tags → TagsWithin (total + 1) (n + 1) k tags
more_tags total n k tags h = record {
  r = more_within k n tags.r h.r;
  l = record { not_below = h.l.not_below; not_above = let a = h.l.not_above in omega (arith, ints) };
  p = record { not_below = h.p.not_below; not_above = let a = h.p.not_above in omega (arith, ints) };
}

r_within : (k n t : ℕ) (last : Option ℤ) (interval : Option ℕ) → IsOptionWithin (k * 2 ^ 30) (2 ^ 62 + n * 2 ^ 30) last → IsOptionShort interval → t < 2 ^ 62 → IsOptionWithin (k * 2 ^ 30) (2 ^ 62 + (n + 1) * 2 ^ 30) (r_of last interval t)
r_within k n t last None h g lt = tt
r_within k n t last (Some interval) h g lt = own_within k n interval t last h g lt

-- an accepted request keeps what a part keeps, with one more request accepted in all
pub part_accepted_kept : (total s t : ℕ) (q : RequestMessage) (p : Part) → IsPart total p → p.next < 2 ^ 56 → t < 2 ^ 62 → IsPart (total + 1) (accepted_part s q (part_tags p t) p)
part_accepted_kept total s t q p h room lt =
    let tags = part_tags p t in
    let x : Entry = record { number = p.next; session = s; request = q; tags = tags } in
    let k = picked p in
    let n : length (p.waiting ++ x ∷ []) ≡ length p.waiting + 1 = length-append p.waiting (x ∷ []) in
    let some = h.waiting in
    let picks : (p.next + 1) - length (p.waiting ++ x ∷ []) ≡ k = omega arith in
    let new : TagsWithin (total + 1) (p.next + 1) k tags = record { r = r_within k p.next t p.last_r p.rates.r_interval h.last_r h.rates.reservation lt; l = own_within 0 p.next p.rates.l_interval t p.last_l h.last_l h.rates.limit lt; p = next_within total p.rates.p_interval t p.last_p h.last_p h.rates.weight lt } in
    let joined = append_assoc p.out p.waiting (x ∷ []) in
    let after = accepted_part s q tags p in
    let below_old : (e : Entry) → SameKind p.rates.r_interval e.tags.r × BelowLast p e → BelowLast after e = λ e kb. record { r = above_r e.tags.r p.last_r p.rates.r_interval t kb.0 kb.1.r; l = above e.tags.l p.last_l p.rates.l_interval t kb.1.l; p = above e.tags.p p.last_p p.rates.p_interval t kb.1.p } in
    record {
      rates = h.rates;
      accepted = omega arith;
      counted = let c = h.counted in omega arith;
      waiting = omega arith;
      rising = rising_push p.waiting x h.rising (above_all p t p.waiting h.kinds h.below);
      numbered = subst IsNumbered joined (numbered_push (p.out ++ p.waiting) x h.numbered h.numbers);
      numbers = subst (AllEntries (λ e. e.number < p.next + 1)) joined (all_push (λ e. e.number < p.next) (λ e. e.number < p.next + 1) (λ e lt. omega arith) (p.out ++ p.waiting) x h.numbers (omega arith));
      below = all_push (λ e. SameKind p.rates.r_interval e.tags.r × BelowLast p e) (BelowLast after) below_old p.waiting x (all_both (λ e. SameKind p.rates.r_interval e.tags.r) (BelowLast p) p.waiting h.kinds h.below) (record { r = same_option tags.r; l = same tags.l; p = same tags.p });
      kinds = all_push (λ e. SameKind p.rates.r_interval e.tags.r) (λ e. SameKind p.rates.r_interval e.tags.r) (λ e k. k) p.waiting x h.kinds (new_kind p.last_r p.rates.r_interval t);
      last_kind = new_last_kind p.last_r p.rates.r_interval t;
      tags = subst (λ j. AllEntries (λ e. TagsWithin (total + 1) (p.next + 1) j e.tags) (p.waiting ++ x ∷ [])) (sym picks) (all_push (λ e. TagsWithin total p.next k e.tags) (λ e. TagsWithin (total + 1) (p.next + 1) k e.tags) (λ e w. more_tags total p.next k e.tags w) p.waiting x h.tags new);
      sent = subst (λ j. AllEntries (λ e. TagsWithin (total + 1) (p.next + 1) j e.tags) p.out) (sym picks)
          (all_to (λ e. TagsWithin total p.next k e.tags) (λ e. TagsWithin (total + 1) (p.next + 1) k e.tags) (λ e w. more_tags total p.next k e.tags w) p.out h.sent);
      last_r = subst (λ j. IsOptionWithin (j * 2 ^ 30) (2 ^ 62 + (p.next + 1) * 2 ^ 30) tags.r) (sym picks) new.r;
      last_l = new.l;
      last_p = new.p;
    }
