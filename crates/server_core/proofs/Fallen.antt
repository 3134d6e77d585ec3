-- What is kept when the P tags fall.
use Rattle.std.proofs.Common.{◌≡◌, ℕ, ◌+◌, ◌-◌, ◌*◌, ◌^◌, ◌<◌, ◌≤◌, ℤ, ◌≤ℤ◌, Bool, true, false, cond, Option, Some, None, List, [], ◌∷◌, map, length, refl, sym, ◌∙◌, ap, subst, arith}
use Rattle.std.specs.Prelude.{⊤, pos, ◌-ℤ◌, int_le, ◌==◌}
use Rattle.std.proofs.lemmas.Int.{ints}
use Rattle.std.proofs.lemmas.Bool.Decides.{nat_tests}
use Rattle.std.proofs.lemmas.List.{length-map}
use Rattle.nbd_base.specs.Least.{least, the_sooner, keyed}
use Rattle.tag_clock.specs.declared.Tags.{Tags}
use Rattle.tag_clock.specs.Clocks.{lowered}
use Rattle.eligibility.specs.Choice.{candidates, slot_key}
use Rattle.server_table.specs.Parts.{Entry, Part}
use Rattle.server_table.specs.Order.{AllParts, TagBefore, BeforeAll, IsRising, head_tags, heads}
use Rattle.server_table.specs.Ways.{entry_shifted, part_shifted, least_first_p, parts_for, way_for}
use Rattle.server_core.specs.Kept.{AllEntries, BelowLast, Within, IsOptionWithin, TagsWithin, SameKind, IsPart, picked}
use Rattle.server_core.proofs.Entries.{all_to, all_both, all_mapped, numbered_behind, below_behind, parts_to}
use Rattle.server_core.proofs.Bounds.{shift_within}

abbrev pub IsAbove : ℤ → Option (ℤ × ℕ) → Type 0
IsAbove m None = ⊤
IsAbove m (Some a) = m ≤ℤ a.0

above_left : (m : ℤ) (a b : Option (ℤ × ℕ)) → IsAbove m (the_sooner a b) → IsAbove m a
above_left m None b h = tt
above_left m (Some a) None h = h
above_left m (Some a) (Some b) h = grind (arith, ints)

above_right : (m : ℤ) (a b : Option (ℤ × ℕ)) → IsAbove m (the_sooner a b) → IsAbove m b
above_right m None b h = h
above_right m (Some a) None h = tt
above_right m (Some a) (Some b) h = grind (arith, ints)

-- the first P tag isn't below m
abbrev pub FirstAbove : ℤ → List Entry → Type 0
FirstAbove m [] = ⊤
FirstAbove m (entry ∷ entries) = m ≤ℤ entry.tags.p

first_above : (m : ℤ) (k : ℕ) (w : List Entry) → IsAbove m (keyed (slot_key (λ tags. Some tags.p) (head_tags w)) k) → FirstAbove m w
first_above m k [] h = tt
first_above m k (x ∷ xs) h = h

firsts_above : (m : ℤ) (k : ℕ) (ps : List Part) → IsAbove m (least (candidates (λ tags. Some tags.p) k (heads ps))) → AllParts (λ p. FirstAbove m p.waiting) ps
firsts_above m k [] h = tt
firsts_above m k (p ∷ ps) h = (
  first_above m k p.waiting (above_left m (keyed (slot_key (λ tags. Some tags.p) (head_tags p.waiting)) k) (least (candidates (λ tags. Some tags.p) (k + 1) (heads ps))) h),
  firsts_above m (k + 1) ps (above_right m (keyed (slot_key (λ tags. Some tags.p) (head_tags p.waiting)) k) (least (candidates (λ tags. Some tags.p) (k + 1) (heads ps))) h),
)

-- so no waiting P tag is below the least first one
all_above : (m : ℤ) (a : Tags) (entries : List Entry) → m ≤ℤ a.p → BeforeAll a entries → AllEntries (λ e. m ≤ℤ e.tags.p) entries
all_above m a [] le h = tt
all_above m a (x ∷ xs) le h = (let b = h.0.p in omega (arith, ints), all_above m a xs le h.1)

waiting_above : (m : ℤ) (w : List Entry) → FirstAbove m w → IsRising w → AllEntries (λ e. m ≤ℤ e.tags.p) w
waiting_above m [] h r = tt
waiting_above m (x ∷ xs) h r = (h, all_above m x.tags xs h r.0)

fallen_tags : (total n k t : ℕ) (m : ℤ) (tags : Tags) → Within 0 (total * 2 ^ 63) m → m ≤ℤ tags.p → t < 2 ^ 62 → TagsWithin total n k tags → TagsWithin (total + 1) n k (record tags { p = tags.p -ℤ (m -ℤ pos t) })
fallen_tags total n k t m tags hm le lt h = record { r = h.r; l = h.l; p = shift_within total t m tags.p h.p hm le lt }

fallen_all : (d : ℤ) (a : Entry) (entries : List Entry) → BeforeAll a.tags entries → BeforeAll (entry_shifted d a).tags (map (entry_shifted d) entries)
fallen_all d a [] h = tt
fallen_all d a (x ∷ xs) h = (record { r = h.0.r; l = h.0.l; p = let q = h.0.p in omega (arith, ints) }, fallen_all d a xs h.1)

fallen_rising : (d : ℤ) (entries : List Entry) → IsRising entries → IsRising (map (entry_shifted d) entries)
fallen_rising d [] h = tt
fallen_rising d (x ∷ xs) h = (fallen_all d x xs h.0, fallen_rising d xs h.1)

-- ---- a part where one more was accepted elsewhere
more_p : (total : ℕ) (tag : Option ℤ) → IsOptionWithin 0 (total * 2 ^ 63) tag → IsOptionWithin 0 ((total + 1) * 2 ^ 63) tag
more_p total None h = tt
more_p total (Some tag) h = record { not_below = h.not_below; not_above = let a = h.not_above in omega (arith, ints) }

more_total : (total n k : ℕ) (tags : Tags) → TagsWithin total n k tags → TagsWithin (total + 1) n k tags
more_total total n k tags h = record { r = h.r; l = h.l; p = record { not_below = h.p.not_below; not_above = let a = h.p.not_above in omega (arith, ints) } }

part_more : (total : ℕ) (p : Part) → IsPart total p → IsPart (total + 1) p
part_more total p h = record {
  rates = h.rates;
  accepted = h.accepted;
  counted = h.counted;
  waiting = h.waiting;
  rising = h.rising;
  numbered = h.numbered;
  numbers = h.numbers;
  below = h.below;
  kinds = h.kinds;
  last_kind = h.last_kind;
  tags = all_to (λ e. TagsWithin total p.next (picked p) e.tags) (λ e. TagsWithin (total + 1) p.next (picked p) e.tags) (λ e t. more_total total p.next (picked p) e.tags t) p.waiting h.tags;
  sent = all_to (λ e. TagsWithin total p.next (picked p) e.tags) (λ e. TagsWithin (total + 1) p.next (picked p) e.tags) (λ e t. more_total total p.next (picked p) e.tags t) p.out h.sent;
  last_r = h.last_r;
  last_l = h.last_l;
  last_p = more_p total p.last_p h.last_p;
}

-- ---- a part whose P tags fall
fallen_p : (d tag : ℤ) (last : Option ℤ) → TagBefore (Some tag) last → TagBefore (Some (tag -ℤ d)) (lowered d last)
fallen_p d tag None h = absurd h
fallen_p d tag (Some last) h = omega (arith, ints)

fallen_last : (total t : ℕ) (m tag : ℤ) (last : Option ℤ) → Within 0 (total * 2 ^ 63) m → m ≤ℤ tag → TagBefore (Some tag) last → t < 2 ^ 62 → IsOptionWithin 0 (total * 2 ^ 63) last → IsOptionWithin 0 ((total + 1) * 2 ^ 63) (lowered (m -ℤ pos t) last)
fallen_last total t m tag None hm le b lt h = absurd b
fallen_last total t m tag (Some last) hm le b lt h = let up : m ≤ℤ last = omega (arith, ints) in shift_within total t m last h hm up lt

active_fallen : (total t : ℕ) (m : ℤ) (p : Part) (x : Entry) (xs : List Entry) → p.waiting ≡ x ∷ xs → Within 0 (total * 2 ^ 63) m → t < 2 ^ 62 → FirstAbove m p.waiting → IsPart total p → IsPart (total + 1) (record p { waiting = map (entry_shifted (m -ℤ pos t)) p.waiting; last_p = lowered (m -ℤ pos t) p.last_p })
active_fallen total t m p x xs is hm lt first h =
    let d = m -ℤ pos t in
    let f = entry_shifted d in
    let above : AllEntries (λ e. m ≤ℤ e.tags.p) p.waiting = waiting_above m p.waiting first h.rising in
    let n : length (map f p.waiting) ≡ length p.waiting = length-map p.waiting f in
    let k = picked p in
    let after : Part = record p { waiting = map f p.waiting; last_p = lowered d p.last_p } in
    let head_below : BelowLast p x = (subst (AllEntries (BelowLast p)) is h.below).0 in
    let head_above : m ≤ℤ x.tags.p = (subst (AllEntries (λ e. m ≤ℤ e.tags.p)) is above).0 in
    record {
      rates = h.rates;
      accepted = h.accepted;
      counted = h.counted;
      waiting = subst (λ j. j ≤ p.next) (sym n) h.waiting;
      rising = fallen_rising d p.waiting h.rising;
      numbered = numbered_behind f (λ e. refl) p.out p.waiting h.numbered;
      numbers = below_behind f (λ e. refl) p.next p.out p.waiting h.numbers;
      below = all_mapped f (BelowLast p) (BelowLast after) (λ e b. record { r = b.r; l = b.l; p = fallen_p d e.tags.p p.last_p b.p }) p.waiting h.below;
      kinds = all_mapped f (λ e. SameKind p.rates.r_interval e.tags.r) (λ e. SameKind p.rates.r_interval e.tags.r) (λ e s. s) p.waiting h.kinds;
      last_kind = h.last_kind;
      tags = subst (λ j. AllEntries (λ e. TagsWithin (total + 1) p.next (p.next - j) e.tags) (map f p.waiting)) (sym n)
          (all_mapped f (λ e. (m ≤ℤ e.tags.p) × TagsWithin total p.next k e.tags) (λ e. TagsWithin (total + 1) p.next k e.tags) (λ e b. fallen_tags total p.next k t m e.tags hm b.0 lt b.1) p.waiting
          (all_both (λ e. m ≤ℤ e.tags.p) (λ e. TagsWithin total p.next k e.tags) p.waiting above h.tags));
      sent = subst (λ j. AllEntries (λ e. TagsWithin (total + 1) p.next (p.next - j) e.tags) p.out) (sym n)
          (all_to (λ e. TagsWithin total p.next k e.tags) (λ e. TagsWithin (total + 1) p.next k e.tags) (λ e t. more_total total p.next k e.tags t) p.out h.sent);
      last_r = subst (λ j. IsOptionWithin ((p.next - j) * 2 ^ 30) (2 ^ 62 + p.next * 2 ^ 30) p.last_r) (sym n) h.last_r;
      last_l = h.last_l;
      last_p = fallen_last total t m x.tags.p p.last_p hm head_above head_below.p lt h.last_p;
    }

part_fallen : (total t : ℕ) (m : ℤ) (p : Part) → Within 0 (total * 2 ^ 63) m → t < 2 ^ 62 → FirstAbove m p.waiting → IsPart total p → IsPart (total + 1) (part_shifted (m -ℤ pos t) p)
part_fallen total t m p hm lt first h = by_list p.waiting refl
  where
    change : Option ℤ → Part
    change last = record p { waiting = map (entry_shifted (m -ℤ pos t)) p.waiting; last_p = last }

    by_list : (w : List Entry) → p.waiting ≡ w → IsPart (total + 1) (part_shifted (m -ℤ pos t) p)
    by_list [] is =
        let test : (length p.waiting == 0) ≡ true = ap (λ (l : List Entry). length l == 0) is in
        let same : part_shifted (m -ℤ pos t) p ≡ p =
        ap (λ b. record p { waiting = map (entry_shifted (m -ℤ pos t)) p.waiting; last_p = cond b p.last_p (lowered (m -ℤ pos t) p.last_p) }) test
        ∙ ap (λ w. record p { waiting = w }) (ap (map (entry_shifted (m -ℤ pos t))) is ∙ sym is) in
        subst (IsPart (total + 1)) (sym same) (part_more total p h)
    by_list (x ∷ xs) is =
        let test : (length p.waiting == 0) ≡ false = ap (λ (l : List Entry). length l == 0) is ∙ grind (arith, nat_tests) in
        subst (λ b. IsPart (total + 1) (record p { waiting = map (entry_shifted (m -ℤ pos t)) p.waiting; last_p = cond b p.last_p (lowered (m -ℤ pos t) p.last_p) })) (sym test) (active_fallen total t m p x xs is hm lt first h)

all_fallen : (total t : ℕ) (m : ℤ) (ps : List Part) → Within 0 (total * 2 ^ 63) m → t < 2 ^ 62 → AllParts (λ p. FirstAbove m p.waiting) ps → AllParts (IsPart total) ps → AllParts (IsPart (total + 1)) (map (part_shifted (m -ℤ pos t)) ps)
all_fallen total t m [] hm lt firsts h = tt
all_fallen total t m (p ∷ ps) hm lt firsts h = (part_fallen total t m p hm lt firsts.0 h.0, all_fallen total t m ps hm lt firsts.1 h.1)

-- ---- the least first P is within the bounds
abbrev pub IsKeyWithin : ℕ → Option (ℤ × ℕ) → Type 0
IsKeyWithin total None = ⊤
IsKeyWithin total (Some a) = Within 0 (total * 2 ^ 63) a.0

sooner_within : (total : ℕ) (a b : Option (ℤ × ℕ)) → IsKeyWithin total a → IsKeyWithin total b → IsKeyWithin total (the_sooner a b)
sooner_within total None b ha hb = hb
sooner_within total (Some a) None ha hb = ha
sooner_within total (Some a) (Some b) ha hb = by_test (int_le a.0 b.0)
  where
    by_test : (t : Bool) → IsKeyWithin total (cond t (Some a) (Some b))
    by_test true = ha
    by_test false = hb

head_within : (total n j k : ℕ) (w : List Entry) → AllEntries (λ e. TagsWithin total n j e.tags) w → IsKeyWithin total (keyed (slot_key (λ tags. Some tags.p) (head_tags w)) k)
head_within total n j k [] h = tt
head_within total n j k (x ∷ xs) h = h.0.p

pub least_within : (total k : ℕ) (ps : List Part) → AllParts (IsPart total) ps → IsKeyWithin total (least (candidates (λ tags. Some tags.p) k (heads ps)))
least_within total k [] h = tt
least_within total k (p ∷ ps) h = sooner_within total (keyed (slot_key (λ tags. Some tags.p) (head_tags p.waiting)) k) (least (candidates (λ tags. Some tags.p) (k + 1) (heads ps))) (head_within total p.next (picked p) k p.waiting h.0.tags) (least_within total (k + 1) ps h.1)

same_le : (z : ℤ) → z ≤ℤ z
same_le z = omega (arith, ints)

-- the parts keep what they keep, with one more accepted, once way is made
pub way_kept : (total n t : ℕ) (ps : List Part) → t < 2 ^ 62 → AllParts (IsPart total) ps → AllParts (IsPart (total + 1)) (way_for n (pos t) ps)
way_kept total n t ps small h = by_test (n == 0)
  where
    more : AllParts (IsPart (total + 1)) ps
    more = parts_to (IsPart total) (IsPart (total + 1)) (part_more total) ps h

    by_least : (o : Option (ℤ × ℕ)) → least_first_p ps ≡ o → AllParts (IsPart (total + 1)) (parts_for o (pos t) ps)
    by_least None is = more
    by_least (Some a) is =
        all_fallen total t a.0 ps (subst (IsKeyWithin total) is (least_within total 0 ps h)) small
        (firsts_above a.0 0 ps (subst (IsAbove a.0) (sym is) (same_le a.0))) h

    by_test : (b : Bool) → AllParts (IsPart (total + 1)) (cond b (parts_for (least_first_p ps) (pos t) ps) ps)
    by_test true = by_least (least_first_p ps) refl
    by_test false = more
