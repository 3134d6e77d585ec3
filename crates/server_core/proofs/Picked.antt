-- What is kept when a request is taken out.
use Rattle.std.proofs.Common.{◌≡◌, ℕ, zero, suc, ◌+◌, ◌-◌, ◌*◌, ◌^◌, ◌<◌, ◌≤◌, ℤ, Option, Some, None, List, [], ◌∷◌, ◌++◌, map, length, get_or, refl, sym, ◌∙◌, ap, subst, arith}
use Rattle.std.specs.Prelude.{pos, drop}
use Rattle.std.proofs.lemmas.Int.{ints}
use Rattle.std.proofs.lemmas.List.{length-map, append_assoc}
use Rattle.std.proofs.lemmas.List.Sums.{sum_by-cons}
use Rattle.tag_clock.specs.Tags.{AreInRange}
use Rattle.tag_clock.specs.declared.Tags.{Tags}
use Rattle.tag_clock.specs.Clocks.{lowered}
use Rattle.tag_clock.specs.declared.Phase.{Phase}
use Rattle.tag_clock.specs.declared.Phase.TheVariants.{Reservation, Weight}
use Rattle.eligibility.specs.Choice.{IsSlotInRange}
use Rattle.server_table.specs.Parts.{Entry, Part}
use Rattle.server_table.specs.Order.{TagBefore, BeforeAll, IsRising, IsNumbered, AllParts, head_tags}
use Rattle.server_table.specs.Picks.{entry_credited, part_credited, front, part_sent, part_picked}
use Rattle.server_core.specs.Kept.{AllEntries, BelowLast, IsOptionWithin, TagsWithin, SameKind, LastKind, IsOptionShort, IsPart, picked, total, TagsInRange, EntriesInRange}
use Rattle.server_core.proofs.Entries.{all_to, all_both, all_mapped, all_push, numbered_behind, below_behind}
use Rattle.server_core.proofs.Bounds.{in_range, option_in_range}

-- ---- a request is out: the others stay
more_picked : (k high : ℕ) (tag : Option ℤ) → IsOptionWithin (k * 2 ^ 30) high tag → IsOptionWithin ((k + 1) * 2 ^ 30) high tag
more_picked k high None h = tt
more_picked k high (Some tag) h = record { not_below = let low = h.not_below in omega (arith, ints); not_above = h.not_above }

pub part_sent_kept : (total : ℕ) (p : Part) (head : Entry) (rest : List Entry) → p.waiting ≡ head ∷ rest → IsPart total p → IsPart total (part_sent p)
part_sent_kept total p head rest is h =
    let n : length p.waiting ≡ suc (length rest) = ap length is in
    let m : length (drop 1 p.waiting) ≡ length rest = ap (λ (l : List Entry). length (drop 1 l)) is in
    let some = h.waiting in
    let k = picked p in
    let picks : picked (part_sent p) ≡ k + 1 = omega arith in
    let joined : (p.out ++ front p.waiting) ++ drop 1 p.waiting ≡ p.out ++ p.waiting =
    ap (λ (l : List Entry). (p.out ++ front l) ++ drop 1 l) is ∙ append_assoc p.out (head ∷ []) rest ∙ ap (λ l. p.out ++ l) (sym is) in
    let below : AllEntries (BelowLast p) rest = (subst (AllEntries (BelowLast p)) is h.below).1 in
    let tagged : AllEntries (λ entry. TagsWithin total p.next k entry.tags) (head ∷ rest) = subst (AllEntries (λ entry. TagsWithin total p.next k entry.tags)) is h.tags in
    let more : (e : Entry) → TagsWithin total p.next k e.tags → TagsWithin total p.next (k + 1) e.tags = λ e t. record { r = more_picked k (2 ^ 62 + p.next * 2 ^ 30) e.tags.r t.r; l = t.l; p = t.p } in
    record {
      rates = h.rates;
      accepted = h.accepted;
      counted = let c = h.counted in omega arith;
      waiting = omega arith;
      rising = subst (λ (l : List Entry). IsRising (drop 1 l)) (sym is) (subst IsRising is h.rising).1;
      numbered = subst IsNumbered (sym joined) h.numbered;
      numbers = subst (AllEntries (λ entry. entry.number < p.next)) (sym joined) h.numbers;
      below = subst (λ (l : List Entry). AllEntries (BelowLast (part_sent p)) (drop 1 l)) (sym is) (all_to (BelowLast p) (BelowLast (part_sent p)) (λ e b. record { r = b.r; l = b.l; p = b.p }) rest below);
      kinds = subst (λ (l : List Entry). AllEntries (λ entry. SameKind p.rates.r_interval entry.tags.r) (drop 1 l)) (sym is) (subst (AllEntries (λ entry. SameKind p.rates.r_interval entry.tags.r)) is h.kinds).1;
      last_kind = h.last_kind;
      tags = subst (λ j. AllEntries (λ entry. TagsWithin total p.next j entry.tags) (drop 1 p.waiting)) (sym picks)
          (subst (λ (l : List Entry). AllEntries (λ entry. TagsWithin total p.next (k + 1) entry.tags) (drop 1 l)) (sym is)
          (all_to (λ entry. TagsWithin total p.next k entry.tags) (λ entry. TagsWithin total p.next (k + 1) entry.tags) more rest tagged.1));
      sent = subst (λ j. AllEntries (λ entry. TagsWithin total p.next j entry.tags) (p.out ++ front p.waiting)) (sym picks)
          (subst (λ (l : List Entry). AllEntries (λ entry. TagsWithin total p.next (k + 1) entry.tags) (p.out ++ front l)) (sym is)
          (all_push (λ entry. TagsWithin total p.next k entry.tags) (λ entry. TagsWithin total p.next (k + 1) entry.tags) more p.out head h.sent (more head tagged.0)));
      last_r = subst (λ j. IsOptionWithin (j * 2 ^ 30) (2 ^ 62 + p.next * 2 ^ 30) p.last_r) (sym picks) (more_picked k (2 ^ 62 + p.next * 2 ^ 30) p.last_r h.last_r);
      last_l = h.last_l;
      last_p = h.last_p;
    }

-- ---- credit
tag_before : (by : ℕ) (a b : Option ℤ) → TagBefore a b → TagBefore (lowered (pos by) a) (lowered (pos by) b)
tag_before by None None h = tt
tag_before by None (Some b) h = absurd h
tag_before by (Some a) None h = absurd h
tag_before by (Some a) (Some b) h = omega (arith, ints)

before_all : (by : ℕ) (a : Entry) (entries : List Entry) → BeforeAll a.tags entries → BeforeAll (entry_credited by a).tags (map (entry_credited by) entries)
before_all by a [] h = tt
before_all by a (x ∷ xs) h = (record { r = tag_before by a.tags.r x.tags.r h.0.r; l = h.0.l; p = h.0.p }, before_all by a xs h.1)

rising : (by : ℕ) (entries : List Entry) → IsRising entries → IsRising (map (entry_credited by) entries)
rising by [] h = tt
rising by (x ∷ xs) h = (before_all by x xs h.0, rising by xs h.1)

credit_within : (by k high : ℕ) (tag : Option ℤ) → by ≤ 2 ^ 30 → IsOptionWithin (k * 2 ^ 30) high tag → IsOptionWithin ((k + 1) * 2 ^ 30) high (lowered (pos by) tag)
credit_within by k high None g h = tt
credit_within by k high (Some tag) g h = record { not_below = let low = h.not_below in omega (arith, ints); not_above = let up = h.not_above in omega (arith, ints) }

same_kind : (by : ℕ) (interval : Option ℕ) (tag : Option ℤ) → SameKind interval tag → SameKind interval (lowered (pos by) tag)
same_kind by None None h = h
same_kind by None (Some tag) h = absurd h
same_kind by (Some interval) None h = absurd h
same_kind by (Some interval) (Some tag) h = tt

last_kind : (by : ℕ) (interval : Option ℕ) (tag : Option ℤ) → LastKind interval tag → LastKind interval (lowered (pos by) tag)
last_kind by None None h = tt
last_kind by None (Some tag) h = absurd h
last_kind by (Some interval) tag h = tt

-- what was picked before the credit bounds R from below
part_credited_kept : (total by k : ℕ) (p : Part) → by ≤ 2 ^ 30 → picked p ≡ k + 1 → AllEntries (λ e. IsOptionWithin (k * 2 ^ 30) (2 ^ 62 + p.next * 2 ^ 30) e.tags.r) p.waiting → IsOptionWithin (k * 2 ^ 30) (2 ^ 62 + p.next * 2 ^ 30) p.last_r → IsPart total p → IsPart total (part_credited (Some by) p)
part_credited_kept total by k p short picks tight tight_last h =
    let f = entry_credited by in
    let after = part_credited (Some by) p in
    let n : length (map f p.waiting) ≡ length p.waiting = length-map p.waiting f in
    let high = 2 ^ 62 + p.next * 2 ^ 30 in
    let picks' : picked after ≡ k + 1 = ap (λ j. p.next - j) n ∙ picks in
    let h_tags : AllEntries (λ e. TagsWithin total p.next (k + 1) e.tags) p.waiting = subst (λ j. AllEntries (λ e. TagsWithin total p.next j e.tags) p.waiting) picks h.tags in
    record {
      rates = h.rates;
      accepted = h.accepted;
      counted = h.counted;
      waiting = subst (λ j. j ≤ p.next) (sym n) h.waiting;
      rising = rising by p.waiting h.rising;
      numbered = numbered_behind f (λ e. refl) p.out p.waiting h.numbered;
      numbers = below_behind f (λ e. refl) p.next p.out p.waiting h.numbers;
      below = all_mapped f (BelowLast p) (BelowLast after) (λ e b. record { r = tag_before by e.tags.r p.last_r b.r; l = b.l; p = b.p }) p.waiting h.below;
      kinds = all_mapped f (λ e. SameKind p.rates.r_interval e.tags.r) (λ e. SameKind p.rates.r_interval e.tags.r) (λ e s. same_kind by p.rates.r_interval e.tags.r s) p.waiting h.kinds;
      last_kind = last_kind by p.rates.r_interval p.last_r h.last_kind;
      tags = subst (λ j. AllEntries (λ e. TagsWithin total p.next j e.tags) (map f p.waiting)) (sym picks')
          (all_mapped f (λ e. IsOptionWithin (k * 2 ^ 30) high e.tags.r × TagsWithin total p.next (k + 1) e.tags) (λ e. TagsWithin total p.next (k + 1) e.tags) (λ e t. record { r = credit_within by k high e.tags.r short t.0; l = t.1.l; p = t.1.p }) p.waiting
          (all_both (λ e. IsOptionWithin (k * 2 ^ 30) high e.tags.r) (λ e. TagsWithin total p.next (k + 1) e.tags) p.waiting tight h_tags));
      sent = subst (λ j. AllEntries (λ e. TagsWithin total p.next (p.next - j) e.tags) p.out) (sym n) h.sent;
      last_r = subst (λ j. IsOptionWithin (j * 2 ^ 30) high after.last_r) (sym picks') (credit_within by k high p.last_r short tight_last);
      last_l = h.last_l;
      last_p = h.last_p;
    }

pub part_picked_kept : (total : ℕ) (phase : Phase) (p : Part) (head : Entry) (rest : List Entry) → p.waiting ≡ head ∷ rest → IsPart total p → IsPart total (part_picked phase p)
part_picked_kept total Reservation p head rest is h = part_sent_kept total p head rest is h
part_picked_kept total Weight p head rest is h = by_interval p.rates.r_interval h.rates.reservation
  where
    n : length p.waiting ≡ suc (length rest)
    n = ap length is

    m : length (drop 1 p.waiting) ≡ length rest
    m = ap (λ (l : List Entry). length (drop 1 l)) is

    tight : AllEntries (λ e. IsOptionWithin (picked p * 2 ^ 30) (2 ^ 62 + p.next * 2 ^ 30) e.tags.r) (drop 1 p.waiting)
    tight = all_to (λ e. TagsWithin total p.next (picked p) e.tags) (λ e. IsOptionWithin (picked p * 2 ^ 30) (2 ^ 62 + p.next * 2 ^ 30) e.tags.r) (λ e t. t.r) (drop 1 p.waiting)
        (subst (λ (l : List Entry). AllEntries (λ entry. TagsWithin total p.next (picked p) entry.tags) (drop 1 l)) (sym is) (subst (AllEntries (λ entry. TagsWithin total p.next (picked p) entry.tags)) is h.tags).1)

    by_interval : (interval : Option ℕ) → IsOptionShort interval → IsPart total (part_credited interval (part_sent p))
    by_interval None short = part_sent_kept total p head rest is h
    by_interval (Some by) short = part_credited_kept total by (picked p) (part_sent p) short (let some = h.waiting in let a = n in let b = m in omega arith) tight h.last_r (part_sent_kept total p head rest is h)

-- ---- tags within the bounds are in range
pub tags_in_range : (total next k : ℕ) (tags : Tags) → total ≤ 2 ^ 62 + 1 → next ≤ 2 ^ 56 → k ≤ next → TagsWithin total next k tags → AreInRange tags
tags_in_range total next k tags t n le h = (
  option_in_range (k * 2 ^ 30) (2 ^ 62 + next * 2 ^ 30) tags.r (omega arith) (omega arith) h.r,
  in_range 0 (2 ^ 62 + next * 2 ^ 30) tags.l (omega arith) (omega arith) h.l,
  in_range 0 (total * 2 ^ 63) tags.p (omega arith) (omega arith) h.p,
)

entries_in_range : (total next k : ℕ) (entries : List Entry) → total ≤ 2 ^ 62 + 1 → next ≤ 2 ^ 56 → k ≤ next → AllEntries (λ entry. TagsWithin total next k entry.tags) entries → EntriesInRange entries
entries_in_range total next k [] t n le h = λ i d lt. absurd (omega arith)
entries_in_range total next k (x ∷ xs) t n le h = at (entries_in_range total next k xs t n le h.1)
  where
    at : EntriesInRange xs → (i : ℕ) (d : Entry) → i < suc (length xs) → AreInRange (get_or (x ∷ xs) i d).tags
    at rest zero d lt = tags_in_range total next k x.tags t n le h.0
    at rest (suc i) d lt = rest i d (omega arith)

pub part_in_range : (total : ℕ) (p : Part) → total ≤ 2 ^ 62 + 1 → IsPart total p → TagsInRange p
part_in_range total p t h =
    let n = h.accepted in
    record {
      waiting = entries_in_range total p.next (picked p) p.waiting t n (omega arith) h.tags;
      last_r = option_in_range (picked p * 2 ^ 30) (2 ^ 62 + p.next * 2 ^ 30) p.last_r (omega arith) (omega arith) h.last_r;
      last_l = option_in_range 0 (2 ^ 62 + p.next * 2 ^ 30) p.last_l (omega arith) (omega arith) h.last_l;
      last_p = option_in_range 0 (total * 2 ^ 63) p.last_p (omega arith) (omega arith) h.last_p;
    }

pub total_small : (t : ℕ) (ps : List Part) → AllParts (IsPart t) ps → total ps ≤ length ps * 2 ^ 56
total_small t [] h = omega arith
total_small t (p ∷ ps) h = let s = sum_by-cons (λ (q : Part). q.next) p ps in let n = h.0.accepted in let rest = total_small t ps h.1 in omega arith

pub head_in_range : (p : Part) → TagsInRange p → IsSlotInRange (head_tags p.waiting)
head_in_range p h = by_head p.waiting h.waiting
  where
    by_head : (entries : List Entry) → EntriesInRange entries → IsSlotInRange (head_tags entries)
    by_head [] h = tt
    by_head (x ∷ xs) h = h 0 x (omega arith)
