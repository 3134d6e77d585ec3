-- What a server keeps when one part changes, and when a request comes in.
use Rattle.std.proofs.Common.{◌≡◌, ℕ, zero, suc, ◌+◌, ◌^◌, ◌<◌, ◌≤◌, ℤ, Bool, true, false, cond, Option, Some, None, List, [], ◌∷◌, ◌++◌, map, length, find, set, get_or, refl, sym, ◌∙◌, ap, subst, arith}
use Rattle.std.specs.Prelude.{pos, not, ◌==◌, ◌-ℤ◌, nat_le, slice_get}
use Rattle.std.proofs.lemmas.Bool.Decides.{nat_tests}
use Rattle.std.proofs.lemmas.List.{length-map, length-set, length-append, map-set, get_or-map}
use Rattle.std.proofs.lemmas.List.Sums.{sum_by-set, sum_by-cons, get_or-le-sum_by}
use Rattle.std.proofs.lemmas.Option.{slice_get-get_or}
use Rattle.nbd_wire.specs.Grammar.{RequestMessage}
use Rattle.tag_clock.specs.declared.Tags.{Tags}
use Rattle.tag_clock.specs.Intervals.{no_intervals}
use Rattle.tag_clock.specs.declared.Phase.{Phase}
use Rattle.tag_clock.specs.declared.Phase.TheVariants.{Reservation, Weight}
use Rattle.eligibility.specs.Choice.{IsSlotInRange}
use Rattle.lone_export.specs.Alone.{Alone}
use Rattle.server_table.specs.Parts.{Entry, Part, with_alone, performed_part, without}
use Rattle.server_table.specs.Order.{AllAbove, AllParts, IsNumbered, IsRising, head_tags, heads}
use Rattle.server_table.specs.Picks.{front, part_sent, part_credited, part_picked}
use Rattle.server_table.specs.Ways.{part_shifted, least_first_p, parts_for, way_for, part_tags, accepted_part}
use Rattle.server_table.proofs.Dispatch.{Chosen}
use Rattle.server_table.proofs.Arrived.{Admits, way_same, way_length}
use Rattle.server_core.specs.Kept.{AllEntries, BelowLast, TagsWithin, IsPart, IsServer, picked, total, outs, TagsInRange}
use Rattle.server_core.proofs.Entries.{all_to, all_set, parts_to, part_at}
use Rattle.server_core.proofs.Picked.{part_picked_kept, part_in_range, total_small, head_in_range}
use Rattle.server_core.proofs.Came.{part_accepted_kept}
use Rattle.server_core.proofs.Fallen.{way_kept}

-- one part changes, and no more is accepted
pub kept_change : (ps : List Part) (slots slots' : List (Option Tags)) (asked asked' now now' inflight served served' e : ℕ) (p q : Part) → IsServer ps slots asked now inflight served → e < length ps → p ≡ get_or ps e p → q.next ≡ p.next → IsPart (total ps) q → slots' ≡ set slots e (head_tags q.waiting) → asked' ≤ now' → served' + length p.out ≡ served + length q.out → served' ≤ inflight → IsServer (set ps e q) slots' asked' now' inflight served'
kept_change ps slots slots' asked asked' now now' inflight served served' e p q kept lt at next part is later outs_are within =
    let sum : total (set ps e q) + (get_or ps e p).next ≡ total ps + q.next = sum_by-set (λ (y : Part). y.next) ps e q p lt in
    let one : (get_or ps e p).next ≡ p.next = ap (λ (y : Part). y.next) (sym at) in
    let totals : total (set ps e q) ≡ total ps = omega arith in
    let sum' : outs (set ps e q) + length (get_or ps e p).out ≡ outs ps + length q.out = sum_by-set (λ (y : Part). length y.out) ps e q p lt in
    let one' : length (get_or ps e p).out ≡ length p.out = ap (λ (y : Part). length y.out) (sym at) in
    let c = kept.counted in
    record {
      few = subst (λ n. n ≤ 64) (sym (length-set ps e q)) kept.few;
      firsts = is ∙ ap (λ l. set l e (head_tags q.waiting)) kept.firsts ∙ sym (map-set (λ (y : Part). head_tags y.waiting) ps e q);
      not_later = later;
      counted = omega arith;
      within = within;
      each = subst (λ j. AllParts (IsPart j) (set ps e q)) (sym totals) (all_set (IsPart (total ps)) ps e q kept.each part);
    }

pub same_slots : (ps : List Part) (slots : List (Option Tags)) (e : ℕ) (p : Part) → slots ≡ heads ps → p ≡ get_or ps e p → slots ≡ set slots e (head_tags p.waiting)
same_slots ps slots e p is at = is ∙ by ps e at ∙ ap (λ l. set l e (head_tags p.waiting)) (sym is)
  where
    by : (ps : List Part) (e : ℕ) → p ≡ get_or ps e p → heads ps ≡ set (heads ps) e (head_tags p.waiting)
    by [] e at = refl
    by (x ∷ xs) zero at = ap (λ (y : Part). head_tags y.waiting ∷ heads xs) (sym at)
    by (x ∷ xs) (suc e) at = ap (λ l. head_tags x.waiting ∷ l) (by xs e at)

-- the requests stay
seated_part : (t : ℕ) (state : Alone) (p : Part) → p.count ≤ state.count → IsPart t p → IsPart t (with_alone state p)
seated_part t state p more h = record {
  rates = h.rates;
  accepted = h.accepted;
  counted = let c = h.counted in omega arith;
  waiting = h.waiting;
  rising = h.rising;
  numbered = h.numbered;
  numbers = h.numbers;
  below = all_to (BelowLast p) (BelowLast (with_alone state p)) (λ e b. record { r = b.r; l = b.l; p = b.p }) p.waiting h.below;
  kinds = h.kinds;
  last_kind = h.last_kind;
  tags = h.tags;
  sent = h.sent;
  last_r = h.last_r;
  last_l = h.last_l;
  last_p = h.last_p;
}

pub kept_seated : (ps : List Part) (slots : List (Option Tags)) (asked now inflight served e : ℕ) (state : Alone) (p : Part) → IsServer ps slots asked now inflight served → e < length ps → p ≡ get_or ps e p → p.count ≤ state.count → IsServer (set ps e (with_alone state p)) slots asked now inflight served
kept_seated ps slots asked now inflight served e state p kept lt at more =
    kept_change ps slots slots asked asked now now inflight served served e p (with_alone state p) kept lt at refl
    (seated_part (total ps) state p more (part_at (IsPart (total ps)) ps e p kept.each lt at))
    (same_slots ps slots e p kept.firsts at) kept.not_later refl kept.within

-- ---- a request is done
above_none : (n : ℕ) (es : List Entry) → AllAbove n es → without n es ≡ es
above_none n [] h = refl
above_none n (x ∷ xs) h =
    let test : (x.number == n) ≡ false = let lt = h.0 in grind (arith, nat_tests) in
    ap (λ b. cond (not b) (x ∷ without n xs) (without n xs)) test ∙ ap (λ l. x ∷ l) (above_none n xs h.1)

pub one_fewer : (n : ℕ) (es : List Entry) (x : Entry) → IsNumbered es → find (λ (entry : Entry). entry.number == n) es ≡ Some x → length (without n es) + 1 ≡ length es
one_fewer n [] x h is = absurd (cc)
one_fewer n (y ∷ ys) x h is = by_test (y.number == n) refl (one_fewer n ys x h.1) is
  where
    by_test : (b : Bool) → (y.number == n) ≡ b → (find (λ (entry : Entry). entry.number == n) ys ≡ Some x → length (without n ys) + 1 ≡ length ys) → cond b (Some y) (find (λ (entry : Entry). entry.number == n) ys) ≡ Some x → length (cond (not b) (y ∷ without n ys) (without n ys)) + 1 ≡ suc (length ys)
    by_test true is more found =
        let same : y.number ≡ n = grind (arith, nat_tests) in
        let rest : without n ys ≡ ys = above_none n ys (subst (λ m. AllAbove m ys) same h.0) in
        let len = ap length rest in
        omega arith
    by_test false is more found = let rest = more found in omega arith

above_without : (m n : ℕ) (out w : List Entry) → AllAbove m (out ++ w) → AllAbove m (without n out ++ w)
above_without m n [] w h = h
above_without m n (x ∷ xs) w h = by_test (x.number == n) (above_without m n xs w h.1)
  where
    by_test : (b : Bool) → AllAbove m (without n xs ++ w) → AllAbove m (cond (not b) (x ∷ without n xs) (without n xs) ++ w)
    by_test true rest = rest
    by_test false rest = (h.0, rest)

numbered_without : (n : ℕ) (out w : List Entry) → IsNumbered (out ++ w) → IsNumbered (without n out ++ w)
numbered_without n [] w h = h
numbered_without n (x ∷ xs) w h = by_test (x.number == n) (numbered_without n xs w h.1)
  where
    by_test : (b : Bool) → IsNumbered (without n xs ++ w) → IsNumbered (cond (not b) (x ∷ without n xs) (without n xs) ++ w)
    by_test true rest = rest
    by_test false rest = (above_without x.number n xs w h.0, rest)

all_without : (P : Entry → Type 0) (n : ℕ) (out w : List Entry) → AllEntries P (out ++ w) → AllEntries P (without n out ++ w)
all_without P n [] w h = h
all_without P n (x ∷ xs) w h = by_test (x.number == n) (all_without P n xs w h.1)
  where
    by_test : (b : Bool) → AllEntries P (without n xs ++ w) → AllEntries P (cond (not b) (x ∷ without n xs) (without n xs) ++ w)
    by_test true rest = rest
    by_test false rest = (h.0, rest)

all_left : (P : Entry → Type 0) (n : ℕ) (out : List Entry) → AllEntries P out → AllEntries P (without n out)
all_left P n [] h = tt
all_left P n (x ∷ xs) h = by_test (x.number == n) (all_left P n xs h.1)
  where
    by_test : (b : Bool) → AllEntries P (without n xs) → AllEntries P (cond (not b) (x ∷ without n xs) (without n xs))
    by_test true rest = rest
    by_test false rest = (h.0, rest)

numbered_front : (out w : List Entry) → IsNumbered (out ++ w) → IsNumbered out
numbered_front [] w h = tt
numbered_front (x ∷ xs) w h = (above_front x.number xs w h.0, numbered_front xs w h.1)
  where
    above_front : (n : ℕ) (out w : List Entry) → AllAbove n (out ++ w) → AllAbove n out
    above_front n [] w h = tt
    above_front n (y ∷ ys) w h = (h.0, above_front n ys w h.1)

done_part : (t n : ℕ) (state : Alone) (p : Part) → p.count ≤ state.count → IsPart t p → IsPart t (performed_part n state p)
done_part t n state p more h = record {
  rates = h.rates;
  accepted = h.accepted;
  counted = let c = h.counted in omega arith;
  waiting = h.waiting;
  rising = h.rising;
  numbered = numbered_without n p.out p.waiting h.numbered;
  numbers = all_without (λ entry. entry.number < p.next) n p.out p.waiting h.numbers;
  below = all_to (BelowLast p) (BelowLast (performed_part n state p)) (λ e b. record { r = b.r; l = b.l; p = b.p }) p.waiting h.below;
  kinds = h.kinds;
  last_kind = h.last_kind;
  tags = h.tags;
  sent = all_left (λ entry. TagsWithin t p.next (picked p) entry.tags) n p.out h.sent;
  last_r = h.last_r;
  last_l = h.last_l;
  last_p = h.last_p;
}

pub kept_done : (ps : List Part) (slots : List (Option Tags)) (asked now inflight served served' e n : ℕ) (state : Alone) (p : Part) (x : Entry) → IsServer ps slots asked now inflight served → e < length ps → p ≡ get_or ps e p → find (λ (entry : Entry). entry.number == n) p.out ≡ Some x → p.count ≤ state.count → served' + 1 ≡ served → IsServer (set ps e (performed_part n state p)) slots asked now inflight served'
kept_done ps slots asked now inflight served served' e n state p x kept lt at found more one =
    let old : IsPart (total ps) p = part_at (IsPart (total ps)) ps e p kept.each lt at in
    let fewer : length (without n p.out) + 1 ≡ length p.out = one_fewer n p.out x (numbered_front p.out p.waiting old.numbered) found in
    let within = kept.within in
    kept_change ps slots slots asked asked now now inflight served served' e p (performed_part n state p) kept lt at refl
    (done_part (total ps) n state p more old)
    (same_slots ps slots e p kept.firsts at) kept.not_later (omega arith) (omega arith)

-- where one is out, the count of those out isn't 0
pub some_served : (ps : List Part) (slots : List (Option Tags)) (asked now inflight served e n : ℕ) (p : Part) (x : Entry) → IsServer ps slots asked now inflight served → e < length ps → p ≡ get_or ps e p → find (λ (entry : Entry). entry.number == n) p.out ≡ Some x → 0 < served
some_served ps slots asked now inflight served e n p x kept lt at found =
    let old : IsPart (total ps) p = part_at (IsPart (total ps)) ps e p kept.each lt at in
    let fewer : length (without n p.out) + 1 ≡ length p.out = one_fewer n p.out x (numbered_front p.out p.waiting old.numbered) found in
    let most : length (get_or ps e p).out ≤ outs ps = get_or-le-sum_by (λ (q : Part). length q.out) ps e p lt in
    let same : length (get_or ps e p).out ≡ length p.out = ap (λ (q : Part). length q.out) (sym at) in
    let c = kept.counted in
    omega arith

-- ---- a request is chosen
picked_next : (phase : Phase) (p : Part) → (part_picked phase p).next ≡ p.next
picked_next Reservation p = refl
picked_next Weight p = by_interval p.rates.r_interval
  where
    by_interval : (o : Option ℕ) → (part_credited o (part_sent p)).next ≡ p.next
    by_interval None = refl
    by_interval (Some interval) = refl

picked_out : (phase : Phase) (p : Part) → (part_picked phase p).out ≡ p.out ++ front p.waiting
picked_out Reservation p = refl
picked_out Weight p = by_interval p.rates.r_interval
  where
    by_interval : (o : Option ℕ) → (part_credited o (part_sent p)).out ≡ p.out ++ front p.waiting
    by_interval None = refl
    by_interval (Some interval) = refl

module _ {A : Type 0} where
  own_waiting : (ps : List Part) (now t inflight e : ℕ) (phase : Phase) (p : Part) (chosen : Chosen A ps now inflight t e phase) → p ≡ get_or ps e p → p.waiting ≡ chosen.head ∷ chosen.rest
  own_waiting ps now t inflight e phase p chosen at = ap (λ (q : Part). q.waiting) at ∙ chosen.waiting p

  pub kept_picked : (ps : List Part) (slots : List (Option Tags)) (asked asked' now now' t inflight served e : ℕ) (phase : Phase) (p : Part) → IsServer ps slots asked now inflight served → served < inflight → Chosen A ps now inflight t e phase → p ≡ get_or ps e p → asked' ≤ now' → IsServer (set ps e (part_picked phase p)) (set slots e (head_tags (part_picked phase p).waiting)) asked' now' inflight (served + 1)
  kept_picked ps slots asked asked' now now' t inflight served e phase p kept free chosen at le =
      let own = own_waiting ps now t inflight e phase p chosen at in
      let old : IsPart (total ps) p = part_at (IsPart (total ps)) ps e p kept.each chosen.within at in
      let one : length (part_picked phase p).out ≡ length p.out + 1 = ap length (picked_out phase p) ∙ ap (λ w. length (p.out ++ front w)) own ∙ length-append p.out (chosen.head ∷ []) in
      kept_change ps slots (set slots e (head_tags (part_picked phase p).waiting)) asked asked' now now' inflight served (served + 1) e p (part_picked phase p) kept chosen.within at (picked_next phase p)
      (part_picked_kept (total ps) phase p chosen.head chosen.rest own old) refl le (omega arith) (omega arith)

  pub pick_in_range : (ps : List Part) (slots : List (Option Tags)) (asked now t inflight served e : ℕ) (phase : Phase) (p : Part) → IsServer ps slots asked now inflight served → Chosen A ps now inflight t e phase → p ≡ get_or ps e p → TagsInRange (part_picked phase p)
  pick_in_range ps slots asked now t inflight served e phase p kept chosen at =
      let few = kept.few in
      let small = total_small (total ps) ps kept.each in
      part_in_range (total ps) (part_picked phase p) (omega arith) (part_picked_kept (total ps) phase p chosen.head chosen.rest (own_waiting ps now t inflight e phase p chosen at) (part_at (IsPart (total ps)) ps e p kept.each chosen.within at))

  pub some_waits : (ps : List Part) (now t inflight e : ℕ) (phase : Phase) (p : Part) → Chosen A ps now inflight t e phase → p ≡ get_or ps e p → 0 < length p.waiting
  some_waits ps now t inflight e phase p chosen at = let n = ap length (own_waiting ps now t inflight e phase p chosen at) in omega arith

  pub present_head : (ps : List Part) (slots : List (Option Tags)) (asked now t inflight served e : ℕ) (phase : Phase) → IsServer ps slots asked now inflight served → Chosen A ps now inflight t e phase → (had : Tags) × (slice_get slots e ≡ Some (Some had))
  present_head ps slots asked now t inflight served e phase kept chosen = (
    chosen.head.tags,
    ap (λ l. slice_get l e) kept.firsts
        ∙ slice_get-get_or (heads ps) e None (subst (λ n. e < n) (sym (length-map ps (λ (q : Part). head_tags q.waiting))) chosen.within)
        ∙ ap Some (get_or-map (λ (q : Part). head_tags q.waiting) ps e some_part None chosen.within ∙ ap head_tags (chosen.waiting some_part)),
  )
    where
      some_part : Part
      some_part = record { terms = record { size = 0; read_only = false; depth = 0; window = 0; rates = no_intervals }; image = []; waiting = []; out = []; next = 0; last_r = None; last_l = None; last_p = None; rates = no_intervals; sessions = []; count = 0 }

pub few_out : (ps : List Part) (slots : List (Option Tags)) (asked now inflight served e : ℕ) (p : Part) → IsServer ps slots asked now inflight served → served < inflight → e < length ps → p ≡ get_or ps e p → length p.out < inflight
few_out ps slots asked now inflight served e p kept free lt at =
    let c = kept.counted in
    let few : length (get_or ps e p).out ≤ outs ps = get_or-le-sum_by (λ (q : Part). length q.out) ps e p lt in
    let same : length (get_or ps e p).out ≡ length p.out = ap (λ (q : Part). length q.out) (sym at) in
    omega arith

-- ---- a request is accepted
total_shifted : (d : ℤ) (ps : List Part) → total (map (part_shifted d) ps) ≡ total ps
total_shifted d [] = refl
total_shifted d (p ∷ ps) =
    let a = sum_by-cons (λ (q : Part). q.next) (part_shifted d p) (map (part_shifted d) ps) in
    let b = sum_by-cons (λ (q : Part). q.next) p ps in
    let r = total_shifted d ps in
    omega arith

outs_shifted : (d : ℤ) (ps : List Part) → outs (map (part_shifted d) ps) ≡ outs ps
outs_shifted d [] = refl
outs_shifted d (p ∷ ps) =
    let a = sum_by-cons (λ (q : Part). length q.out) (part_shifted d p) (map (part_shifted d) ps) in
    let b = sum_by-cons (λ (q : Part). length q.out) p ps in
    let r = outs_shifted d ps in
    omega arith

same_sums : (f : List Part → ℕ) → ((d : ℤ) (ps : List Part) → f (map (part_shifted d) ps) ≡ f ps) → (n : ℕ) (t : ℤ) (ps : List Part) → f (way_for n t ps) ≡ f ps
same_sums f same n t ps = by_test (n == 0) (least_first_p ps)
  where
    by_test : (b : Bool) (o : Option (ℤ × ℕ)) → f (cond b (parts_for o t ps) ps) ≡ f ps
    by_test false o = refl
    by_test true None = refl
    by_test true (Some a) = same (a.0 -ℤ t) ps

all_in_range : (t : ℕ) (ps : List Part) → t ≤ 2 ^ 62 + 1 → AllParts (IsPart t) ps → AllParts TagsInRange ps
all_in_range t ps le h = parts_to (IsPart t) TagsInRange (λ p one. part_in_range t p le one) ps h

total_most : (ps : List Part) (slots : List (Option Tags)) (asked now inflight served : ℕ) → IsServer ps slots asked now inflight served → total ps + 1 ≤ 2 ^ 62 + 1
total_most ps slots asked now inflight served kept =
    let few = kept.few in
    let small = total_small (total ps) ps kept.each in
    omega arith

-- all tags are in range, and stay so once way is made
pub before_way : (ps : List Part) (slots : List (Option Tags)) (asked now inflight served : ℕ) → IsServer ps slots asked now inflight served → AllParts TagsInRange ps
before_way ps slots asked now inflight served kept =
    let most = total_most ps slots asked now inflight served kept in
    all_in_range (total ps) ps (omega arith) kept.each

pub after_way : (ps : List Part) (slots : List (Option Tags)) (asked now inflight served n t : ℕ) → IsServer ps slots asked now inflight served → t < 2 ^ 62 → AllParts TagsInRange (way_for n (pos t) ps)
after_way ps slots asked now inflight served n t kept small =
    all_in_range (total ps + 1) (way_for n (pos t) ps) (total_most ps slots asked now inflight served kept) (way_kept (total ps) n t ps small kept.each)

young_next : (t : ℕ) (p : Part) → nat_le (2 ^ 56) p.count ≡ false → IsPart t p → p.next < 2 ^ 56
young_next t p young h = let c = h.counted in let lt : p.count < 2 ^ 56 = grind (arith, nat_tests) in omega arith

pub kept_arrived : (ps : List Part) (slots slots' : List (Option Tags)) (asked asked' now inflight served e s t : ℕ) (q : RequestMessage) (p : Part) → IsServer ps slots asked now inflight served → e < length ps → p ≡ get_or ps e p → Admits p s q → t < 2 ^ 62 → slots' ≡ set (heads (way_for (length p.waiting) (pos t) ps)) e (head_tags (accepted_part s q (part_tags p t) p).waiting) → asked' ≤ now → IsServer (set (way_for (length p.waiting) (pos t) ps) e (accepted_part s q (part_tags p t) p)) slots' asked' now inflight served
kept_arrived ps slots slots' asked asked' now inflight served e s t q p kept lt at admits small is le =
    let way = way_for (length p.waiting) (pos t) ps in
    let after = accepted_part s q (part_tags p t) p in
    let n : length way ≡ length ps = way_length (length p.waiting) (pos t) ps in
    let within : e < length way = omega arith in
    let there : get_or way e p ≡ p = way_same (pos t) ps e p p lt at in
    let old : IsPart (total ps) p = part_at (IsPart (total ps)) ps e p kept.each lt at in
    let next = young_next (total ps) p admits.young old in
    let sum : total (set way e after) + (get_or way e p).next ≡ total way + after.next = sum_by-set (λ (y : Part). y.next) way e after p within in
    let one : (get_or way e p).next ≡ p.next = ap (λ (y : Part). y.next) there in
    let tot : total way ≡ total ps = same_sums total total_shifted (length p.waiting) (pos t) ps in
    let totals : total (set way e after) ≡ total ps + 1 = omega arith in
    let sum' : outs (set way e after) + length (get_or way e p).out ≡ outs way + length after.out = sum_by-set (λ (y : Part). length y.out) way e after p within in
    let one' : length (get_or way e p).out ≡ length p.out = ap (λ (y : Part). length y.out) there in
    let tot' : outs way ≡ outs ps = same_sums outs outs_shifted (length p.waiting) (pos t) ps in
    let counted = kept.counted in
    let few = kept.few in
    record {
      few = subst (λ k. k ≤ 64) (sym (length-set way e after)) (omega arith);
      firsts = is ∙ sym (map-set (λ (y : Part). head_tags y.waiting) way e after);
      not_later = le;
      counted = omega arith;
      within = kept.within;
      each = subst (λ j. AllParts (IsPart j) (set way e after)) (sym totals)
          (all_set (IsPart (total ps + 1)) way e after (way_kept (total ps) (length p.waiting) t ps small kept.each) (part_accepted_kept (total ps) s t q p old next small));
    }

pub new_in_range : (ps : List Part) (slots : List (Option Tags)) (asked now inflight served e s t : ℕ) (q : RequestMessage) (p : Part) → IsServer ps slots asked now inflight served → e < length ps → p ≡ get_or ps e p → Admits p s q → t < 2 ^ 62 → IsSlotInRange (head_tags (accepted_part s q (part_tags p t) p).waiting)
new_in_range ps slots asked now inflight served e s t q p kept lt at admits small =
    let old : IsPart (total ps) p = part_at (IsPart (total ps)) ps e p kept.each lt at in
    let after = accepted_part s q (part_tags p t) p in
    head_in_range after (part_in_range (total ps + 1) after (total_most ps slots asked now inflight served kept) (part_accepted_kept (total ps) s t q p old (young_next (total ps) p admits.young old) small))

-- in order, as the steps over the parts want it
pub in_order : (t : ℕ) (ps : List Part) → AllParts (IsPart t) ps → AllParts (λ p. IsNumbered (p.out ++ p.waiting)) ps × AllParts (λ p. IsRising p.waiting) ps
in_order t ps h = (parts_to (IsPart t) (λ p. IsNumbered (p.out ++ p.waiting)) (λ p one. one.numbered) ps h, parts_to (IsPart t) (λ p. IsRising p.waiting) (λ p one. one.rising) ps h)
