-- An arrival, over the exports of a server.
use Rattle.std.proofs.Common.{◌≡◌, ℕ, ◌*◌, ◌^◌, ◌<◌, ◌≤◌, Bool, true, false, cond, Option, Some, None, Ok, Err, List, [], ◌∷◌, ◌++◌, map, length, set, get_or, refl, sym, ◌∙◌, ap, subst, arith}
use Rattle.std.specs.Prelude.{ℤ, pos, negsuc, ◌-ℤ◌, slice_get, IfSome, ◌==◌}
use Rattle.std.proofs.lemmas.Int.{ints}
use Rattle.std.proofs.lemmas.Bool.Decides.{nat_tests}
use Rattle.std.proofs.lemmas.List.{length-map, length-set, map-set, get_or-map, get_or_default, get_or-set_same}
use Rattle.std.proofs.lemmas.Option.{slice_get-get_or}
use Rattle.nbd_base.specs.Range.{InRange}
use Rattle.nbd_wire.specs.Grammar.{RequestMessage}
use Rattle.tag_clock.specs.declared.Tags.{Tags}
use Rattle.tag_clock.specs.Clocks.{lowered}
use Rattle.tag_clock.specs.declared.Phase.TheVariants.{Weight}
use Rattle.eligibility.specs.Choice.{IsSlotInRange}
use Rattle.lone_export.specs.Alone.{Moved}
use Rattle.lone_export.specs.Lone.{MayArrive, step_answer_of_refusal, step_answer_of_arrive}
use Rattle.lone_export.specs.declared.refusal.Arrived.{Arrived}
use Rattle.lone_export.specs.declared.refusal.Arrived.TheVariants as arrival
use Rattle.lone_export.specs.declared.refusal.ArriveRefusal.{ArriveRefusal as ArriveRefusalAlone}
use Rattle.lone_export.specs.declared.refusal.ArriveRefusal.TheVariants as arriving
use Rattle.lone_export.specs.declared.step.Step.TheVariants as own
use Rattle.lone_export.specs.declared.step.StepAnswer.TheVariants as alone
use Rattle.server_table.specs.declared.event.Event.TheVariants.{Arrive}
use Rattle.server_table.specs.declared.event.Answer.TheVariants.{Accepted, NoMemory}
use Rattle.server_table.specs.Shares.{as_alone}
use Rattle.server_table.specs.Parts.{Entry, Part, table_of, setup_of, job_of_entry}
use Rattle.server_table.specs.Order.{AllParts, head_tags, heads}
use Rattle.server_table.specs.Ways.{entry_shifted, least_first_p, way_for, part_tags, accepted_part}
use Rattle.server_table.specs.Steps.{outcome}
use Rattle.server_table.proofs.Arrived.{Admits, step_accepts, step_refuses}
use Rattle.server_table.proofs.Refused.{no_room_to_arrive}
use Rattle.lone_export.proofs.Asked.{arrive_refused}
use Rattle.lone_export.proofs.Admitted.{refused_never}
use Rattle.export_cell.specs.declared.refusal.ArriveFault.{ArriveFault}
use Rattle.export_cell.specs.declared.refusal.ArriveFault.TheVariants as fault
use Rattle.server_core.specs.Here.{refusal_here, fault_here}
use Rattle.server_core.specs.Kept.{AreShort, IsPart, IsServer, Within, TagsInRange, total}
use Rattle.server_core.specs.Members.{Standing, shifted_standing, accepted_standing, logged_as, with_state, cell_at, AdmitsAt, IsTurnedAwayAt, Arrives, Went}
use Rattle.export_cell.specs.Journal.{Journal, JournalMove}
use Rattle.server_core.specs.Served.{Served, parts, journals_of, served_of, AllMembers, IsServed, Stepped, answer_of_arrive}
use Rattle.server_core.specs.Made.{Makes}
use Rattle.server_core.specs.Way.{lowered_to, way_of, IsFallInRange}
use Rattle.server_core.proofs.Entries.{part_at}
use Rattle.server_core.proofs.Picked.{total_small}
use Rattle.server_core.proofs.Fallen.{least_within, IsKeyWithin}
use Rattle.server_core.proofs.Changed.{in_order, before_way, after_way, kept_arrived, new_in_range}
use Rattle.server_core.proofs.Served.{part_there, within_parts, parts_set, parts_back, same_setup, members_set, member_at, stepped_own, kept_own, same_seats, seats_own}
use Rattle.server_core.proofs.Journals.{moves, journals_set, set_twice, refused_moves}
use Rattle.server_core.proofs.Made.{arrivals, makes_of}
use Rattle.server_core.proofs.Performed.{all_seats}
use Rattle.server_core.proofs.Ways.{parts_way}

-- ---- admitted, by the part
pub admits_part : (m : Standing) (s : ℕ) (q : RequestMessage) → AdmitsAt m s q → Admits m.part s q
admits_part m s q a = record { is_open = a.is_open; young = a.young; spare = a.spare; fine = a.fine; shallow = ap (λ n. n == m.part.terms.depth) (sym (length-map m.part.waiting job_of_entry)) ∙ a.shallow }

never_part : (m : Standing) (s : ℕ) (q : RequestMessage) → (AdmitsAt m s q → ⊥) → Admits m.part s q → ⊥
never_part m s q never a = never (record { is_open = a.is_open; young = a.young; spare = a.spare; fine = a.fine; shallow = ap (λ n. n == m.part.terms.depth) (length-map m.part.waiting job_of_entry) ∙ a.shallow })

-- room for it changed nothing but the journal
admits_room : (m rm : Standing) (s : ℕ) (q : RequestMessage) → rm ≡ logged_as rm m → AdmitsAt m s q → AdmitsAt rm s q
admits_room m rm s q same a = subst (λ (x : Standing). AdmitsAt x s q) (sym same) a

admits_before : (m rm : Standing) (s : ℕ) (q : RequestMessage) → rm ≡ logged_as rm m → AdmitsAt rm s q → AdmitsAt m s q
admits_before m rm s q same a = subst (λ (x : Standing). AdmitsAt x s q) same a

-- ---- one that is refused
module _ (A : Type 0) where
  arrives_room : (m rm m' : Standing) (s t : ℕ) (q : RequestMessage) (r : Arrived) → rm ≡ logged_as rm m → Arrives A rm m' s t q r → Arrives A m m' s t q r
  arrives_room m rm m' s t q r same arrives = by r (subst (λ (x : Standing). Arrives A x m' s t q r) same arrives)
    where
      by : (r : Arrived) → Arrives A (logged_as rm m) m' s t q r → Arrives A m m' s t q r
      by (arrival.Accepted n tag) h = h
      by (arrival.Answered error) h = (h.0, record { standing = h.1.standing; told = h.1.told })

  refused_went : (m m' : Standing) (s t : ℕ) (q : RequestMessage) (r : Arrived) → (AdmitsAt m s q → ⊥) → Arrives A m m' s t q r → Went {A = A} m m' (own.Arrive s t q) (step_answer_of_arrive {A = A} (Ok r))
  refused_went m m' s t q (arrival.Accepted n tag) never arrives = absurd (never arrives.0)
  refused_went m m' s t q (arrival.Answered error) never arrives = arrives.1

  refused_step : (ms : List Standing) (now inflight e s t : ℕ) (q : RequestMessage) (m m' : Standing) (x : ArriveRefusalAlone) → e < length ms → m ≡ get_or ms e m → (AdmitsAt m s q → ⊥) → Went {A = A} m m' (own.Arrive s t q) (step_answer_of_refusal x) → Stepped {A = A} (served_of ms now inflight) (Arrive e s t q) (served_of (set ms e m') now inflight) (answer_of_arrive {A = A} (Err (record { refusal = refusal_here x; request = q })))
  refused_step ms now inflight e s t q m m' arriving.NotOpen lt at never went = stepped_own ms now inflight e m m' (Arrive e s t q) (own.Arrive s t q) alone.NotOpen at went (step_refuses (parts ms) now inflight e s t q m.part Weight (within_parts ms e lt) (part_there ms e m lt at) (never_part m s q never))
  refused_step ms now inflight e s t q m m' arriving.Worn lt at never went = stepped_own ms now inflight e m m' (Arrive e s t q) (own.Arrive s t q) alone.Worn at went (step_refuses (parts ms) now inflight e s t q m.part Weight (within_parts ms e lt) (part_there ms e m lt at) (never_part m s q never))
  refused_step ms now inflight e s t q m m' arriving.Hold lt at never went = stepped_own ms now inflight e m m' (Arrive e s t q) (own.Arrive s t q) alone.Hold at went (step_refuses (parts ms) now inflight e s t q m.part Weight (within_parts ms e lt) (part_there ms e m lt at) (never_part m s q never))

  stepped_refused : (ms : List Standing) (now inflight e s t : ℕ) (q : RequestMessage) (m m' : Standing) (r : Arrived) → e < length ms → m ≡ get_or ms e m → (AdmitsAt m s q → ⊥) → Arrives A m m' s t q r → Stepped {A = A} (served_of ms now inflight) (Arrive e s t q) (served_of (set ms e m') now inflight) (answer_of_arrive {A = A} (Ok r))
  stepped_refused ms now inflight e s t q m m' (arrival.Accepted n tag) lt at never arrives = absurd (never arrives.0)
  stepped_refused ms now inflight e s t q m m' (arrival.Answered error) lt at never arrives = stepped_own ms now inflight e m m' (Arrive e s t q) (own.Arrive s t q) (alone.Answered error) at arrives.1 (step_refuses (parts ms) now inflight e s t q m.part Weight (within_parts ms e lt) (part_there ms e m lt at) (never_part m s q never))

  pub kept_refused : {ms : List Standing} {slots : List (Option Tags)} {asked now inflight served : ℕ} {m : Standing} (e s t : ℕ) (q : RequestMessage) (rm m' : Standing) (r : Arrived) → IsServed ms slots asked now inflight served → e < length ms → m ≡ get_or ms e m → rm ≡ logged_as rm m → (AdmitsAt rm s q → ⊥)
      → Arrives A rm m' s t q r → IsServed (set ms e m') slots asked now inflight served
  kept_refused {m} e s t q rm m' r kept lt at same never arrives =
      kept_own e kept lt at (refused_went m m' s t q r (λ a. never (admits_room m rm s q same a)) (arrives_room m rm m' s t q r same arrives))

  pub makes_refused : {old : Served} {m : Standing} (ms : List Standing) (now inflight e s t : ℕ) (q : RequestMessage) (rm m' : Standing) (r : Arrived) → served_of ms now inflight ≡ old → e < length ms → m ≡ get_or ms e m → rm ≡ logged_as rm m → (AdmitsAt rm s q → ⊥) → Arrives A rm m' s t q r
      → JournalMove {A = A} m.part.terms (own.Arrive s t q) (as_alone (answer_of_arrive (Ok r))) m.journal m'.journal → Makes {A = A} old (Arrive e s t q) (served_of (set ms e m') now inflight) (answer_of_arrive (Ok r))
  makes_refused {m} ms now inflight e s t q rm m' r view lt at same never arrives move =
      let never_here : AdmitsAt m s q → ⊥ = λ a. never (admits_room m rm s q same a) in
      let here = arrives_room m rm m' s t q r same arrives in
      makes_of ms now inflight (arrivals e s t q) view (stepped_refused ms now inflight e s t q m m' r lt at never_here here)
      (moves ms now inflight e m m'.journal (own.Arrive s t q) (served_of (set ms e m') now inflight) (answer_of_arrive (Ok r)) lt at (journals_set ms e m') move)
      (seats_own ms e m m' (own.Arrive s t q) (step_answer_of_arrive {A = A} (Ok r)) at (refused_went m m' s t q r never_here here))

  -- ---- there is no room for it
  makes_no_room : {old : Served} {m : Standing} (ms : List Standing) (now inflight e s t : ℕ) (q : RequestMessage) (rm : Standing) → served_of ms now inflight ≡ old → e < length ms → m ≡ get_or ms e m → rm ≡ logged_as rm m → MayArrive (cell_at m).live s (Ok tt)
      → JournalMove {A = A} m.part.terms (own.Arrive s t q) None m.journal rm.journal → Makes {A = A} old (Arrive e s t q) (served_of (set ms e rm) now inflight) NoMemory
  makes_no_room {m} ms now inflight e s t q rm view lt at same may move =
      let back : parts (set ms e rm) ≡ parts ms = parts_back ms e m rm at (ap (λ (x : Standing). x.part) same) in
      makes_of ms now inflight (arrivals e s t q) view
      (record {
        stepped = no_room_to_arrive (parts ms) now inflight e s t q m.part (within_parts ms e lt) (part_there ms e m lt at) may.0 may.1 may.2
            ∙ ap (λ (l : List Part). outcome {A = A} (table_of l now) NoMemory) (sym back);
        setup = ap (λ (l : List Part). setup_of l inflight) back;
      })
      (moves ms now inflight e m rm.journal (own.Arrive s t q) (served_of (set ms e rm) now inflight) NoMemory lt at (journals_set ms e rm) move)
      (same_seats ms e m rm at (ap (λ (x : Standing). x.seats) same))

  -- ---- it has no place
  refused_goes : (m rm : Standing) (s t : ℕ) (q : RequestMessage) (x : ArriveRefusalAlone) → rm ≡ logged_as rm m → MayArrive (cell_at m).live s (Err x) → Went {A = A} m rm (own.Arrive s t q) (step_answer_of_refusal x)
  refused_goes m rm s t q x same may =
      let does = arrive_refused {A = A} (cell_at m).live s t q x may in
      record {
        standing = same ∙ ap (λ (moved : Moved A). with_state moved.state (logged_as rm m)) (sym does.did);
        told = ap (λ (moved : Moved A). moved.answer) (sym does.did);
      }

  pub makes_turned : {old : Served} {m : Standing} (ms : List Standing) (now inflight e s t : ℕ) (q : RequestMessage) (rm : Standing) (f : ArriveFault) → served_of ms now inflight ≡ old → e < length ms → m ≡ get_or ms e m → rm ≡ logged_as rm m → IsTurnedAwayAt m rm s q f
      → Makes {A = A} old (Arrive e s t q) (served_of (set ms e rm) now inflight) (answer_of_arrive {A = A} (Err (record { refusal = fault_here f; request = q })))
  makes_turned {m} ms now inflight e s t q rm (fault.Refused x) view lt at same turned =
      let went = refused_goes m rm s t q x same turned.0 in
      makes_of ms now inflight (arrivals e s t q) view (refused_step ms now inflight e s t q m rm x lt at (refused_never (cell_at m).live s q x turned.0) went)
      (moves ms now inflight e m rm.journal (own.Arrive s t q) (served_of (set ms e rm) now inflight) (answer_of_arrive {A = A} (Err (record { refusal = refusal_here x; request = q }))) lt at (journals_set ms e rm)
      (refused_moves A m.part.terms m.journal rm.journal s t q x (ap (λ (v : Standing). v.journal) turned.1)))
      (seats_own ms e m rm (own.Arrive s t q) (step_answer_of_refusal x) at went)
  makes_turned ms now inflight e s t q rm fault.NoMemory view lt at same turned = makes_no_room ms now inflight e s t q rm view lt at same turned.0 turned.1

-- ---- ranges
pub part_range : {ms : List Standing} {slots : List (Option Tags)} {asked now inflight served : ℕ} {m : Standing} (e : ℕ) → IsServed ms slots asked now inflight served → e < length ms → m ≡ get_or ms e m → TagsInRange m.part
part_range {ms} {slots} {asked} {now} {inflight} {served} {m} e kept lt at = part_at TagsInRange (parts ms) e m.part (before_way (parts ms) slots asked now inflight served kept.server) (within_parts ms e lt) (part_there ms e m lt at)

pub rates_short : {ms : List Standing} {slots : List (Option Tags)} {asked now inflight served : ℕ} {m : Standing} (e : ℕ) → IsServed ms slots asked now inflight served → e < length ms → m ≡ get_or ms e m → AreShort m.part.rates
rates_short {ms} {m} e kept lt at =
    let one : IsPart (total (parts ms)) m.part = part_at (IsPart (total (parts ms))) (parts ms) e m.part kept.server.each (within_parts ms e lt) (part_there ms e m lt at) in
    one.rates

fall_range : (total t : ℕ) (z : ℤ) → total ≤ 2 ^ 62 → t < 2 ^ 62 → Within 0 (total * 2 ^ 63) z → InRange (z -ℤ pos t)
fall_range total t (pos n) few small h = record { in_range = let up = h.not_above in search (arith, ints) }
fall_range total t (negsuc n) few small h = absurd (let down = h.not_below in omega (arith, ints))

pub falls : {ms : List Standing} {slots : List (Option Tags)} {asked now inflight served : ℕ} (t : ℕ) → IsServed ms slots asked now inflight served → t < 2 ^ 62 → IsFallInRange (least_first_p (parts ms)) (pos t)
falls {ms} t kept small = by (least_first_p (parts ms)) (least_within (total (parts ms)) 0 (parts ms) kept.server.each)
  where
    few : total (parts ms) ≤ 2 ^ 62
    few = let n = kept.server.few in let s = total_small (total (parts ms)) (parts ms) kept.server.each in omega arith

    by : (o : Option (ℤ × ℕ)) → IsKeyWithin (total (parts ms)) o → IsFallInRange o (pos t)
    by None h = tt
    by (Some a) h = fall_range (total (parts ms)) t a.0 few small h

pub way_range : {ms : List Standing} {slots : List (Option Tags)} {asked now inflight served : ℕ} (n t : ℕ) → IsServed ms slots asked now inflight served → t < 2 ^ 62 → AllParts TagsInRange (way_for n (pos t) (parts ms))
way_range {ms} {slots} {asked} {now} {inflight} {served} n t kept small = after_way (parts ms) slots asked now inflight served n t kept.server small

-- ---- once way is made
shifted_idle : (d : ℤ) (m : Standing) → (length m.part.waiting == 0) ≡ true → shifted_standing d m ≡ m
shifted_idle d m is = by m.part.waiting refl
  where
    by : (w : List Entry) → m.part.waiting ≡ w → shifted_standing d m ≡ m
    by [] none =
        ap (λ (b : Bool). record m { part = record m.part { waiting = map (entry_shifted d) m.part.waiting; last_p = cond b m.part.last_p (lowered d m.part.last_p) } }) is
        ∙ ap (λ (l : List Entry). record m { part = record m.part { waiting = l } }) (ap (map (entry_shifted d)) none ∙ sym none)
    by (x ∷ xs) some = absurd (let n = ap length some in grind (arith, nat_tests, is, n))

pub member_same : (t : ℤ) (ms : List Standing) (e : ℕ) (m d : Standing) → e < length ms → m ≡ get_or ms e m → get_or (way_of (length m.part.waiting) t ms) e d ≡ m
member_same t ms e m d lt at = by_test (length m.part.waiting == 0) refl
  where
    by_first : (o : Option (ℤ × ℕ)) → (length m.part.waiting == 0) ≡ true → get_or (lowered_to o t ms) e d ≡ m
    by_first None is = get_or_default ms e d m lt ∙ sym at
    by_first (Some a) is = get_or-map (shifted_standing (a.0 -ℤ t)) ms e m d lt ∙ ap (shifted_standing (a.0 -ℤ t)) (sym at) ∙ shifted_idle (a.0 -ℤ t) m is

    by_test : (b : Bool) → (length m.part.waiting == 0) ≡ b → get_or (cond b (lowered_to (least_first_p (parts ms)) t ms) ms) e d ≡ m
    by_test true is = by_first (least_first_p (parts ms)) is
    by_test false is = get_or_default ms e d m lt ∙ sym at

-- the member that is found after the way is the one with the room
pub found_room : {way : List Standing} {d : Standing} (ms : List Standing) (e t n : ℕ) (rm : Standing) → e < length ms → n ≡ length rm.part.waiting → way ≡ way_of n (pos t) (set ms e rm) → d ≡ get_or way e d → d ≡ rm
found_room {way} {d} ms e t n rm lt is way_is there =
    there ∙ ap (λ (l : List Standing). get_or l e d) (way_is ∙ ap (λ k. way_of k (pos t) (set ms e rm)) is)
    ∙ member_same (pos t) (set ms e rm) e rm d (subst (λ k. e < k) (sym (length-set ms e rm)) lt) (sym (get_or-set_same ms e rm rm lt))

-- so is the way, but for its journal
way_room : (n : ℕ) (t : ℤ) (ms : List Standing) (e : ℕ) (m rm m' : Standing) → m ≡ get_or ms e m → rm ≡ logged_as rm m → set (way_of n t (set ms e rm)) e m' ≡ set (way_of n t ms) e m'
way_room n t ms e m rm m' at same = by_test (n == 0)
  where
    back : parts (set ms e rm) ≡ parts ms
    back = parts_back ms e m rm at (ap (λ (x : Standing). x.part) same)

    by_first : (o : Option (ℤ × ℕ)) → set (lowered_to o t (set ms e rm)) e m' ≡ set (lowered_to o t ms) e m'
    by_first None = set_twice ms e rm m'
    by_first (Some a) =
        let f = shifted_standing (a.0 -ℤ t) in
        ap (λ (l : List Standing). set l e m') (map-set f ms e rm) ∙ set_twice (map f ms) e (f rm) m'

    by_test : (b : Bool) → set (cond b (lowered_to (least_first_p (parts (set ms e rm))) t (set ms e rm)) (set ms e rm)) e m' ≡ set (cond b (lowered_to (least_first_p (parts ms)) t ms) ms) e m'
    by_test false = set_twice ms e rm m'
    by_test true = ap (λ (ps : List Part). set (lowered_to (least_first_p ps) t (set ms e rm)) e m') back ∙ by_first (least_first_p (parts ms))

pub way_same : {way : List Standing} {m : Standing} (ms : List Standing) (e t n : ℕ) (rm m' : Standing) → m ≡ get_or ms e m → rm ≡ logged_as rm m → n ≡ length rm.part.waiting → way ≡ way_of n (pos t) (set ms e rm) → set way e m' ≡ set (way_of (length m.part.waiting) (pos t) ms) e m'
way_same {way} {m} ms e t n rm m' at same is way_is =
    ap (λ (l : List Standing). set l e m') way_is
    ∙ way_room n (pos t) ms e m rm m' at same
    ∙ ap (λ k. set (way_of k (pos t) ms) e m') (is ∙ ap (λ (x : Standing). length x.part.waiting) same)

same_by : {X : Type 0} (f : List Standing → X) → ((d : ℤ) (ms : List Standing) → f (map (shifted_standing d) ms) ≡ f ms) → (n : ℕ) (t : ℤ) (ms : List Standing) → f (way_of n t ms) ≡ f ms
same_by f same n t ms = by_test (n == 0) (least_first_p (parts ms))
  where
    by_test : (b : Bool) (o : Option (ℤ × ℕ)) → f (cond b (lowered_to o t ms) ms) ≡ f ms
    by_test false o = refl
    by_test true None = refl
    by_test true (Some a) = same (a.0 -ℤ t) ms

terms_shifted : (d : ℤ) (ms : List Standing) → map (λ (p : Part). p.terms) (parts (map (shifted_standing d) ms)) ≡ map (λ (p : Part). p.terms) (parts ms)
terms_shifted d [] = refl
terms_shifted d (m ∷ ms) = ap (λ l. m.part.terms ∷ l) (terms_shifted d ms)

seats_shifted : (d : ℤ) (ms : List Standing) → all_seats (map (shifted_standing d) ms) ≡ all_seats ms
seats_shifted d [] = refl
seats_shifted d (m ∷ ms) = ap (λ l. m.seats ∷ l) (seats_shifted d ms)

journals_shifted : (d : ℤ) (ms : List Standing) → journals_of (map (shifted_standing d) ms) ≡ journals_of ms
journals_shifted d [] = refl
journals_shifted d (m ∷ ms) = ap (λ (l : List Journal). m.journal ∷ l) (journals_shifted d ms)

journals_way : (n : ℕ) (t : ℤ) (ms : List Standing) → journals_of (way_of n t ms) ≡ journals_of ms
journals_way n t ms = same_by journals_of journals_shifted n t ms

pub length_way : (n : ℕ) (t : ℤ) (ms : List Standing) → length (way_of n t ms) ≡ length ms
length_way n t ms = same_by length (λ d l. length-map l (shifted_standing d)) n t ms

room_shifted : (inflight : ℕ) (d : ℤ) (ms : List Standing) → AllMembers (λ m. m.inflight ≡ inflight) ms → AllMembers (λ m. m.inflight ≡ inflight) (map (shifted_standing d) ms)
room_shifted inflight d [] h = tt
room_shifted inflight d (m ∷ ms) h = (h.0, room_shifted inflight d ms h.1)

room_way : (inflight n : ℕ) (t : ℤ) (ms : List Standing) → AllMembers (λ m. m.inflight ≡ inflight) ms → AllMembers (λ m. m.inflight ≡ inflight) (way_of n t ms)
room_way inflight n t ms h = by_test (n == 0) (least_first_p (parts ms))
  where
    by_test : (b : Bool) (o : Option (ℤ × ℕ)) → AllMembers (λ m. m.inflight ≡ inflight) (cond b (lowered_to o t ms) ms)
    by_test false o = h
    by_test true None = h
    by_test true (Some a) = room_shifted inflight (a.0 -ℤ t) ms h

-- ---- one that is accepted
heads_set : (ms : List Standing) (e : ℕ) (m : Standing) → heads (parts (set ms e m)) ≡ set (heads (parts ms)) e (head_tags m.part.waiting)
heads_set ms e m = ap heads (parts_set ms e m) ∙ map-set (λ (p : Part). head_tags p.waiting) (parts ms) e m.part

module _ (A : Type 0) where
  accepted_at : (m m' : Standing) (s t : ℕ) (q : RequestMessage) (r : Arrived) → AdmitsAt m s q → Arrives A m m' s t q r → m' ≡ accepted_standing s t q (logged_as m' m)
  accepted_at m m' s t q (arrival.Accepted n tag) a arrives = arrives.1
  accepted_at m m' s t q (arrival.Answered error) a arrives = absurd (arrives.0 a)

  accepted_told : (m m' : Standing) (s t : ℕ) (q : RequestMessage) (r : Arrived) → AdmitsAt m s q → Arrives A m m' s t q r → Accepted m.part.next (part_tags m.part t).l ≡ answer_of_arrive {A = A} (Ok r)
  accepted_told m m' s t q (arrival.Accepted n tag) a arrives = ap (λ k. Accepted k (part_tags m.part t).l) (sym arrives.2) ∙ ap (λ l. Accepted n l) (sym arrives.3)
  accepted_told m m' s t q (arrival.Answered error) a arrives = absurd (arrives.0 a)

  stepped_accepted : (ms : List Standing) (slots : List (Option Tags)) (asked now inflight served e s t : ℕ) (q : RequestMessage) (m m' : Standing) (r : Arrived) → IsServed ms slots asked now inflight served → e < length ms → m ≡ get_or ms e m → AdmitsAt m s q → Arrives A m m' s t q r → Stepped {A = A} (served_of ms now inflight) (Arrive e s t q) (served_of (set (way_of (length m.part.waiting) (pos t) ms) e m') now inflight) (answer_of_arrive {A = A} (Ok r))
  stepped_accepted ms slots asked now inflight served e s t q m m' r kept lt at a arrives =
      let order = in_order (total (parts ms)) (parts ms) kept.server.each in
      let way = way_of (length m.part.waiting) (pos t) ms in
      let after = accepted_part s q (part_tags m.part t) m.part in
      let is : m' ≡ accepted_standing s t q (logged_as m' m) = accepted_at m m' s t q r a arrives in
      let l : set (way_for (length m.part.waiting) (pos t) (parts ms)) e after ≡ parts (set way e m') =
      ap (λ (ps : List Part). set ps e after) (sym (parts_way (length m.part.waiting) (pos t) ms)) ∙ ap (λ (x : Standing). set (parts way) e x.part) (sym is) ∙ sym (parts_set way e m') in
      let there : m ≡ get_or way e m = sym (member_same (pos t) ms e m m lt at) in
      subst (Stepped {A = A} (served_of ms now inflight) (Arrive e s t q) (served_of (set way e m') now inflight)) (accepted_told m m' s t q r a arrives)
      (record {
        stepped = step_accepts (parts ms) now inflight e s t q m.part order.0 order.1 (within_parts ms e lt) (part_there ms e m lt at) (admits_part m s q a)
            ∙ ap (λ (ps : List Part). outcome {A = A} (table_of ps now) (Accepted m.part.next (part_tags m.part t).l)) l;
        setup = ap (λ l. record { exports = l; inflight = inflight }) (same_setup way e m m' there (ap (λ (x : Standing). x.part.terms) is) ∙ same_by (λ (l : List Standing). map (λ (p : Part). p.terms) (parts l)) terms_shifted (length m.part.waiting) (pos t) ms);
      })

  kept_admitted : (ms : List Standing) (slots slots' : List (Option Tags)) (asked asked' now inflight served e s t : ℕ) (q : RequestMessage) (m m' : Standing) (r : Arrived) → IsServed ms slots asked now inflight served → e < length ms → m ≡ get_or ms e m → AdmitsAt m s q → Arrives A m m' s t q r → t < 2 ^ 62 → slots' ≡ set (heads (parts (way_of (length m.part.waiting) (pos t) ms))) e (head_tags m'.part.waiting) → asked' ≤ now → IsServed (set (way_of (length m.part.waiting) (pos t) ms) e m') slots' asked' now inflight served
  kept_admitted ms slots slots' asked asked' now inflight served e s t q m m' r kept lt at a arrives small firsts le =
      let way = way_of (length m.part.waiting) (pos t) ms in
      let after = accepted_part s q (part_tags m.part t) m.part in
      let is : m' ≡ accepted_standing s t q (logged_as m' m) = accepted_at m m' s t q r a arrives in
      let l : set (way_for (length m.part.waiting) (pos t) (parts ms)) e after ≡ parts (set way e m') =
      ap (λ (ps : List Part). set ps e after) (sym (parts_way (length m.part.waiting) (pos t) ms)) ∙ ap (λ (x : Standing). set (parts way) e x.part) (sym is) ∙ sym (parts_set way e m') in
      let f : slots' ≡ set (heads (way_for (length m.part.waiting) (pos t) (parts ms))) e (head_tags after.waiting) =
      firsts ∙ ap (λ (ps : List Part). set (heads ps) e (head_tags m'.part.waiting)) (parts_way (length m.part.waiting) (pos t) ms) ∙ ap (λ (x : Standing). set (heads (way_for (length m.part.waiting) (pos t) (parts ms))) e (head_tags x.part.waiting)) is in
      record {
        server = subst (λ (ps : List Part). IsServer ps slots' asked' now inflight served) l
            (kept_arrived (parts ms) slots slots' asked asked' now inflight served e s t q m.part kept.server (within_parts ms e lt) (part_there ms e m lt at) (admits_part m s q a) small f le);
        room = members_set (λ (x : Standing). x.inflight ≡ inflight) way e m' (room_way inflight (length m.part.waiting) (pos t) ms kept.room) (ap (λ (x : Standing). x.inflight) is ∙ member_at (λ (x : Standing). x.inflight ≡ inflight) ms e m kept.room lt at);
      }

  pub first_in_range : {ms : List Standing} {slots : List (Option Tags)} {asked now inflight served : ℕ} {m : Standing} (e s t : ℕ) (q : RequestMessage) (rm m' : Standing) (r : Arrived) → IsServed ms slots asked now inflight served → e < length ms → m ≡ get_or ms e m → rm ≡ logged_as rm m → AdmitsAt rm s q
      → Arrives A rm m' s t q r → t < 2 ^ 62 → IsSlotInRange (head_tags m'.part.waiting)
  first_in_range {ms} {slots} {asked} {now} {inflight} {served} {m} e s t q rm m' r kept lt at same a arrives small =
      let admits = admits_before m rm s q same a in
      subst (λ (x : Standing). IsSlotInRange (head_tags x.part.waiting)) (sym (accepted_at m m' s t q r admits (arrives_room A m rm m' s t q r same arrives)))
      (new_in_range (parts ms) slots asked now inflight served e s t q m.part kept.server (within_parts ms e lt) (part_there ms e m lt at) (admits_part m s q admits) small)

  seats_accepted : (ms : List Standing) (e s t : ℕ) (q : RequestMessage) (m m' : Standing) (r : Arrived) → e < length ms → m ≡ get_or ms e m → AdmitsAt m s q → Arrives A m m' s t q r → all_seats (set (way_of (length m.part.waiting) (pos t) ms) e m') ≡ all_seats ms
  seats_accepted ms e s t q m m' r lt at a arrives =
      same_seats (way_of (length m.part.waiting) (pos t) ms) e m m' (sym (member_same (pos t) ms e m m lt at)) (ap (λ (x : Standing). x.seats) (accepted_at m m' s t q r a arrives))
      ∙ same_by all_seats seats_shifted (length m.part.waiting) (pos t) ms

  pub kept_accepted : {ms way : List Standing} {slots slots' there : List (Option Tags)} {asked asked' now inflight served : ℕ} {m : Standing} {first : Option Tags} (e s t n : ℕ) (q : RequestMessage) (rm m' : Standing) (r : Arrived) → IsServed ms slots asked now inflight served → e < length ms → m ≡ get_or ms e m
      → rm ≡ logged_as rm m → AdmitsAt rm s q → Arrives A rm m' s t q r → t < 2 ^ 62 → n ≡ length rm.part.waiting → way ≡ way_of n (pos t) (set ms e rm) → there ≡ heads (parts way) → first ≡ head_tags m'.part.waiting → slots' ≡ set there e first → asked' ≤ now → IsServed (set way e m') slots' asked' now inflight served
  kept_accepted {ms} {way} {slots} {slots'} {there} {asked} {asked'} {now} {inflight} {served} {m} {first} e s t n q rm m' r kept lt at same a arrives small is way_is there_is first_is slots_is le =
      let W = way_of (length m.part.waiting) (pos t) ms in
      let back = way_same ms e t n rm m' at same is way_is in
      let firsts : slots' ≡ set (heads (parts W)) e (head_tags m'.part.waiting) =
      slots_is ∙ ap (λ (l : List (Option Tags)). set l e first) there_is ∙ ap (set (heads (parts way)) e) first_is ∙ sym (heads_set way e m') ∙ ap (λ (l : List Standing). heads (parts l)) back ∙ heads_set W e m' in
      subst (λ (l : List Standing). IsServed l slots' asked' now inflight served) (sym back)
      (kept_admitted ms slots slots' asked asked' now inflight served e s t q m m' r kept lt at (admits_before m rm s q same a) (arrives_room A m rm m' s t q r same arrives) small firsts le)

  pub makes_accepted : {ms way : List Standing} {slots : List (Option Tags)} {asked now inflight served : ℕ} {m : Standing} {old : Served} (e s t n : ℕ) (q : RequestMessage) (rm m' : Standing) (r : Arrived) → IsServed ms slots asked now inflight served → served_of ms now inflight ≡ old → e < length ms → m ≡ get_or ms e m
      → rm ≡ logged_as rm m → AdmitsAt rm s q → Arrives A rm m' s t q r → n ≡ length rm.part.waiting → way ≡ way_of n (pos t) (set ms e rm) → JournalMove {A = A} m.part.terms (own.Arrive s t q) (as_alone (answer_of_arrive (Ok r))) m.journal m'.journal
      → Makes {A = A} old (Arrive e s t q) (served_of (set way e m') now inflight) (answer_of_arrive (Ok r))
  makes_accepted {ms} {way} {slots} {asked} {now} {inflight} {served} {m} {old} e s t n q rm m' r kept view lt at same a arrives is way_is move =
      let W = way_of (length m.part.waiting) (pos t) ms in
      let admits = admits_before m rm s q same a in
      let here = arrives_room A m rm m' s t q r same arrives in
      subst (λ (l : List Standing). Makes {A = A} old (Arrive e s t q) (served_of l now inflight) (answer_of_arrive (Ok r))) (sym (way_same ms e t n rm m' at same is way_is))
      (makes_of ms now inflight (arrivals e s t q) view (stepped_accepted ms slots asked now inflight served e s t q m m' r kept lt at admits here)
      (moves ms now inflight e m m'.journal (own.Arrive s t q) (served_of (set W e m') now inflight) (answer_of_arrive (Ok r)) lt at (journals_set W e m' ∙ ap (λ l. set l e m'.journal) (journals_way (length m.part.waiting) (pos t) ms)) move)
      (seats_accepted ms e s t q m m' r lt at admits here))

  -- where one waited, the first request is the same
  pub same_first : (m m' : Standing) (s t : ℕ) (q : RequestMessage) (r : Arrived) (was first : Option Tags) → AdmitsAt m s q → Arrives A m m' s t q r → was ≡ head_tags m.part.waiting → first ≡ head_tags m'.part.waiting → IfSome was (λ tags. first ≡ Some tags)
  same_first m m' s t q r was first a arrives was_is first_is =
      subst (λ (o : Option Tags). IfSome o (λ tags. first ≡ Some tags)) (sym was_is)
      (subst (λ (o : Option Tags). IfSome (head_tags m.part.waiting) (λ tags. o ≡ Some tags)) (sym (first_is ∙ ap (λ (x : Standing). head_tags x.part.waiting) (accepted_at m m' s t q r a arrives)))
      (by m.part.waiting))
    where
      by : (w : List Entry) → IfSome (head_tags w) (λ tags. head_tags (w ++ record { number = m.part.next; session = s; request = q; tags = part_tags m.part t } ∷ []) ≡ Some tags)
      by [] = tt
      by (x ∷ xs) = refl

slot_was : (t n : ℕ) (ms way : List Standing) (slots : List (Option Tags)) (e : ℕ) (m : Standing) (was : Option Tags) → e < length ms → m ≡ get_or ms e m → n ≡ length m.part.waiting → way ≡ way_of n (pos t) ms → slots ≡ heads (parts way) → was ≡ head_tags m.part.waiting → slice_get slots e ≡ Some was
slot_was t n ms way slots e m was lt at is way_is slots_is was_is =
    let within : e < length way = subst (λ k. e < k) (sym (ap length way_is ∙ length_way n (pos t) ms)) lt in
    let there : m ≡ get_or way e m = sym (member_same (pos t) ms e m m lt at) ∙ ap (λ k. get_or (way_of k (pos t) ms) e m) (sym is) ∙ ap (λ (l : List Standing). get_or l e m) (sym way_is) in
    ap (λ l. slice_get l e) slots_is
    ∙ slice_get-get_or (heads (parts way)) e was (subst (λ k. e < k) (sym (length-map (parts way) (λ (p : Part). head_tags p.waiting))) (within_parts way e within))
    ∙ ap Some (get_or-map (λ (p : Part). head_tags p.waiting) (parts way) e m.part was (within_parts way e within) ∙ ap (λ (p : Part). head_tags p.waiting) (sym (part_there way e m within there)) ∙ sym was_is)

pub slot_room : {way : List Standing} {slots : List (Option Tags)} {was : Option Tags} (ms : List Standing) (e t n : ℕ) (rm : Standing) → e < length ms → n ≡ length rm.part.waiting → way ≡ way_of n (pos t) (set ms e rm) → slots ≡ heads (parts way) → was ≡ head_tags rm.part.waiting → slice_get slots e ≡ Some was
slot_room {way} {slots} {was} ms e t n rm lt = slot_was t n (set ms e rm) way slots e rm was (subst (λ k. e < k) (sym (length-set ms e rm)) lt) (sym (get_or-set_same ms e rm rm lt))

pub few_members : {ms : List Standing} {slots : List (Option Tags)} {asked now inflight served : ℕ} → IsServed ms slots asked now inflight served → length ms ≤ 64
few_members {ms} kept = subst (λ n. n ≤ 64) (length-map ms (λ (m : Standing). m.part)) kept.server.few
