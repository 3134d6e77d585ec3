-- From a call of one export to the step of the server.
use Rattle.std.proofs.Common.{◌≡◌, ℕ, zero, suc, ◌<◌, ◌≤◌, Bool, true, false, Option, Some, None, Result, Ok, Err, List, [], ◌∷◌, map, length, set, get_or, refl, sym, ◌∙◌, ap, subst, arith}
use Rattle.std.proofs.lemmas.List.{length-map, map-set, get_or-map}
use Rattle.nbd_commands.specs.Terms.{Terms}
use Rattle.tag_clock.specs.declared.Tags.{Tags}
use Rattle.tag_clock.specs.declared.Phase.TheVariants.{Weight}
use Rattle.reply_box.specs.declared.fault.NotOpen.{NotOpen}
use Rattle.reply_box.specs.declared.seat.Taken.{Taken}
use Rattle.reply_box.specs.declared.seat.Taken.TheVariants as taking
use Rattle.lone_export.specs.Alone.{Alone, own_step}
use Rattle.lone_export.specs.Lone.{step_answer_of_attach, step_answer_of_leave, step_answer_of_gone, step_answer_of_take}
use Rattle.lone_export.specs.declared.refusal.NotAttached.{NotAttached}
use Rattle.lone_export.specs.declared.refusal.NotAttached.TheVariants.{Refused, NoMemory}
use Rattle.lone_export.specs.declared.refusal.AttachRefusal.TheVariants as attaching
use Rattle.lone_export.specs.declared.step.Step.{Step}
use Rattle.lone_export.specs.declared.step.Step.TheVariants as own
use Rattle.lone_export.specs.declared.step.StepAnswer.{StepAnswer}
use Rattle.lone_export.specs.declared.step.StepAnswer.TheVariants as alone
use Rattle.lone_export.specs.Calls.{is_counted, IsOneStep, brought}
use Rattle.lone_export.proofs.Steps.{steps}
use Rattle.server_table.specs.declared.event.Event.{Event}
use Rattle.server_table.specs.declared.event.Event.TheVariants.{Attach}
use Rattle.server_table.specs.declared.event.Answer.TheVariants as answer
use Rattle.server_table.specs.Parts.{Part, table_of, setup_of, alone_of, with_alone}
use Rattle.server_table.specs.Shares.{mark_of}
use Rattle.server_table.specs.Steps.{step}
use Rattle.server_table.specs.Answers.{as_answer}
use Rattle.server_table.specs.Kept.{as_moved}
use Rattle.server_table.proofs.Sides.{step_attach}
use Rattle.server_table.proofs.Refused.{no_room_to_attach}
use Rattle.server_core.specs.Here.{here, attached}
use Rattle.server_core.specs.Kept.{IsServer}
use Rattle.server_core.specs.Members.{Standing, own as own_of, logged_as, Went, WentOr, WantsMemory}
use Rattle.server_core.specs.Served.{parts, served_of, AllMembers, IsServed, Stepped, answer_of_attach, answer_of_leave, answer_of_gone, answer_of_take}
use Rattle.server_core.proofs.Changed.{kept_seated}

-- ---- the parts of the members
pub part_there : (ms : List Standing) (e : ℕ) (m : Standing) → e < length ms → m ≡ get_or ms e m → m.part ≡ get_or (parts ms) e m.part
part_there ms e m lt at = ap (λ (x : Standing). x.part) at ∙ sym (get_or-map (λ (x : Standing). x.part) ms e m m.part lt)

pub within_parts : (ms : List Standing) (e : ℕ) → e < length ms → e < length (parts ms)
within_parts ms e lt = subst (λ n. e < n) (sym (length-map ms (λ (x : Standing). x.part))) lt

pub set_back : (ms : List Standing) (e : ℕ) (m m' : Standing) → m ≡ get_or ms e m → m' ≡ m → set ms e m' ≡ ms
set_back [] e m m' at is = refl
set_back (x ∷ xs) zero m m' at is = ap (λ (y : Standing). y ∷ xs) (is ∙ at)
set_back (x ∷ xs) (suc e) m m' at is = ap (λ l. x ∷ l) (set_back xs e m m' at is)

pub parts_set : (ms : List Standing) (e : ℕ) (m : Standing) → parts (set ms e m) ≡ set (parts ms) e m.part
parts_set ms e m = map-set (λ (x : Standing). x.part) ms e m

pub parts_back : (ms : List Standing) (e : ℕ) (m m' : Standing) → m ≡ get_or ms e m → m'.part ≡ m.part → parts (set ms e m') ≡ parts ms
parts_back [] e m m' at is = refl
parts_back (x ∷ xs) zero m m' at is = ap (λ (p : Part). p ∷ parts xs) (is ∙ ap (λ (y : Standing). y.part) at)
parts_back (x ∷ xs) (suc e) m m' at is = ap (λ (l : List Part). x.part ∷ l) (parts_back xs e m m' at is)

pub same_setup : (ms : List Standing) (e : ℕ) (m m' : Standing) → m ≡ get_or ms e m → m'.part.terms ≡ m.part.terms → map (λ (p : Part). p.terms) (parts (set ms e m')) ≡ map (λ (p : Part). p.terms) (parts ms)
same_setup [] e m m' at is = refl
same_setup (x ∷ xs) zero m m' at is = ap (λ t. t ∷ map (λ (p : Part). p.terms) (parts xs)) (is ∙ ap (λ (y : Standing). y.part.terms) at)
same_setup (x ∷ xs) (suc e) m m' at is = ap (λ l. x.part.terms ∷ l) (same_setup xs e m m' at is)

pub same_seats : (ms : List Standing) (e : ℕ) (m m' : Standing) → m ≡ get_or ms e m → m'.seats ≡ m.seats → map (λ (x : Standing). x.seats) (set ms e m') ≡ map (λ (x : Standing). x.seats) ms
same_seats [] e m m' at is = refl
same_seats (x ∷ xs) zero m m' at is = ap (λ t. t ∷ map (λ (y : Standing). y.seats) xs) (is ∙ ap (λ (y : Standing). y.seats) at)
same_seats (x ∷ xs) (suc e) m m' at is = ap (λ l. x.seats ∷ l) (same_seats xs e m m' at is)

pub members_set : (P : Standing → Type 0) (ms : List Standing) (e : ℕ) (m : Standing) → AllMembers P ms → P m → AllMembers P (set ms e m)
members_set P [] e m all one = tt
members_set P (x ∷ xs) zero m all one = (one, all.1)
members_set P (x ∷ xs) (suc e) m all one = (all.0, members_set P xs e m all.1 one)

pub member_at : (P : Standing → Type 0) (ms : List Standing) (e : ℕ) (m : Standing) → AllMembers P ms → e < length ms → m ≡ get_or ms e m → P m
member_at P [] e m all lt at = absurd (omega arith)
member_at P (x ∷ xs) zero m all lt at = subst P (sym at) all.0
member_at P (x ∷ xs) (suc e) m all lt at = member_at P xs e m all.1 (omega arith) at

-- of one export only the journal changed
pub kept_logged : {ms : List Standing} {slots : List (Option Tags)} {asked now inflight served : ℕ} {m m' : Standing} (e : ℕ) → IsServed ms slots asked now inflight served → e < length ms → m ≡ get_or ms e m → m' ≡ logged_as m' m → IsServed (set ms e m') slots asked now inflight served
kept_logged {ms} {slots} {asked} {now} {inflight} {served} {m} {m'} e kept lt at is = record {
  server = subst (λ (l : List Part). IsServer l slots asked now inflight served) (sym (parts_back ms e m m' at (ap (λ (x : Standing). x.part) is))) kept.server;
  room = members_set (λ (x : Standing). x.inflight ≡ inflight) ms e m' kept.room (ap (λ (x : Standing). x.inflight) is ∙ member_at (λ (x : Standing). x.inflight ≡ inflight) ms e m kept.room lt at);
}

pub beyond : (ms : List Standing) (e : ℕ) → length ms ≤ e → length (parts ms) ≤ e
beyond ms e le = subst (λ n. n ≤ e) (sym (length-map ms (λ (x : Standing). x.part))) le

-- ---- a step of one export
module _ {A : Type 0} where
  pub grows : (terms : Terms) (state : Alone) (one : Step A) → state.count ≤ (own_step terms state one).state.count
  grows terms state one = by_answer (is_counted (own_step terms state one).answer) refl
    where
      law : IsOneStep (brought one) state (own_step terms state one)
      law = steps terms state one

      by_answer : (b : Bool) → is_counted (own_step terms state one).answer ≡ b → state.count ≤ (own_step terms state one).state.count
      by_answer true is = let c = law.counts is in omega arith
      by_answer false is = let c : (own_step terms state one).state.count ≡ state.count = ap (λ (s : Alone). s.count) (law.stays is) in omega arith

  -- a call of one export that is an own step is a step of the server
  pub stepped_own : (ms : List Standing) (now inflight e : ℕ) (m m' : Standing) (event : Event A) (one : Step A) (said : StepAnswer A) → m ≡ get_or ms e m → Went m m' one said →
      step (setup_of (parts ms) inflight) (table_of (parts ms) now) event (mark_of (as_answer e Weight said)) ≡ as_moved (parts ms) now e m.part Weight (own_of m one) →
      Stepped (served_of ms now inflight) event (served_of (set ms e m') now inflight) (as_answer e Weight said)
  stepped_own ms now inflight e m m' event one said at went is =
      let q : m'.part ≡ with_alone (own_of m one).state m.part = ap (λ (x : Standing). x.part) went.standing in
      record {
        stepped = is
            ∙ ap (λ (z : Part). record { table = table_of (set (parts ms) e z) now; answer = as_answer e Weight (own_of m one).answer }) (sym q)
            ∙ ap (λ (l : List Part). record { table = table_of l now; answer = as_answer e Weight (own_of m one).answer }) (sym (parts_set ms e m'))
            ∙ ap (λ (a : StepAnswer A). record { table = table_of (parts (set ms e m')) now; answer = as_answer e Weight a }) (sym went.told);
        setup = ap (λ l. record { exports = l; inflight = inflight }) (same_setup ms e m m' at (ap (λ (z : Part). z.terms) q));
      }

  pub kept_own : {ms : List Standing} {slots : List (Option Tags)} {asked now inflight served : ℕ} {m m' : Standing} {one : Step A} {said : StepAnswer A} (e : ℕ) → IsServed ms slots asked now inflight served → e < length ms → m ≡ get_or ms e m → Went m m' one said → IsServed (set ms e m') slots asked now inflight served
  kept_own {ms} {slots} {asked} {now} {inflight} {served} {m} {m'} {one} {said} e kept lt at went =
      let q : m'.part ≡ with_alone (own_of m one).state m.part = ap (λ (x : Standing). x.part) went.standing in
      let r : m'.inflight ≡ m.inflight = ap (λ (x : Standing). x.inflight) went.standing in
      record {
        server = subst (λ (l : List Part). IsServer l slots asked now inflight served) (ap (set (parts ms) e) (sym q) ∙ sym (parts_set ms e m'))
            (kept_seated (parts ms) slots asked now inflight served e (own_of m one).state m.part kept.server (within_parts ms e lt) (part_there ms e m lt at) (grows m.part.terms (alone_of m.part) one));
        room = members_set (λ (x : Standing). x.inflight ≡ inflight) ms e m' kept.room (r ∙ member_at (λ (x : Standing). x.inflight ≡ inflight) ms e m kept.room lt at);
      }

  pub seats_own : (ms : List Standing) (e : ℕ) (m m' : Standing) (one : Step A) (said : StepAnswer A) → m ≡ get_or ms e m → Went m m' one said → map (λ (x : Standing). x.seats) (set ms e m') ≡ map (λ (x : Standing). x.seats) ms
  seats_own ms e m m' one said at went = same_seats ms e m m' at (ap (λ (x : Standing). x.seats) went.standing)

  -- ---- calls on sessions
  pub leave_told : (e : ℕ) (r : Result (Unit {0}) NotOpen) → as_answer e Weight (step_answer_of_leave r) ≡ answer_of_leave {A = A} (here r)
  leave_told e (Ok done) = refl
  leave_told e (Err x) = refl

  pub gone_told : (e : ℕ) (r : Result (Unit {0}) NotOpen) → as_answer e Weight (step_answer_of_gone r) ≡ answer_of_gone {A = A} (here r)
  gone_told e (Ok done) = refl
  gone_told e (Err x) = refl

  pub take_told : (e : ℕ) (r : Result (Taken A) NotOpen) → as_answer e Weight (step_answer_of_take r) ≡ answer_of_take {A = A} (here r)
  take_told e (Ok (taking.Reply r)) = refl
  take_told e (Ok taking.Empty) = refl
  take_told e (Ok taking.End) = refl
  take_told e (Err x) = refl

-- ---- attach
module _ {A : Type 0} where
  pub stepped_attach : (ms : List Standing) (now inflight e : ℕ) (m m' : Standing) (r : Result ℕ NotAttached) → e < length ms → m ≡ get_or ms e m → WentOr {A = A} m m' own.Attach (step_answer_of_attach r) → WantsMemory m r → Stepped (served_of ms now inflight) (Attach e) (served_of (set ms e m') now inflight) (answer_of_attach {A = A} (attached e r))
  stepped_attach ms now inflight e m m' (Ok n) lt at went may = stepped_own ms now inflight e m m' (Attach e) own.Attach (alone.Session n) at went (step_attach (parts ms) now inflight e m.part Weight (within_parts ms e lt) (part_there ms e m lt at))
  stepped_attach ms now inflight e m m' (Err (Refused attaching.Worn)) lt at went may = stepped_own ms now inflight e m m' (Attach e) own.Attach alone.Worn at went (step_attach (parts ms) now inflight e m.part Weight (within_parts ms e lt) (part_there ms e m lt at))
  stepped_attach ms now inflight e m m' (Err (Refused attaching.Full)) lt at went may = stepped_own ms now inflight e m m' (Attach e) own.Attach alone.Full at went (step_attach (parts ms) now inflight e m.part Weight (within_parts ms e lt) (part_there ms e m lt at))
  stepped_attach ms now inflight e m m' (Err NoMemory) lt at same may =
      let back : parts (set ms e m') ≡ parts ms = parts_back ms e m m' at (ap (λ (x : Standing). x.part) same) in
      record {
        stepped = no_room_to_attach (parts ms) now inflight e m.part (within_parts ms e lt) (part_there ms e m lt at) may.young may.few
            ∙ ap (λ (l : List Part). record { table = table_of l now; answer = answer.NoMemory }) (sym back);
        setup = ap (λ (l : List Part). setup_of l inflight) back;
      }

  pub kept_or : {ms : List Standing} {slots : List (Option Tags)} {asked now inflight served : ℕ} {m : Standing} (e : ℕ) (m' : Standing) (one : Step A) (said : Option (StepAnswer A)) → IsServed ms slots asked now inflight served → e < length ms → m ≡ get_or ms e m → WentOr m m' one said → IsServed (set ms e m') slots asked now inflight served
  kept_or e m' one None kept lt at same = kept_logged e kept lt at same
  kept_or e m' one (Some said) kept lt at went = kept_own e kept lt at went

  pub seats_or : (ms : List Standing) (e : ℕ) (m m' : Standing) (one : Step A) (said : Option (StepAnswer A)) → m ≡ get_or ms e m → WentOr m m' one said → map (λ (x : Standing). x.seats) (set ms e m') ≡ map (λ (x : Standing). x.seats) ms
  seats_or ms e m m' one None at same = same_seats ms e m m' at (ap (λ (x : Standing). x.seats) same)
  seats_or ms e m m' one (Some said) at went = seats_own ms e m m' one said at went
