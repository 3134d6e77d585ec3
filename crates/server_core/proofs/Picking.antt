-- A request of one export is picked: what it is with its tags.
use Rattle.std.proofs.Common.{◌≡◌, ℕ, zero, suc, ◌+◌, ◌≤◌, ◌<◌, true, false, cond, Option, Some, None, List, [], ◌∷◌, ◌++◌, map, length, get_or, drop, refl, sym, ◌∙◌, ap, subst, arith}
use Rattle.std.specs.Prelude.{◌==◌, slice_get}
use Rattle.std.proofs.lemmas.Bool.Decides.{nat_tests}
use Rattle.std.proofs.lemmas.List.{length-append, length-map, map-append}
use Rattle.nbd_base.specs.Words.{when_some}
use Rattle.tag_clock.specs.declared.Tags.{Tags}
use Rattle.tag_clock.specs.Tags.{AreInRange}
use Rattle.nbd_commands.specs.Terms.{Terms}
use Rattle.tag_clock.specs.Clocks.{Share}
use Rattle.tag_clock.specs.declared.Phase.{Phase}
use Rattle.tag_clock.specs.declared.Phase.TheVariants.{Reservation, Weight}
use Rattle.lone_export.specs.Alone.{Alone, Job, Moved, own_step, moves, stays}
use Rattle.lone_export.specs.Lone.{Whole, Does}
use Rattle.lone_export.specs.declared.step.Step.TheVariants.{Pick}
use Rattle.lone_export.specs.declared.step.StepAnswer.{StepAnswer}
use Rattle.lone_export.specs.declared.step.StepAnswer.TheVariants.{Picked, Nothing}
use Rattle.server_table.specs.Parts.{Entry, Part}
use Rattle.server_table.specs.Order.{AllAbove, IsNumbered, head_tags}
use Rattle.server_table.specs.Picks.{entry_credited, part_credited, part_sent, part_picked}
use Rattle.server_core.specs.declared.member.Sent.{Sent}
use Rattle.server_core.specs.Kept.{AllEntries, EntriesInRange, TagsInRange}
use Rattle.server_core.specs.Tagging.{tags_credited, AllTagsInRange, credit_due, waiting_credited, share_credited_by}
use Rattle.server_core.specs.Members.{Seat, Kept, entries_of, seats_of, sent_tags, part_of, standing_of, slot_in, IsMember, first_number, Picks}
use Rattle.server_core.proofs.Members.{sent_length}

-- ---- the first tags
pub head_is : (jobs : List Job) (tags : List Tags) → length tags ≡ length jobs → head_tags (entries_of jobs tags) ≡ slice_get tags 0
head_is [] [] same = refl
head_is [] (t ∷ ts) same = absurd (omega arith)
head_is (j ∷ js) [] same = absurd (omega arith)
head_is (j ∷ js) (t ∷ ts) same = refl

pub entries_length : (jobs : List Job) (tags : List Tags) → length tags ≡ length jobs → length (entries_of jobs tags) ≡ length jobs
entries_length [] tags same = refl
entries_length (j ∷ js) [] same = absurd (omega arith)
entries_length (j ∷ js) (t ∷ ts) same = ap suc (entries_length js ts (omega arith))

pub tags_in_range : (jobs : List Job) (tags : List Tags) → length tags ≡ length jobs → EntriesInRange (entries_of jobs tags) → AllTagsInRange tags
tags_in_range [] [] same h = λ i d lt. absurd (omega arith)
tags_in_range [] (t ∷ ts) same h = absurd (omega arith)
tags_in_range (j ∷ js) [] same h = absurd (omega arith)
tags_in_range (j ∷ js) (t ∷ ts) same h = at (tags_in_range js ts (omega arith) (λ i d lt. h (suc i) d (omega arith)))
  where
    at : AllTagsInRange ts → (i : ℕ) (d : Tags) → i < suc (length ts) → AreInRange (get_or (t ∷ ts) i d)
    at rest zero d lt = h 0 (record { number = j.number; session = j.session; request = j.request; tags = t }) (omega arith)
    at rest (suc i) d lt = rest i d (omega arith)

-- ---- lists that grow
pub entries_pushed : (jobs : List Job) (tags : List Tags) (job : Job) (one : Tags) → length tags ≡ length jobs → entries_of (jobs ++ job ∷ []) (tags ++ one ∷ []) ≡ entries_of jobs tags ++ record { number = job.number; session = job.session; request = job.request; tags = one } ∷ []
entries_pushed [] [] job one same = refl
entries_pushed [] (t ∷ ts) job one same = absurd (omega arith)
entries_pushed (j ∷ js) [] job one same = absurd (omega arith)
entries_pushed (j ∷ js) (t ∷ ts) job one same = ap (λ l. record { number = j.number; session = j.session; request = j.request; tags = t } ∷ l) (entries_pushed js ts job one (omega arith))

seats_pushed : (jobs : List Job) (slots : List ℕ) (job : Job) (slot : ℕ) → length slots ≡ length jobs → seats_of (jobs ++ job ∷ []) (slots ++ slot ∷ []) ≡ seats_of jobs slots ++ record { number = job.number; slot = slot } ∷ []
seats_pushed [] [] job slot same = refl
seats_pushed [] (s ∷ ss) job slot same = absurd (omega arith)
seats_pushed (j ∷ js) [] job slot same = absurd (omega arith)
seats_pushed (j ∷ js) (s ∷ ss) job slot same = ap (λ l. record { number = j.number; slot = s } ∷ l) (seats_pushed js ss job slot (omega arith))

entries_credited : (by : ℕ) (jobs : List Job) (tags : List Tags) → entries_of jobs (map (tags_credited by) tags) ≡ map (entry_credited by) (entries_of jobs tags)
entries_credited by [] tags = refl
entries_credited by (j ∷ js) [] = refl
entries_credited by (j ∷ js) (t ∷ ts) = ap (λ l. record { number = j.number; session = j.session; request = j.request; tags = tags_credited by t } ∷ l) (entries_credited by js ts)

-- ---- the seat is the request's
above_mid : (n : ℕ) (es rest : List Entry) (x : Entry) → AllAbove n (es ++ x ∷ rest) → n < x.number
above_mid n [] rest x h = h.0
above_mid n (e ∷ es) rest x h = above_mid n es rest x h.1

front_below : (es rest : List Entry) (x : Entry) → IsNumbered (es ++ x ∷ rest) → AllEntries (λ e. e.number < x.number) es
front_below [] rest x h = tt
front_below (e ∷ es) rest x h = (above_mid e.number es rest x h.0, front_below es rest x h.1)

slot_last : (n s : ℕ) (jobs : List Job) (slots : List ℕ) (tags : List Tags) → length slots ≡ length jobs → length tags ≡ length jobs → AllEntries (λ e. e.number < n) (entries_of jobs tags) → slot_in (seats_of jobs slots ++ record { number = n; slot = s } ∷ []) n ≡ Some s
slot_last n s [] [] [] a b h = let test : (n == n) ≡ true = grind (arith, nat_tests) in ap (λ c. cond c (Some s) None) test
slot_last n s [] (x ∷ xs) tags a b h = absurd (omega arith)
slot_last n s [] [] (t ∷ ts) a b h = absurd (omega arith)
slot_last n s (j ∷ js) [] tags a b h = absurd (omega arith)
slot_last n s (j ∷ js) (x ∷ xs) [] a b h = absurd (omega arith)
slot_last n s (j ∷ js) (x ∷ xs) (t ∷ ts) a b h =
    let lt = h.0 in
    let test : (j.number == n) ≡ false = grind (arith, nat_tests) in
    ap (λ c. cond c (Some x) (slot_in (seats_of js xs ++ record { number = n; slot = s } ∷ []) n)) test ∙ slot_last n s js xs ts (omega arith) (omega arith) h.1

-- ---- the step of the export alone
pub record PickedJob (state new : Alone) (number : ℕ) : Type 0 where
  pub job : Job
  pub rest : List Job
  pub waiting : state.waiting ≡ job ∷ rest
  pub same : job.number ≡ number
  pub state_is : new ≡ record state { waiting = rest; out = state.out ++ job ∷ []; count = state.count + 1 }

module _ (A : Type 0) where
  abbrev pub picked_from : Alone → List Job → Moved A
  picked_from state w = when_some (slice_get w 0) (λ job. moves (record state { waiting = drop 1 w; out = state.out ++ job ∷ [] }) (Picked job.number)) (stays state Nothing)

  abbrev number_told : StepAnswer A → ℕ
  number_told (Picked n) = n
  number_told said = 0

  by_waiting : (state new : Alone) (number : ℕ) (w : List Job) → state.waiting ≡ w → picked_from state w ≡ record { state = new; answer = Picked number } → PickedJob state new number
  by_waiting state new number [] is did = absurd (let a : ◌≡◌ {A = StepAnswer A} Nothing (Picked number) = ap (λ (m : Moved A). m.answer) did in cc)
  by_waiting state new number (job ∷ rest) is did = record {
    job = job;
    rest = rest;
    waiting = is;
    same = ap (λ (m : Moved A). number_told m.answer) did;
    state_is = sym (ap (λ (m : Moved A). m.state) did);
  }

  pub picked_job : (terms : Terms) (state new : Alone) (number : ℕ) → own_step {A = A} terms state Pick ≡ record { state = new; answer = Picked number } → PickedJob state new number
  picked_job terms state new number did = by_waiting state new number state.waiting refl did

  -- a pick finds a request where one waits
  pub finds_one : (terms : Terms) (state new : Alone) → 0 < length state.waiting → own_step {A = A} terms state Pick ≡ record { state = new; answer = Nothing } → ⊥
  finds_one terms state new some did = by state.waiting refl some did
    where
      by : (w : List Job) → state.waiting ≡ w → 0 < length w → picked_from state w ≡ record { state = new; answer = Nothing } → ⊥
      by [] is some did = absurd (omega arith)
      by (job ∷ rest) is some did = absurd (let a : ◌≡◌ {A = StepAnswer A} (Picked job.number) Nothing = ap (λ (m : Moved A). m.answer) did in cc)

-- ---- the part
picked_is : (phase : Phase) (p : Part) → part_picked phase p ≡ part_credited (credit_due phase p.rates.r_interval) (part_sent p)
picked_is Reservation p = refl
picked_is Weight p = refl

-- what is kept once the first request is out, and its credit given
abbrev pub kept_picking : Kept → Option ℕ → Job → List Job → List Tags → Sent → ℕ → ℕ → Kept
kept_picking m due job rest ts sent slot room = record {
  whole = record m.whole { state = record m.whole.state { waiting = rest; out = m.whole.state.out ++ job ∷ []; count = m.whole.state.count + 1 }; slots = m.whole.slots ++ slot ∷ [] };
  journal = m.journal;
  room = m.room;
  share = share_credited_by due m.share;
  waiting = waiting_credited due ts;
  waiting_room = room;
  out = m.out ++ sent ∷ [];
  out_room = m.out_room;
}

-- what was kept before, its first request told
abbrev pub kept_before : Kept → Job → List Job → Tags → List Tags → Kept
kept_before m job rest t ts = record m { whole = record m.whole { state = record m.whole.state { waiting = job ∷ rest } }; waiting = t ∷ ts }

sent_pushed : (out : List Sent) (one : Sent) → sent_tags (out ++ one ∷ []) ≡ sent_tags out ++ one.tags ∷ []
sent_pushed out one = map-append (λ (s : Sent). s.tags) out (one ∷ [])

part_after : (m : Kept) (due : Option ℕ) (job : Job) (rest : List Job) (t : Tags) (ts : List Tags) (number slot room : ℕ) → length (sent_tags m.out) ≡ length m.whole.state.out → part_of (kept_picking m due job rest ts (record { number = number; tags = t }) slot room) ≡ part_credited due (part_sent (part_of (kept_before m job rest t ts)))
part_after m due job rest t ts number slot room same = by due
  where
    pushed : entries_of (m.whole.state.out ++ job ∷ []) (sent_tags (m.out ++ record { number = number; tags = t } ∷ [])) ≡ entries_of m.whole.state.out (sent_tags m.out) ++ record { number = job.number; session = job.session; request = job.request; tags = t } ∷ []
    pushed = ap (entries_of (m.whole.state.out ++ job ∷ [])) (sent_pushed m.out (record { number = number; tags = t })) ∙ entries_pushed m.whole.state.out (sent_tags m.out) job t same

    by : (due : Option ℕ) → part_of (kept_picking m due job rest ts (record { number = number; tags = t }) slot room) ≡ part_credited due (part_sent (part_of (kept_before m job rest t ts)))
    by None = ap (λ (l : List Entry). record (part_of (kept_picking m None job rest ts (record { number = number; tags = t }) slot room)) { out = l }) pushed
    by (Some interval) =
        ap (λ (l : List Entry). record (part_of (kept_picking m (Some interval) job rest ts (record { number = number; tags = t }) slot room)) { out = l }) pushed
        ∙ ap (λ (l : List Entry). record (part_credited (Some interval) (part_sent (part_of (kept_before m job rest t ts)))) { waiting = l }) (entries_credited interval rest ts)

pub part_picks : (m : Kept) (phase : Phase) (job : Job) (rest : List Job) (t : Tags) (ts : List Tags) (number slot room : ℕ) → IsMember m → m.whole.state.waiting ≡ job ∷ rest → m.waiting ≡ t ∷ ts → part_of (kept_picking m (credit_due phase m.share.r_interval) job rest ts (record { number = number; tags = t }) slot room) ≡ part_picked phase (part_of m)
part_picks m phase job rest t ts number slot room h is pop =
    part_after m (credit_due phase m.share.r_interval) job rest t ts number slot room (sent_length m.out m.whole.state.out h.sent)
    ∙ ap (λ (o : Option ℕ). part_credited (credit_due phase o) (part_sent (part_of (kept_before m job rest t ts)))) h.r_interval
    ∙ sym (picked_is phase (part_of (kept_before m job rest t ts)))
    ∙ ap (λ (w : List Job). part_picked phase (part_of (record m { whole = record m.whole { state = record m.whole.state { waiting = w } }; waiting = t ∷ ts }))) (sym is)
    ∙ ap (λ (l : List Tags). part_picked phase (part_of (record m { waiting = l }))) (sym pop)

-- ---- the export is kept
credited_length : (due : Option ℕ) (ts : List Tags) → length (waiting_credited due ts) ≡ length ts
credited_length None ts = refl
credited_length (Some by) ts = length-map ts (tags_credited by)

same_intervals : (due : Option ℕ) (share : Share) → ((share_credited_by due share).r_interval ≡ share.r_interval) × ((share_credited_by due share).p_interval ≡ share.p_interval)
same_intervals None share = (refl, refl)
same_intervals (Some by) share = (refl, refl)

pub picking_kept : (m : Kept) (phase : Phase) (job : Job) (rest : List Job) (t : Tags) (ts : List Tags) (slot room : ℕ) → IsMember m → m.whole.state.waiting ≡ job ∷ rest → m.waiting ≡ t ∷ ts → m.waiting_room ≤ room → IsMember (kept_picking m (credit_due phase m.share.r_interval) job rest ts (record { number = job.number; tags = t }) slot room)
picking_kept m phase job rest t ts slot room h is pop more =
    let due = credit_due phase m.share.r_interval in
    let intervals = same_intervals due m.share in
    let n : length m.whole.state.waiting ≡ suc (length rest) = ap length is in
    let k : length m.waiting ≡ suc (length ts) = ap length pop in
    let tagged = h.tagged in
    let few = h.few in
    let wide = h.waiting_room in
    let seated = h.seated in
    let credited = credited_length due ts in
    let a = length-append m.whole.slots (slot ∷ []) in
    let b = length-append m.whole.state.out (job ∷ []) in
    record {
      tagged = omega arith;
      sent = map-append (λ (s : Sent). s.number) m.out (record { number = job.number; tags = t } ∷ []) ∙ ap (λ l. l ++ job.number ∷ []) h.sent ∙ sym (map-append (λ (j : Job). j.number) m.whole.state.out (job ∷ []));
      seated = omega arith;
      r_interval = intervals.0 ∙ h.r_interval;
      p_interval = intervals.1 ∙ h.p_interval;
      few = omega arith;
      waiting_room = omega arith;
      out_room = h.out_room;
    }

-- ---- the whole call
pub record Picking (A : Type 0) (m : Kept) (new : Whole) (number slot : ℕ) (t : Tags) (ts : List Tags) : Type 0 where
  pub does : Does {A = A} m.whole new Pick (Picked number)
  pub slots : new.slots ≡ m.whole.slots ++ slot ∷ []
  pub popped : m.waiting ≡ t ∷ ts

abbrev pub kept_after : Kept → Phase → Whole → ℕ → Tags → List Tags → ℕ → Kept
kept_after m phase new number t ts room = record { whole = new; journal = m.journal; room = m.room; share = share_credited_by (credit_due phase m.share.r_interval) m.share; waiting = waiting_credited (credit_due phase m.share.r_interval) ts; waiting_room = room; out = m.out ++ record { number = number; tags = t } ∷ []; out_room = m.out_room }

pub kept_is : (m : Kept) (phase : Phase) (new : Whole) (number : ℕ) (t : Tags) (ts : List Tags) (room out_room : ℕ) (share : Share) (waiting : List Tags) (out : List Sent) → share ≡ share_credited_by (credit_due phase m.share.r_interval) m.share → waiting ≡ waiting_credited (credit_due phase m.share.r_interval) ts → out ≡ m.out ++ record { number = number; tags = t } ∷ [] → out_room ≡ m.out_room →
    kept_after m phase new number t ts room ≡ record { whole = new; journal = m.journal; room = m.room; share = share; waiting = waiting; waiting_room = room; out = out; out_room = out_room }
kept_is m phase new number t ts room out_room share waiting out a b c d =
    ap (λ (x : Share). record (kept_after m phase new number t ts room) { share = x }) (sym a)
    ∙ ap (λ (x : List Tags). record (kept_after m phase new number t ts room) { share = share; waiting = x }) (sym b)
    ∙ ap (λ (x : List Sent). record (kept_after m phase new number t ts room) { share = share; waiting = waiting; out = x }) (sym c)
    ∙ ap (λ (x : ℕ). record (kept_after m phase new number t ts room) { share = share; waiting = waiting; out = out; out_room = x }) (sym d)

module _ (A : Type 0) where
  pub job_of_pick : (m : Kept) (new : Whole) (number slot : ℕ) (t : Tags) (ts : List Tags) → Picking A m new number slot t ts → PickedJob m.whole.state new.state number
  job_of_pick m new number slot t ts pick = picked_job A m.whole.terms m.whole.state new.state number pick.does.did

  whole_after : (m : Kept) (new : Whole) (number slot : ℕ) (t : Tags) (ts : List Tags) (pick : Picking A m new number slot t ts) (one : PickedJob m.whole.state new.state number) → new ≡ record m.whole { state = record m.whole.state { waiting = one.rest; out = m.whole.state.out ++ one.job ∷ []; count = m.whole.state.count + 1 }; slots = m.whole.slots ++ slot ∷ [] }
  whole_after m new number slot t ts pick one =
      ap (λ k. record new { terms = k }) pick.does.terms
      ∙ ap (λ i. record { terms = m.whole.terms; inflight = i; state = new.state; slots = new.slots }) pick.does.inflight
      ∙ ap (λ l. record { terms = m.whole.terms; inflight = m.whole.inflight; state = new.state; slots = l }) pick.slots
      ∙ ap (λ s. record { terms = m.whole.terms; inflight = m.whole.inflight; state = s; slots = m.whole.slots ++ slot ∷ [] }) one.state_is

  after_is : (m : Kept) (phase : Phase) (new : Whole) (number slot room : ℕ) (t : Tags) (ts : List Tags) (pick : Picking A m new number slot t ts) (one : PickedJob m.whole.state new.state number) → kept_after m phase new number t ts room ≡ kept_picking m (credit_due phase m.share.r_interval) one.job one.rest ts (record { number = one.job.number; tags = t }) slot room
  after_is m phase new number slot room t ts pick one =
      ap (λ (w : Whole). kept_after m phase w number t ts room) (whole_after m new number slot t ts pick one)
      ∙ ap (λ n. kept_picking m (credit_due phase m.share.r_interval) one.job one.rest ts (record { number = n; tags = t }) slot room) (sym one.same)

  pub picks_kept : (m : Kept) (phase : Phase) (new : Whole) (number slot room : ℕ) (t : Tags) (ts : List Tags) → IsMember m → Picking A m new number slot t ts → m.waiting_room ≤ room → IsMember (kept_after m phase new number t ts room)
  picks_kept m phase new number slot room t ts h pick more =
      let one = job_of_pick m new number slot t ts pick in
      subst IsMember (sym (after_is m phase new number slot room t ts pick one)) (picking_kept m phase one.job one.rest t ts slot room h one.waiting pick.popped more)

  pub part_is : (m : Kept) (phase : Phase) (new : Whole) (number slot room : ℕ) (t : Tags) (ts : List Tags) → IsMember m → Picking A m new number slot t ts → part_of (kept_after m phase new number t ts room) ≡ part_picked phase (part_of m)
  part_is m phase new number slot room t ts h pick =
      let one = job_of_pick m new number slot t ts pick in
      ap part_of (after_is m phase new number slot room t ts pick one) ∙ part_picks m phase one.job one.rest t ts one.job.number slot room h one.waiting pick.popped

  pub picks : (m : Kept) (phase : Phase) (new : Whole) (number slot room : ℕ) (t : Tags) (ts : List Tags) → IsMember m → Picking A m new number slot t ts → IsNumbered ((part_of m).out ++ (part_of m).waiting) → Picks (standing_of m) (standing_of (kept_after m phase new number t ts room)) phase (record { number = number; slot = slot })
  picks m phase new number slot room t ts h pick numbered =
      let one = job_of_pick m new number slot t ts pick in
      let state = m.whole.state in
      let x : Entry = record { number = one.job.number; session = one.job.session; request = one.job.request; tags = t } in
      let waiting : (part_of m).waiting ≡ x ∷ entries_of one.rest ts = ap (λ (w : List Job). entries_of w m.waiting) one.waiting ∙ ap (entries_of (one.job ∷ one.rest)) pick.popped in
      let seats : seats_of new.state.out new.slots ≡ seats_of state.out m.whole.slots ++ record { number = number; slot = slot } ∷ [] =
      ap (λ (s : Alone). seats_of s.out new.slots) one.state_is ∙ ap (seats_of (state.out ++ one.job ∷ [])) pick.slots ∙ seats_pushed state.out m.whole.slots one.job slot h.seated
      ∙ ap (λ n. seats_of state.out m.whole.slots ++ record { number = n; slot = slot } ∷ []) one.same in
      let below : AllEntries (λ e. e.number < number) (part_of m).out = subst (λ n. AllEntries (λ e. e.number < n) (part_of m).out) one.same (front_below (part_of m).out (entries_of one.rest ts) x (subst (λ (l : List Entry). IsNumbered ((part_of m).out ++ l)) waiting numbered)) in
      record {
        standing = ap (λ (p : Part). record { part = p; inflight = new.inflight; seats = seats_of new.state.out new.slots; journal = m.journal; room = m.room }) (part_is m phase new number slot room t ts h pick)
            ∙ ap (λ i. record { part = part_picked phase (part_of m); inflight = i; seats = seats_of new.state.out new.slots; journal = m.journal; room = m.room }) pick.does.inflight
            ∙ ap (λ (l : List Seat). record { part = part_picked phase (part_of m); inflight = m.whole.inflight; seats = l; journal = m.journal; room = m.room }) seats;
        number = ap first_number waiting ∙ ap Some one.same;
        held = ap (λ (l : List Seat). slot_in l number) seats ∙ slot_last number slot state.out m.whole.slots (sent_tags m.out) h.seated (sent_length m.out state.out h.sent) below;
      }

  -- the tags to be credited are in range
  pub credit_in_range : (m : Kept) (phase : Phase) (new : Whole) (number slot : ℕ) (t : Tags) (ts : List Tags) → IsMember m → Picking A m new number slot t ts → TagsInRange (part_picked phase (part_of m)) → AllTagsInRange (waiting_credited (credit_due phase m.share.r_interval) ts)
  credit_in_range m phase new number slot t ts h pick range =
      let one = job_of_pick m new number slot t ts pick in
      let due = credit_due phase m.share.r_interval in
      let n : length m.whole.state.waiting ≡ suc (length one.rest) = ap length one.waiting in
      let k : length m.waiting ≡ suc (length ts) = ap length pick.popped in
      let tagged = h.tagged in
      let credited = credited_length due ts in
      let there = subst TagsInRange (sym (part_picks m phase one.job one.rest t ts one.job.number slot 0 h one.waiting pick.popped)) range in
      tags_in_range one.rest (waiting_credited due ts) (omega arith) there.waiting
