-- From a call of the export alone to the same call with its tags.
use Rattle.std.proofs.Common.{◌≡◌, ℕ, Option, Some, None, Result, Ok, Err, List, [], ◌∷◌, map, length, refl, sym, ◌∙◌, ap, subst, arith}
use Rattle.std.proofs.lemmas.List.{length-map}
use Rattle.std.specs.Prelude.{IsErrOf, IfOk, IfErr, not, ◌==◌, ◌&&◌, ◌^◌, nat_le, filter, slice_get}
use Rattle.nbd_wire.specs.Grammar.{RequestMessage}
use Rattle.nbd_commands.specs.Terms.{Terms}
use Rattle.tag_clock.specs.declared.Tags.{Tags}
use Rattle.reply_box.specs.Sessions.{is_open_at, is_left_at, is_here, is_here_at, outbox_at}
use Rattle.lone_export.specs.Alone.{Alone, Job, Moved, own_step, outstanding}
use Rattle.lone_export.specs.Lone.{Whole, Does, DoesOr, MayArrive, MayAttach, IsAdmission}
use Rattle.lone_export.specs.declared.refusal.Admission.{Admission}
use Rattle.lone_export.specs.declared.refusal.Admission.TheVariants as admission
use Rattle.lone_export.specs.declared.refusal.ArriveRefusal.{ArriveRefusal}
use Rattle.lone_export.specs.declared.refusal.ArriveRefusal.TheVariants as arriving
use Rattle.lone_export.specs.declared.refusal.NotAttached.{NotAttached}
use Rattle.lone_export.specs.declared.refusal.NotAttached.TheVariants.{Refused, NoMemory}
use Rattle.lone_export.specs.declared.step.Step.{Step}
use Rattle.lone_export.specs.declared.step.Step.TheVariants.{Attach, Take, Leave, Gone}
use Rattle.lone_export.specs.declared.step.StepAnswer.{StepAnswer}
use Rattle.lone_export.proofs.Cases.{if_one, some_one}
use Rattle.export_cell.specs.declared.place.Place.{Place}
use Rattle.export_cell.specs.declared.refusal.ArriveFault.{ArriveFault}
use Rattle.export_cell.specs.declared.refusal.ArriveFault.TheVariants as fault
use Rattle.export_cell.specs.Journal.{Journal, Cell, IsReserved, IsTurnedAway}
use Rattle.server_table.specs.Parts.{alone_of, job_of_entry}
use Rattle.server_core.specs.declared.member.Sent.{Sent}
use Rattle.server_core.specs.Members.{Kept, entries_of, sent_tags, part_of, standing_of, IsMember, with_state, with_log, cell_at, IsReservedAt, IsTurnedAwayAt, WantsMemory, own, Went, WentOr}

-- ---- the requests with their tags, and without
pub jobs_back : (jobs : List Job) (tags : List Tags) → length tags ≡ length jobs → map job_of_entry (entries_of jobs tags) ≡ jobs
jobs_back [] tags same = refl
jobs_back (job ∷ jobs) [] same = absurd (omega arith)
jobs_back (job ∷ jobs) (one ∷ tags) same = ap (λ l. job ∷ l) (jobs_back jobs tags (omega arith))

pub sent_length : (out : List Sent) (jobs : List Job) → map (λ (one : Sent). one.number) out ≡ map (λ (job : Job). job.number) jobs → length (sent_tags out) ≡ length jobs
sent_length out jobs same =
    length-map out (λ (one : Sent). one.tags) ∙ sym (length-map out (λ (one : Sent). one.number)) ∙ ap length same ∙ length-map jobs (λ (job : Job). job.number)

pub alone_back : (m : Kept) → IsMember m → alone_of (part_of m) ≡ m.whole.state
alone_back m h =
    let s = m.whole.state in
    let w = jobs_back s.waiting m.waiting h.tagged in
    let o = jobs_back s.out (sent_tags m.out) (sent_length m.out s.out h.sent) in
    ap (λ l. record { image = s.image; waiting = l; out = map job_of_entry (entries_of s.out (sent_tags m.out)); next = s.next; last = s.last; rates = s.rates; sessions = s.sessions; count = s.count }) w
    ∙ ap (λ l. record { image = s.image; waiting = s.waiting; out = l; next = s.next; last = s.last; rates = s.rates; sessions = s.sessions; count = s.count }) o

-- ---- steps that leave the requests
-- the state with the image, the sessions and the count of another
abbrev pub seated : Alone → Alone → Alone
seated state other = record state { image = other.image; sessions = other.sessions; count = other.count }

abbrev pub KeepsRequests : {A : Type 0} → Terms → Alone → Step A → Type 0
KeepsRequests terms state step = (own_step terms state step).state ≡ seated state (own_step terms state step).state

module _ (A : Type 0) where
  abbrev Still : Alone → Moved A → Type 0
  Still state moved = moved.state ≡ seated state moved.state

  pub keeps_take : (terms : Terms) (state : Alone) (s : ℕ) → KeepsRequests {A = A} terms state (Take s)
  keeps_take terms state s =
      if_one (Still state) (not (is_here_at state.sessions s)) refl
      (some_one (Still state) (slice_get (outbox_at state.sessions s) 0) (λ reply h. refl)
      (if_one (Still state) (is_left_at state.sessions s && outstanding state s == 0) refl refl))

  pub keeps_attach : (terms : Terms) (state : Alone) → KeepsRequests {A = A} terms state Attach
  keeps_attach terms state = if_one (Still state) (nat_le (2 ^ 56) state.count) refl (if_one (Still state) (length (filter is_here state.sessions) == 64) refl refl)

  pub keeps_leave : (terms : Terms) (state : Alone) (s : ℕ) → KeepsRequests {A = A} terms state (Leave s)
  keeps_leave terms state s = if_one (Still state) (not (is_open_at state.sessions s)) refl refl

  pub keeps_gone : (terms : Terms) (state : Alone) (s : ℕ) → KeepsRequests {A = A} terms state (Gone s)
  keeps_gone terms state s = if_one (Still state) (not (is_here_at state.sessions s)) refl refl

module _ {A : Type 0} where
  -- what stands of the export after the call
  same_whole : (old new : Whole) (step : Step A) (answer : StepAnswer A) → Does old new step answer → new.slots ≡ old.slots → KeepsRequests old.terms old.state step → new ≡ record old { state = seated old.state new.state }
  same_whole old new step answer does slots keeps =
      let now : (own_step old.terms old.state step).state ≡ new.state = ap (λ (m : Moved A). m.state) does.did in
      let kept : new.state ≡ seated old.state new.state = subst (λ (s : Alone). s ≡ seated old.state s) now keeps in
      ap (λ t. record new { terms = t }) does.terms
      ∙ ap (λ i. record { terms = old.terms; inflight = i; state = new.state; slots = new.slots }) does.inflight
      ∙ ap (λ l. record { terms = old.terms; inflight = old.inflight; state = new.state; slots = l }) slots
      ∙ ap (λ s. record { terms = old.terms; inflight = old.inflight; state = s; slots = old.slots }) kept

  own_is : (m : Kept) → IsMember m → (step : Step A) → own (standing_of m) step ≡ own_step m.whole.terms m.whole.state step
  own_is m h step = ap (λ (s : Alone). own_step m.whole.terms s step) (alone_back m h)

  pub went : (m : Kept) (new : Whole) (j : Journal) (r : ℕ) (step : Step A) (answer : StepAnswer A) → IsMember m → Does m.whole new step answer → new.slots ≡ m.whole.slots → KeepsRequests m.whole.terms m.whole.state step → Went (standing_of m) (standing_of (record m { whole = new; journal = j; room = r })) step answer
  went m new j r step answer h does slots keeps =
      let is = own_is m h step ∙ does.did in
      record {
        standing = ap (λ (w : Whole). standing_of (record m { whole = w; journal = j; room = r })) (same_whole m.whole new step answer does slots keeps)
            ∙ ap (λ (moved : Moved A). with_state moved.state (with_log j r (standing_of m))) (sym is);
        told = ap (λ (moved : Moved A). moved.answer) (sym is);
      }

  pub went_kept : (m : Kept) (new : Whole) (j : Journal) (r : ℕ) (step : Step A) (answer : StepAnswer A) → IsMember m → Does m.whole new step answer → new.slots ≡ m.whole.slots → KeepsRequests m.whole.terms m.whole.state step → IsMember (record m { whole = new; journal = j; room = r })
  went_kept m new j r step answer h does slots keeps =
      subst (λ (w : Whole). IsMember (record m { whole = w; journal = j; room = r })) (sym (same_whole m.whole new step answer does slots keeps))
      (record { tagged = h.tagged; sent = h.sent; seated = h.seated; r_interval = h.r_interval; p_interval = h.p_interval; few = h.few; waiting_room = h.waiting_room; out_room = h.out_room })

-- ---- the journal beside it
-- what is kept of the requests doesn't depend on the journal
pub relogged : (m : Kept) (j : Journal) (r : ℕ) → IsMember m → IsMember (record m { journal = j; room = r })
relogged m j r h = record { tagged = h.tagged; sent = h.sent; seated = h.seated; r_interval = h.r_interval; p_interval = h.p_interval; few = h.few; waiting_room = h.waiting_room; out_room = h.out_room }

pub logged_standing : (m : Kept) (new : Whole) (j : Journal) (r : ℕ) → new ≡ m.whole → standing_of (record m { whole = new; journal = j; room = r }) ≡ with_log j r (standing_of m)
logged_standing m new j r is = ap (λ (w : Whole). standing_of (record m { whole = w; journal = j; room = r })) is

abbrev pub cell_in : Kept → Cell
cell_in m = record { live = m.whole; journal = m.journal; room = m.room }

-- the same cell, with another state and no slots
abbrev cell_with : Kept → Alone → Cell
cell_with m state = record { live = record { terms = m.whole.terms; inflight = m.whole.inflight; state = state; slots = [] }; journal = m.journal; room = m.room }

-- what becomes of a request doesn't depend on the slots
admission_same : (A : Type 0) (w v : Whole) (s : ℕ) (q : RequestMessage) (a : Admission) → v ≡ record w { slots = v.slots } → IsAdmission A w s q (Ok a) → IsAdmission A v s q (Ok a)
admission_same A w v s q a same is = subst (λ (x : Whole). IsAdmission A x s q (Ok a)) (sym same) (by a is)
  where
    by : (a : Admission) → IsAdmission A w s q (Ok a) → IsAdmission A (record w { slots = v.slots }) s q (Ok a)
    by admission.Waits is = is
    by (admission.Answered error) is = is

pub reserved_at : {A : Type 0} (m : Kept) (s : ℕ) (q : RequestMessage) (place : Place A) → IsMember m → IsReserved (cell_in m) s q place → IsReservedAt (standing_of m) s q place
reserved_at {A} m s q place h is =
    subst (λ (state : Alone). IsReserved (cell_with m state) s q place) (sym (alone_back m h))
    (record {
      admitted = admission_same A m.whole (cell_with m m.whole.state).live s q place.admission refl is.admitted;
      same = is.same;
      room = record { few = is.room.few; room = is.room.room };
    })

pub reserved_in : {A : Type 0} (m : Kept) (s : ℕ) (q : RequestMessage) (place : Place A) → IsMember m → IsReservedAt (standing_of m) s q place → IsReserved (cell_in m) s q place
reserved_in {A} m s q place h at =
    let is : IsReserved (cell_with m m.whole.state) s q place = subst (λ (state : Alone). IsReserved (cell_with m state) s q place) (alone_back m h) at in
    record {
      admitted = admission_same A (cell_with m m.whole.state).live m.whole s q place.admission refl is.admitted;
      same = is.same;
      room = record { few = is.room.few; room = is.room.room };
    }

refused_at : (m : Kept) (s : ℕ) (e : ArriveRefusal) → IsMember m → MayArrive m.whole s (Err e) → MayArrive (cell_at (standing_of m)).live s (Err e)
refused_at m s e h may = subst (λ (state : Alone). MayArrive (cell_with m state).live s (Err e)) (sym (alone_back m h)) (by e may)
  where
    by : (e : ArriveRefusal) → MayArrive m.whole s (Err e) → MayArrive (cell_with m m.whole.state).live s (Err e)
    by arriving.NotOpen is = is
    by arriving.Worn is = is
    by arriving.Hold is = is

pub turned_at : (m : Kept) (new : Cell) (s : ℕ) (q : RequestMessage) (f : ArriveFault) → IsMember m → IsTurnedAway (cell_in m) new s q f → IsTurnedAwayAt (standing_of m) (standing_of (record m { whole = new.live; journal = new.journal; room = new.room })) s q f
turned_at m new s q (fault.Refused e) h is = (refused_at m s e h is.0, ap (λ (c : Cell). standing_of (record m { whole = c.live; journal = c.journal; room = c.room })) is.1)
turned_at m new s q fault.NoMemory h is = (subst (λ (state : Alone). MayArrive (cell_with m state).live s (Ok tt)) (sym (alone_back m h)) is.0, is.1)

-- ---- what a call that may want memory answers
pub if_ok : {T E : Type 0} (P Q : T → Type 0) (r : Result T E) → ((x : T) → P x → Q x) → IfOk r P → IfOk r Q
if_ok P Q (Ok x) f p = f x p
if_ok P Q (Err e) f p = tt

pub if_err : {T E : Type 0} (P Q : E → Type 0) (r : Result T E) → ((e : E) → P e → Q e) → IfErr r P → IfErr r Q
if_err P Q (Ok x) f p = tt
if_err P Q (Err e) f p = f e p

pub same_kept : (m : Kept) (new : Whole) (j : Journal) (r : ℕ) → IsMember m → new ≡ m.whole → IsMember (record m { whole = new; journal = j; room = r })
same_kept m new j r h is = subst (λ (w : Whole). IsMember (record m { whole = w; journal = j; room = r })) (sym is) (relogged m j r h)

module _ {A : Type 0} where
  pub went_or : (m : Kept) (new : Whole) (j : Journal) (r : ℕ) (step : Step A) (answer : Option (StepAnswer A)) → IsMember m → DoesOr m.whole new step answer → new.slots ≡ m.whole.slots → KeepsRequests m.whole.terms m.whole.state step → WentOr (standing_of m) (standing_of (record m { whole = new; journal = j; room = r })) step answer
  went_or m new j r step None h same slots keeps = logged_standing m new j r same
  went_or m new j r step (Some answer) h does slots keeps = went m new j r step answer h does slots keeps

  pub went_or_kept : (m : Kept) (new : Whole) (j : Journal) (r : ℕ) (step : Step A) (answer : Option (StepAnswer A)) → IsMember m → DoesOr m.whole new step answer → new.slots ≡ m.whole.slots → KeepsRequests m.whole.terms m.whole.state step → IsMember (record m { whole = new; journal = j; room = r })
  went_or_kept m new j r step None h same slots keeps = same_kept m new j r h same
  went_or_kept m new j r step (Some answer) h does slots keeps = went_kept m new j r step answer h does slots keeps

pub wants : (m : Kept) (r : Result ℕ NotAttached) → (IsErrOf r NoMemory → MayAttach m.whole (Ok tt)) → WantsMemory (standing_of m) r
wants m (Ok n) may = tt
wants m (Err (Refused e)) may = tt
wants m (Err NoMemory) may = let h = may refl in record { young = h.0; few = h.1 }
