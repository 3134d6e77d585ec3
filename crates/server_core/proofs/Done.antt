-- A request of one export is done: what it is with its tags.
use Rattle.std.proofs.Common.{◌≡◌, ℕ, suc, Bool, true, false, cond, Option, Some, None, List, [], ◌∷◌, map, length, filter, find, refl, sym, ◌∙◌, ap, subst, arith}
use Rattle.std.specs.Prelude.{not, ◌==◌, ◌&&◌, is_some}
use Rattle.std.proofs.lemmas.Bool.Decides.{nat_tests}
use Rattle.nbd_base.specs.Words.{when_some}
use Rattle.nbd_commands.specs.Meaning.{may_want_memory}
use Rattle.tag_clock.specs.declared.Tags.{Tags}
use Rattle.lone_export.specs.Alone.{Alone, Job, Moved, own_step, done, undone, moves, stays}
use Rattle.lone_export.specs.Lone.{Whole, Does, slot_among, slots_without}
use Rattle.lone_export.specs.declared.step.Step.TheVariants.{Perform}
use Rattle.lone_export.specs.declared.step.StepAnswer.TheVariants.{Performed, NotOut}
use Rattle.export_cell.specs.Journal.{Journal}
use Rattle.server_table.specs.Parts.{Entry, Part, without}
use Rattle.server_core.specs.declared.member.Sent.{Sent}
use Rattle.server_core.specs.Members.{Seat, Kept, entries_of, seats_of, sent_tags, part_of, standing_of, slot_in, seats_without, with_log, done_standing, IsMember, own, Performs}
use Rattle.lone_export.proofs.Cases.{if_one}
use Rattle.server_core.proofs.Members.{alone_back, sent_length}

-- ---- lists side by side
abbrev pub numbers_of : List Job → List ℕ
numbers_of jobs = map (λ (job : Job). job.number) jobs

abbrev pub sent_numbers : List Sent → List ℕ
sent_numbers out = map (λ (one : Sent). one.number) out

abbrev pub jobs_without : ℕ → List Job → List Job
jobs_without n jobs = filter (λ (job : Job). not (job.number == n)) jobs

abbrev pub sent_without : ℕ → List Sent → List Sent
sent_without n out = filter (λ (one : Sent). not (one.number == n)) out

first_same : (a b : ℕ) (xs ys : List ℕ) → a ∷ xs ≡ b ∷ ys → a ≡ b
first_same a b xs ys h = cc

rest_same : (a b : ℕ) (xs ys : List ℕ) → a ∷ xs ≡ b ∷ ys → xs ≡ ys
rest_same a b xs ys h = cc

entries_without : (n : ℕ) (jobs : List Job) (out : List Sent) → sent_numbers out ≡ numbers_of jobs → entries_of (jobs_without n jobs) (sent_tags (sent_without n out)) ≡ without n (entries_of jobs (sent_tags out))
entries_without n [] out same = refl
entries_without n (j ∷ js) [] same = absurd (cc)
entries_without n (j ∷ js) (o ∷ os) same =
    by_test (j.number == n) (o.number == n) (ap (λ k. k == n) (first_same o.number j.number (sent_numbers os) (numbers_of js) same)) (entries_without n js os (rest_same o.number j.number (sent_numbers os) (numbers_of js) same))
  where
    x : Entry
    x = record { number = j.number; session = j.session; request = j.request; tags = o.tags }

    by_test : (b c : Bool) → c ≡ b → entries_of (jobs_without n js) (sent_tags (sent_without n os)) ≡ without n (entries_of js (sent_tags os)) →
        entries_of (cond (not b) (j ∷ jobs_without n js) (jobs_without n js)) (sent_tags (cond (not c) (o ∷ sent_without n os) (sent_without n os))) ≡ cond (not b) (x ∷ without n (entries_of js (sent_tags os))) (without n (entries_of js (sent_tags os)))
    by_test true true e rest = rest
    by_test false false e rest = ap (λ l. x ∷ l) rest
    by_test true false e rest = absurd (cc)
    by_test false true e rest = absurd (cc)

numbers_without : (n : ℕ) (jobs : List Job) (out : List Sent) → sent_numbers out ≡ numbers_of jobs → sent_numbers (sent_without n out) ≡ numbers_of (jobs_without n jobs)
numbers_without n [] [] same = refl
numbers_without n [] (o ∷ os) same = absurd (cc)
numbers_without n (j ∷ js) [] same = absurd (cc)
numbers_without n (j ∷ js) (o ∷ os) same =
    let one = first_same o.number j.number (sent_numbers os) (numbers_of js) same in
    by_test (j.number == n) (o.number == n) (ap (λ k. k == n) one) one (numbers_without n js os (rest_same o.number j.number (sent_numbers os) (numbers_of js) same))
  where
    by_test : (b c : Bool) → c ≡ b → o.number ≡ j.number → sent_numbers (sent_without n os) ≡ numbers_of (jobs_without n js) →
        sent_numbers (cond (not c) (o ∷ sent_without n os) (sent_without n os)) ≡ numbers_of (cond (not b) (j ∷ jobs_without n js) (jobs_without n js))
    by_test true true e one rest = rest
    by_test false false e one rest = ap (λ k. k ∷ sent_numbers (sent_without n os)) one ∙ ap (λ l. j.number ∷ l) rest
    by_test true false e one rest = absurd (cc)
    by_test false true e one rest = absurd (cc)

seats_of_without : (n : ℕ) (jobs : List Job) (slots : List ℕ) → length slots ≡ length jobs → seats_of (jobs_without n jobs) (slots_without jobs slots n) ≡ seats_without n (seats_of jobs slots)
seats_of_without n [] slots same = refl
seats_of_without n (j ∷ js) [] same = absurd (omega arith)
seats_of_without n (j ∷ js) (s ∷ ss) same = by_test (j.number == n) (seats_of_without n js ss (omega arith))
  where
    x : Seat
    x = record { number = j.number; slot = s }

    by_test : (b : Bool) → seats_of (jobs_without n js) (slots_without js ss n) ≡ seats_without n (seats_of js ss) →
        seats_of (cond (not b) (j ∷ jobs_without n js) (jobs_without n js)) (cond (not b) (s ∷ slots_without js ss n) (slots_without js ss n)) ≡ cond (not b) (x ∷ seats_without n (seats_of js ss)) (seats_without n (seats_of js ss))
    by_test true rest = rest
    by_test false rest = ap (λ l. x ∷ l) rest

slots_length : (n : ℕ) (jobs : List Job) (slots : List ℕ) → length slots ≡ length jobs → length (slots_without jobs slots n) ≡ length (jobs_without n jobs)
slots_length n [] [] same = refl
slots_length n [] (s ∷ ss) same = absurd (omega arith)
slots_length n (j ∷ js) [] same = absurd (omega arith)
slots_length n (j ∷ js) (s ∷ ss) same = by_test (j.number == n) (slots_length n js ss (omega arith))
  where
    by_test : (b : Bool) → length (slots_without js ss n) ≡ length (jobs_without n js) → length (cond (not b) (s ∷ slots_without js ss n) (slots_without js ss n)) ≡ length (cond (not b) (j ∷ jobs_without n js) (jobs_without n js))
    by_test true rest = rest
    by_test false rest = ap suc rest

pub slot_is : (n : ℕ) (jobs : List Job) (slots : List ℕ) → slot_among jobs slots n ≡ slot_in (seats_of jobs slots) n
slot_is n [] slots = refl
slot_is n (j ∷ js) [] = refl
slot_is n (j ∷ js) (s ∷ ss) = ap (λ o. cond (j.number == n) (Some s) o) (slot_is n js ss)

pub is_out : (n : ℕ) (jobs : List Job) (slots : List ℕ) (tags : List Tags) → length slots ≡ length jobs → length tags ≡ length jobs → is_some (slot_among jobs slots n) ≡ is_some (find (λ (entry : Entry). entry.number == n) (entries_of jobs tags))
is_out n [] slots tags a b = refl
is_out n (j ∷ js) [] tags a b = absurd (omega arith)
is_out n (j ∷ js) (s ∷ ss) [] a b = absurd (omega arith)
is_out n (j ∷ js) (s ∷ ss) (t ∷ ts) a b = by_test (j.number == n) (is_out n js ss ts (omega arith) (omega arith))
  where
    x : Entry
    x = record { number = j.number; session = j.session; request = j.request; tags = t }

    by_test : (b : Bool) → is_some (slot_among js ss n) ≡ is_some (find (λ (entry : Entry). entry.number == n) (entries_of js ts)) → is_some (cond b (Some s) (slot_among js ss n)) ≡ is_some (cond b (Some x) (find (λ (entry : Entry). entry.number == n) (entries_of js ts)))
    by_test true rest = refl
    by_test false rest = rest

pub member_out : (m : Kept) (n : ℕ) → IsMember m → is_some (slot_among m.whole.state.out m.whole.slots n) ≡ is_some (find (λ (entry : Entry). entry.number == n) (part_of m).out)
member_out m n h = is_out n m.whole.state.out m.whole.slots (sent_tags m.out) h.seated (sent_length m.out m.whole.state.out h.sent)

-- ---- the step of the export alone
abbrev pub done_state : ℕ → Alone → Alone → Alone
done_state n state other = record state { image = other.image; out = jobs_without n state.out; sessions = other.sessions; count = other.count }

found_number : (n : ℕ) (jobs : List Job) (x : Job) → find (λ (job : Job). job.number == n) jobs ≡ Some x → x.number ≡ n
found_number n [] x is = absurd (cc)
found_number n (y ∷ ys) x is = by_test (y.number == n) refl (found_number n ys x) is
  where
    by_test : (b : Bool) → (y.number == n) ≡ b → (find (λ (job : Job). job.number == n) ys ≡ Some x → x.number ≡ n) → cond b (Some y) (find (λ (job : Job). job.number == n) ys) ≡ Some x → x.number ≡ n
    by_test true same rest found =
        let y_is : y ≡ x = some_same y x found in
        let n_is : y.number ≡ n = grind (arith, nat_tests) in
        sym (ap (λ (j : Job). j.number) y_is) ∙ n_is
      where
        some_same : {X : Type 0} (a b : X) → Some a ≡ Some b → a ≡ b
        some_same a b e = cc
    by_test false same rest found = rest found

module _ (A : Type 0) where
  abbrev pub after : Alone → Bool → Option Job → Moved A
  after state memory found = when_some found (λ job. cond (not memory && may_want_memory job.request) (moves (undone state job) (Performed false)) (moves (done state job) (Performed true))) (stays state NotOut)

  keeps_others : (state : Alone) (n : ℕ) (memory told : Bool) (o : Option Job) → find (λ (job : Job). job.number == n) state.out ≡ o → (after state memory o).answer ≡ Performed told → (after state memory o).state ≡ done_state n state (after state memory o).state
  keeps_others state n memory told None is said = absurd (cc)
  keeps_others state n memory told (Some x) is said =
      subst (λ k. (after state memory (Some x)).state ≡ done_state k state (after state memory (Some x)).state) (found_number n state.out x is)
      (if_one (λ (m : Moved A). m.state ≡ done_state x.number state m.state) (not memory && may_want_memory x.request) refl refl)

  pub was_out : (state : Alone) (n : ℕ) (memory told : Bool) (o : Option Job) → (after state memory o).answer ≡ Performed told → is_some o ≡ true
  was_out state n memory told None said = absurd (cc)
  was_out state n memory told (Some x) said = refl

  -- ---- and of the export with its tags
  done_whole : (old new : Whole) (n : ℕ) (memory : Bool) → Does {A = A} old new (Perform n memory) (Performed memory) → new.slots ≡ slots_without old.state.out old.slots n → new ≡ record old { state = done_state n old.state new.state; slots = slots_without old.state.out old.slots n }
  done_whole old new n memory does slots =
      let now : (own_step {A = A} old.terms old.state (Perform n memory)).state ≡ new.state = ap (λ (m : Moved A). m.state) does.did in
      let said : (own_step {A = A} old.terms old.state (Perform n memory)).answer ≡ Performed memory = ap (λ (m : Moved A). m.answer) does.did in
      let keeps = keeps_others old.state n memory memory (find (λ (job : Job). job.number == n) old.state.out) refl said in
      let kept : new.state ≡ done_state n old.state new.state = subst (λ (s : Alone). s ≡ done_state n old.state s) now keeps in
      ap (λ t. record new { terms = t }) does.terms
      ∙ ap (λ i. record { terms = old.terms; inflight = i; state = new.state; slots = new.slots }) does.inflight
      ∙ ap (λ l. record { terms = old.terms; inflight = old.inflight; state = new.state; slots = l }) slots
      ∙ ap (λ s. record { terms = old.terms; inflight = old.inflight; state = s; slots = slots_without old.state.out old.slots n }) kept

  pub performs_kept : (m : Kept) (new : Whole) (j : Journal) (r : ℕ) (n : ℕ) (memory : Bool) (out : List Sent) → IsMember m → Does {A = A} m.whole new (Perform n memory) (Performed memory) → new.slots ≡ slots_without m.whole.state.out m.whole.slots n → out ≡ sent_without n m.out → IsMember (record m { whole = new; journal = j; room = r; out = out })
  performs_kept m new j r n memory out h does slots left =
      subst (λ (w : Whole). IsMember (record m { whole = w; journal = j; room = r; out = out })) (sym (done_whole m.whole new n memory does slots))
      (subst (λ (l : List Sent). IsMember (record m { whole = record m.whole { state = done_state n m.whole.state new.state; slots = slots_without m.whole.state.out m.whole.slots n }; journal = j; room = r; out = l })) (sym left)
      (record {
        tagged = h.tagged;
        sent = numbers_without n m.whole.state.out m.out h.sent;
        seated = slots_length n m.whole.state.out m.whole.slots h.seated;
        r_interval = h.r_interval;
        p_interval = h.p_interval;
        few = h.few;
        waiting_room = h.waiting_room;
        out_room = h.out_room;
      }))

  pub performs : (m : Kept) (new : Whole) (j : Journal) (r : ℕ) (n : ℕ) (memory : Bool) (out : List Sent) → IsMember m → Does {A = A} m.whole new (Perform n memory) (Performed memory) → new.slots ≡ slots_without m.whole.state.out m.whole.slots n → out ≡ sent_without n m.out → Performs A (standing_of m) (standing_of (record m { whole = new; journal = j; room = r; out = out })) n memory
  performs m new j r n memory out h does slots left =
      let state = m.whole.state in
      let is : own {A = A} (standing_of m) (Perform n memory) ≡ record { state = new.state; answer = Performed memory } = ap (λ (s : Alone). own_step {A = A} m.whole.terms s (Perform n memory)) (alone_back m h) ∙ does.did in
      let base : Part = record (part_of m) { image = new.state.image; sessions = new.state.sessions; count = new.state.count } in
      record {
        standing = ap (λ (w : Whole). standing_of (record m { whole = w; journal = j; room = r; out = out })) (done_whole m.whole new n memory does slots)
            ∙ ap (λ (l : List Sent). standing_of (record m { whole = record m.whole { state = done_state n state new.state; slots = slots_without state.out m.whole.slots n }; journal = j; room = r; out = l })) left
            ∙ ap (λ (l : List Entry). record { part = record base { out = l }; inflight = m.whole.inflight; seats = seats_of (jobs_without n state.out) (slots_without state.out m.whole.slots n); journal = j; room = r }) (entries_without n state.out m.out h.sent)
            ∙ ap (λ (l : List Seat). record { part = record base { out = without n (part_of m).out }; inflight = m.whole.inflight; seats = l; journal = j; room = r }) (seats_of_without n state.out m.whole.slots h.seated)
            ∙ ap (λ (moved : Moved A). done_standing n moved.state (with_log j r (standing_of m))) (sym is);
        told = ap (λ (moved : Moved A). moved.answer) is;
      }
