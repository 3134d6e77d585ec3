-- What a step does to the count, and to the steps that are still to come.
use Rattle.std.proofs.Common.{◌≡◌, ℕ, zero, suc, ◌+◌, ◌*◌, ◌^◌, ◌≤◌, Bool, true, false, not, ◌&&◌, ◌==◌, nat_le, List, [], ◌∷◌, ◌++◌, length, filter, find, drop, slice_get, Some, None, if◌then◌else◌, refl, sym, ap, ◌∙◌, arith, length-append, subst}
use Rattle.std.proofs.lemmas.Bool.{eqb-true}
use Rattle.nbd_wire.specs.Grammar.{ReplyMessage}
use Rattle.nbd_commands.specs.Terms.{Terms}
use Rattle.nbd_commands.specs.Verdict.{verdict_of}
use Rattle.nbd_commands.specs.Meaning.{may_want_memory}
use Rattle.reply_box.specs.declared.seat.SessionState.{SessionState}
use Rattle.reply_box.specs.declared.seat.SessionState.TheVariants as place
use Rattle.reply_box.specs.Sessions.{Session, is_here, is_here_state, is_open_state, is_open_at, is_left_at, is_here_at, outbox_at, posted, post_at, take_at, leave_at, drop_at, new_session, session_worth, sessions_worth}
use Rattle.lone_export.specs.Alone.{Alone, Job, own_step, outstanding, stays, moves}
use Rattle.lone_export.specs.Calls.{is_counted, brought, to_come, IsOneStep}
use Rattle.lone_export.specs.declared.step.Step.{Step}
use Rattle.lone_export.specs.declared.step.Step.TheVariants.{Attach, Arrive, Pick, Perform, Take, Leave, Gone, Retune}
use Rattle.lone_export.specs.declared.step.StepAnswer.{StepAnswer}
use Rattle.lone_export.proofs.Cases.{true_false, if_told, if_one, some_one}

pub worth-post : (reply : ReplyMessage) (s : ℕ) (ss : List Session) → sessions_worth (post_at s reply ss) ≤ sessions_worth ss + 1
worth-post reply s [] = omega arith
worth-post reply zero (x ∷ ss) = one x.state refl
  where
    one : (st : SessionState) → x.state ≡ st → sessions_worth (posted reply x ∷ ss) ≤ sessions_worth (x ∷ ss) + 1
    one st e = if_one (λ (y : Session). sessions_worth (y ∷ ss) ≤ sessions_worth (x ∷ ss) + 1) (is_here x) (let a = length-append x.outbox (reply ∷ []) in omega arith) (omega arith)
worth-post reply (suc s) (x ∷ ss) = let a = worth-post reply s ss in omega arith

pub worth-take : (s : ℕ) (ss : List Session) (reply : ReplyMessage) → slice_get (outbox_at ss s) 0 ≡ Some reply → sessions_worth (take_at s ss) + 1 ≤ sessions_worth ss
worth-take s [] reply h = absurd (cc)
worth-take zero (x ∷ ss) reply h = by x.outbox refl
  where
    by : (xs : List ReplyMessage) → x.outbox ≡ xs → sessions_worth (take_at 0 (x ∷ ss)) + 1 ≤ sessions_worth (x ∷ ss)
    by [] e = let f : None ≡ Some reply = ap (λ (ys : List ReplyMessage). slice_get ys 0) (sym e) ∙ h in absurd (cc)
    by (r ∷ rest) e =
        let a : length x.outbox ≡ suc (length rest) = ap length e in
        let b : length (drop 1 x.outbox) ≡ length rest = ap (λ (ys : List ReplyMessage). length (drop 1 ys)) e in
        omega arith
worth-take (suc s) (x ∷ ss) reply h = let a = worth-take s ss reply h in omega arith

pub worth-leave : (s : ℕ) (ss : List Session) → is_open_at ss s ≡ true → sessions_worth (leave_at s ss) + 1 ≤ sessions_worth ss
worth-leave s [] h = absurd (cc)
worth-leave zero (x ∷ ss) h = by x.state refl h
  where
    by : (st : SessionState) → x.state ≡ st → is_open_state st ≡ true → length x.outbox + 1 + sessions_worth ss + 1 ≤ length x.outbox + session_worth x.state + sessions_worth ss
    by place.Open e h = let a : session_worth x.state ≡ 2 = ap session_worth e in omega arith
    by place.Left e h = absurd (cc)
    by place.Gone e h = absurd (cc)
worth-leave (suc s) (x ∷ ss) h = let a = worth-leave s ss h in omega arith

pub worth-drop : (s : ℕ) (ss : List Session) → is_here_at ss s ≡ true → sessions_worth (drop_at s ss) + 1 ≤ sessions_worth ss
worth-drop s [] h = absurd (cc)
worth-drop zero (x ∷ ss) h = by x.state refl h
  where
    by : (st : SessionState) → x.state ≡ st → is_here_state st ≡ true → 0 + 0 + sessions_worth ss + 1 ≤ length x.outbox + session_worth x.state + sessions_worth ss
    by place.Open e h = let a : session_worth x.state ≡ 2 = ap session_worth e in omega arith
    by place.Left e h = let a : session_worth x.state ≡ 1 = ap session_worth e in omega arith
    by place.Gone e h = absurd (cc)
worth-drop (suc s) (x ∷ ss) h = let a = worth-drop s ss h in omega arith

pub worth-attach : (ss : List Session) → sessions_worth (ss ++ new_session ∷ []) ≡ sessions_worth ss + 2
worth-attach [] = refl
worth-attach (x ∷ ss) = let a = worth-attach ss in omega arith

shorter : {A : Type 0} (p : A → Bool) (xs : List A) → length (filter p xs) ≤ length xs
shorter p [] = omega arith
shorter p (x ∷ xs) = let a = shorter p xs in if_one (λ ys. length ys ≤ suc (length xs)) (p x) (omega arith) (omega arith)

pub one_out : (n : ℕ) (jobs : List Job) (job : Job) → find (λ j. j.number == n) jobs ≡ Some job → length (filter (λ other. not (other.number == n)) jobs) + 1 ≤ length jobs
one_out n [] job h = absurd (cc)
one_out n (j ∷ jobs) job h = by (j.number == n) refl h (λ k. one_out n jobs job k)
  where
    by : (b : Bool) → (j.number == n) ≡ b → (if b then Some j else find (λ j. j.number == n) jobs) ≡ Some job
        → (find (λ j. j.number == n) jobs ≡ Some job → length (filter (λ other. not (other.number == n)) jobs) + 1 ≤ length jobs)
        → length (if not b then j ∷ filter (λ other. not (other.number == n)) jobs else filter (λ other. not (other.number == n)) jobs) + 1 ≤ suc (length jobs)
    by true e h ih = let a = shorter (λ (other : Job). not (other.number == n)) jobs in omega arith
    by false e h ih = let a = ih h in omega arith

pub found_number : (n : ℕ) (jobs : List Job) (job : Job) → find (λ j. j.number == n) jobs ≡ Some job → (job.number == n) ≡ true
found_number n [] job h = absurd (cc)
found_number n (j ∷ jobs) job h = by (j.number == n) refl h (λ k. found_number n jobs job k)
  where
    by : (b : Bool) → (j.number == n) ≡ b → (if b then Some j else find (λ j. j.number == n) jobs) ≡ Some job → (find (λ j. j.number == n) jobs ≡ Some job → (job.number == n) ≡ true) → (job.number == n) ≡ true
    by true e h ih = let same : j ≡ job = cc in ap (λ (x : Job). x.number == n) (sym same) ∙ e
    by false e h ih = ih h

first : {A : Type 0} (xs : List A) (x : A) → slice_get xs 0 ≡ Some x → length (drop 1 xs) + 1 ≡ length xs
first [] x h = absurd (cc)
first (y ∷ ys) x h = omega arith

less_done : (old : Alone) (n : ℕ) (job : Job) (reply : ReplyMessage) → find (λ j. j.number == n) old.out ≡ Some job
    → 3 * length old.waiting + 2 * length (filter (λ other. not (other.number == job.number)) old.out) + sessions_worth (post_at job.session reply old.sessions) + 1 ≤ to_come old + 0
less_done old n job reply h =
    let same : job.number ≡ n = eqb-true job.number n (found_number n old.out job h) in
    let a : length (filter (λ other. not (other.number == job.number)) old.out) + 1 ≤ length old.out =
    subst (λ k. length (filter (λ (other : Job). not (other.number == k)) old.out) + 1 ≤ length old.out) (sym same) (one_out n old.out job h) in
    let b = worth-post reply job.session old.sessions in
    omega arith

module _ {A : Type 0} where
  still : (n : ℕ) (old : Alone) (answer : StepAnswer A) → is_counted answer ≡ false → IsOneStep n old (stays old answer)
  still n old answer no_step = record { counts = λ h. true_false (sym h ∙ no_step); stays = λ h. refl; brings = λ h. true_false (sym h ∙ no_step) }

  moved : (n : ℕ) (old new : Alone) (answer : StepAnswer A) → is_counted answer ≡ true → new.count ≡ old.count → to_come new + 1 ≤ to_come old + n → IsOneStep n old (moves new answer)
  moved n old new answer a_step same less = record { counts = λ h. ap (λ k. k + 1) same; stays = λ h. true_false (sym a_step ∙ h); brings = λ h. less }

  pub steps : (terms : Terms) (old : Alone) (one : Step A) → IsOneStep (brought one) old (own_step terms old one)
  steps terms old Attach =
      let P = IsOneStep 3 old in
      if_one P (nat_le (2 ^ 56) old.count) (still 3 old _ refl)
      (if_one P (length (filter is_here old.sessions) == 64) (still 3 old _ refl)
      (moved 3 old _ _ refl refl (let a = worth-attach old.sessions in omega arith)))
  steps terms old (Arrive s t q) =
      let P = IsOneStep 4 old in
      let b = λ (error : ℕ). worth-post (record { error = error; cookie = q.head.cookie; content = [] }) s old.sessions in
      if_one P (not (is_open_at old.sessions s)) (still 4 old _ refl)
      (if_one P (nat_le (2 ^ 56) old.count) (still 4 old _ refl)
      (if_one P (outstanding old s == terms.window) (still 4 old _ refl)
      (if_one P (not (verdict_of terms q == 0)) (moved 4 old _ _ refl refl (let a = b (verdict_of terms q) in omega arith))
      (if_one P (length old.waiting == terms.depth) (moved 4 old _ _ refl refl (let a = b 5 in omega arith))
      (moved 4 old _ _ refl refl (let a = length-append old.waiting (record { number = old.next; session = s; request = q } ∷ []) in omega arith))))))
  steps terms old Pick =
      some_one (IsOneStep 0 old) (slice_get old.waiting 0) (λ job h. moved 0 old _ _ refl refl (let a = first old.waiting job h in let b = length-append old.out (job ∷ []) in omega arith)) (still 0 old _ refl)
  steps terms old (Perform n memory) =
      let P = IsOneStep 0 old in
      some_one P (find (λ job. job.number == n) old.out)
      (λ job h. if_one P (not memory && may_want_memory job.request) (moved 0 old _ _ refl refl (less_done old n job _ h)) (moved 0 old _ _ refl refl (less_done old n job _ h)))
      (still 0 old _ refl)
  steps terms old (Take s) =
      let P = IsOneStep 0 old in
      if_one P (not (is_here_at old.sessions s)) (still 0 old _ refl)
      (some_one P (slice_get (outbox_at old.sessions s) 0) (λ reply h. moved 0 old _ _ refl refl (let a = worth-take s old.sessions reply h in omega arith))
      (if_one P (is_left_at old.sessions s && outstanding old s == 0) (still 0 old _ refl) (still 0 old _ refl)))
  steps terms old (Leave s) =
      if_told (IsOneStep 0 old) (not (is_open_at old.sessions s)) (λ h. still 0 old _ refl) (λ h. moved 0 old _ _ refl refl (let a = worth-leave s old.sessions (is_so _ h) in omega arith))
    where
      is_so : (b : Bool) → not b ≡ false → b ≡ true
      is_so true h = refl
      is_so false h = absurd (cc)
  steps terms old (Gone s) =
      if_told (IsOneStep 0 old) (not (is_here_at old.sessions s)) (λ h. still 0 old _ refl) (λ h. moved 0 old _ _ refl refl (let a = worth-drop s old.sessions (is_so _ h) in omega arith))
    where
      is_so : (b : Bool) → not b ≡ false → b ≡ true
      is_so true h = refl
      is_so false h = absurd (cc)
  steps terms old (Retune rates) =
      let P = IsOneStep 1 old in
      if_one P (nat_le (2 ^ 56) old.count) (still 1 old _ refl)
      (if_one P (not (length old.waiting == 0)) (still 1 old _ refl)
      (moved 1 old _ _ refl refl (omega arith)))
