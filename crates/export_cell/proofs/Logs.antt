-- A log and its base: a step more at the end, a step less at the front.
use Rattle.std.proofs.Common.{◌≡◌, ℕ, ◌+◌, ◌-◌, ◌≤◌, ◌<◌, true, false, List, [], ◌∷◌, ◌++◌, length, take, drop, refl, sym, ap, subst, ◌∙◌, arith, length-append}
use Rattle.std.proofs.Math.Seq.{take-append_seam, drop-append_seam}
use Rattle.nbd_commands.specs.Terms.{Terms}
use Rattle.lone_export.specs.Alone.{Alone, own_step, alone}
use Rattle.lone_export.specs.Calls.{brought, to_come}
use Rattle.lone_export.specs.Lone.{Whole}
use Rattle.lone_export.specs.declared.step.Step.TheVariants.{Pick}
use Rattle.lone_export.proofs.Steps.{steps}
use Rattle.step_log.specs.Steps.{KeptStep, payload_of, payload_in}
use Rattle.export_cell.specs.Journal.{Cell, IsLogged, IsLog, IsJournal, surplus, cell_of, IsCell, HasAdvanced, HasRoom}
use Rattle.step_log.specs.Log.{StepLog, steps_of, room_of}
use Rattle.export_cell.proofs.Kept.{Makes}
use Rattle.export_cell.proofs.Fronts.{fits-trimmed}

pub alone-snoc : (terms : Terms) (base : Alone) (log : List KeptStep) (one : KeptStep) → alone terms base (log ++ one ∷ []) ≡ (own_step terms (alone terms base log) one).state
alone-snoc terms base [] one = refl
alone-snoc terms base (first ∷ log) one = alone-snoc terms (own_step terms base first).state log one

pub log-snoc : (terms : Terms) (inflight : ℕ) (base : Alone) (log : List KeptStep) (one : KeptStep) → IsLog terms inflight base log → IsLogged terms inflight (alone terms base log) one → IsLog terms inflight base (log ++ one ∷ [])
log-snoc terms inflight base [] one is last = (last, tt)
log-snoc terms inflight base (first ∷ log) one is last = (is.0, log-snoc terms inflight (own_step terms base first).state log one is.1 last)

pub payload-snoc : (log : List KeptStep) (one : KeptStep) → payload_in (log ++ one ∷ []) ≡ payload_in log + payload_of one
payload-snoc [] one = omega arith
payload-snoc (first ∷ log) one = let a = payload-snoc log one in omega arith

-- a counted step goes to the end of the log
journal-snoc : (live new : Whole) (base : Alone) (log : List KeptStep) (one : KeptStep)
    → IsJournal live (record { base = base; log = log }) → Makes live new one true → (one ≡ Pick → length live.state.out < live.inflight)
    → IsJournal new (record { base = base; log = log ++ one ∷ [] })
journal-snoc live new base log one is does fit =
    let after = does.state in
    let is_step = does.told in
    let rises : new.state.count ≡ live.state.count + 1 = ap (λ (s : Alone). s.count) (sym after) ∙ (steps live.terms live.state one).counts is_step in
    let longer = length-append log (one ∷ []) in
    let counts = is.counts in
    record {
      same = subst (λ (t : Terms). new.state ≡ alone t base (log ++ one ∷ [])) (sym does.terms)
          (sym after ∙ ap (λ (s : Alone). (own_step live.terms s one).state) is.same ∙ sym (alone-snoc live.terms base log one));
      each = subst (λ (t : Terms). IsLog t new.inflight base (log ++ one ∷ [])) (sym does.terms)
          (subst (λ i. IsLog live.terms i base (log ++ one ∷ [])) (sym does.inflight)
          (log-snoc live.terms live.inflight base log one is.each
          (subst (λ (s : Alone). IsLogged live.terms live.inflight s one) is.same (record { counted = is_step; fit = fit }))));
      counts = omega arith;
    }

-- the fields after a counted step
cell-snoc : (live new base : Whole) (log : List KeptStep) (one : KeptStep) (payload capacity : ℕ)
    → IsCell live base log payload capacity → Makes live new one true → (one ≡ Pick → length live.state.out < live.inflight)
    → payload + payload_of one ≤ 67108864 → length log + to_come live.state + brought one ≤ capacity
    → IsCell new base (log ++ one ∷ []) (payload + payload_of one) capacity
cell-snoc live new base log one payload capacity is does fit few room =
    let brings = (steps live.terms live.state one).brings does.told in
    let same : to_come (own_step live.terms live.state one).state ≡ to_come new.state = ap to_come does.state in
    let longer = length-append log (one ∷ []) in
    record {
      journal = journal-snoc live new base.state log one is.journal does fit;
      terms = is.terms ∙ sym does.terms;
      inflight = is.inflight ∙ sym does.inflight;
      payload = ap (λ n. n + payload_of one) is.payload ∙ sym (payload-snoc log one);
      few = few;
      wide = omega arith;
    }

-- more room does no harm
cell-roomier : (live base : Whole) (log : List KeptStep) (payload capacity capacity' : ℕ) → IsCell live base log payload capacity → capacity ≤ capacity' → IsCell live base log payload capacity'
cell-roomier live base log payload capacity capacity' is more =
    let room = is.wide in
    record { journal = is.journal; terms = is.terms; inflight = is.inflight; payload = is.payload; few = is.few; wide = omega arith }

-- a step that takes no memory for the log
pub cell-light : (live new base : Whole) (log longer : List KeptStep) (one : KeptStep) (payload capacity capacity' : ℕ)
    → IsCell live base log payload capacity → Makes live new one true → (one ≡ Pick → length live.state.out < live.inflight) → payload_of one ≡ 0 → brought one ≡ 0
    → longer ≡ log ++ one ∷ [] → capacity ≤ capacity' → IsCell new base longer payload capacity'
cell-light live new base log longer one payload capacity capacity' is does fit nothing none grown more =
    let few = is.few in
    let room = is.wide in
    let whole = cell-snoc live new base log one payload capacity is does fit (omega arith) (omega arith) in
    let sum : payload + payload_of one ≡ payload = omega arith in
    subst (λ (l : List KeptStep). IsCell new base l payload capacity') (sym grown)
    (cell-roomier new base (log ++ one ∷ []) payload capacity capacity' (subst (λ n. IsCell new base (log ++ one ∷ []) n capacity) sum whole) more)

-- there is room for a step that was to come
pub room_for : (live new base : Whole) (log : List KeptStep) (one : KeptStep) (payload capacity : ℕ)
    → IsCell live base log payload capacity → Makes live new one true → brought one ≡ 0 → length log < capacity
room_for live new base log one payload capacity is does none =
    let brings = (steps live.terms live.state one).brings does.told in
    let room = is.wide in
    omega arith

-- a step that isn't counted leaves the export
state-still : (live new : Whole) (one : KeptStep) → Makes live new one false → new.state ≡ live.state
state-still live new one does = sym does.state ∙ (steps live.terms live.state one).stays does.told

-- the fields after a step that isn't counted
pub cell-still : (live new base : Whole) (log : List KeptStep) (one : KeptStep) (payload capacity : ℕ)
    → IsCell live base log payload capacity → Makes live new one false → IsCell new base log payload capacity
cell-still live new base log one payload capacity is does =
    let same : new.state ≡ live.state = state-still live new one does in
    let counts = is.journal.counts in
    let room = is.wide in
    let come : to_come new.state ≡ to_come live.state = ap to_come same in
    let count : new.state.count ≡ live.state.count = ap (λ (s : Alone). s.count) same in
    record {
      journal = record {
        same = subst (λ (t : Terms). new.state ≡ alone t base.state log) (sym does.terms) (same ∙ is.journal.same);
        each = subst (λ (t : Terms). IsLog t new.inflight base.state log) (sym does.terms) (subst (λ i. IsLog live.terms i base.state log) (sym does.inflight) is.journal.each);
        counts = omega arith;
      };
      terms = is.terms ∙ sym does.terms;
      inflight = is.inflight ∙ sym does.inflight;
      payload = is.payload;
      few = is.few;
      wide = omega arith;
    }

-- the oldest step goes into the base
pub cell-advance : (live base new : Whole) (one : KeptStep) (log rest : List KeptStep) (payload capacity capacity' : ℕ)
    → IsCell live base log payload capacity → log ≡ one ∷ rest → Makes base new one true → capacity ≤ capacity' + 1 → IsCell live new rest (payload - payload_of one) capacity'
cell-advance live base new one log rest payload capacity capacity' is split does same = go (subst (λ (l : List KeptStep). IsCell live base l payload capacity) split is)
  where
    go : IsCell live base (one ∷ rest) payload capacity → IsCell live new rest (payload - payload_of one) capacity'
    go is =
        let ours : (own_step live.terms base.state one).state ≡ new.state = ap (λ (t : Terms). (own_step t base.state one).state) (sym is.terms) ∙ does.state in
        let counts = is.journal.counts in
        let rises : (own_step live.terms base.state one).state.count ≡ base.state.count + 1 = (steps live.terms base.state one).counts is.journal.each.0.counted in
        let count : (own_step live.terms base.state one).state.count ≡ new.state.count = ap (λ (s : Alone). s.count) ours in
        let kept_now = is.payload in
        let few = is.few in
        let room = is.wide in
        record {
          journal = record {
            same = is.journal.same ∙ ap (λ (s : Alone). alone live.terms s rest) ours;
            each = subst (λ (s : Alone). IsLog live.terms live.inflight s rest) ours is.journal.each.1;
            counts = omega arith;
          };
          terms = does.terms ∙ is.terms;
          inflight = does.inflight ∙ is.inflight;
          payload = omega arith;
          few = omega arith;
          wide = omega arith;
        }

-- the oldest step of a log may be made again
pub oldest_logged : (live base : Whole) (one : KeptStep) (log rest : List KeptStep) (payload capacity : ℕ) → IsCell live base log payload capacity → log ≡ one ∷ rest → IsLogged base.terms base.inflight base.state one
oldest_logged live base one log rest payload capacity is split =
    let each : IsLog live.terms live.inflight base.state (one ∷ rest) = subst (λ (l : List KeptStep). IsLog live.terms live.inflight base.state l) split is.journal.each in
    subst (λ (t : Terms). IsLogged t base.inflight base.state one) (sym is.terms)
    (subst (λ i. IsLogged live.terms i base.state one) (sym is.inflight) each.0)

-- steps without payload go into the base, one after another
pub cell-advance-all : (live base new : Whole) (these log rest : List KeptStep) (payload capacity capacity' : ℕ)
    → IsCell live base log payload capacity → log ≡ these ++ rest → new.state ≡ alone base.terms base.state these → new.terms ≡ base.terms → new.inflight ≡ base.inflight
    → payload_in these ≡ 0 → capacity ≤ capacity' + length these → IsCell live new rest payload capacity'
cell-advance-all live base new [] log rest payload capacity capacity' is split state terms inflight none more =
    let counts = is.journal.counts in
    let wide = is.wide in
    let kept = is.payload in
    let same : length log ≡ length rest = ap length split in
    let bytes : payload_in log ≡ payload_in rest = ap payload_in split in
    let count : new.state.count ≡ base.state.count = ap (λ (s : Alone). s.count) state in
    record {
      journal = record {
        same = subst (λ (s : Alone). live.state ≡ alone live.terms s rest) (sym state) (subst (λ (l : List KeptStep). live.state ≡ alone live.terms base.state l) split is.journal.same);
        each = subst (λ (s : Alone). IsLog live.terms live.inflight s rest) (sym state) (subst (λ (l : List KeptStep). IsLog live.terms live.inflight base.state l) split is.journal.each);
        counts = omega arith;
      };
      terms = terms ∙ is.terms;
      inflight = inflight ∙ is.inflight;
      payload = kept ∙ bytes;
      few = is.few;
      wide = omega arith;
    }
cell-advance-all live base new (one ∷ these) log rest payload capacity capacity' is split state terms inflight none more =
    let mid : Whole = record { terms = base.terms; inflight = base.inflight; state = (own_step base.terms base.state one).state; slots = [] } in
    let logged = oldest_logged live base one log (these ++ rest) payload capacity is split in
    let does : Makes base mid one true = record { state = refl; told = logged.counted; terms = refl; inflight = refl } in
    let less : payload - payload_of one ≡ payload = omega arith in
    let gone : IsCell live mid (these ++ rest) (payload - payload_of one) (capacity - 1) = cell-advance live base mid one log (these ++ rest) payload capacity (capacity - 1) is split does (omega arith) in
    cell-advance-all live mid new these (these ++ rest) rest payload (capacity - 1) capacity' (subst (λ n. IsCell live mid (these ++ rest) n (capacity - 1)) less gone) refl state terms inflight (omega arith) (omega arith)

-- what a reader of the cell sees of that
pub value-advance : (live base new : Whole) (these log rest : List KeptStep) (room room' : ℕ)
    → base.terms ≡ live.terms → log ≡ these ++ rest → new.state ≡ alone base.terms base.state these → HasAdvanced (length these) (cell_of live base log room) (cell_of live new rest room')
value-advance live base new these log rest room room' terms split state =
    let ours : new.state ≡ alone live.terms base.state these = state ∙ ap (λ (t : Terms). alone t base.state these) terms in
    let front : take (length these) (these ++ rest) ≡ these = take-append_seam these rest in
    let back : drop (length these) (these ++ rest) ≡ rest = drop-append_seam these rest in
    subst (λ (l : List KeptStep). HasAdvanced (length these) (cell_of live base l room) (cell_of live new rest room')) (sym split)
    (record {
      live = refl;
      journal = λ i. record { base = (ours ∙ ap (λ (l : List KeptStep). alone live.terms base.state l) (sym front)) i; log = sym back i };
    })

pub few_bytes : (live base : Whole) (log : List KeptStep) (payload capacity : ℕ) → IsCell live base log payload capacity → payload_in log ≤ 67108864
few_bytes live base log payload capacity is =
    let kept = is.payload in
    let few = is.few in
    omega arith

-- where there is room, a step that asks for it
pub cell-heavy : (live new base : Whole) (log longer : List KeptStep) (one : KeptStep) (bytes payload capacity capacity' : ℕ)
    → IsCell live base log payload capacity → HasRoom bytes (cell_of live base log capacity) → payload_of one ≡ bytes → brought one ≤ 4
    → Makes live new one true → (one ≡ Pick → length live.state.out < live.inflight)
    → longer ≡ log ++ one ∷ [] → capacity ≤ capacity' → IsCell new base longer (payload + bytes) capacity'
cell-heavy live new base log longer one bytes payload capacity capacity' is has size brings does fit grown more =
    let few = has.few in
    let room = has.room in
    let kept = is.payload in
    subst (λ (l : List KeptStep). IsCell new base l (payload + bytes) capacity') (sym grown)
    (cell-roomier new base (log ++ one ∷ []) (payload + bytes) capacity capacity'
    (subst (λ n. IsCell new base (log ++ one ∷ []) (payload + n) capacity) size
    (cell-snoc live new base log one payload capacity is does fit (omega arith) (omega arith))) more)

-- there is room for one
pub room_for_one : (live base : Whole) (log : List KeptStep) (bytes capacity : ℕ) → HasRoom bytes (cell_of live base log capacity) → length log < capacity
room_for_one live base log bytes capacity has = let room = has.room in omega arith

-- there is room for a step more, whether it goes to the last entry or not
pub spare_for : (log : StepLog) → length (steps_of log) < room_of log → 0 < log.spare
spare_for log less = omega arith

-- trimmed and with more room
pub has-room : (old : Cell) (live base : Whole) (log longer : List KeptStep) (bytes capacity : ℕ) → bytes ≤ 33554432
    → log ≡ drop (surplus bytes old.journal.log) old.journal.log → longer ≡ log → length longer + (to_come live.state + 4) ≤ capacity → HasRoom bytes (cell_of live base longer capacity)
has-room old live base log longer bytes capacity few now same room =
    let fit = fits-trimmed bytes old.journal.log few in
    let carried : payload_in log ≡ payload_in (drop (surplus bytes old.journal.log) old.journal.log) = ap payload_in now in
    let all : payload_in longer ≡ payload_in log = ap payload_in same in
    record { few = omega arith; room = omega arith }
