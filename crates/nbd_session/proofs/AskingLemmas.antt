-- Which sessions were asked for, option by option.
use Rattle.std.proofs.Common.{◌≡◌, ℕ, ◌+◌, ◌≤◌, Bool, List, [], ◌∷◌, ◌++◌, Option, Some, None, Result, Ok, Err, length, sym, ap, subst, ◌∙◌, inl, inr, append_assoc, arith}
use Rattle.std.proofs.lemmas.List.{append-nil, length-append}
use Rattle.std.specs.List.{flat_map, AllByRecursion}
use Rattle.std.specs.Int.{w32, to_be_bytes}
use Rattle.std.specs.Io.KnownBytes.{Consumes}
use Rattle.nbd_options.specs.declared.attach.Attached.{Attached}
use Rattle.nbd_base.specs.Logs.{Notes}
use Rattle.nbd_base.proofs.Logs.{notes_nothing, notes_then}
use Rattle.nbd_options.specs.Asking.{Asking}
use Rattle.nbd_options.specs.Exports.{ExportFacts}
use Rattle.nbd_options.specs.Haggled.{Asked, wants_no_zeroes}
use Rattle.nbd_session.specs.declared.outcomes.End.{End}
use Rattle.nbd_session.specs.declared.outcomes.Entry.{Entry}
use Rattle.nbd_session.specs.declared.outcomes.Entry.TheVariants as entries
use Rattle.nbd_session.specs.declared.outcomes.TalkFault.{TalkFault}
use Rattle.nbd_session.specs.declared.outcomes.TalkFault.TheVariants as faults
use Rattle.nbd_session.specs.declared.option_input.Offer.{Offer}
use Rattle.nbd_session.specs.declared.option_input.Offer.TheVariants as offers
use Rattle.nbd_session.specs.Options.{asked_text, GoesOn}
use Rattle.nbd_session.specs.Haggling.{TakesOption}
use Rattle.nbd_session.specs.Askings.{asked_at, asked_in, last_text, Asks, AsksBehind, EndsBy, IsOutside}
use Rattle.nbd_stream.proofs.KnownLemmas.{Consumes-then}
use Rattle.nbd_stream.proofs.BufferLemmas.{Consumes-none}

-- one more at the end
flat_map-last : {A B : Type 0} (f : A → List B) (xs : List A) (a : A) → flat_map f (xs ++ a ∷ []) ≡ flat_map f xs ++ f a
flat_map-last f [] a = append-nil (f a)
flat_map-last {A} {B} f (x ∷ xs) a = ap (λ (t : List B). f x ++ t) (flat_map-last f xs a) ∙ sym (append_assoc (f x) (flat_map f xs) (f a))

all-last : {A : Type 0} (P : A → Type 0) (xs : List A) (a : A) → AllByRecursion P xs → P a → AllByRecursion P (xs ++ a ∷ [])
all-last P [] a all one = (one, tt)
all-last P (x ∷ xs) a all one = (all.0, all-last P xs a all.1 one)

-- the options so far, behind each of which haggling goes on, and what was asked for
pub record HasAsked (may : ℕ → Attached → Type 0) (table : List ExportFacts) (bare : Bool) (log now : Option (List Asking)) (old new : Option (List ℕ)) (seen : ℕ) : Type 0 where
  pub asked : List Asked
  pub took : Consumes old new (flat_map asked_text asked)
  pub each : AllByRecursion (GoesOn may table bare) asked
  pub noted : Notes log now (asked_in table asked)
  pub count : length asked ≡ seen

module _ (may : ℕ → Attached → Type 0) (table : List ExportFacts) (bare : Bool) where
  pub asked_none : (log : Option (List Asking)) (old : Option (List ℕ)) (seen : ℕ) → seen ≡ 0 → HasAsked may table bare log log old old seen
  asked_none log old seen none = record { asked = []; took = Consumes-none old; each = tt; noted = notes_nothing log; count = sym none }

  pub asked_more : (l0 l1 l2 : Option (List Asking)) (i0 i1 i2 : Option (List ℕ)) (seen next : ℕ) (a : Asked) → next ≡ seen + 1 → HasAsked may table bare l0 l1 i0 i1 seen
      → GoesOn may table bare a → Consumes i1 i2 (asked_text a) → Notes l1 l2 (asked_at table a) → HasAsked may table bare l0 l2 i0 i2 next
  asked_more l0 l1 l2 i0 i1 i2 seen next a is so on took noted = record {
    asked = so.asked ++ a ∷ [];
    took = subst (Consumes i0 i2) (sym (flat_map-last asked_text so.asked a)) (Consumes-then i0 i1 i2 (flat_map asked_text so.asked) (asked_text a) so.took took);
    each = all-last (GoesOn may table bare) so.asked a so.each on;
    noted = subst (Notes l0 l2) (sym (flat_map-last (asked_at table) so.asked a)) (notes_then l0 l1 l2 (asked_in table so.asked) (asked_at table a) so.noted noted);
    count = omega (arith, length-append so.asked (a ∷ []), so.count, is);
  }

  -- one more, at which it ended
  pub asked_last_of : (l0 l1 l2 : Option (List Asking)) (i0 i1 i2 : Option (List ℕ)) (seen : ℕ) (a : Asked) (result : Result Entry TalkFault) → HasAsked may table bare l0 l1 i0 i1 seen
      → Consumes i1 i2 (asked_text a) → Notes l1 l2 (asked_at table a) → EndsBy may table bare seen (Some a) [] result → AsksBehind may table bare [] l0 l2 i0 i2 result
  asked_last_of l0 l1 l2 i0 i1 i2 seen a result so took noted ends = record {
    asked = so.asked;
    last = Some a;
    behind = [];
    took = subst (λ (t : List ℕ). Consumes i0 i2 (flat_map asked_text so.asked ++ t)) (sym (append-nil (asked_text a))) (Consumes-then i0 i1 i2 (flat_map asked_text so.asked) (asked_text a) so.took took);
    each = so.each;
    noted = notes_then l0 l1 l2 (asked_in table so.asked) (asked_at table a) so.noted noted;
    ends = subst (λ (n : ℕ). EndsBy may table bare n (Some a) [] result) (sym so.count) ends;
  }

  -- or no more
  asked_no_more : (l0 l1 : Option (List Asking)) (i0 i1 i2 : Option (List ℕ)) (seen : ℕ) (behind : List ℕ) (result : Result Entry TalkFault) → HasAsked may table bare l0 l1 i0 i1 seen
      → Consumes i1 i2 behind → EndsBy may table bare seen None behind result → AsksBehind may table bare [] l0 l1 i0 i2 result
  asked_no_more l0 l1 i0 i1 i2 seen behind result so took ends = record {
    asked = so.asked;
    last = None;
    behind = behind;
    took = Consumes-then i0 i1 i2 (flat_map asked_text so.asked) behind so.took took;
    each = so.each;
    noted = subst (Notes l0 l1) (sym (append-nil (asked_in table so.asked))) so.noted;
    ends = subst (λ (n : ℕ). EndsBy may table bare n None behind result) (sym so.count) ends;
  }

  pub stopped_by_fault : {A : Type 0} (l0 l1 : Option (List Asking)) (i0 i1 i2 : Option (List ℕ)) (seen : ℕ) (fault : TalkFault) → HasAsked may table bare l0 l1 i0 i1 seen
      → TakesOption {A = A} seen [] i1 i2 (Err fault) → AsksBehind may table bare [] l0 l1 i0 i2 (Err fault)
  stopped_by_fault l0 l1 i0 i1 i2 seen faults.ReadFailed so h = asked_no_more l0 l1 i0 i1 i2 seen h.bytes (Err faults.ReadFailed) so h.took (h.offer.0, h.offer.1, (λ e. cc))
  stopped_by_fault l0 l1 i0 i1 i2 seen faults.WriteFailed so h = absurd h.offer
  stopped_by_fault l0 l1 i0 i1 i2 seen faults.NoMemory so h = asked_no_more l0 l1 i0 i1 i2 seen h.bytes (Err faults.NoMemory) so h.took (h.offer.0, h.offer.1, (λ e. cc))

  pub stopped_by_end : {A : Type 0} (l0 l1 : Option (List Asking)) (i0 i1 i2 : Option (List ℕ)) (seen : ℕ) (offer : Offer A) (end : End) → HasAsked may table bare l0 l1 i0 i1 seen
      → offer ≡ offers.Stop end → TakesOption seen [] i1 i2 (Ok offer) → AsksBehind may table bare [] l0 l1 i0 i2 (Ok (entries.Out end))
  stopped_by_end {A} l0 l1 i0 i1 i2 seen offer end so is h0 =
      let h : TakesOption {A = A} seen [] i1 i2 (Ok (offers.Stop end)) = subst (λ (f : Offer A). TakesOption seen [] i1 i2 (Ok f)) is h0 in
      asked_no_more l0 l1 i0 i1 i2 seen h.bytes (Ok (entries.Out end)) so h.took h.offer

  -- behind the client's flags
  pub asks_behind_flags : (l0 l1 : Option (List Asking)) (i0 i1 i2 : Option (List ℕ)) (bytes : List ℕ) (flags : ℕ) (result : Result Entry TalkFault) → Consumes i0 i1 bytes
      → bytes ≡ to_be_bytes w32 flags → wants_no_zeroes flags ≡ Some bare → AsksBehind may table bare [] l0 l1 i1 i2 result → Asks may table l0 l1 i0 i2 result
  asks_behind_flags l0 l1 i0 i1 i2 bytes flags result took is known asks =
      let front = to_be_bytes w32 flags in
      let options = flat_map asked_text asks.asked ++ (last_text asks.last ++ asks.behind) in
      inr (record {
        flags = flags;
        bare = bare;
        known = known;
        asks = record {
          asked = asks.asked;
          last = asks.last;
          behind = asks.behind;
          took = Consumes-then i0 i1 i2 front options (subst (Consumes i0 i1) is took) asks.took;
          each = asks.each;
          noted = asks.noted;
          ends = asks.ends;
        };
      })

-- no option could be read
pub asks_for_none : (may : ℕ → Attached → Type 0) (table : List ExportFacts) (log : Option (List Asking)) (i0 i1 : Option (List ℕ)) (bytes : List ℕ) (result : Result Entry TalkFault) → Consumes i0 i1 bytes
    → length bytes ≤ 4 → IsOutside result → Asks may table log log i0 i1 result
asks_for_none may table log i0 i1 bytes result took few outside = inl (record { bytes = bytes; took = took; few = few; noted = notes_nothing log; outside = outside })
