-- What the calls that read one option and answer it took and said.
use Rattle.std.specs.Prelude.{◌≡◌, ◌≢◌, ℕ, ◌+◌, ◌<◌, ◌≤◌, ◌^◌, Bool, List, ◌++◌, length, Option, Result, Ok, Err}
use Rattle.std.specs.Io.KnownBytes.{Consumes, Appends}
use Rattle.nbd_wire.specs.Grammar.{option_text}
use Rattle.nbd_session.specs.declared.outcomes.End.{End}
use Rattle.nbd_session.specs.declared.outcomes.TalkFault.{TalkFault}
use Rattle.nbd_session.specs.declared.outcomes.TalkFault.TheVariants as faults
use Rattle.nbd_session.specs.declared.option_input.Offer.{Offer}
use Rattle.nbd_session.specs.declared.option_input.Offer.TheVariants as offers
use Rattle.nbd_options.specs.declared.attach.Attached.{Attached}
use Rattle.nbd_options.specs.declared.saying.HaggleEnd.{HaggleEnd}
use Rattle.nbd_options.specs.Exports.{ExportFacts}
use Rattle.nbd_base.specs.Logs.{Notes}
use Rattle.nbd_options.specs.Asking.{Asking, asked_by}
use Rattle.nbd_options.specs.Replies.{ClientOption, next_after}
use Rattle.nbd_options.specs.Haggled.{Said, said_to}
use Rattle.nbd_session.specs.Options.{OptionStops, MayAnswer}
use Rattle.nbd_stream.specs.Streams.{WritesPart}
use Rattle.nbd_session.specs.Outcomes.{IsTold}

-- the bytes are those of an option that is answered
pub record IsOffered (seen : ℕ) (bytes : List ℕ) (number : ℕ) (content : List ℕ) : Type 0 where
  pub spelled : bytes ≡ option_text number content
  pub fits : number < 2 ^ 32
  pub short : length content ≤ 65536
  pub few : seen < 1000

module _ {A : Type 0} where
  -- what an answer claims of the bytes at an option's place
  abbrev pub IsOffer : ℕ → List ℕ → Result (Offer A) TalkFault → Type 0
  IsOffer seen bytes (Ok (offers.Whole number content)) = IsOffered seen bytes number content.items
  IsOffer seen bytes (Ok (offers.Stop end)) = OptionStops seen bytes end
  IsOffer seen bytes (Err faults.ReadFailed) = (end : End) × OptionStops seen bytes end
  IsOffer seen bytes (Err faults.WriteFailed) = ⊥
  IsOffer seen bytes (Err faults.NoMemory) = (end : End) × OptionStops seen bytes end

  -- the reader had told its end, where the answer rests on that
  abbrev pub IsOfferTold : Option (List ℕ) → Result (Offer A) TalkFault → Type 0
  IsOfferTold new (Ok (offers.Stop end)) = IsTold new end
  IsOfferTold new (Ok (offers.Whole number content)) = Unit {0}
  IsOfferTold new (Err e) = Unit {0}

  -- how many options were seen, behind a whole one
  abbrev pub IsSeen : ℕ → ℕ → Result (Offer A) TalkFault → Type 0
  IsSeen old new (Ok (offers.Whole number content)) = new ≡ old + 1
  IsSeen old new (Ok (offers.Stop end)) = Unit {0}
  IsSeen old new (Err e) = Unit {0}

  -- behind a front that was read before
  pub record TakesOption (seen : ℕ) (front : List ℕ) (old new : Option (List ℕ)) (answer : Result (Offer A) TalkFault) : Type 0 where
    pub bytes : List ℕ
    pub took : Consumes old new bytes
    pub offer : IsOffer seen (front ++ bytes) answer
    pub told : IsOfferTold new answer

-- what was said: all of it, and how haggling ended by it; or a beginning
abbrev pub IsSaid : Said → Option (List ℕ) → Option (List ℕ) → Result (Option HaggleEnd) TalkFault → Type 0
IsSaid said old new (Ok end) = (said.end ≡ end) × Appends old new said.text
IsSaid said old new (Err fault) = (fault ≢ faults.ReadFailed) × WritesPart old new said.text

-- An option was answered, with an answer that attach may give where it was asked; and it was asked there alone.
pub record Answers (may : ℕ → Attached → Type 0) (table : List ExportFacts) (bare : Bool) (o : ClientOption) (asked_old asked_new : Option (List Asking)) (old new : Option (List ℕ)) (result : Result (Option HaggleEnd) TalkFault) : Type 0 where
  pub answer : Attached
  pub may_be : MayAnswer may (next_after table o) answer
  pub noted : Notes asked_old asked_new (asked_by (next_after table o) answer)
  pub said : IsSaid (said_to table bare (record { option = o; answer = answer })) old new result
