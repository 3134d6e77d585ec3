-- One option after another, up to where haggling ends.
use Rattle.std.proofs.Common.{◌≡◌, ℕ, ◌+◌, ◌<◌, ◌≤◌, ◌^◌, Bool, List, [], ◌∷◌, ◌++◌, Option, Some, None, Ok, Err, length, refl, sym, ap, subst, ◌∙◌, inl, inr, append_assoc, arith}
use Rattle.std.proofs.lemmas.List.{append-nil}
use Rattle.std.specs.List.{flat_map}
use Rattle.std.specs.Io.KnownBytes.{Consumes, Appends}
use Rattle.std.specs.declared.vec.Vec.{Vec}
use Rattle.nbd_wire.specs.Grammar.{option_text}
use Rattle.nbd_options.specs.declared.attach.Attached.{Attached}
use Rattle.nbd_options.specs.declared.saying.HaggleEnd.{HaggleEnd}
use Rattle.nbd_options.specs.declared.saying.HaggleEnd.TheVariants as haggle_ends
use Rattle.nbd_options.specs.declared.haggle.HeadFault.TheVariants as head_faults
use Rattle.nbd_options.specs.Exports.{ExportFacts}
use Rattle.nbd_base.specs.Logs.{Notes}
use Rattle.nbd_options.specs.Asking.{Asking, asked_by}
use Rattle.nbd_options.specs.declared.answers.Next.{Next}
use Rattle.nbd_options.specs.Counting.{Counting}
use Rattle.nbd_options.specs.Replies.{ClientOption, ReplyMessage, next_after, replies_to}
use Rattle.nbd_options.specs.Haggled.{Asked, Said, said_by, said_to, ends_by}
use Rattle.nbd_session.specs.declared.outcomes.End.{End}
use Rattle.nbd_session.specs.declared.outcomes.End.TheVariants as ends
use Rattle.nbd_session.specs.declared.outcomes.Entry.{Entry}
use Rattle.nbd_session.specs.declared.outcomes.Entry.TheVariants as entries
use Rattle.nbd_session.specs.declared.outcomes.TalkFault.{TalkFault}
use Rattle.nbd_session.specs.declared.outcomes.TalkFault.TheVariants as faults
use Rattle.nbd_session.specs.declared.option_input.Offer.{Offer}
use Rattle.nbd_session.specs.declared.option_input.Offer.TheVariants as offers
use Rattle.nbd_stream.specs.Streams.{WritesPart}
use Rattle.nbd_session.specs.Options.{asked_text, text_to, MayAnswer, IsAsked, GoesOn, entry_after, OptionStops, StopsAt, Leaves, Haggles}
use Rattle.nbd_session.specs.Haggling.{TakesOption, IsSeen, Answers}
use Rattle.nbd_session.specs.Outcomes.{Converses, IsBeginning, Going}
use Rattle.nbd_session.specs.Conversation.{HagglesOn, IsLeft, IsEntryTold}
use Rattle.nbd_stream.proofs.BufferLemmas.{Appends-none}

-- the bytes of a whole option
pub record GotOption (seen : ℕ) (old new : Option (List ℕ)) (number : ℕ) (content : List ℕ) : Type 0 where
  pub took : Consumes old new (option_text number content)
  pub fits : number < 2 ^ 32
  pub short : length content ≤ 65536
  pub few : seen < 1000

module _ (may : ℕ → Attached → Type 0) (table : List ExportFacts) (bare : Bool) where
  -- no whole option stands there
  pub stops_here : (seen : ℕ) (bytes : List ℕ) (end : End) → seen ≤ 1000 → OptionStops seen bytes end → Haggles may table bare seen bytes [] (entries.Out end) bytes
  stops_here seen bytes end few h = record {
    options = [];
    behind = bytes;
    later = [];
    spelled = refl;
    said = refl;
    each = tt;
    few = omega arith;
    ends = inl (refl, refl, subst (λ (n : ℕ). OptionStops n bytes end) (omega arith) h);
  }

  -- an option behind which haggling goes on
  pub goes_on : (seen : ℕ) (a : Asked) (bytes text : List ℕ) (entry : Entry) (rest : List ℕ) → GoesOn may table bare a
      → Haggles may table bare (seen + 1) bytes text entry rest → Haggles may table bare seen (asked_text a ++ bytes) (text_to table bare a ++ text) entry rest
  goes_on seen a bytes text entry rest on later = record {
    options = a ∷ later.options;
    behind = later.behind;
    later = later.later;
    spelled = ap (λ (t : List ℕ). asked_text a ++ t) later.spelled ∙ sym (append_assoc (asked_text a) (flat_map asked_text later.options) later.behind);
    said = ap (λ (t : List ℕ). text_to table bare a ++ t) later.said ∙ sym (append_assoc (text_to table bare a) (flat_map (text_to table bare) later.options) later.later);
    each = (on, later.each);
    few = omega (arith, later.few);
    ends = elim later.ends [
      | inl (none, left, stop) ↦ inl (none, left, subst (λ (n : ℕ). StopsAt n later.behind entry) (omega arith) stop)
      | inr leaves ↦ inr (subst (λ (n : ℕ). Leaves may table bare n later.behind later.later entry rest) (omega arith) leaves)
    ];
  }

  -- an option that ends haggling
  pub leaves_here : (seen : ℕ) (a : Asked) (text rest : List ℕ) (end : HaggleEnd) → IsAsked may table a → seen < 1000 → said_to table bare a ≡ ends_by text end
      → Haggles may table bare seen (asked_text a ++ rest) text (entry_after end) rest
  leaves_here seen a text rest end asked few said = record {
    options = [];
    behind = asked_text a ++ rest;
    later = text;
    spelled = refl;
    said = refl;
    each = tt;
    few = omega arith;
    ends = inr (record { last = a; asked = asked; few = omega arith; spelled = refl; end = end; said = said; is = refl });
  }

  left_none : (entry : Entry) → IsLeft entry []
  left_none (entries.In n) = refl
  left_none (entries.Out end) = tt
  left_none entries.Refused = refl

  -- an option that ends haggling, and no bytes behind it
  pub left_by : (seen : ℕ) (a : Asked) (text : List ℕ) (end : HaggleEnd) → IsAsked may table a → seen < 1000 → said_to table bare a ≡ ends_by text end
      → HagglesOn may table bare seen (asked_text a) text (entry_after end)
  left_by seen a text end asked few said =
      ([], subst (λ (b : List ℕ). Haggles may table bare seen b text (entry_after end) []) (append-nil (asked_text a)) (leaves_here seen a text [] end asked few said), left_none (entry_after end))

  -- one that doesn't, and no bytes behind it
  pub on_and_over : (seen : ℕ) (a : Asked) → GoesOn may table bare a → seen < 1000 → HagglesOn may table bare seen (asked_text a) (text_to table bare a) (entries.Out ends.Over)
  on_and_over seen a on few = (
    [],
    subst (λ (t : List ℕ). Haggles may table bare seen (asked_text a) t (entries.Out ends.Over) []) (append-nil (text_to table bare a))
        (subst (λ (b : List ℕ). Haggles may table bare seen b (text_to table bare a ++ []) (entries.Out ends.Over) []) (append-nil (asked_text a))
        (goes_on seen a [] [] (entries.Out ends.Over) [] on (stops_here (seen + 1) [] ends.Over (omega arith) refl))),
    tt,
  )

  -- whichever it is, its text is said
  pub something : (seen : ℕ) (a : Asked) → IsAsked may table a → seen < 1000 → (said : Said) → said_to table bare a ≡ said
      → (entry : Entry) × HagglesOn may table bare seen (asked_text a) (text_to table bare a) entry
  something seen a asked few said is = by said.end is
    where
      by : (end : Option HaggleEnd) → said_to table bare a ≡ record { text = said.text; end = end } → (entry : Entry) × HagglesOn may table bare seen (asked_text a) (text_to table bare a) entry
      by None e = (entries.Out ends.Over, on_and_over seen a (record { asked = asked; on = ap (λ (s : Said). s.end) e }) few)
      by (Some end) e = (entry_after end, left_by seen a (text_to table bare a) end asked few (e ∙ ap (λ (t : List ℕ). ends_by t end) (sym (ap (λ (s : Said). s.text) e))))

  -- ---- what the loop over the options did

  -- a call that reads one option met a fault
  pub offer_fault : {A : Type 0} (seen : ℕ) (old new out : Option (List ℕ)) (fault : TalkFault) → seen ≤ 1000 → TakesOption {A = A} seen [] old new (Err fault)
      → Converses IsEntryTold (HagglesOn may table bare seen) old new out out (Err fault)
  offer_fault seen old new out faults.ReadFailed few h =
      record { bytes = h.bytes; text = []; took = h.took; gave = Appends-none out; claim = (entries.Out h.offer.0, (h.bytes, stops_here seen h.bytes h.offer.0 few h.offer.1, tt)) }
  offer_fault seen old new out faults.WriteFailed few h = absurd h.offer
  offer_fault seen old new out faults.NoMemory few h =
      record { bytes = h.bytes; text = []; took = h.took; gave = Appends-none out; claim = ([], entries.Out h.offer.0, (h.bytes, stops_here seen h.bytes h.offer.0 few h.offer.1, tt)) }

  -- no option to be answered was there
  pub offer_stop : {A : Type 0} (seen : ℕ) (old new out : Option (List ℕ)) (offer : Offer A) (end : End) → seen ≤ 1000 → offer ≡ offers.Stop end → TakesOption seen [] old new (Ok offer)
      → Converses IsEntryTold (HagglesOn may table bare seen) old new out out (Ok (entries.Out end))
  offer_stop {A} seen old new out offer end few is h0 =
      let h : TakesOption {A = A} seen [] old new (Ok (offers.Stop end)) = subst (λ (f : Offer A). TakesOption seen [] old new (Ok f)) is h0 in
      record { bytes = h.bytes; text = []; took = h.took; gave = Appends-none out; claim = ((h.bytes, stops_here seen h.bytes end few h.offer, tt), h.told) }

  -- a part of what is said to an option was written
  pub asked_fault : (seen : ℕ) (i1 i2 o1 o2 : Option (List ℕ)) (a : Asked) (fault : TalkFault) → IsAsked may table a → seen < 1000 → Consumes i1 i2 (asked_text a)
      → WritesPart o1 o2 (text_to table bare a) → (fault ≡ faults.ReadFailed → ⊥) → Converses IsEntryTold (HagglesOn may table bare seen) i1 i2 o1 o2 (Err fault)
  asked_fault seen i1 i2 o1 o2 a fault asked few took part never = by fault never
    where
      begins : IsBeginning (HagglesOn may table bare seen) (asked_text a) part.0
      begins =
          let all = something seen a asked few (said_to table bare a) refl in
          (part.1, all.0, subst (λ (t : List ℕ). HagglesOn may table bare seen (asked_text a) t all.0) (sym part.2) all.1)

      by : (f : TalkFault) → (f ≡ faults.ReadFailed → ⊥) → Converses IsEntryTold (HagglesOn may table bare seen) i1 i2 o1 o2 (Err f)
      by faults.ReadFailed no_read = absurd (no_read refl)
      by faults.WriteFailed no_read = record { bytes = asked_text a; text = part.0; took = took; gave = part.3; claim = begins }
      by faults.NoMemory no_read = record { bytes = asked_text a; text = part.0; took = took; gave = part.3; claim = begins }

  -- all of it was written, and haggling goes on
  pub asked_on : (seen : ℕ) (i1 i2 o1 o2 : Option (List ℕ)) (a : Asked) → GoesOn may table bare a → Consumes i1 i2 (asked_text a) → Appends o1 o2 (text_to table bare a)
      → Going (HagglesOn may table bare seen) (HagglesOn may table bare (seen + 1)) i1 i2 o1 o2
  asked_on seen i1 i2 o1 o2 a on took gave = record {
    bytes = asked_text a;
    text = text_to table bare a;
    took = took;
    gave = gave;
    onward = λ b t e h. (h.0, goes_on seen a b t e h.0 on h.1, h.2);
  }

  -- or it ends
  pub asked_left : (seen : ℕ) (i1 i2 o1 o2 : Option (List ℕ)) (a : Asked) (text : List ℕ) (end : HaggleEnd) → IsAsked may table a → seen < 1000 → said_to table bare a ≡ ends_by text end
      → Consumes i1 i2 (asked_text a) → Appends o1 o2 text → IsEntryTold i2 (entry_after end) → Converses IsEntryTold (HagglesOn may table bare seen) i1 i2 o1 o2 (Ok (entry_after end))
  asked_left seen i1 i2 o1 o2 a text end asked few said took gave told =
      record { bytes = asked_text a; text = text; took = took; gave = gave; claim = (left_by seen a text end asked few said, told) }

-- what is said, by its text and its end
pub same_said : (s : Said) (e : HaggleEnd) → s.end ≡ Some e → s ≡ ends_by s.text e
same_said s e h = let made : Option HaggleEnd → Said = λ o. record { text = s.text; end = o } in ap made h

-- haggling that an option ends isn't ended by the end of the input
pub told_after : (new : Option (List ℕ)) (end : HaggleEnd) → IsEntryTold new (entry_after end)
told_after new (haggle_ends.Entered n) = tt
told_after new haggle_ends.Refused = tt
told_after new haggle_ends.Aborted = tt
told_after new haggle_ends.NoExport = tt
told_after new haggle_ends.BadFlags = tt
told_after new (haggle_ends.BadHead head_faults.BadMagic) = tt
told_after new (haggle_ends.BadHead head_faults.TooMany) = tt
told_after new (haggle_ends.BadHead head_faults.TooLong) = tt

pub seen_one : {A : Type 0} (old new : ℕ) (offer : Offer A) (number : ℕ) (content : Vec ℕ A) → offer ≡ offers.Whole number content → IsSeen old new (Ok offer) → new ≡ old + 1
seen_one {A} old new offer number content is h = subst (λ (f : Offer A). IsSeen old new (Ok f)) is h

pub got_option : {A : Type 0} (seen : ℕ) (old new : Option (List ℕ)) (offer : Offer A) (number : ℕ) (content : Vec ℕ A) → offer ≡ offers.Whole number content → TakesOption seen [] old new (Ok offer)
    → GotOption seen old new number content.items
got_option {A} seen old new offer number content is h0 =
    let h : TakesOption {A = A} seen [] old new (Ok (offers.Whole number content)) = subst (λ (f : Offer A). TakesOption seen [] old new (Ok f)) is h0 in
    record { took = subst (Consumes old new) h.offer.spelled h.took; fits = h.offer.fits; short = h.offer.short; few = h.offer.few }

-- ---- what answering one option said

module _ (may : ℕ → Attached → Type 0) (table : List ExportFacts) (bare : Bool) (o : ClientOption) (answer : Attached) where
  abbrev said_here : Said
  said_here = said_to table bare (record { option = o; answer = answer })

  -- what attach may answer after an option, by what comes after it
  pub may_after : (seen : Counting) (next : Next) → seen.table ≡ table → next ≡ next_after seen.table o → MayAnswer may next answer → MayAnswer may (next_after table o) answer
  may_after seen next same is h = subst (λ (n : Next). MayAnswer may n answer) (is ∙ ap (λ (t : List ExportFacts). next_after t o) same) h

  -- and what it was asked for
  pub asked_after : (a b : Option (List Asking)) (seen : Counting) (next : Next) → seen.table ≡ table → next ≡ next_after seen.table o → Notes a b (asked_by next answer)
      → Notes a b (asked_by (next_after table o) answer)
  asked_after a b seen next same is h = subst (λ (n : Next). Notes a b (asked_by n answer)) (is ∙ ap (λ (t : List ExportFacts). next_after t o) same) h

  pub nothing_said : (a b : Option (List Asking)) (u : Option (List ℕ)) → MayAnswer may (next_after table o) answer → Notes a b (asked_by (next_after table o) answer)
      → Answers may table bare o a b u u (Err faults.NoMemory)
  nothing_said a b u m noted = record { answer = answer; may_be = m; noted = noted; said = ((λ e. cc), ([], said_here.text, refl, Appends-none u)) }

  pub part_said : (a b : Option (List Asking)) (u v : Option (List ℕ)) (text : List ℕ) → MayAnswer may (next_after table o) answer → Notes a b (asked_by (next_after table o) answer)
      → text ≡ said_here.text → WritesPart u v text → Answers may table bare o a b u v (Err faults.WriteFailed)
  part_said a b u v text m noted is part = record { answer = answer; may_be = m; noted = noted; said = ((λ e. cc), subst (WritesPart u v) is part) }

  pub all_said : (a b : Option (List Asking)) (u v : Option (List ℕ)) (text : List ℕ) (end : Option HaggleEnd) → MayAnswer may (next_after table o) answer
      → Notes a b (asked_by (next_after table o) answer) → text ≡ said_here.text → end ≡ said_here.end → Appends u v text → Answers may table bare o a b u v (Ok end)
  all_said a b u v text end m noted is ended gave = record { answer = answer; may_be = m; noted = noted; said = (sym ended, subst (Appends u v) is gave) }

  -- the text and the end that are made of the replies
  pub said_is : (seen : Counting) (next : Next) (replies : List ReplyMessage) → seen.table ≡ table → next ≡ next_after seen.table o → replies ≡ replies_to seen.table o → said_by table bare replies next answer ≡ said_here
  said_is seen next replies same n r =
      ap (λ (k : Next). said_by table bare replies k answer) (n ∙ ap (λ (t : List ExportFacts). next_after t o) same)
      ∙ ap (λ (k : List ReplyMessage). said_by table bare k (next_after table o) answer) (r ∙ ap (λ (t : List ExportFacts). replies_to t o) same)
