-- To any bytes some text is said, and some end comes.
use Rattle.std.specs.Prelude.{slice_get, map, option_map}
use Rattle.std.proofs.lemmas.Option.{slice_get-map}
use Rattle.std.proofs.Common.{◌≡◌, ℕ, zero, suc, ◌+◌, ◌^◌, ◌<◌, ◌≤◌, Bool, List, [], ◌∷◌, ◌++◌, Option, Some, None, length, take, drop, refl, sym, ap, subst, ◌∙◌, arith, inl, inr, append_assoc}
use Rattle.std.specs.Str.{bytes_eq}
use Rattle.std.specs.Int.{w32, from_be_bytes, to_be_bytes}
use Rattle.std.proofs.lemmas.Bool.{cases_lt, cases_eq, cases_Bool}
use Rattle.std.proofs.lemmas.Nat.{be_bytes_4}
use Rattle.std.proofs.lemmas.List.{length-append, length-take, take-append-drop, drop_at}
use Rattle.std.proofs.lemmas.Slice.Eq.{bytes_eq-Decides}
use Rattle.nbd_wire.specs.Grammar.{request_text, head_text, RequestMessage, IsRequest, option_head_text, option_magic}
use Rattle.nbd_wire.proofs.FieldLemmas.{IsBytes-drop, IsBytes-take}
use Rattle.nbd_wire.proofs.HeadLemmas.{length-head_text, length-option_head_text}
use Rattle.nbd_wire.proofs.Places.{Sees, look, below32}
use Rattle.nbd_wire.proofs.OptionPlaces.{option_spelled_at}
use Rattle.nbd_commands.specs.Exports.{Export}
use Rattle.nbd_commands.specs.Terms.{Terms, terms_of}
use Rattle.nbd_session.specs.declared.outcomes.End.{End}
use Rattle.nbd_session.specs.declared.outcomes.End.TheVariants as ends
use Rattle.nbd_session.specs.Requests.{after, reply_to, FindsWorn, IsAnswered, StopsBy, Serves, opened}
use Rattle.lone_export.specs.Alone.{Alone}
use Rattle.nbd_session.proofs.Turns.{worn_or_not}
use Rattle.nbd_options.specs.declared.answers.Next.{Next}
use Rattle.nbd_options.specs.declared.answers.Next.TheVariants as nexts
use Rattle.nbd_options.specs.declared.attach.Attached.TheVariants as attached
use Rattle.nbd_options.specs.declared.saying.HaggleEnd.{HaggleEnd}
use Rattle.nbd_options.specs.Exports.{ExportFacts}
use Rattle.nbd_options.specs.Replies.{next_after}
use Rattle.nbd_options.specs.Haggled.{Asked, said_to, wants_no_zeroes, greeting_text}
use Rattle.nbd_session.specs.declared.outcomes.Entry.{Entry}
use Rattle.nbd_session.specs.declared.outcomes.Entry.TheVariants as entries
use Rattle.nbd_session.specs.Options.{asked_text, text_to, MayAnswer, IsAsked, OptionStops, Haggles, entry_after}
use Rattle.nbd_session.specs.Conversation.{FlagsStop, Greeted, IsGiven, facts_of, ServesAt, Continues, Talked}
use Rattle.nbd_stream.specs.Streams.{AreBytes}
use Rattle.nbd_session.proofs.ServeLemmas.{stops, goes_on}
use Rattle.nbd_session.proofs.HaggleLemmas.{stops_here, leaves_here, same_said}
use Rattle.nbd_session.proofs.HaggleLemmas as row
use Rattle.nbd_session.proofs.InTable.{IsIn, inside_of}
use Rattle.nbd_options.proofs.HeadLemmas.{too_many, too_long}
use Rattle.nbd_session.proofs.OfferLemmas.{long_head, first_head, other_head, content_gap}
use Rattle.nbd_session.proofs.OneHaggling.{given_of}

-- a text is said, and an end comes
abbrev pub Some_text : (List ℕ → List ℕ → End → Type 0) → List ℕ → Type 0
Some_text Says bytes = (text : List ℕ) × (end : End) × Says bytes text end

pub bytes_behind : (front more bytes : List ℕ) → bytes ≡ front ++ more → AreBytes bytes → AreBytes more
bytes_behind front more bytes is f =
    let e : drop (length front) bytes ≡ more = ap (λ (t : List ℕ). drop (length front) t) is ∙ drop_at front more (length front) refl in
    subst AreBytes e (IsBytes-drop (length front) bytes f)

long_request : (m : RequestMessage) (more bytes : List ℕ) → bytes ≡ request_text m ++ more → length more + 28 ≤ length bytes
long_request m more bytes is = omega (arith, ap length is, length-append (request_text m) more, length-append (head_text m.head) m.payload, length-head_text m.head)

module _ (terms : Terms) where
  stopped : (s : Alone) (bytes : List ℕ) (end : End) → StopsBy bytes end → Some_text (Serves terms s) bytes
  stopped s bytes end h = ([], end, stops terms s bytes end h)

  nonempty : (s : Alone) (bytes : List ℕ) → (0 < length bytes → StopsBy bytes ends.Cut) → Some_text (Serves terms s) bytes
  nonempty s [] h = stopped s [] ends.Over refl
  nonempty s (b ∷ bytes) h = stopped s (b ∷ bytes) ends.Cut (h (omega arith))

  worn_out : (s : Alone) (m : RequestMessage) (more bytes : List ℕ) → bytes ≡ request_text m ++ more → IsAnswered m → FindsWorn terms s m → Some_text (Serves terms s) bytes
  worn_out s m more bytes is p worn = (
    [],
    ends.Worn,
    record {
      requests = [];
      rest = bytes;
      spelled = refl;
      said = refl;
      answered = tt;
      ends = inr (refl, record { message = m; more = more; spelled = is; answered = p; worn = worn });
    },
  )

  abbrev Later : List ℕ → Type 0
  Later bytes = (s : Alone) (more : List ℕ) → length more < length bytes → AreBytes more → Some_text (Serves terms s) more

  answered_on : (s : Alone) (m : RequestMessage) (more bytes : List ℕ) → AreBytes bytes → bytes ≡ request_text m ++ more → IsAnswered m → (FindsWorn terms s m → ⊥) → Later bytes → Some_text (Serves terms s) bytes
  answered_on s m more bytes f is p few later =
      let rest = later (after terms s m) more (omega (arith, long_request m more bytes is)) (bytes_behind (request_text m) more bytes is f) in
      (reply_to terms s m ++ rest.0, rest.1, subst (λ (b : List ℕ). Serves terms s b (reply_to terms s m ++ rest.0) rest.1) (sym is) (goes_on terms s m more rest.0 rest.1 p few rest.2))

  whole_on : (s : Alone) (m : RequestMessage) (more bytes : List ℕ) → AreBytes bytes → bytes ≡ request_text m ++ more → IsRequest m → Later bytes → Some_text (Serves terms s) bytes
  whole_on s m more bytes f is p later =
      elim (cases_eq m.head.kind 2) [
        | inl two ↦ stopped s bytes ends.Disc (m.head, m.payload ++ more, is ∙ append_assoc (head_text m.head) m.payload more, p.fits, two)
        | inr ne ↦ elim (worn_or_not terms s m) [
          | inr fresh ↦ answered_on s m more bytes f is (record { request = p; no_disc = ne }) fresh later
          | inl worn ↦ worn_out s m more bytes is (record { request = p; no_disc = ne }) worn
        ]
      ]

  served : (s : Alone) (bytes : List ℕ) → AreBytes bytes → Sees bytes → Later bytes → Some_text (Serves terms s) bytes
  served s bytes f (inl (inl h)) later = nonempty s bytes (λ lt. (lt, h))
  served s bytes f (inl (inr h)) later = stopped s bytes ends.BadMagic h
  served s bytes f (inr (inl h)) later = stopped s bytes ends.TooLong h
  served s bytes f (inr (inr (m, more, is, p))) later = whole_on s m more bytes f is p later

  some_service : (n : ℕ) (s : Alone) (bytes : List ℕ) → length bytes < n → AreBytes bytes → Some_text (Serves terms s) bytes
  some_service zero s bytes lt f = absurd (omega (arith, lt))
  some_service (suc n) s bytes lt f = served s bytes f (look bytes f) (λ t more l g. some_service n t more (omega (arith, l, lt)) g)

  pub some_serving : (s : Alone) (bytes : List ℕ) → AreBytes bytes → Some_text (Serves terms s) bytes
  some_serving s bytes f = some_service (length bytes + 1) s bytes (omega arith) f

-- haggling says a text, and ends in one way; where it is in an export, that is one of the table
record SomeHaggling (table : List ExportFacts) (bare : Bool) (seen : ℕ) (bytes : List ℕ) : Type 0 where
  pub text : List ℕ
  pub entry : Entry
  pub rest : List ℕ
  pub haggles : Haggles IsGiven table bare seen bytes text entry rest
  pub bytes_left : AreBytes rest
  pub is_in : IsIn table entry

module _ (table : List ExportFacts) (bare : Bool) where
  stop : (seen : ℕ) (bytes : List ℕ) (end : End) → seen ≤ 1000 → AreBytes bytes → OptionStops seen bytes end → SomeHaggling table bare seen bytes
  stop seen bytes end le f h = record {
    text = [];
    entry = entries.Out end;
    rest = bytes;
    haggles = stops_here IsGiven table bare seen bytes end le h;
    bytes_left = f;
    is_in = tt;
  }

  short_option : (seen : ℕ) (bytes : List ℕ) → seen ≤ 1000 → AreBytes bytes → length bytes < 16 → SomeHaggling table bare seen bytes
  short_option seen [] le f lt = stop seen [] ends.Over le f refl
  short_option seen (b ∷ bytes) le f lt = stop seen (b ∷ bytes) ends.Cut le f (omega arith, inl lt)

  abbrev After : ℕ → List ℕ → Type 0
  After seen bytes = (more : List ℕ) → length more < length bytes → AreBytes more → SomeHaggling table bare (seen + 1) more

  -- a session is given, where one is asked for
  may_given : (next : Next) → MayAnswer IsGiven next attached.Given
  may_given (nexts.Go n) = refl
  may_given (nexts.ByName n) = refl
  may_given nexts.Again = refl
  may_given nexts.Abort = refl
  may_given nexts.Close = refl

  asked_one : (seen : ℕ) (a : Asked) (more bytes : List ℕ) → IsAsked IsGiven table a → seen < 1000 → bytes ≡ asked_text a ++ more → AreBytes more → length more < length bytes → After seen bytes
      → (end : Option HaggleEnd) → (said_to table bare a).end ≡ end → SomeHaggling table bare seen bytes
  asked_one seen a more bytes asked few is f less after None ended =
      let next = after more less f in
      record {
        text = text_to table bare a ++ next.text;
        entry = next.entry;
        rest = next.rest;
        haggles = subst (λ (b : List ℕ). Haggles IsGiven table bare seen b (text_to table bare a ++ next.text) next.entry next.rest) (sym is)
            (row.goes_on IsGiven table bare seen a more next.text next.entry next.rest (record { asked = asked; on = ended }) next.haggles);
        bytes_left = next.bytes_left;
        is_in = next.is_in;
      }
  asked_one seen a more bytes asked few is f less after (Some end) ended = record {
    text = text_to table bare a;
    entry = entry_after end;
    rest = more;
    haggles = subst (λ (b : List ℕ). Haggles IsGiven table bare seen b (text_to table bare a) (entry_after end) more) (sym is)
        (leaves_here IsGiven table bare seen a (text_to table bare a) more end asked few (same_said (said_to table bare a) end ended));
    bytes_left = f;
    is_in = inside_of table bare a end (given_of (next_after table a.option) a.answer asked.answer) ended;
  }

  whole_option : (seen number count : ℕ) (more bytes : List ℕ) → number < 2 ^ 32 → count ≤ 65536 → seen < 1000 → bytes ≡ option_head_text number count ++ more → AreBytes bytes → count ≤ length more → After seen bytes
      → SomeHaggling table bare seen bytes
  whole_option seen number count more bytes fits short few is f le after =
      let content = take count more in
      let rest = drop count more in
      let len : length content ≡ count = omega (arith, length-take count more, le) in
      let a : Asked = record { option = record { number = number; content = content }; answer = attached.Given } in
      let spelled : bytes ≡ asked_text a ++ rest = is
      ∙ (ap (λ (t : List ℕ). option_head_text number count ++ t) (sym (take-append-drop count more))
      ∙ (ap (λ (n : ℕ). option_head_text number n ++ (content ++ rest)) (sym len)
      ∙ sym (append_assoc (option_head_text number (length content)) content rest))) in
      let g : AreBytes rest = bytes_behind (asked_text a) rest bytes spelled f in
      let less : length rest < length bytes = omega (arith, ap length spelled, length-append (asked_text a) rest, length-append (option_head_text number (length content)) content, length-option_head_text number (length content)) in
      asked_one seen a rest bytes (record { number = fits; short = omega (arith, len, short); answer = may_given (next_after table a.option) }) few spelled g less after (said_to table bare a).end refl

  option_head : (seen number count : ℕ) (more bytes : List ℕ) → seen ≤ 1000 → number < 2 ^ 32 → count < 2 ^ 32 → bytes ≡ option_head_text number count ++ more → AreBytes bytes → After seen bytes → SomeHaggling table bare seen bytes
  option_head seen number count more bytes le fits small is f after =
      let first : take 16 bytes ≡ option_head_text number count = ap (λ (t : List ℕ). take 16 t) is ∙ first_head number count more in
      let long : 16 ≤ length bytes = omega (arith, ap length is, long_head number count more) in
      elim (cases_lt seen 1000) [
        | inr many ↦ stop seen bytes ends.TooMany le f (long, too_many seen (take 16 bytes) number count first small many)
        | inl few ↦ elim (cases_lt 65536 count) [
          | inl big ↦ stop seen bytes ends.TooLong le f (long, too_long seen (take 16 bytes) number count first small few big)
          | inr short ↦ elim (cases_lt (length more) count) [
            | inl lt ↦ stop seen bytes ends.Cut le f (subst (λ (t : List ℕ). OptionStops seen t ends.Cut) (sym is) (content_gap seen number count more fits short few lt))
            | inr ge ↦ whole_option seen number count more bytes fits short few is f ge after
          ]
        ]
      ]

  some_options : (seen : ℕ) (bytes : List ℕ) → seen ≤ 1000 → AreBytes bytes → (seen < 1000 → After seen bytes) → SomeHaggling table bare seen bytes
  some_options seen bytes le f after =
      elim (cases_lt (length bytes) 16) [
        | inl short ↦ short_option seen bytes le f short
        | inr long ↦ elim (cases_Bool (bytes_eq (take 8 bytes) option_magic)) [
          | inl t ↦ let s = option_spelled_at bytes f long ((bytes_eq-Decides _ _).0 t) in
              elim (cases_lt seen 1000) [
                | inl few ↦ option_head seen s.0 s.1 (drop 16 bytes) bytes le s.2 s.3 s.4 f (after few)
                | inr many ↦ stop seen bytes ends.TooMany le f (long, too_many seen (take 16 bytes) s.0 s.1 (ap (λ (t : List ℕ). take 16 t) s.4 ∙ first_head s.0 s.1 (drop 16 bytes)) s.3 many)
              ]
          | inr t ↦ stop seen bytes ends.BadMagic le f (long, other_head seen bytes t)
        ]
      ]

  some_haggling : (n seen : ℕ) (bytes : List ℕ) → length bytes < n → seen ≤ 1000 → AreBytes bytes → SomeHaggling table bare seen bytes
  some_haggling zero seen bytes lt le f = absurd (omega (arith, lt))
  some_haggling (suc n) seen bytes lt le f =
      some_options seen bytes le f (λ few more l g. some_haggling n (seen + 1) more (omega (arith, l, lt)) (omega (arith, few)) g)

word_at : (bytes : List ℕ) → AreBytes bytes → 4 ≤ length bytes → (flags : ℕ) × (flags < 2 ^ 32) × (bytes ≡ to_be_bytes w32 flags ++ drop 4 bytes)
word_at bytes f le =
    let front = take 4 bytes in
    let g : AreBytes front = IsBytes-take 4 bytes f in
    let flags = from_be_bytes w32 front in
    let spelled : to_be_bytes w32 flags ≡ front = be_bytes_4 front flags (omega (arith, length-take 4 bytes)) g refl in
    (flags, below32 front g, sym (take-append-drop 4 bytes) ∙ ap (λ (t : List ℕ). t ++ drop 4 bytes) (sym spelled))

record SomeHandshake (table : List ExportFacts) (bytes : List ℕ) : Type 0 where
  pub text : List ℕ
  pub entry : Entry
  pub rest : List ℕ
  pub greeted : Greeted IsGiven table bytes text entry rest
  pub bytes_left : AreBytes rest
  pub is_in : IsIn table entry

module _ (table : List ExportFacts) where
  flags_stop : (bytes : List ℕ) (end : End) → AreBytes bytes → FlagsStop bytes (entries.Out end) → SomeHandshake table bytes
  flags_stop bytes end f h = record { text = []; entry = entries.Out end; rest = bytes; greeted = inl (refl, refl, h); bytes_left = f; is_in = tt }

  by_flags : (bytes more : List ℕ) (flags : ℕ) → AreBytes bytes → AreBytes more → flags < 2 ^ 32 → bytes ≡ to_be_bytes w32 flags ++ more → (bare : Option Bool) → wants_no_zeroes flags ≡ bare → SomeHandshake table bytes
  by_flags bytes more flags f g fits is None unknown = flags_stop bytes ends.BadFlags f (flags, more, is, fits, unknown)
  by_flags bytes more flags f g fits is (Some bare) known =
      let rest = some_haggling table bare (length more + 1) 0 more (omega arith) (omega arith) g in
      record {
        text = rest.text;
        entry = rest.entry;
        rest = rest.rest;
        greeted = inr (record { flags = flags; more = more; bare = bare; spelled = is; fits = fits; known = known; haggles = rest.haggles });
        bytes_left = rest.bytes_left;
        is_in = rest.is_in;
      }

  some_greeting : (bytes : List ℕ) → AreBytes bytes → SomeHandshake table bytes
  some_greeting [] f = flags_stop [] ends.Over f refl
  some_greeting (b ∷ bytes) f =
      elim (cases_lt (length (b ∷ bytes)) 4) [
        | inl lt ↦ flags_stop (b ∷ bytes) ends.Cut f (omega arith, lt)
        | inr ge ↦
            let w = word_at (b ∷ bytes) f ge in
            by_flags (b ∷ bytes) (drop 4 (b ∷ bytes)) w.0 f (IsBytes-drop 4 (b ∷ bytes) f) w.1 w.2 (wants_no_zeroes w.0) refl
      ]

module _ (exports : List Export) where
  abbrev table : List ExportFacts
  table = map facts_of exports

  served_at : (n : ℕ) (rest : List ℕ) → AreBytes rest → (o : Option Export) → slice_get exports n ≡ o → (IsIn table (entries.In n)) → (text : List ℕ) × (end : End) × ServesAt o rest text end
  served_at n rest f None none is = absurd (missing n none is)
    where
      missing : (k : ℕ) → slice_get exports k ≡ None → IsIn table (entries.In k) → ⊥
      missing k none is = let e : slice_get table k ≡ None = slice_get-map facts_of exports k ∙ ap (λ (o : Option Export). option_map facts_of o) none in
          let t : None ≡ Some is.0 = sym e ∙ is.1 in cc
  served_at n rest f (Some x) some is = some_serving (terms_of x) (opened (terms_of x)) rest f

  continued : (entry : Entry) (rest : List ℕ) → AreBytes rest → IsIn table entry → (text : List ℕ) × (end : End) × Continues exports entry rest text end
  continued (entries.In n) rest f is = served_at n rest f (slice_get exports n) refl is
  continued (entries.Out end) rest f is = ([], end, (refl, refl))
  continued entries.Refused rest f is = absurd is

  pub some_talk : (bytes : List ℕ) → AreBytes bytes → (text : List ℕ) × (end : End) × Talked exports bytes text end
  some_talk bytes f =
      let shake = some_greeting table bytes f in
      let more = continued shake.entry shake.rest shake.bytes_left shake.is_in in (
        (greeting_text ++ shake.text) ++ more.0,
        more.1,
        record {
          entry = shake.entry;
          rest = shake.rest;
          first = greeting_text ++ shake.text;
          later = more.0;
          shaken = (shake.text, refl, shake.greeted);
          said = refl;
          continues = more.2;
        },
      )
