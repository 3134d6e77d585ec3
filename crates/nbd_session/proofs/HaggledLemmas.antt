-- A handshake is haggling over the options that its bytes spell.
use Rattle.std.proofs.Common.{◌≡◌, ℕ, ◌+◌, ◌<◌, ◌≤◌, ◌^◌, ◌⊎◌, Bool, List, [], ◌∷◌, ◌++◌, Option, Some, None, length, take, refl, sym, ap, subst, ◌∙◌, inl, inr, arith}
use Rattle.std.specs.List.{AllByRecursion, flat_map}
use Rattle.std.specs.Int.{w32, to_be_bytes}
use Rattle.std.proofs.lemmas.Grind.{flat_map-append}
use Rattle.std.proofs.lemmas.List.{append-nil, append_assoc, length-append}
use Rattle.nbd_base.specs.Words.{when_some}
use Rattle.nbd_options.specs.declared.attach.Attached.{Attached}
use Rattle.nbd_options.specs.declared.haggle.HeadFault.{HeadFault}
use Rattle.nbd_options.specs.declared.haggle.HeadFault.TheVariants as head_faults
use Rattle.nbd_options.specs.declared.saying.HaggleEnd.{HaggleEnd}
use Rattle.nbd_options.specs.declared.saying.HaggleEnd.TheVariants as haggle_ends
use Rattle.nbd_options.specs.Exports.{ExportFacts}
use Rattle.nbd_options.specs.Haggled.{Asked, Said, LeavesOpen, said_to_head, texts_to, and_then, said_from, ends_by, head_fault, wants_no_zeroes, haggled}
use Rattle.nbd_options.proofs.TurnLemmas.{options_in_turn}
use Rattle.nbd_session.specs.declared.outcomes.End.{End}
use Rattle.nbd_session.specs.declared.outcomes.End.TheVariants as ends
use Rattle.nbd_session.specs.declared.outcomes.Entry.{Entry}
use Rattle.nbd_session.specs.declared.outcomes.Entry.TheVariants as entries
use Rattle.nbd_session.specs.Options.{asked_text, text_to, IsAsked, GoesOn, OptionStops, StopsAt, Leaves, Haggles, entry_after}
use Rattle.nbd_session.specs.Conversation.{FlagsStop, Greeted}
use Rattle.nbd_session.specs.Haggled.{EndsAs, IsHaggled, HandshakeIsHaggled}

-- ---- a refused head

-- the head, if one is looked at, stands first behind the options
abbrev StandsFirst : List ℕ → Option (List ℕ) → Type 0
StandsFirst behind head = (h : List ℕ) → head ≡ Some h → h ≡ take 16 behind

no_head : (behind : List ℕ) → StandsFirst behind None
no_head behind h is = absurd (cc)

first_head : (bytes behind : List ℕ) → bytes ≡ take 16 behind → StandsFirst behind (Some bytes)
first_head bytes behind first h is = sym (ap (λ (o : Option (List ℕ)). when_some o (λ text. text) []) is) ∙ first

-- what stops the options is the end of the input, or a head that is refused
record Stopped (seen : ℕ) (behind : List ℕ) (end : End) : Type 0 where
  pub head : Option (List ℕ)
  pub by : Option HaggleEnd
  pub headed : StandsFirst behind head
  pub said : said_to_head seen head ≡ record { text = []; end = by }
  pub ends : EndsAs by (entries.Out end)

by_head : (seen : ℕ) (bytes behind : List ℕ) (fault : HeadFault) (end : End) → bytes ≡ take 16 behind → head_fault seen bytes ≡ Some fault → entries.Out end ≡ entry_after (haggle_ends.BadHead fault) → Stopped seen behind end
by_head seen bytes behind fault end first is as_end = record { head = Some bytes; by = Some (haggle_ends.BadHead fault); headed = first_head bytes behind first; said = rw is refl; ends = as_end }

stopped : (seen : ℕ) (behind : List ℕ) (end : End) → OptionStops seen behind end → Stopped seen behind end
stopped seen behind ends.Over h = record { head = None; by = None; headed = no_head behind; said = refl; ends = inl refl }
stopped seen behind ends.Cut h = record { head = None; by = None; headed = no_head behind; said = refl; ends = inr refl }
stopped seen behind ends.BadMagic h = by_head seen (take 16 behind) behind head_faults.BadMagic ends.BadMagic refl h.1 refl
stopped seen behind ends.TooMany h = by_head seen (take 16 behind) behind head_faults.TooMany ends.TooMany refl h.1 refl
stopped seen behind ends.TooLong h = by_head seen (take 16 behind) behind head_faults.TooLong ends.TooLong refl h.1 refl
stopped seen behind ends.Disc h = absurd h
stopped seen behind ends.Abort h = absurd h
stopped seen behind ends.NoExport h = absurd h
stopped seen behind ends.BadFlags h = absurd h
stopped seen behind ends.Worn h = absurd h

-- ---- the options

module _ (may : ℕ → Attached → Type 0) (table : List ExportFacts) where
  open_all : (bare : Bool) (os : List Asked) → AllByRecursion (GoesOn may table bare) os → AllByRecursion (LeavesOpen table bare) os
  open_all bare [] h = tt
  open_all bare (o ∷ os) h = (h.0.on, open_all bare os h.1)

  known_flags : (flags : ℕ) (bare : Bool) (asked : List Asked) (head : Option (List ℕ)) → wants_no_zeroes flags ≡ Some bare → haggled table flags asked head ≡ said_from table bare 0 asked head
  known_flags flags bare asked head known = ap (λ (o : Option Bool). when_some o (λ b. said_from table b 0 asked head) (ends_by [] haggle_ends.BadFlags)) known

  all_asked : (bare : Bool) (os : List Asked) → AllByRecursion (GoesOn may table bare) os → AllByRecursion (IsAsked may table) os
  all_asked bare [] h = tt
  all_asked bare (o ∷ os) h = (h.0.asked, all_asked bare os h.1)

  and_last : (os : List Asked) (last : Asked) → AllByRecursion (IsAsked may table) os → IsAsked may table last → AllByRecursion (IsAsked may table) (os ++ last ∷ [])
  and_last [] last h l = (l, tt)
  and_last (o ∷ os) last h l = (h.0, and_last os last h.1 l)

  -- the client's flags, and the bytes behind them
  record Flags (bytes more : List ℕ) (flags : ℕ) (bare : Bool) : Type 0 where
    pub spelled : bytes ≡ to_be_bytes w32 flags ++ more
    pub fits : flags < 2 ^ 32
    pub known : wants_no_zeroes flags ≡ Some bare

  -- options behind each of which haggling goes on, and then no more
  to_stop : (bytes more : List ℕ) (flags : ℕ) (bare : Bool) (os : List Asked) (text behind : List ℕ) (entry : Entry) (end : End) → Flags bytes more flags bare → AllByRecursion (GoesOn may table bare) os
      → more ≡ flat_map asked_text os ++ behind → length os ≤ 1000
      → text ≡ flat_map (text_to table bare) os ++ [] → entry ≡ entries.Out end → Stopped (0 + length os) behind end → IsHaggled may table bytes text entry
  to_stop bytes more flags bare os text behind entry end f each spelled few said is stop = record {
    flags = flags;
    asked = os ++ [];
    head = stop.head;
    end = stop.by;
    sent = record {
      behind = behind;
      spelled = rw (append-nil os) (f.spelled ∙ ap (λ (t : List ℕ). to_be_bytes w32 flags ++ t) spelled);
      fits = f.fits;
      each = rw (append-nil os) (all_asked bare os each);
      few = rw (append-nil os) few;
      headed = stop.headed;
    };
    is = known_flags flags bare (os ++ []) stop.head f.known
        ∙ (options_in_turn table bare 0 os [] stop.head (open_all bare os each)
        ∙ (ap (λ (s : Said). and_then (texts_to table bare os) None s) stop.said
        ∙ ap (λ (t : List ℕ). record { text = t; end = stop.by }) (sym said)));
    ends = subst (EndsAs stop.by) (sym is) stop.ends;
  }

  -- and then one that ends haggling
  to_last : (bytes more : List ℕ) (flags : ℕ) (bare : Bool) (os : List Asked) (text behind later : List ℕ) (entry : Entry) (rest : List ℕ) → Flags bytes more flags bare → AllByRecursion (GoesOn may table bare) os
      → more ≡ flat_map asked_text os ++ behind
      → text ≡ flat_map (text_to table bare) os ++ later → Leaves may table bare (0 + length os) behind later entry rest → IsHaggled may table bytes text entry
  to_last bytes more flags bare os text behind later entry rest f each spelled said l = record {
    flags = flags;
    asked = os ++ l.last ∷ [];
    head = None;
    end = Some l.end;
    sent = record {
      behind = rest;
      spelled = f.spelled ∙ ap (λ (t : List ℕ). to_be_bytes w32 flags ++ t) (spelled ∙ all_spelled);
      fits = f.fits;
      each = and_last os l.last (all_asked bare os each) l.asked;
      few = few;
      headed = no_head rest;
    };
    is = known_flags flags bare (os ++ l.last ∷ []) None f.known
        ∙ (options_in_turn table bare 0 os (l.last ∷ []) None (open_all bare os each)
        ∙ (ap (λ (s : Said). and_then (texts_to table bare os) None (and_then s.text s.end (said_from table bare (0 + length os + 1) [] None))) l.said
        ∙ ap (λ (t : List ℕ). record { text = t; end = Some l.end }) (sym said)));
    ends = l.is;
  }
    where
      all_spelled : flat_map asked_text os ++ behind ≡ flat_map asked_text (os ++ l.last ∷ []) ++ rest
      all_spelled =
          ap (λ (t : List ℕ). flat_map asked_text os ++ t) (l.spelled ∙ ap (λ (t : List ℕ). t ++ rest) (sym (append-nil (asked_text l.last))))
          ∙ (sym (append_assoc (flat_map asked_text os) (asked_text l.last ++ []) rest)
          ∙ ap (λ (t : List ℕ). t ++ rest) (sym (flat_map-append asked_text os (l.last ∷ []))))

      few : length (os ++ l.last ∷ []) ≤ 1000
      few = let lt : 0 + length os < 1000 = l.few in omega (arith, length-append os (l.last ∷ []))

  at_stop : (bytes more : List ℕ) (flags : ℕ) (bare : Bool) (os : List Asked) (text behind : List ℕ) (entry : Entry) → Flags bytes more flags bare → AllByRecursion (GoesOn may table bare) os
      → more ≡ flat_map asked_text os ++ behind → length os ≤ 1000
      → text ≡ flat_map (text_to table bare) os ++ [] → StopsAt (0 + length os) behind entry → IsHaggled may table bytes text entry
  at_stop bytes more flags bare os text behind (entries.Out end) f each spelled few said h = to_stop bytes more flags bare os text behind (entries.Out end) end f each spelled few said refl (stopped (0 + length os) behind end h)
  at_stop bytes more flags bare os text behind (entries.In n) f each spelled few said h = absurd h
  at_stop bytes more flags bare os text behind entries.Refused f each spelled few said h = absurd h

  of_options : (bytes more : List ℕ) (flags : ℕ) (bare : Bool) (text : List ℕ) (entry : Entry) (rest : List ℕ) → Flags bytes more flags bare → Haggles may table bare 0 more text entry rest → IsHaggled may table bytes text entry
  of_options bytes more flags bare text entry rest f h =
      let count : 0 + length h.options ≤ 1000 = h.few in let few : length h.options ≤ 1000 = omega arith in
      elim h.ends [
        | inl (none, left, stop) ↦ at_stop bytes more flags bare h.options text h.behind entry f h.each h.spelled few (h.said ∙ ap (λ (t : List ℕ). flat_map (text_to table bare) h.options ++ t) none) stop
        | inr l ↦ to_last bytes more flags bare h.options text h.behind h.later entry rest f h.each h.spelled h.said l
      ]

  abbrev Told : List ℕ → List ℕ → Entry → Type 0
  Told bytes later entry = ((later ≡ []) × (length bytes < 4) × EndsAs None entry) ⊎ IsHaggled may table bytes later entry

  of_flags : (bytes later : List ℕ) (entry : Entry) → later ≡ [] → FlagsStop bytes entry → Told bytes later entry
  of_flags bytes later (entries.Out ends.Over) none h = inl (none, rw h (omega arith), inl refl)
  of_flags bytes later (entries.Out ends.Cut) none h = inl (none, h.1, inr refl)
  of_flags bytes later (entries.Out ends.BadFlags) none (flags, more, is, fits, unknown) = inr (record {
    flags = flags;
    asked = [];
    head = None;
    end = Some haggle_ends.BadFlags;
    sent = record { behind = more; spelled = is; fits = fits; each = tt; few = omega arith; headed = no_head more };
    is = ap (λ (o : Option Bool). when_some o (λ b. said_from table b 0 [] None) (ends_by [] haggle_ends.BadFlags)) unknown ∙ ap (λ (t : List ℕ). ends_by t haggle_ends.BadFlags) (sym none);
    ends = refl;
  })
  of_flags bytes later (entries.Out ends.BadMagic) none h = absurd h
  of_flags bytes later (entries.Out ends.TooLong) none h = absurd h
  of_flags bytes later (entries.Out ends.Disc) none h = absurd h
  of_flags bytes later (entries.Out ends.Abort) none h = absurd h
  of_flags bytes later (entries.Out ends.NoExport) none h = absurd h
  of_flags bytes later (entries.Out ends.TooMany) none h = absurd h
  of_flags bytes later (entries.Out ends.Worn) none h = absurd h
  of_flags bytes later (entries.In n) none h = absurd h
  of_flags bytes later entries.Refused none h = absurd h

  of_greeted : (bytes later : List ℕ) (entry : Entry) (rest : List ℕ) → Greeted may table bytes later entry rest → Told bytes later entry
  of_greeted bytes later entry rest (inl h) = of_flags bytes later entry h.0 h.2
  of_greeted bytes later entry rest (inr h) = inr (of_options bytes h.more h.flags h.bare later entry rest (record { spelled = h.spelled; fits = h.fits; known = h.known }) h.haggles)

  pub handshake_is_haggled : HandshakeIsHaggled may table
  handshake_is_haggled bytes text entry rest (later, said, h) = (later, said, of_greeted bytes later entry rest h)
