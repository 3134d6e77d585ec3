-- Requests behind a handshake in which a session is always given.
use Rattle.std.proofs.Common.{◌≡◌, ℕ, ◌+◌, ◌<◌, Bool, List, [], ◌++◌, Option, Some, None, Ok, Err, map, length, refl, sym, ap, subst, ◌∙◌, inl, inr, append_assoc}
use Rattle.std.specs.Prelude.{slice_get, option_map}
use Rattle.std.proofs.lemmas.List.{append-nil}
use Rattle.std.proofs.lemmas.Option.{slice_get_within, slice_get-map}
use Rattle.std.specs.List.{flat_map}
use Rattle.std.specs.Int.{w32, to_be_bytes}
use Rattle.nbd_commands.specs.Exports.{Export}
use Rattle.nbd_commands.specs.Terms.{terms_of}
use Rattle.nbd_options.specs.declared.attach.Attached.{Attached}
use Rattle.nbd_options.specs.Exports.{ExportFacts}
use Rattle.nbd_options.specs.Replies.{next_after}
use Rattle.nbd_options.specs.Haggled.{Said}
use Rattle.nbd_session.specs.declared.outcomes.End.{End}
use Rattle.nbd_session.specs.declared.outcomes.End.TheVariants as ends
use Rattle.nbd_session.specs.declared.outcomes.Entry.{Entry}
use Rattle.nbd_session.specs.declared.outcomes.Entry.TheVariants as entries
use Rattle.nbd_session.specs.declared.outcomes.TalkFault.{TalkFault}
use Rattle.nbd_session.specs.declared.outcomes.TalkFault.TheVariants as faults
use Rattle.nbd_session.specs.Requests.{Serves, opened}
use Rattle.nbd_session.specs.Options.{asked_text, Haggles, StopsAt}
use Rattle.nbd_session.specs.Outcomes.{Converses, IsTold, Going}
use Rattle.nbd_session.specs.Conversation.{FlagsStop, Greeted, Shaken, Handshake, IsEntryTold, IsGiven, facts_of, ServesAt, Talked}
use Rattle.nbd_stream.proofs.BufferLemmas.{Appends-none, Consumes-none}
use Rattle.nbd_session.proofs.ServeLemmas.{stops}
use Rattle.nbd_session.proofs.OneHaggling.{given_of}
use Rattle.nbd_session.proofs.InTable.{HasPlace, IsIn, inside_of}

-- ---- where the handshake ends in an export it is one of the table, and none is refused

module _ (table : List ExportFacts) where
  stopped_in : (seen : ℕ) (bytes : List ℕ) (entry : Entry) → StopsAt seen bytes entry → IsIn table entry
  stopped_in seen bytes (entries.Out end) h = tt
  stopped_in seen bytes (entries.In n) h = absurd h
  stopped_in seen bytes entries.Refused h = absurd h

  haggled_in : (bare : Bool) (seen : ℕ) (bytes text : List ℕ) (entry : Entry) (rest : List ℕ) → Haggles IsGiven table bare seen bytes text entry rest → IsIn table entry
  haggled_in bare seen bytes text entry rest h =
      elim h.ends [
        | inl (none, left, stop) ↦ stopped_in (seen + length h.options) h.behind entry stop
        | inr l ↦ subst (IsIn table) (sym l.is)
            (inside_of table bare l.last l.end (given_of (next_after table l.last.option) l.last.answer l.asked.answer) (ap (λ (s : Said). s.end) l.said))
      ]

  flags_in : (bytes : List ℕ) (entry : Entry) → FlagsStop bytes entry → IsIn table entry
  flags_in bytes (entries.Out end) h = tt
  flags_in bytes (entries.In n) h = absurd h
  flags_in bytes entries.Refused h = absurd h

  greeted_in : (bytes text : List ℕ) (entry : Entry) (rest : List ℕ) → Greeted IsGiven table bytes text entry rest → IsIn table entry
  greeted_in bytes text entry rest (inl h) = flags_in bytes entry h.2
  greeted_in bytes text entry rest (inr h) = haggled_in h.bare 0 h.more text entry rest h.haggles

  pub handshake_in : (bytes text : List ℕ) (entry : Entry) → Handshake IsGiven table bytes text entry → IsIn table entry
  handshake_in bytes text entry (rest, (later, said, h), left) = greeted_in bytes later entry rest h

-- ---- more bytes behind a handshake that ended in an export

module _ (may : ℕ → Attached → Type 0) (table : List ExportFacts) (n : ℕ) (more : List ℕ) where
  haggles_more : (bare : Bool) (seen : ℕ) (bytes text : List ℕ) → Haggles may table bare seen bytes text (entries.In n) [] → Haggles may table bare seen (bytes ++ more) text (entries.In n) more
  haggles_more bare seen bytes text h =
      elim h.ends [
        | inl (none, left, stop) ↦ absurd stop
        | inr l ↦ record {
          options = h.options;
          behind = h.behind ++ more;
          later = h.later;
          spelled = ap (λ (t : List ℕ). t ++ more) h.spelled ∙ append_assoc (flat_map asked_text h.options) h.behind more;
          said = h.said;
          each = h.each;
          few = h.few;
          ends = inr (record {
            last = l.last;
            asked = l.asked;
            few = l.few;
            spelled = ap (λ (t : List ℕ). t ++ more) (l.spelled ∙ append-nil (asked_text l.last));
            end = l.end;
            said = l.said;
            is = l.is;
          });
        }
      ]

  greeted_more : (bytes text : List ℕ) → Greeted may table bytes text (entries.In n) [] → Greeted may table (bytes ++ more) text (entries.In n) more
  greeted_more bytes text (inl h) = absurd h.2
  greeted_more bytes text (inr h) = inr (record {
    flags = h.flags;
    more = h.more ++ more;
    bare = h.bare;
    spelled = ap (λ (t : List ℕ). t ++ more) h.spelled ∙ append_assoc (to_be_bytes w32 h.flags) h.more more;
    fits = h.fits;
    known = h.known;
    haggles = haggles_more h.bare 0 h.more text h.haggles;
  })

  pub shaken_more : (bytes text : List ℕ) → Handshake may table bytes text (entries.In n) → Shaken may table (bytes ++ more) text (entries.In n) more
  shaken_more bytes text (rest, (later, said, h), left) =
      (later, said, greeted_more bytes later (subst (λ (r : List ℕ). Greeted may table bytes later (entries.In n) r) left h))

-- ---- the whole

module _ (exports : List Export) where
  abbrev table : List ExportFacts
  table = map facts_of exports

  export_at : (n : ℕ) (o : Option Export) → slice_get exports n ≡ o → HasPlace table n → (x : Export) × (slice_get exports n ≡ Some x)
  export_at n None none is =
      let gone : slice_get table n ≡ None = slice_get-map facts_of exports n ∙ ap (λ (o : Option Export). option_map facts_of o) none in
      let bad : None ≡ Some is.0 = sym gone ∙ is.1 in
      absurd (cc)
  export_at n (Some x) some is = (x, some)

  pub entered_within : (bytes text : List ℕ) (n : ℕ) → Handshake IsGiven table bytes text (entries.In n) → n < length exports
  entered_within bytes text n h =
      let x = export_at n (slice_get exports n) refl (handshake_in table bytes text (entries.In n) h) in
      slice_get_within exports n x.0 x.1

  served : (n : ℕ) (bytes text : List ℕ) (end : End) (o : Option Export) (x : Export) → o ≡ Some x → Serves (terms_of x) (opened (terms_of x)) bytes text end → ServesAt o bytes text end
  served n bytes text end o x is h = subst (λ (k : Option Export). ServesAt k bytes text end) (sym is) h

  goes_on : (bytes text b t : List ℕ) (n : ℕ) (x : Export) (end : End) → Handshake IsGiven table bytes text (entries.In n) → slice_get exports n ≡ Some x
      → Serves (terms_of x) (opened (terms_of x)) b t end → Talked exports (bytes ++ b) (text ++ t) end
  goes_on bytes text b t n x end h is serves = record {
    entry = entries.In n;
    rest = b;
    first = text;
    later = t;
    shaken = shaken_more IsGiven table n b bytes text h;
    said = refl;
    continues = served n b t end (slice_get exports n) x is serves;
  }

  pub ended : (bytes text : List ℕ) (end : End) → Handshake IsGiven table bytes text (entries.Out end) → Talked exports bytes text end
  ended bytes text end h = record {
    entry = entries.Out end;
    rest = h.0;
    first = text;
    later = [];
    shaken = h.1;
    said = sym (append-nil text);
    continues = (refl, refl);
  }

  -- however the handshake ended, its text is the whole text to its bytes
  pub some_end : (bytes text : List ℕ) (entry : Entry) → Handshake IsGiven table bytes text entry → (end : End) × Talked exports bytes text end
  some_end bytes text (entries.Out end) h = (end, ended bytes text end h)
  some_end bytes text entries.Refused h = absurd (handshake_in table bytes text entries.Refused h)
  some_end bytes text (entries.In n) h =
      let x = export_at n (slice_get exports n) refl (handshake_in table bytes text (entries.In n) h) in (
        ends.Over,
        subst (λ (t : List ℕ). Talked exports bytes t ends.Over) (append-nil text) (subst (λ (b : List ℕ). Talked exports b (text ++ []) ends.Over) (append-nil bytes)
            (goes_on bytes text [] [] n x.0 ends.Over h x.1 (stops (terms_of x.0) (opened (terms_of x.0)) [] ends.Over refl))),
      )

  -- the handshake met a fault
  pub shake_fault : (i0 i1 o0 o1 : Option (List ℕ)) (fault : TalkFault) → Converses IsEntryTold (Handshake IsGiven table) i0 i1 o0 o1 (Err fault) → Converses IsTold (Talked exports) i0 i1 o0 o1 (Err fault)
  shake_fault i0 i1 o0 o1 faults.ReadFailed h =
      record { bytes = h.bytes; text = h.text; took = h.took; gave = h.gave; claim = some_end h.bytes h.text h.claim.0 h.claim.1 }
  shake_fault i0 i1 o0 o1 faults.WriteFailed h =
      let all = some_end h.bytes (h.text ++ h.claim.0) h.claim.1 h.claim.2 in
      record { bytes = h.bytes; text = h.text; took = h.took; gave = h.gave; claim = (h.claim.0, all.0, all.1) }
  shake_fault i0 i1 o0 o1 faults.NoMemory h =
      let all = some_end h.bytes (h.text ++ h.claim.0) h.claim.1 h.claim.2 in
      record { bytes = h.bytes; text = h.text; took = h.took; gave = h.gave; claim = (h.claim.0, all.0, all.1) }

  -- it ended
  pub shake_out : (i0 i1 o0 o1 : Option (List ℕ)) (entry : Entry) (end : End) → entry ≡ entries.Out end → Converses IsEntryTold (Handshake IsGiven table) i0 i1 o0 o1 (Ok entry)
      → Converses IsTold (Talked exports) i0 i1 o0 o1 (Ok end)
  shake_out i0 i1 o0 o1 entry end is h0 =
      let h = subst (λ (x : Entry). Converses IsEntryTold (Handshake IsGiven table) i0 i1 o0 o1 (Ok x)) is h0 in
      record { bytes = h.bytes; text = h.text; took = h.took; gave = h.gave; claim = (ended h.bytes h.text end h.claim.0, h.claim.1) }

  -- it ended in an export
  pub shake_in : (i0 i1 o0 o1 : Option (List ℕ)) (entry : Entry) (n : ℕ) (x : Export) → entry ≡ entries.In n → slice_get exports n ≡ Some x
      → Converses IsEntryTold (Handshake IsGiven table) i0 i1 o0 o1 (Ok entry) → Going (Talked exports) (Serves (terms_of x) (opened (terms_of x))) i0 i1 o0 o1
  shake_in i0 i1 o0 o1 entry n x is at h0 =
      let h = subst (λ (y : Entry). Converses IsEntryTold (Handshake IsGiven table) i0 i1 o0 o1 (Ok y)) is h0 in
      record { bytes = h.bytes; text = h.text; took = h.took; gave = h.gave; onward = λ b t e serves. goes_on h.bytes h.text b t n x e h.claim.0 at serves }

  pub entered_place : (i0 i1 o0 o1 : Option (List ℕ)) (entry : Entry) (n : ℕ) → entry ≡ entries.In n → Converses IsEntryTold (Handshake IsGiven table) i0 i1 o0 o1 (Ok entry) → n < length exports
  entered_place i0 i1 o0 o1 entry n is h0 =
      let h = subst (λ (x : Entry). Converses IsEntryTold (Handshake IsGiven table) i0 i1 o0 o1 (Ok x)) is h0 in
      entered_within h.bytes h.text n h.claim.0

  pub never_refused : (i0 i1 o0 o1 : Option (List ℕ)) (entry : Entry) → entry ≡ entries.Refused → Converses IsEntryTold (Handshake IsGiven table) i0 i1 o0 o1 (Ok entry) → ⊥
  never_refused i0 i1 o0 o1 entry is h0 =
      let h = subst (λ (x : Entry). Converses IsEntryTold (Handshake IsGiven table) i0 i1 o0 o1 (Ok x)) is h0 in
      handshake_in table h.bytes h.text entries.Refused h.claim.0

  -- nothing was read or written yet
  pub nothing_yet : (i o : Option (List ℕ)) → ((text : List ℕ) × (end : End) × Talked exports [] text end) → Converses IsTold (Talked exports) i i o o (Err faults.NoMemory)
  nothing_yet i o some = record { bytes = []; text = []; took = Consumes-none i; gave = Appends-none o; claim = some }
