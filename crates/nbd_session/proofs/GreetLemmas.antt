-- The greeting, and the client's flags.
use Rattle.std.proofs.Common.{◌≡◌, ℕ, ◌<◌, ◌^◌, Bool, List, [], ◌∷◌, ◌++◌, Option, Some, Ok, Err, length, refl, sym, ap, subst, inl, inr, arith}
use Rattle.std.proofs.lemmas.List.{append-nil}
use Rattle.std.specs.Io.KnownBytes.{Consumes, Appends}
use Rattle.std.specs.Int.{w32, to_be_bytes}
use Rattle.nbd_options.specs.declared.attach.Attached.{Attached}
use Rattle.nbd_options.specs.Exports.{ExportFacts}
use Rattle.nbd_options.specs.Haggled.{greeting_text, wants_no_zeroes}
use Rattle.nbd_session.specs.declared.outcomes.End.{End}
use Rattle.nbd_session.specs.declared.outcomes.End.TheVariants as ends
use Rattle.nbd_session.specs.declared.outcomes.Entry.TheVariants as entries
use Rattle.nbd_session.specs.declared.outcomes.TalkFault.TheVariants as faults
use Rattle.nbd_stream.specs.Streams.{WritesPart}
use Rattle.nbd_session.specs.Outcomes.{Converses, Going}
use Rattle.nbd_session.specs.Conversation.{FlagsStop, Handshake, HagglesOn, IsEntryTold}
use Rattle.nbd_stream.proofs.BufferLemmas.{Consumes-none}

module _ (may : ℕ → Attached → Type 0) (table : List ExportFacts) where
  -- the greeting was said, and so the flags end the handshake
  stopped : (bytes : List ℕ) (end : End) → FlagsStop bytes (entries.Out end) → Handshake may table bytes (greeting_text ++ []) (entries.Out end)
  stopped bytes end h = (bytes, ([], refl, inl (refl, refl, h)), tt)

  at_once : (end : End) → FlagsStop [] (entries.Out end) → Handshake may table [] greeting_text (entries.Out end)
  at_once end h = subst (λ (t : List ℕ). Handshake may table [] t (entries.Out end)) (append-nil greeting_text) (stopped [] end h)

  -- a part of the greeting was written
  pub greet_fault : (i o0 o1 : Option (List ℕ)) → WritesPart o0 o1 greeting_text → Converses IsEntryTold (Handshake may table) i i o0 o1 (Err faults.WriteFailed)
  greet_fault i o0 o1 part = record {
    bytes = [];
    text = part.0;
    took = Consumes-none i;
    gave = part.3;
    claim = (part.1, entries.Out ends.Over, subst (λ (t : List ℕ). Handshake may table [] t (entries.Out ends.Over)) (sym part.2) (at_once ends.Over refl));
  }

  -- fewer bytes than the flags have
  pub flags_gap : (bytes : List ℕ) → length bytes < 4 → (end : End) × FlagsStop bytes (entries.Out end)
  flags_gap [] lt = (ends.Over, refl)
  flags_gap (b ∷ bytes) lt = (ends.Cut, (omega arith, lt))

  -- the greeting was written, and then the handshake ended at the flags
  pub flags_stop : (i0 i1 o0 o1 : Option (List ℕ)) (bytes : List ℕ) (end : End) → Appends o0 o1 greeting_text → Consumes i0 i1 bytes → FlagsStop bytes (entries.Out end) → IsEntryTold i1 (entries.Out end)
      → Converses IsEntryTold (Handshake may table) i0 i1 o0 o1 (Ok (entries.Out end))
  flags_stop i0 i1 o0 o1 bytes end gave took h told = record {
    bytes = bytes;
    text = greeting_text;
    took = took;
    gave = gave;
    claim = (subst (λ (t : List ℕ). Handshake may table bytes t (entries.Out end)) (append-nil greeting_text) (stopped bytes end h), told);
  }

  pub flags_fault : (i0 i1 o0 o1 : Option (List ℕ)) (bytes : List ℕ) → Appends o0 o1 greeting_text → Consumes i0 i1 bytes → length bytes < 4
      → Converses IsEntryTold (Handshake may table) i0 i1 o0 o1 (Err faults.ReadFailed)
  flags_fault i0 i1 o0 o1 bytes gave took lt =
      let gap = flags_gap bytes lt in
      record {
        bytes = bytes;
        text = greeting_text;
        took = took;
        gave = gave;
        claim = (entries.Out gap.0, subst (λ (t : List ℕ). Handshake may table bytes t (entries.Out gap.0)) (append-nil greeting_text) (stopped bytes gap.0 gap.1));
      }

  -- the flags are known, and options follow
  pub flags_going : (i0 i1 o0 o1 : Option (List ℕ)) (bytes : List ℕ) (flags : ℕ) (bare : Bool) → Appends o0 o1 greeting_text → Consumes i0 i1 bytes → bytes ≡ to_be_bytes w32 flags → flags < 2 ^ 32
      → wants_no_zeroes flags ≡ Some bare → Going (Handshake may table) (HagglesOn may table bare 0) i0 i1 o0 o1
  flags_going i0 i1 o0 o1 bytes flags bare gave took is fits known = record {
    bytes = bytes;
    text = greeting_text;
    took = took;
    gave = gave;
    onward = λ b t e h. (h.0, (t, refl, inr (record { flags = flags; more = b; bare = bare; spelled = ap (λ (x : List ℕ). x ++ b) is; fits = fits; known = known; haggles = h.1 })), h.2);
  }
