-- What a command tells, by what it read and by how the part went that wrote.
use Rattle.std.proofs.Common.{◌≡◌, ℕ, List, Option, refl, sym, subst, inl, inr, codes}
use Rattle.std.specs.Prelude.{◌≢◌, ◌⊎◌, IsErr}
use Rattle.std.specs.Io.KnownBytes.{Appends}
use Rattle.hex.specs.Hex.{decode_of}
use Rattle.nbd_commands.specs.Exports.{Offer}
use Rattle.server_table.specs.Table.{Setup}
use Rattle.server_core.specs.Served.{setup_for}
use Rattle.nbd_scripts.specs.declared.replay_line.ReplayLine.{ReplayLine}
use Rattle.nbd_scripts.specs.declared.fault.LineFault.{LineFault}
use Rattle.nbd_scripts.specs.declared.fault.LineFault.TheVariants as fault
use Rattle.nbd_scripts.specs.declared.head.Head.TheVariants as heads
use Rattle.nbd_scripts.specs.declared.events.Lines.TheVariants as bodies
use Rattle.nbd_scripts.specs.declared.outcome.Outcome.{Outcome}
use Rattle.nbd_scripts.specs.declared.outcome.Outcome.TheVariants as outcome
use Rattle.nbd_scripts.specs.Lines.{lines_in}
use Rattle.nbd_scripts.specs.Heads.{IsHead}
use Rattle.nbd_scripts.specs.Bodies.{IsBody}
use Rattle.nbd_scripts.specs.Events.{Asks}
use Rattle.nbd_scripts.specs.Output.{digits_of, Prints}
use Rattle.nbd_scripts.specs.Replayed.{Replays, ReplaysFirst}
use Rattle.nbd_scripts.specs.Told.{IsWhole, refusal_line, Writes, CutShort, TellsRefusal}
use Rattle.nbd_scripts.specs.Scripts.{Streams, with_output, HasBody, Talks, RefusesHead, RefusesHex, WritesLines, RefusesBody, TellsTalk, TellsReplay}
use Rattle.nbd_scripts.proofs.PartLemmas.{cut_short, cut_short_so}

module _ (streams : Streams) (went : Outcome) where
  -- a refusal is written, or a beginning of it, or nothing
  talk_written : (text : List ℕ) → Writes text outcome.Refused streams.old streams.new went
      → ((all : Option (List ℕ)) → Appends streams.old all text → RefusesHead (with_output streams all) ⊎ RefusesHex (with_output streams all)) → TellsTalk streams went
  talk_written text (inl here) refuses = subst (TellsTalk streams) (sym here.0) (refuses streams.new here.1)
  talk_written text (inr (inl none)) refuses = subst (TellsTalk streams) (sym none.0) none.1
  talk_written text (inr (inr failed)) refuses =
      subst (TellsTalk streams) (sym failed.0) (cut_short _ streams.old streams.new text (λ all written. inr (refuses all written)) failed.1)

  replay_written : (A : Type 0) (text : List ℕ) → Writes text outcome.Refused streams.old streams.new went
      → ((all : Option (List ℕ)) → Appends streams.old all text → RefusesHead (with_output streams all) ⊎ RefusesBody A (with_output streams all)) → TellsReplay A streams went
  replay_written A text (inl here) refuses = subst (TellsReplay A streams) (sym here.0) (refuses streams.new here.1)
  replay_written A text (inr (inl none)) refuses = subst (TellsReplay A streams) (sym none.0) (inl none.1)
  replay_written A text (inr (inr failed)) refuses =
      subst (TellsReplay A streams) (sym failed.0) (cut_short _ streams.old streams.new text (λ all written. inr (refuses all written)) failed.1)

  module _ (A : Type 0) (script : List ℕ) (whole : IsWhole streams.unread streams.left script) (number : ℕ) where
    pub talk_head_refused : (refused : LineFault) → IsHead {A = A} script (heads.Refused number refused) → TellsRefusal number refused streams.old streams.new went → TellsTalk streams went
    talk_head_refused fault.Form is told =
        talk_written (refusal_line number fault.Form) told (λ all written. inl (record { script = script; whole = whole; number = number; fault = fault.Form; refused = is; written = written }))
    talk_head_refused (fault.Value refusal) is told =
        talk_written (refusal_line number (fault.Value refusal)) told
        (λ all written. inl (record { script = script; whole = whole; number = number; fault = fault.Value refusal; refused = is; written = written }))
    talk_head_refused fault.NoMemory is told = subst (TellsTalk streams) (sym told.0) told.1

    pub replay_head_refused : (refused : LineFault) → IsHead {A = A} script (heads.Refused number refused) → TellsRefusal number refused streams.old streams.new went → TellsReplay A streams went
    replay_head_refused fault.Form is told =
        replay_written A (refusal_line number fault.Form) told
        (λ all written. inl (record { script = script; whole = whole; number = number; fault = fault.Form; refused = is; written = written }))
    replay_head_refused (fault.Value refusal) is told =
        replay_written A (refusal_line number (fault.Value refusal)) told
        (λ all written. inl (record { script = script; whole = whole; number = number; fault = fault.Value refusal; refused = is; written = written }))
    replay_head_refused fault.NoMemory is told = subst (TellsReplay A streams) (sym told.0) (inl told.1)

-- a script that is read with one output is so with any
body_for : (streams : Streams) (all : Option (List ℕ)) (offer : Offer) (above : ℕ) (body : List ℕ) → HasBody streams offer above body → HasBody (with_output streams all) offer above body
body_for streams all offer above body read = record { script = read.script; whole = read.whole; head = read.head }

module _ (streams : Streams) (offer : Offer) (above : ℕ) (body : List ℕ) (read : HasBody streams offer above body) where
  talks : (all : Option (List ℕ)) → Prints offer.exports body streams.old all → Talks (with_output streams all)
  talks all printed = record { offer = offer; above = above; body = body; read = body_for streams all offer above body read; printed = printed }

  refuses_hex : (all : Option (List ℕ)) → IsErr (decode_of (digits_of body)) × Appends streams.old all (codes "hex refused\n") → RefusesHex (with_output streams all)
  refuses_hex all refused = record { offer = offer; above = above; body = body; read = body_for streams all offer above body read; no_bytes = refused.0; written = refused.1 }

  pub talk_read : (went : Outcome) → (went ≡ outcome.Done → Prints offer.exports body streams.old streams.new)
      → (went ≡ outcome.Refused → IsErr (decode_of (digits_of body)) × Appends streams.old streams.new (codes "hex refused\n"))
      → went ≢ outcome.ReadFailed → (went ≡ outcome.NoMemory → streams.new ≡ streams.old)
      → (went ≡ outcome.WriteFailed
      → CutShort (λ all. Prints offer.exports body streams.old all ⊎ (IsErr (decode_of (digits_of body)) × Appends streams.old all (codes "hex refused\n"))) streams.old streams.new) → TellsTalk streams went
  talk_read outcome.Done done refused read no_memory write_failed = talks streams.new (done refl)
  talk_read outcome.Refused done refused read no_memory write_failed = inr (refuses_hex streams.new (refused refl))
  talk_read outcome.NoMemory done refused read no_memory write_failed = no_memory refl
  talk_read outcome.ReadFailed done refused read no_memory write_failed = absurd (read refl)
  talk_read outcome.WriteFailed done refused read no_memory write_failed =
      cut_short_so _ _ streams.old streams.new (λ all is. elim is [ inl printed ↦ inl (talks all printed) | inr hex ↦ inr (inr (refuses_hex all hex)) ]) (write_failed refl)

  module _ (A : Type 0) where
    module _ (asked : List (ReplayLine A)) (asks : Asks (lines_in body) asked) where
      writes_lines : (made : Setup → List (ReplayLine A) → Option (List ℕ) → Option (List ℕ) → Type 0) (all : Option (List ℕ))
          → made (setup_for offer) asked streams.old all → WritesLines A (with_output streams all) made
      writes_lines made all replayed =
          record { offer = offer; above = above; body = body; read = body_for streams all offer above body read; asked = asked; asks = asks; replayed = replayed }

      pub replay_read : (went : Outcome) → (went ≡ outcome.Done → Replays {A = A} (setup_for offer) asked streams.old streams.new)
          → (went ≡ outcome.Done) ⊎ (went ≡ outcome.NoMemory) ⊎ (went ≡ outcome.WriteFailed)
          → (went ≡ outcome.NoMemory → ReplaysFirst {A = A} (setup_for offer) asked streams.old streams.new)
          → (went ≡ outcome.WriteFailed
          → CutShort (λ all. Replays {A = A} (setup_for offer) asked streams.old all ⊎ ReplaysFirst {A = A} (setup_for offer) asked streams.old all) streams.old streams.new) → TellsReplay A streams went
      replay_read outcome.Done done failed no_memory write_failed = writes_lines (Replays {A = A}) streams.new (done refl)
      replay_read outcome.Refused done (inl is) no_memory write_failed = absurd cc
      replay_read outcome.Refused done (inr (inl is)) no_memory write_failed = absurd cc
      replay_read outcome.Refused done (inr (inr is)) no_memory write_failed = absurd cc
      replay_read outcome.NoMemory done failed no_memory write_failed = inr (writes_lines (ReplaysFirst {A = A}) streams.new (no_memory refl))
      replay_read outcome.ReadFailed done (inl is) no_memory write_failed = absurd cc
      replay_read outcome.ReadFailed done (inr (inl is)) no_memory write_failed = absurd cc
      replay_read outcome.ReadFailed done (inr (inr is)) no_memory write_failed = absurd cc
      replay_read outcome.WriteFailed done failed no_memory write_failed =
          cut_short_so _ _ streams.old streams.new (λ all is. elim is [ inl whole ↦ inl (inl (writes_lines (Replays {A = A}) all whole)) | inr first ↦ inl (inr (writes_lines (ReplaysFirst {A = A}) all first)) ]) (write_failed refl)

    pub replay_body_refused : (went : Outcome) (number : ℕ) (refused : LineFault) → IsBody {A = A} above body (bodies.Refused number refused)
        → TellsRefusal number refused streams.old streams.new went → TellsReplay A streams went
    replay_body_refused went number fault.Form is told =
        replay_written streams went A (refusal_line number fault.Form) told
        (λ all written. inr (record { offer = offer; above = above; body = body; read = body_for streams all offer above body read; number = number; fault = fault.Form; missed = is; written = written }))
    replay_body_refused went number (fault.Value refusal) is told =
        replay_written streams went A (refusal_line number (fault.Value refusal)) told
        (λ all written. inr (record { offer = offer; above = above; body = body; read = body_for streams all offer above body read; number = number; fault = fault.Value refusal; missed = is; written = written }))
    replay_body_refused went number fault.NoMemory is told = subst (TellsReplay A streams) (sym told.0) (inl told.1)
