-- Requests out of pieces: some bytes were read that aren't served yet.
use Rattle.std.proofs.Common.{◌≡◌, ℕ, Bool, true, false, ◌==◌, List, [], ◌∷◌, ◌++◌, Option, Result, Ok, Err, refl, sym, ap, subst, ◌∙◌, inr, append_assoc, arith}
use Rattle.std.specs.Result.{OnOk}
use Rattle.std.specs.Io.KnownBytes.{Consumes, Appends}
use Rattle.nbd_wire.specs.Grammar.{request_text, reply_text, head_text, RequestMessage, ReplyMessage, IsUnfinished}
use Rattle.std.proofs.lemmas.Bool.{eq-eqb, eqb-true}
use Rattle.nbd_wire.specs.declared.requests.RequestHead.{RequestHead}
use Rattle.nbd_commands.specs.Terms.{Terms}
use Rattle.lone_export.specs.Alone.{Alone}
use Rattle.lone_export.specs.Lone.{Whole}
use Rattle.nbd_session.specs.declared.outcomes.End.{End}
use Rattle.nbd_session.specs.declared.outcomes.End.TheVariants as ends
use Rattle.nbd_session.specs.declared.outcomes.TalkFault.{TalkFault}
use Rattle.nbd_session.specs.declared.outcomes.TalkFault.TheVariants as faults
use Rattle.nbd_stream.specs.declared.ending.Ending.{Ending}
use Rattle.nbd_stream.specs.declared.ending.Ending.TheVariants as ending
use Rattle.nbd_stream.specs.declared.ending.Frame.{Frame}
use Rattle.nbd_stream.specs.declared.ending.Frame.TheVariants as frames
use Rattle.nbd_stream.specs.Streams.{AreBytes, Rises, WritesPart}
use Rattle.nbd_stream.specs.Frames.{Reading, Nexts, IsNext, IsEnded, EndsReader, Stops, Gives}
use Rattle.nbd_session.specs.Outcomes.{end_by, IsTold, Claims, Converses, IsBeginning}
use Rattle.nbd_session.specs.Requests.{after, reply_to, FindsWorn, Serves, StopsBy, IsAnswered}
use Rattle.nbd_stream.proofs.KnownLemmas.{Appends-then, Consumes-then}
use Rattle.nbd_stream.proofs.BufferLemmas.{Appends-none, Consumes-none}
use Rattle.nbd_session.proofs.OutcomeLemmas.{Claims-after}
use Rattle.nbd_stream.proofs.FrameLemmas.{append_bytes}
use Rattle.nbd_session.proofs.ServeLemmas.{stops, goes_on, IsServed, is_fresh, told, led}
use Rattle.nbd_session.proofs.SomeConversation.{some_serving, bytes_behind}

-- What was read and written so far: all that was read but the last bytes is served, and whatever goes on from these went
-- on from the start.
pub record Keeping (terms : Terms) (first s : Alone) (kept : List ℕ) (i0 i1 o0 o1 : Option (List ℕ)) : Type 0 where
  pub front : List ℕ
  pub text : List ℕ
  pub took : Consumes i0 i1 (front ++ kept)
  pub gave : Appends o0 o1 text
  pub are_bytes : AreBytes kept
  pub onward : (b t : List ℕ) (e : End) → Serves terms s b t e → Serves terms first (front ++ b) (text ++ t) e

pub keeps_nothing : (terms : Terms) (s : Alone) (i o : Option (List ℕ)) → Keeping terms s s [] i i o o
keeps_nothing terms s i o = record { front = []; text = []; took = Consumes-none i; gave = Appends-none o; are_bytes = λ i. omega arith; onward = λ b t e h. h }

module _ (terms : Terms) (first s : Alone) (kept : List ℕ) (i0 i1 o0 o1 : Option (List ℕ)) (k : Keeping terms first s kept i0 i1 o0 o1) where
  -- what is claimed of the bytes that are kept and those read then is claimed of all
  pub kept_converses : (i2 o2 : Option (List ℕ)) (more t : List ℕ) (answer : Result End TalkFault) → Consumes i1 i2 more → Appends o1 o2 t → Claims IsTold (Serves terms s) i2 (kept ++ more) t answer
      → Converses IsTold (Serves terms first) i0 i2 o0 o2 answer
  kept_converses i2 o2 more t answer took gave claim = record {
    bytes = k.front ++ (kept ++ more);
    text = k.text ++ t;
    took = subst (Consumes i0 i2) (append_assoc k.front kept more) (Consumes-then i0 i1 i2 (k.front ++ kept) more k.took took);
    gave = Appends-then o0 o1 o2 k.text t k.gave gave;
    claim = Claims-after IsTold (Serves terms first) (Serves terms s) i2 k.front k.text (kept ++ more) t answer k.onward claim;
  }

  pub kept_ends : (i2 : Option (List ℕ)) (more : List ℕ) (answer : Result End TalkFault) → Consumes i1 i2 more → Claims IsTold (Serves terms s) i2 (kept ++ more) [] answer → Converses IsTold (Serves terms first) i0 i2 o0 o1 answer
  kept_ends i2 more answer took claim = kept_converses i2 o1 more [] answer took (Appends-none o1) claim

  -- any bytes have some text
  some_text : (more : List ℕ) → AreBytes more → IsBeginning (Serves terms s) (kept ++ more) []
  some_text more are =
      let some = some_serving terms s (kept ++ more) (append_bytes kept more k.are_bytes are) in
      (some.0, some.1, some.2)

  unfinished_end : (bytes : List ℕ) → IsUnfinished bytes → (end : End) × StopsBy bytes end
  unfinished_end [] h = (ends.Over, refl)
  unfinished_end (b ∷ bytes) h = (ends.Cut, (omega arith, h))

  module _ (A : Type 0) (old new : Reading) (i2 : Option (List ℕ)) (before now : ℕ) (frame : Frame A) (same : old.kept ≡ kept) (n : Nexts old new i1 i2 before now frame) where
    abbrev all : List ℕ
    all = kept ++ n.bytes

    -- ---- where the reading ended

    stopped : (e : Ending) → frame ≡ frames.Ended e → IsEnded e all × EndsReader e i2 before now
    stopped e is =
        let h : Stops e (old.kept ++ n.bytes) new i2 before now = subst (λ (x : Frame A). IsNext (old.kept ++ n.bytes) new i2 before now x) is n.next in
        (subst (λ (x : List ℕ). IsEnded e (x ++ n.bytes)) same h.stands, h.reader)

    ends_here : (answer : Result End TalkFault) → Claims IsTold (Serves terms s) i2 all [] answer → Converses IsTold (Serves terms first) i0 i2 o0 o1 answer
    ends_here answer claim = kept_ends i2 n.bytes answer n.took claim

    pub is_without_memory : Converses IsTold (Serves terms first) i0 i2 o0 o1 (Err faults.NoMemory)
    is_without_memory = ends_here (Err faults.NoMemory) (some_text n.bytes n.are_bytes)

    pub is_ended : (e : Ending) → frame ≡ frames.Ended e → Converses IsTold (Serves terms first) i0 i2 o0 o1 (end_by e)
    is_ended e is = by e (stopped e is)
      where
        by : (e : Ending) → IsEnded e all × EndsReader e i2 before now → Converses IsTold (Serves terms first) i0 i2 o0 o1 (end_by e)
        by ending.Over h = ends_here (Ok ends.Over) (stops terms s all ends.Over h.0, h.1.0)
        by ending.Cut h = ends_here (Ok ends.Cut) (stops terms s all ends.Cut h.0, h.1.0)
        by ending.BadMagic h = ends_here (Ok ends.BadMagic) (stops terms s all ends.BadMagic h.0, tt)
        by ending.TooLong h = ends_here (Ok ends.TooLong) (stops terms s all ends.TooLong h.0, tt)
        by ending.ReadFailed h = let u = unfinished_end all h.0 in ends_here (Err faults.ReadFailed) (u.0, stops terms s all u.0 u.1)
        by ending.NoMemory h = is_without_memory

    pub read_rises : (e : Ending) (answer : Result End TalkFault) → frame ≡ frames.Ended e → answer ≡ end_by e → answer ≡ Err faults.ReadFailed → Rises before now
    read_rises e answer is ends fails = by e (sym ends ∙ fails) (stopped e is)
      where
        by : (e : Ending) → end_by e ≡ Err faults.ReadFailed → IsEnded e all × EndsReader e i2 before now → Rises before now
        by ending.Over f h = absurd (cc)
        by ending.Cut f h = absurd (cc)
        by ending.BadMagic f h = absurd (cc)
        by ending.TooLong f h = absurd (cc)
        by ending.ReadFailed f h = h.1
        by ending.NoMemory f h = absurd (cc)

    -- where an end is answered, no read failed
    pub reads_kept : (e : Ending) (answer : Result End TalkFault) → frame ≡ frames.Ended e → answer ≡ end_by e → OnOk answer (now ≡ before)
    reads_kept e answer is ends = subst (λ (x : Result End TalkFault). OnOk x (now ≡ before)) (sym ends) (by e (stopped e is))
      where
        by : (e : Ending) → IsEnded e all × EndsReader e i2 before now → OnOk (end_by e) (now ≡ before)
        by ending.Over h = h.1.1
        by ending.Cut h = h.1.1
        by ending.BadMagic h = h.1
        by ending.TooLong h = h.1
        by ending.ReadFailed h = tt
        by ending.NoMemory h = tt

    -- ---- where a request is given

    module _ (q : RequestMessage) (is : frame ≡ frames.Whole q) where
      pub gives : Gives q (old.kept ++ n.bytes) new before now
      gives = subst (λ (x : Frame A). IsNext (old.kept ++ n.bytes) new i2 before now x) is n.next

      spelled : all ≡ request_text q ++ new.kept
      spelled = ap (λ (x : List ℕ). x ++ n.bytes) (sym same) ∙ gives.spelled

      behind_bytes : AreBytes new.kept
      behind_bytes = bytes_behind (request_text q) new.kept all spelled (append_bytes kept n.bytes k.are_bytes n.are_bytes)

      pub is_disc : q.head.kind ≡ 2 → Converses IsTold (Serves terms first) i0 i2 o0 o1 (Ok ends.Disc)
      is_disc two =
          ends_here (Ok ends.Disc) (stops terms s all ends.Disc (q.head, q.payload ++ new.kept, spelled ∙ append_assoc (head_text q.head) q.payload new.kept, gives.request.fits, two), tt)

      pub is_worn : (q.head.kind ≡ 2 → ⊥) → FindsWorn terms s q → Converses IsTold (Serves terms first) i0 i2 o0 o1 (Ok ends.Worn)
      is_worn no_disc worn =
          ends_here (Ok ends.Worn) (
            record {
              requests = [];
              rest = all;
              spelled = refl;
              said = refl;
              answered = tt;
              ends = inr (refl, record { message = q; more = new.kept; spelled = spelled; answered = record { request = gives.request; no_disc = no_disc }; worn = worn });
            },
            tt,
          )

      module _ (lone served : Whole) (reply : ReplyMessage) (of : lone.state ≡ s) (at : lone.terms ≡ terms) (h : IsServed lone served q reply) (no_disc : q.head.kind ≡ 2 → ⊥) where
        fresh : FindsWorn terms s q → ⊥
        fresh = subst (λ (x : Alone). FindsWorn terms x q → ⊥) of (is_fresh terms lone served q reply at h)

        says : reply_text reply ≡ reply_to terms s q
        says = subst (λ (x : Alone). reply_text reply ≡ reply_to terms x q) of (told terms lone served q reply at h)

        leads : served.state ≡ after terms s q
        leads = subst (λ (x : Alone). served.state ≡ after terms x q) of (led terms lone served q reply at h)

        answered : IsAnswered q
        answered = record { request = gives.request; no_disc = no_disc }

        part_said : (front back : List ℕ) → front ++ back ≡ reply_text reply → IsBeginning (Serves terms s) all front
        part_said front back whole =
            let some = some_serving terms (after terms s q) new.kept behind_bytes in
            let later = goes_on terms s q new.kept some.0 some.1 answered fresh some.2 in
            let text : reply_to terms s q ++ some.0 ≡ front ++ (back ++ some.0) = ap (λ (x : List ℕ). x ++ some.0) (sym says ∙ sym whole) ∙ append_assoc front back some.0 in
            (back ++ some.0, some.1, subst (λ (x : List ℕ). Serves terms s all x some.1) text (subst (λ (x : List ℕ). Serves terms s x (reply_to terms s q ++ some.0) some.1) (sym spelled) later))

        pub is_part : (o2 : Option (List ℕ)) (fault : TalkFault) → WritesPart o1 o2 (reply_text reply) → (fault ≡ faults.ReadFailed → ⊥) → Converses IsTold (Serves terms first) i0 i2 o0 o2 (Err fault)
        is_part o2 faults.ReadFailed part never = absurd (never refl)
        is_part o2 faults.WriteFailed part never = kept_converses i2 o2 n.bytes part.0 (Err faults.WriteFailed) n.took part.3 (part_said part.0 part.1 part.2)
        is_part o2 faults.NoMemory part never = kept_converses i2 o2 n.bytes part.0 (Err faults.NoMemory) n.took part.3 (part_said part.0 part.1 part.2)

        pub keeps_on : (o2 : Option (List ℕ)) → Appends o1 o2 (reply_text reply) → Keeping terms first served.state new.kept i0 i2 o0 o2
        keeps_on o2 gave = record {
          front = k.front ++ request_text q;
          text = k.text ++ reply_text reply;
          took = subst (Consumes i0 i2) (append_assoc k.front kept n.bytes ∙ (ap (λ (x : List ℕ). k.front ++ x) spelled ∙ sym (append_assoc k.front (request_text q) new.kept))) (Consumes-then i0 i1 i2 (k.front ++ kept) n.bytes k.took n.took);
          gave = Appends-then o0 o1 o2 k.text (reply_text reply) k.gave gave;
          are_bytes = behind_bytes;
          onward = λ b t e x.
              subst (λ (y : List ℕ). Serves terms first ((k.front ++ request_text q) ++ b) y e) (ap (λ (z : List ℕ). k.text ++ (z ++ t)) (sym says) ∙ sym (append_assoc k.text (reply_text reply) t))
              (subst (λ (y : List ℕ). Serves terms first y (k.text ++ (reply_to terms s q ++ t)) e) (sym (append_assoc k.front (request_text q) b))
              (k.onward (request_text q ++ b) (reply_to terms s q ++ t) e (goes_on terms s q b t e answered fresh (subst (λ (y : Alone). Serves terms y b t e) leads x))));
        }

-- ---- what the test for DISC tells

pub disc_by : (h head : RequestHead) (test : Bool) → head ≡ h → test ≡ (head.kind == 2) → test ≡ true → h.kind ≡ 2
disc_by h head test is tells yes_it_is = sym (ap (λ (x : RequestHead). x.kind) is) ∙ eqb-true head.kind 2 (sym tells ∙ yes_it_is)

pub no_disc_by : (h head : RequestHead) (test : Bool) → head ≡ h → test ≡ (head.kind == 2) → test ≡ false → h.kind ≡ 2 → ⊥
no_disc_by h head test is tells it_is_not two =
    let t : (head.kind == 2) ≡ true = eq-eqb head.kind 2 (ap (λ (x : RequestHead). x.kind) is ∙ two) in
    let e : true ≡ false = sym t ∙ (sym tells ∙ it_is_not) in
    absurd (cc)

-- how the reading ended tells of no failed write
pub no_write_failed : (P : Type 0) (e : Ending) (answer : Result End TalkFault) → answer ≡ end_by e → answer ≡ Err faults.WriteFailed → P
no_write_failed P e answer ends fails = by e (sym ends ∙ fails)
  where
    by : (e : Ending) → end_by e ≡ Err faults.WriteFailed → P
    by ending.Over f = absurd (cc)
    by ending.Cut f = absurd (cc)
    by ending.BadMagic f = absurd (cc)
    by ending.TooLong f = absurd (cc)
    by ending.ReadFailed f = absurd (cc)
    by ending.NoMemory f = absurd (cc)
