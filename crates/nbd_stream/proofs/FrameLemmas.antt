-- What pieces make ready, and what is given of it.
use Rattle.std.proofs.Common.{◌≡◌, ℕ, zero, suc, ◌<◌, ◌⊎◌, true, false, List, [], ◌∷◌, ◌++◌, Option, Some, None, Result, Ok, Err, reverse, length, refl, sym, ap, subst, ◌∙◌, inl, inr, arith, append_assoc}
use Rattle.std.specs.Prelude.{is_err}
use Rattle.std.specs.List.{AllByRecursion}
use Rattle.std.proofs.lemmas.List.{reverse-reverse, reverse-append, length-append, length-reverse, append-nil}
use Rattle.std.proofs.lemmas.Bool.{cases_lt}
use Rattle.std.specs.Io.KnownBytes.{Consumes, Keeps}
use Rattle.nbd_wire.proofs.HeadLemmas.{length-head_text}
use Rattle.nbd_wire.specs.declared.fault.FeedFault.{FeedFault}
use Rattle.nbd_wire.specs.declared.fault.FeedFault.TheVariants as faults
use Rattle.nbd_wire.specs.Grammar.{head_text, request_text, RequestMessage, IsRequest, IsUnfinished, BeginsWhole}
use Rattle.nbd_wire.specs.Pieces.{texts, Takes, Gathers, Feeds, Decoding}
use Rattle.nbd_stream.specs.declared.ending.Ending.{Ending}
use Rattle.nbd_stream.specs.declared.ending.Ending.TheVariants as ends
use Rattle.nbd_stream.specs.Streams.{AreBytes, Rises}
use Rattle.nbd_stream.specs.Frames.{kept_of, IsBehindReady, IsFraming, TakesIn, Fetches, IsFetched, Advances, IsEnded, EndsReader, ending_of}
use Rattle.nbd_stream.proofs.KnownLemmas.{Consumes-then, Consumes-kept}
use Rattle.nbd_stream.proofs.BufferLemmas.{Consumes-none}

-- ---- bytes

bytes_from : (x : ℕ) (rest : List ℕ) → x < 256 → AreBytes rest → AreBytes (x ∷ rest)
bytes_from x rest lt f zero = lt
bytes_from x rest lt f (suc i) = f i

pub append_bytes : (a b : List ℕ) → AreBytes a → AreBytes b → AreBytes (a ++ b)
append_bytes [] b f g = g
append_bytes (x ∷ a) b f g = bytes_from x (a ++ b) (f 0) (append_bytes a b (λ k. f (suc k)) g)

pub no_bytes : AreBytes []
no_bytes i = omega arith

-- ---- one piece

-- the fault that a feed answered
abbrev pub fault_of : {T : Type 0} → Result T FeedFault → Option FeedFault
fault_of (Ok r) = None
fault_of (Err f) = Some f

module _ (held piece : List ℕ) (d : Decoding) (fed ready : List RequestMessage) (turned : ready ≡ reverse fed) where
  back : reverse ready ≡ fed
  back = ap reverse turned ∙ reverse-reverse fed

  kept : Takes (held ++ piece) d.held [] fed → held ++ piece ≡ kept_of ready d.held
  kept t = t.spelled ∙ ap (λ (x : List RequestMessage). texts x ++ d.held) (sym t.added ∙ sym back)

  each : Takes (held ++ piece) d.held [] fed → AllByRecursion IsRequest (reverse ready)
  each t = subst (AllByRecursion IsRequest) (sym t.added ∙ sym back) t.each

  taken : (fault : Option FeedFault) → Takes (held ++ piece) d.held [] fed → IsBehindReady fault d → TakesIn held piece ready d fault
  taken fault t behind = record { framing = record { each = each t; behind = behind }; keeps = inl (kept t) }

  lost : fed ≡ [] → TakesIn held piece ready d (Some faults.NoMemory)
  lost none =
      let empty : ready ≡ [] = turned ∙ ap reverse none in
      record {
        framing = record { each = subst (λ (x : List RequestMessage). AllByRecursion IsRequest (reverse x)) (sym empty) tt; behind = tt };
        keeps = inr (empty, refl);
      }

  gathered : (r : Result (Unit {0}) FeedFault) → d.failed ≡ is_err r → Gathers held piece d.held [] fed r → TakesIn held piece ready d (fault_of r)
  gathered (Ok u) f g = taken None g.0 (f, g.1)
  gathered (Err faults.BadMagic) f g = taken (Some faults.BadMagic) g.0 g.1
  gathered (Err faults.TooLong) f g = taken (Some faults.TooLong) g.0 g.1
  gathered (Err faults.NoMemory) f (inl t) = taken (Some faults.NoMemory) t tt
  gathered (Err faults.NoMemory) f (inr none) = lost none.0
  gathered (Err faults.Failed) f g = absurd g

  pub fed_in : (old : Decoding) (before : List RequestMessage) (r : Result (Unit {0}) FeedFault) → old.held ≡ held → old.failed ≡ false → before ≡ [] → Feeds old piece d before fed r → TakesIn held piece ready d (fault_of r)
  fed_in old before r same well none (inl h) =
      gathered r h.1 (subst (λ (x : List RequestMessage). Gathers held piece d.held x fed r) none (subst (λ (x : List ℕ). Gathers x piece d.held before fed r) same h.2))
  fed_in old before r same well none (inr h) = let e : true ≡ false = sym h.0 ∙ well in absurd (cc)

-- ---- pieces one after another

pub fetched_after : (i0 i1 i2 : Option (List ℕ)) (n0 n1 n2 : ℕ) (h0 h1 bytes : List ℕ) (ready : List RequestMessage) (d : Decoding) (result : Result (Option FeedFault) Ending)
    → Consumes i0 i1 bytes → AreBytes bytes → h0 ++ bytes ≡ h1 → n1 ≡ n0 → Fetches i1 i2 n1 n2 h1 ready d result → Fetches i0 i2 n0 n2 h0 ready d result
fetched_after i0 i1 i2 n0 n1 n2 h0 h1 bytes ready d result took are held same f = record {
  bytes = bytes ++ f.bytes;
  took = Consumes-then i0 i1 i2 bytes f.bytes took f.took;
  are_bytes = append_bytes bytes f.bytes are f.are_bytes;
  fetched = by result f.fetched;
}
  where
    all : h0 ++ (bytes ++ f.bytes) ≡ h1 ++ f.bytes
    all = sym (append_assoc h0 bytes f.bytes) ∙ ap (λ (t : List ℕ). t ++ f.bytes) held

    keeps : (fault : Option FeedFault) → ((h1 ++ f.bytes ≡ kept_of ready d.held) ⊎ ((ready ≡ []) × (fault ≡ Some faults.NoMemory))) → ((h0 ++ (bytes ++ f.bytes) ≡ kept_of ready d.held) ⊎ ((ready ≡ []) × (fault ≡ Some faults.NoMemory)))
    keeps fault (inl e) = inl (all ∙ e)
    keeps fault (inr e) = inr e

    reads : (e : Ending) → EndsReader e i2 n1 n2 → EndsReader e i2 n0 n2
    reads e h = subst (λ (n : ℕ). EndsReader e i2 n n2) same h

    by : (r : Result (Option FeedFault) Ending) → IsFetched h1 f.bytes ready d i2 n1 n2 r → IsFetched h0 (bytes ++ f.bytes) ready d i2 n0 n2 r
    by (Ok fault) g = (record { framing = g.0.framing; keeps = keeps fault g.0.keeps }, g.1 ∙ same)
    by (Err e) g = (subst (IsEnded e) (sym all) g.0, reads e g.1, g.2, g.3)

pub short_unfinished : (bytes : List ℕ) → IsUnfinished bytes → length bytes < 33554461
short_unfinished bytes (inl lt) = omega (arith, lt)
short_unfinished bytes (inr (h, part, is, fits, short, write, lt)) =
    elim (cases_lt 33554432 h.length) [
      | inl big ↦ absurd (short (record { write = write; long = big }))
      | inr le ↦ omega (arith, ap length is, length-append (head_text h) part, length-head_text h, lt, le)
    ]

-- ---- one request after another

-- the first request that is ready, and what is kept behind it
pub popped : (ready rest : List RequestMessage) (q : RequestMessage) (held : List ℕ) → ready ≡ rest ++ q ∷ [] → AllByRecursion IsRequest (reverse ready)
    → (kept_of ready held ≡ request_text q ++ kept_of rest held) × IsRequest q × AllByRecursion IsRequest (reverse rest)
popped ready rest q held is each =
    let turned : reverse ready ≡ q ∷ reverse rest = ap reverse is ∙ reverse-append rest (q ∷ []) in
    let all : AllByRecursion IsRequest (q ∷ reverse rest) = subst (AllByRecursion IsRequest) turned each in
    (ap (λ (x : List RequestMessage). texts x ++ held) turned ∙ append_assoc (request_text q) (texts (reverse rest)) held, all.0, all.1)

-- one that was ready
pub ready_given : (left : Option (List ℕ)) (n : ℕ) (ready rest : List RequestMessage) (q : RequestMessage) (held : List ℕ) → ready ≡ rest ++ q ∷ [] → AllByRecursion IsRequest (reverse ready)
    → Advances left left n n ready held rest held (Ok q)
ready_given left n ready rest q held is each =
    let p = popped ready rest q held is each in
    record { bytes = []; took = Consumes-none left; are_bytes = no_bytes; advanced = (append-nil (kept_of ready held) ∙ p.0, p.1, refl) }

ended_by : (fault : FeedFault) (d : Decoding) → IsBehindReady (Some fault) d → IsEnded (ending_of fault) d.held
ended_by faults.BadMagic d h = h
ended_by faults.TooLong d h = h
ended_by faults.NoMemory d h = tt
ended_by faults.Failed d h = absurd h

-- no read failed where a fault of the decoder is told
none_failed : (fault : FeedFault) (left : Option (List ℕ)) (before now : ℕ) → now ≡ before → EndsReader (ending_of fault) left before now
none_failed faults.BadMagic left before now same = same
none_failed faults.TooLong left before now same = same
none_failed faults.NoMemory left before now same = same
none_failed faults.Failed left before now same = same

-- a fault that was met before
pub fault_told : (left : Option (List ℕ)) (n : ℕ) (ready rest : List RequestMessage) (d : Decoding) (fault : FeedFault) → ready ≡ [] → IsBehindReady (Some fault) d → Advances left left n n ready d.held rest d.held (Err (ending_of fault))
fault_told left n ready rest d fault none behind =
    let all : kept_of ready d.held ++ [] ≡ d.held = append-nil (kept_of ready d.held) ∙ ap (λ (x : List RequestMessage). kept_of x d.held) none in
    record {
      bytes = [];
      took = Consumes-none left;
      are_bytes = no_bytes;
      advanced = (subst (IsEnded (ending_of fault)) (sym all) (ended_by fault d behind), none_failed fault left n n refl);
    }

-- with what was read
module _ (i0 i1 : Option (List ℕ)) (n0 n1 : ℕ) (old_ready ready : List RequestMessage) (held : List ℕ) (d : Decoding) (none : old_ready ≡ []) where
  nothing_ready : (bytes : List ℕ) → kept_of old_ready held ++ bytes ≡ held ++ bytes
  nothing_ready bytes = ap (λ (x : List RequestMessage). kept_of x held ++ bytes) none

  pub reading_ended : (e : Ending) → Fetches i0 i1 n0 n1 held ready d (Err e) → Advances i0 i1 n0 n1 old_ready held ready d.held (Err e)
  reading_ended e f = record {
    bytes = f.bytes;
    took = f.took;
    are_bytes = f.are_bytes;
    advanced = (subst (IsEnded e) (sym (nothing_ready f.bytes)) f.fetched.0, f.fetched.1);
  }

  pub ended_framing : (e : Ending) → Fetches i0 i1 n0 n1 held ready d (Err e) → IsFraming ready None d
  ended_framing e f = record { each = subst (λ (x : List RequestMessage). AllByRecursion IsRequest (reverse x)) (sym f.fetched.2) tt; behind = f.fetched.3 }

  pub request_read : (fault : Option FeedFault) (rest : List RequestMessage) (q : RequestMessage) → Fetches i0 i1 n0 n1 held ready d (Ok fault) → ready ≡ rest ++ q ∷ [] → Advances i0 i1 n0 n1 old_ready held rest d.held (Ok q)
  request_read fault rest q f is =
      let p = popped ready rest q d.held is f.fetched.0.framing.each in
      record {
        bytes = f.bytes;
        took = f.took;
        are_bytes = f.are_bytes;
        advanced = (nothing_ready f.bytes ∙ (by f.fetched.0.keeps ∙ p.0), p.1, f.fetched.1);
      }
    where
      some_left : (xs : List RequestMessage) → xs ++ q ∷ [] ≡ [] → ⊥
      some_left [] e = cc
      some_left (x ∷ xs) e = cc

      by : ((held ++ f.bytes ≡ kept_of ready d.held) ⊎ ((ready ≡ []) × (fault ≡ Some faults.NoMemory))) → held ++ f.bytes ≡ kept_of ready d.held
      by (inl e) = e
      by (inr (empty, lost)) = absurd (some_left rest (sym is ∙ empty))

  pub fault_read : (fault : FeedFault) (rest : List RequestMessage) → Fetches i0 i1 n0 n1 held ready d (Ok (Some fault)) → ready ≡ [] → Advances i0 i1 n0 n1 old_ready held rest d.held (Err (ending_of fault))
  fault_read fault rest f empty =
      record {
        bytes = f.bytes;
        took = f.took;
        are_bytes = f.are_bytes;
        advanced = (subst (IsEnded (ending_of fault)) (sym (nothing_ready f.bytes)) (by f.fetched.0.keeps), none_failed fault i1 n0 n1 f.fetched.1);
      }
    where
      lost_end : (x : FeedFault) → Some x ≡ Some faults.NoMemory → (bytes : List ℕ) → IsEnded (ending_of x) bytes
      lost_end faults.BadMagic e bytes = absurd (cc)
      lost_end faults.TooLong e bytes = absurd (cc)
      lost_end faults.NoMemory e bytes = tt
      lost_end faults.Failed e bytes = absurd (cc)

      by : ((held ++ f.bytes ≡ kept_of ready d.held) ⊎ ((ready ≡ []) × (Some fault ≡ Some faults.NoMemory))) → IsEnded (ending_of fault) (held ++ f.bytes)
      by (inl e) = subst (IsEnded (ending_of fault)) (sym (e ∙ ap (λ (x : List RequestMessage). kept_of x d.held) empty)) (ended_by fault d f.fetched.0.framing.behind)
      by (inr (none, lost)) = lost_end fault lost (held ++ f.bytes)

pub popped_framing : (ready rest : List RequestMessage) (q : RequestMessage) (fault : Option FeedFault) (d : Decoding) → ready ≡ rest ++ q ∷ [] → IsFraming ready fault d → IsFraming rest fault d
popped_framing ready rest q fault d is h = record { each = (popped ready rest q d.held is h.each).2; behind = h.behind }

-- a read failed, which took nothing
pub read_failed : (left later : Option (List ℕ)) (before now : ℕ) (d : Decoding) (ready : List RequestMessage) → Keeps left later → Rises before now → ready ≡ [] → IsBehindReady None d → Fetches left later before now d.held ready d (Err ends.ReadFailed)
read_failed left later before now d ready kept rises none well = record {
  bytes = [];
  took = Consumes-kept left later kept;
  are_bytes = no_bytes;
  fetched = (subst IsUnfinished (sym (append-nil d.held)) well.1, rises, none, well);
}

-- no memory was there for a piece
pub no_piece : (left : Option (List ℕ)) (n : ℕ) (d : Decoding) (ready : List RequestMessage) → ready ≡ [] → IsBehindReady None d → Fetches left left n n d.held ready d (Err ends.NoMemory)
no_piece left n d ready none well = record { bytes = []; took = Consumes-none left; are_bytes = no_bytes; fetched = (tt, refl, none, well) }

-- a piece made no request ready, and met no fault
pub record IsLonger (left later : Option (List ℕ)) (before now : ℕ) (held : List ℕ) (d : Decoding) : Type 0 where
  pub bytes : List ℕ
  pub took : Consumes left later bytes
  pub are_bytes : AreBytes bytes
  pub longer : held ++ bytes ≡ d.held
  pub well : IsBehindReady None d
  pub none_failed : now ≡ before

pub longer_by : (left later : Option (List ℕ)) (before now : ℕ) (held : List ℕ) (ready : List RequestMessage) (d : Decoding) (fault : Option FeedFault) → fault ≡ None → ready ≡ [] → Fetches left later before now held ready d (Ok fault) → IsLonger left later before now held d
longer_by left later before now held ready d None nothing empty f = record {
  bytes = f.bytes;
  took = f.took;
  are_bytes = f.are_bytes;
  longer = by f.fetched.0.keeps ∙ ap (λ (x : List RequestMessage). kept_of x d.held) empty;
  well = f.fetched.0.framing.behind;
  none_failed = f.fetched.1;
}
  where
    by : ((held ++ f.bytes ≡ kept_of ready d.held) ⊎ ((ready ≡ []) × (None ≡ Some faults.NoMemory))) → held ++ f.bytes ≡ kept_of ready d.held
    by (inl e) = e
    by (inr (none, lost)) = absurd (cc)
longer_by left later before now held ready d (Some x) nothing empty f = absurd (cc)

-- the first request that is ready stands first in the bytes that are kept
ready_behind : (requests : List RequestMessage) (held : List ℕ) → AllByRecursion IsRequest requests → 0 < length requests → BeginsWhole (texts requests ++ held)
ready_behind [] held each some = absurd (omega arith)
ready_behind (m ∷ ms) held each some = (m, texts ms ++ held, append_assoc (request_text m) (texts ms) held, each.0)

pub begins_ready : (ready : List RequestMessage) (held : List ℕ) → AllByRecursion IsRequest (reverse ready) → 0 < length ready → BeginsWhole (kept_of ready held)
begins_ready ready held each some = ready_behind (reverse ready) held each (omega (arith, length-reverse ready))
