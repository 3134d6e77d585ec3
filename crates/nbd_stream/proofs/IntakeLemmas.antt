-- What is taken in by pieces, and what comes behind a payload.
use Rattle.std.proofs.Common.{◌≡◌, ℕ, ◌+◌, ◌<◌, ◌≤◌, ◌⊎◌, false, List, [], ◌∷◌, ◌++◌, Option, Some, None, Ok, Err, reverse, length, take, get_or, refl, sym, ap, subst, ◌∙◌, inl, inr, arith, append_assoc}
use Rattle.std.specs.List.{AllByRecursion}
use Rattle.std.proofs.lemmas.List.{append-nil, length-append, length-take, get_or-take, get_or_past}
use Rattle.std.proofs.lemmas.Bool.{cases_lt}
use Rattle.std.specs.Io.KnownBytes.{Consumes}
use Rattle.nbd_wire.specs.declared.requests.RequestHead.{RequestHead}
use Rattle.nbd_wire.specs.declared.fault.FeedFault.{FeedFault}
use Rattle.nbd_wire.specs.declared.fault.FeedFault.TheVariants as faults
use Rattle.nbd_wire.specs.Grammar.{head_text, request_text, RequestMessage, IsRequest, IsPartOfWrite}
use Rattle.nbd_wire.specs.Pieces.{Decoding, IsBegun}
use Rattle.nbd_wire.proofs.HeadLemmas.{length-head_text}
use Rattle.nbd_stream.proofs.BufferLemmas.{Consumes-none}
use Rattle.nbd_stream.specs.declared.ending.Ending.{Ending}
use Rattle.nbd_stream.specs.Streams.{AreBytes}
use Rattle.nbd_stream.specs.Frames.{kept_of, IsBehindReady, TakesIn, Fetches, IsEnded}
use Rattle.nbd_stream.specs.Intake.{taken_in, nothing_held, IsPartly, Lengthens, EndsWithin}

abbrev pub written : RequestHead → List ℕ → RequestMessage
written h p = record { head = h; payload = p }

-- what a long WRITE that has begun stands for
abbrev pub begun_with : RequestMessage → Decoding
begun_with m = record { held = request_text m; failed = false }

begun_part : (m : RequestMessage) → IsBegun m → IsPartOfWrite (request_text m)
begun_part m b = (m.head, m.payload, refl, b.fits, b.short, b.write, b.part)

pub begun_behind : (m : RequestMessage) → IsBegun m → IsBehindReady None (begun_with m)
begun_behind m b = (refl, inr (begun_part m b))

none_each : (ready : List RequestMessage) → ready ≡ [] → AllByRecursion IsRequest (reverse ready)
none_each ready none = subst (λ (x : List RequestMessage). AllByRecursion IsRequest (reverse x)) (sym none) tt

-- a long WRITE begins
pub takes_begun : (held piece : List ℕ) (m : RequestMessage) (ready : List RequestMessage) → held ≡ [] → piece ≡ request_text m → IsBegun m → ready ≡ [] → TakesIn held piece ready (begun_with m) None
takes_begun held piece m ready empty is b none = record {
  framing = record { each = none_each ready none; behind = begun_behind m b };
  keeps = inl (ap (λ (x : List ℕ). x ++ piece) empty ∙ (is ∙ ap (λ (x : List RequestMessage). kept_of x (request_text m)) (sym none)));
}

-- memory was refused
pub takes_none : (held piece : List ℕ) (ready : List RequestMessage) (d : Decoding) → ready ≡ [] → TakesIn held piece ready d (Some faults.NoMemory)
takes_none held piece ready d none = record { framing = record { each = none_each ready none; behind = tt }; keeps = inr (none, refl) }

-- a request is whole
pub takes_whole : (q : RequestMessage) (before ready : List RequestMessage) → before ≡ [] → ready ≡ before ++ q ∷ [] → IsRequest q → TakesIn [] (request_text q) ready nothing_held None
takes_whole q before ready none push fits =
    let one : ready ≡ q ∷ [] = push ∙ ap (λ (x : List RequestMessage). x ++ q ∷ []) none in
    record {
      framing = record {
        each = subst (λ (x : List RequestMessage). AllByRecursion IsRequest (reverse x)) (sym one) (fits, tt);
        behind = (refl, inl (omega arith));
      };
      keeps = inl (sym (ap (λ (x : List RequestMessage). kept_of x []) one ∙ (append-nil (request_text q ++ []) ∙ append-nil (request_text q))));
    }

pub partly_begun : (m : RequestMessage) → IsPartly m → length m.payload < m.head.length → IsBegun m
partly_begun m p lt = record { fits = p.fits; short = p.short; write = p.write; part = lt }

pub partly_whole : (h : RequestHead) (payload bytes : List ℕ) → IsPartly (written h payload) → h.length ≤ length payload → bytes ≡ payload → IsRequest (written h bytes)
partly_whole h payload bytes p le is = record {
  fits = p.fits;
  write = λ _. omega (arith, ap length is, p.part, le);
  short = p.short;
  other = λ ne. absurd (ne p.write);
}

-- ---- the bytes that came behind a payload

pub begun_partly : (h : RequestHead) (old new : List ℕ) (left later : Option (List ℕ)) → IsBegun (written h old) → Lengthens left later old new h.length → IsPartly (written h new)
begun_partly h old new left later b l = record { fits = b.fits; short = b.short; write = b.write; part = l.within }

module _ (left later : Option (List ℕ)) (before now : ℕ) (m : RequestMessage) (new : List ℕ) (ready : List RequestMessage) (d : Decoding) (fault : Option FeedFault)
    (l : Lengthens left later m.payload new m.head.length) (took : TakesIn [] (head_text m.head ++ new) ready d fault) where
  all : request_text m ++ l.bytes ≡ head_text m.head ++ new
  all = append_assoc (head_text m.head) m.payload l.bytes ∙ ap (λ (t : List ℕ). head_text m.head ++ t) (sym l.added)

  pub went_on : now ≡ before → Fetches left later before now (request_text m) ready d (Ok fault)
  went_on kept = record {
    bytes = l.bytes;
    took = l.took;
    are_bytes = l.are_bytes;
    fetched = (record { framing = took.framing; keeps = by took.keeps }, kept);
  }
    where
      by : ((head_text m.head ++ new ≡ kept_of ready d.held) ⊎ ((ready ≡ []) × (fault ≡ Some faults.NoMemory))) → ((request_text m ++ l.bytes ≡ kept_of ready d.held) ⊎ ((ready ≡ []) × (fault ≡ Some faults.NoMemory)))
      by (inl e) = inl (all ∙ e)
      by (inr lost) = inr lost

  pub went_longer : fault ≡ None → ready ≡ [] → length (request_text m) < length d.held
  went_longer none empty = by took.keeps
    where
      by : ((head_text m.head ++ new ≡ kept_of ready d.held) ⊎ ((ready ≡ []) × (fault ≡ Some faults.NoMemory))) → length (request_text m) < length d.held
      by (inl e) =
          let held : head_text m.head ++ new ≡ d.held = e ∙ ap (λ (x : List RequestMessage). kept_of x d.held) empty in
          omega (arith, ap length (all ∙ held), length-append (request_text m) l.bytes, l.some)
      by (inr (_, lost)) = let e : None ≡ Some faults.NoMemory = sym none ∙ lost in absurd (cc)

-- memory was refused before anything was read
pub took_none : (left later : Option (List ℕ)) (before now : ℕ) (held : List ℕ) (ready : List RequestMessage) (d : Decoding) → later ≡ left → now ≡ before → ready ≡ [] → Fetches left later before now held ready d (Ok (Some faults.NoMemory))
took_none left later before now held ready d same kept none = record {
  bytes = [];
  took = subst (λ (x : Option (List ℕ)). Consumes left x []) (sym same) (Consumes-none left);
  are_bytes = λ i. omega arith;
  fetched = (takes_none held [] ready d none, kept);
}

-- the reading ended within a long WRITE, and it is dropped
pub ended_within : (left later : Option (List ℕ)) (before now : ℕ) (m : RequestMessage) (ready : List RequestMessage) (e : Ending) → IsBegun m → ready ≡ [] → EndsWithin left later before now e → Fetches left later before now (request_text m) ready nothing_held (Err e)
ended_within left later before now m ready e b none ends =
    let some : 0 < length (request_text m) = omega (arith, length-append (head_text m.head) m.payload, length-head_text m.head) in
    let all : request_text m ++ [] ≡ request_text m = append-nil (request_text m) in
    record {
      bytes = [];
      took = ends.took;
      are_bytes = λ i. omega arith;
      fetched = (
        subst (IsEnded e) (sym all) (ends.stands (request_text m) some (inr (begun_part m b))),
        ends.reader,
        none,
        (refl, inl (omega arith)),
      );
    }

bytes_in_front : (room : List ℕ) (n : ℕ) → n ≤ length room → ((i : ℕ) → get_or room i 0 < 256) → AreBytes (take n room)
bytes_in_front room n short fit i =
    elim (cases_lt i n) [
      | inl lt ↦ omega (arith, get_or-take n room i 0 lt, fit i)
      | inr past ↦ rw (get_or_past (take n room) i 0 (omega (arith, past, length-take n room))) (omega arith)
    ]

-- bytes were read for a payload
pub lengthened : (left later : Option (List ℕ)) (old room : List ℕ) (n whole : ℕ) → n ≤ length room → 0 < n → length old + length room ≤ whole → Consumes left later (take n room)
    → ((i : ℕ) → get_or room i 0 < 256) → Lengthens left later old (old ++ take n room) whole
lengthened left later old room n whole short some bound took fit =
    let count : length (take n room) ≡ n = omega (arith, length-take n room, short) in
    record {
      bytes = take n room;
      took = took;
      are_bytes = bytes_in_front room n short fit;
      added = refl;
      some = omega (arith, count, some);
      within = omega (arith, length-append old (take n room), count, short, bound);
    }

-- nothing was taken out of the decoder
pub not_begun : (begun : Option RequestMessage) (d : Decoding) → begun ≡ None → taken_in begun d ≡ d
not_begun begun d none = ap (λ (b : Option RequestMessage). taken_in b d) none
