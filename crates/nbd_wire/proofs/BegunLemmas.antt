-- WRITEs whose payload came in part.
use Rattle.std.proofs.Common.{◌≡◌, ◌≢◌, ℕ, ◌-◌, ◌<◌, ◌≤◌, List, ◌++◌, length, take, drop, refl, sym, ap, subst, ◌∙◌, arith}
use Rattle.std.proofs.lemmas.List.{take-take, length-append, length-drop}
use Rattle.nbd_wire.specs.declared.requests.RequestHead.{RequestHead}
use Rattle.nbd_wire.specs.declared.fault.WireFault.{WireFault}
use Rattle.nbd_wire.specs.declared.fault.WireFault.TheVariants as faults
use Rattle.nbd_wire.specs.Grammar.{head_text, request_text, request_magic, RequestMessage, IsHead, IsTooLong, IsPartOfWrite}
use Rattle.nbd_wire.specs.Pieces.{IsBegun, IsLong, NoneBegins}
use Rattle.nbd_wire.proofs.HeadLemmas.{length-head_text}
use Rattle.nbd_wire.proofs.OneSpelling.{one_head}
use Rattle.nbd_wire.proofs.PieceLemmas.{at_head, long_first, take_rest}
use Rattle.nbd_wire.proofs.Places.{Place, place_of, place_part, place_other, place_long}

abbrev pub written : RequestHead → List ℕ → RequestMessage
written h p = record { head = h; payload = p }

pub part_of : (m : RequestMessage) (bytes : List ℕ) → IsBegun m → bytes ≡ request_text m → IsPartOfWrite bytes
part_of m bytes b is = (m.head, m.payload, is, b.fits, b.short, b.write, b.part)

pub none_short : (least : ℕ) (bytes : List ℕ) → length bytes < 28 → NoneBegins least bytes
none_short least bytes lt m b is = absurd (omega (arith, ap length is, length-append (head_text m.head) m.payload, length-head_text m.head))

other_place : (least : ℕ) (bytes : List ℕ) (p : Place) → place_of bytes ≡ p → p ≢ Place.unfinished → NoneBegins least bytes
other_place least bytes p at ne m b is = absurd (ne (sym at ∙ place_part bytes (part_of m bytes b is)))

-- no head, or one that is refused
pub none_refused : (least : ℕ) (bytes front : List ℕ) (fault : WireFault) → front ≡ take 28 bytes → 28 ≤ length bytes
    → (fault ≡ faults.BadMagic → take 4 front ≢ request_magic)
    → (fault ≡ faults.TooLong → (h : RequestHead) × (front ≡ head_text h) × IsHead h × IsTooLong h) → NoneBegins least bytes
none_refused least bytes front faults.BadMagic is le bad long =
    let ne : take 4 bytes ≢ request_magic = λ e. bad refl (ap (take 4) is ∙ (take-take 4 28 bytes (omega arith) ∙ e)) in
    other_place least bytes Place.other (place_other bytes (le, ne)) (λ e. cc)
none_refused least bytes front faults.TooLong is le bad long =
    let h = long refl in
    other_place least bytes Place.long (place_long bytes (long_first bytes front h.0 is h.1 h.2 h.3)) (λ e. cc)

module _ (bytes front : List ℕ) (h : RequestHead) (is : front ≡ take 28 bytes) (text : front ≡ head_text h) (fits : IsHead h) where
  whole : bytes ≡ head_text h ++ drop 28 bytes
  whole = at_head bytes front h is text

  -- the head and the payload of a WRITE that begins there
  same : (m : RequestMessage) → IsBegun m → bytes ≡ request_text m → (m.head ≡ h) × (m.payload ≡ drop 28 bytes)
  same m b spelled = one_head m.head h m.payload (drop 28 bytes) b.fits fits (sym spelled ∙ whole)

  pub none_other : (least : ℕ) → h.kind ≢ 1 → NoneBegins least bytes
  none_other least ne m b spelled = absurd (ne (sym (ap (λ (x : RequestHead). x.kind) (same m b spelled).0) ∙ b.write))

  pub none_small : (least : ℕ) → h.length < least → NoneBegins least bytes
  none_small least lt m b spelled = omega (arith, lt, ap (λ (x : RequestHead). x.length) (same m b spelled).0)

  pub none_whole : (least : ℕ) → h.length ≤ length bytes - 28 → NoneBegins least bytes
  none_whole least le m b spelled =
      let s = same m b spelled in
      absurd (omega (arith, le, b.part, ap (λ (x : RequestHead). x.length) s.0, ap length s.1, length-drop 28 bytes))

  pub some_long : (least : ℕ) → (IsTooLong h → ⊥) → h.kind ≡ 1 → least ≤ h.length → length bytes - 28 < h.length → IsLong least bytes (written h (drop 28 bytes))
  some_long least short write le lt = (
    whole,
    record { fits = fits; short = short; write = write; part = omega (arith, lt, length-drop 28 bytes) },
    le,
  )

-- what was copied of them
pub long_copied : (least : ℕ) (bytes payload : List ℕ) (h : RequestHead) → payload ≡ take (length bytes - 28) (drop 28 bytes) → IsLong least bytes (written h (drop 28 bytes)) → IsLong least bytes (written h payload)
long_copied least bytes payload h is long = subst (λ (p : List ℕ). IsLong least bytes (written h p)) (sym (is ∙ take_rest 28 bytes)) long
