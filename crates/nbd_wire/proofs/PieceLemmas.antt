-- One request after another at the front of some bytes.
use Rattle.std.proofs.Common.{◌≡◌, ◌≢◌, ℕ, ◌+◌, ◌-◌, ◌<◌, ◌≤◌, List, [], ◌∷◌, ◌++◌, Option, Result, length, take, drop, refl, sym, ap, subst, ◌∙◌, arith, append_assoc}
use Rattle.std.specs.List.{AllByRecursion}
use Rattle.std.proofs.lemmas.List.{append-nil, take-append-drop, drop-drop, drop_at, length-take, length-drop, length-append, take_all}
use Rattle.std.proofs.lemmas.List.Concat.{flat_map-append}
use Rattle.nbd_wire.specs.declared.requests.RequestHead.{RequestHead}
use Rattle.nbd_wire.specs.declared.fault.FeedFault.{FeedFault}
use Rattle.nbd_wire.specs.Grammar.{head_text, request_text, RequestMessage, IsHead, IsTooLong, IsRequest, BeginsTooLong}
use Rattle.nbd_wire.specs.Pieces.{texts, IsFirst, Takes}
use Rattle.nbd_wire.proofs.HeadLemmas.{length-head_text}

abbrev made : RequestHead → List ℕ → RequestMessage
made h p = record { head = h; payload = p }

abbrev IsAt : List ℕ → RequestMessage → Type 0
IsAt bytes m = (more : List ℕ) × (bytes ≡ request_text m ++ more) × IsRequest m

pub plain_first : (h : RequestHead) (rest payload : List ℕ) → IsHead h → (IsTooLong h → ⊥) → h.kind ≢ 1 → payload ≡ [] → IsAt (head_text h ++ rest) (made h payload)
plain_first h rest payload fits short ne is = (
  rest,
  ap (λ (t : List ℕ). t ++ rest) (sym (append-nil (head_text h)) ∙ ap (λ (t : List ℕ). head_text h ++ t) (sym is)),
  record { fits = fits; write = λ w. absurd (ne w); short = short; other = λ _. is },
)

pub write_first : (h : RequestHead) (rest payload : List ℕ) → IsHead h → (IsTooLong h → ⊥) → h.kind ≡ 1 → h.length ≤ length rest → payload ≡ take h.length rest → IsAt (head_text h ++ rest) (made h payload)
write_first h rest payload fits short write le is = (
  drop h.length rest,
  ap (λ (t : List ℕ). head_text h ++ t) (sym (take-append-drop h.length rest) ∙ ap (λ (t : List ℕ). t ++ drop h.length rest) (sym is)) ∙ sym (append_assoc (head_text h) payload (drop h.length rest)),
  record { fits = fits; write = λ _. omega (arith, ap length is, length-take h.length rest, le); short = short; other = λ ne. absurd (ne write) },
)

-- bytes whose first 28 are a head's
pub at_head : (bytes front : List ℕ) (h : RequestHead) → front ≡ take 28 bytes → front ≡ head_text h → bytes ≡ head_text h ++ drop 28 bytes
at_head bytes front h is text = sym (take-append-drop 28 bytes) ∙ ap (λ (t : List ℕ). t ++ drop 28 bytes) (sym is ∙ text)

pub take_rest : (n : ℕ) (bytes : List ℕ) → take (length bytes - n) (drop n bytes) ≡ drop n bytes
take_rest n bytes = take_all (length bytes - n) (drop n bytes) (omega (arith, length-drop n bytes))

pub first_behind : (bytes front : List ℕ) (h : RequestHead) (r : Result (Option RequestMessage) FeedFault) → front ≡ take 28 bytes → front ≡ head_text h → IsFirst (head_text h ++ take (length bytes - 28) (drop 28 bytes)) r → IsFirst bytes r
first_behind bytes front h r is text x =
    subst (λ (t : List ℕ). IsFirst t r) (sym (at_head bytes front h is text)) (subst (λ (t : List ℕ). IsFirst (head_text h ++ t) r) (take_rest 28 bytes) x)

pub long_first : (bytes front : List ℕ) (h : RequestHead) → front ≡ take 28 bytes → front ≡ head_text h → IsHead h → IsTooLong h → BeginsTooLong bytes
long_first bytes front h is text fits too = (h, drop 28 bytes, at_head bytes front h is text, fits, too)

-- ---- the requests that were taken so far

pub Takes-none : (bytes : List ℕ) (before : List RequestMessage) → Takes bytes (drop 0 bytes) before before
Takes-none bytes before = record { given = []; spelled = refl; added = sym (append-nil before); each = tt }

each_and : (ms : List RequestMessage) (m : RequestMessage) → AllByRecursion IsRequest ms → IsRequest m → AllByRecursion IsRequest (ms ++ m ∷ [])
each_and [] m h p = (p, tt)
each_and (x ∷ ms) m h p = (h.0, each_and ms m h.1 p)

-- how many bytes the request at the front has
record IsLong (bytes : List ℕ) (n : ℕ) : Type 0 where
  pub within : n ≤ length bytes
  pub some : 0 < n

pub long_first_one : (bytes : List ℕ) (m : RequestMessage) → IsAt bytes m → length m.payload + 28 ≤ length bytes
long_first_one bytes m (more, is, p) = omega (arith, ap length is, length-append (request_text m) more, length-append (head_text m.head) m.payload, length-head_text m.head)

pub Takes-more : (bytes : List ℕ) (at n : ℕ) (old now before : List RequestMessage) (q : RequestMessage) → Takes bytes (drop at bytes) before old → IsAt (drop at bytes) q → n ≡ 28 + length q.payload → now ≡ old ++ q ∷ []
    → Takes bytes (drop (at + n) bytes) before now
Takes-more bytes at n old now before q t (more, is, p) len push =
    let m = q in
    let size : length (request_text m) ≡ n = omega (arith, len, length-append (head_text m.head) m.payload, length-head_text m.head) in
    let rest : drop (at + n) bytes ≡ more = sym (drop-drop n at bytes) ∙ (ap (λ (x : List ℕ). drop n x) is ∙ drop_at (request_text m) more n size) in
    record {
      given = t.given ++ m ∷ [];
      spelled = t.spelled ∙ (ap (λ (x : List ℕ). texts t.given ++ x) (is ∙ ap (λ (x : List ℕ). request_text m ++ x) (sym rest))
          ∙ (sym (append_assoc (texts t.given) (request_text m) (drop (at + n) bytes))
          ∙ ap (λ (x : List ℕ). x ++ drop (at + n) bytes) (ap (λ (x : List ℕ). texts t.given ++ x) (sym (append-nil (request_text m))) ∙ sym (flat_map-append request_text t.given (m ∷ [])))));
      added = push ∙ (ap (λ (x : List RequestMessage). x ++ m ∷ []) t.added ∙ append_assoc before t.given (m ∷ []));
      each = each_and t.given m t.each p;
    }
