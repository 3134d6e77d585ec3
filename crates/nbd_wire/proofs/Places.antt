-- What stands at a request's place is one of four: less than a request, another magic, a head that is too long, or a whole request.
use Rattle.std.proofs.Common.{◌≡◌, ℕ, ◌^◌, ◌<◌, ◌≤◌, ◌⊎◌, cond, ltb, eqb, List, [], ◌++◌, length, take, drop, refl, sym, ap, ◌∙◌, arith, inl, inr}
use Rattle.std.specs.Int.{w16, w32, w64, from_be_bytes}
use Rattle.std.specs.Str.{bytes_eq}
use Rattle.std.proofs.lemmas.Bool.{cases_lt, cases_eq, cases_Bool, cond-true, cond-false, lt-ltb, le-ltb, eq-eqb, ne_eqb, false_from_ne_true, false≢true}
use Rattle.std.proofs.lemmas.List.{take_at, drop_at, take-append-drop, take-take, length-take, length-append, append_assoc}
use Rattle.std.proofs.lemmas.Slice.Eq.{bytes_eq-Decides}
use Rattle.nbd_wire.specs.declared.requests.RequestHead.{RequestHead}
use Rattle.nbd_wire.specs.Grammar.{head_text, request_text, request_magic, RequestMessage, IsHead, IsTooLong, IsRequest, IsPartOfWrite, IsUnfinished, BeginsOther, BeginsTooLong, BeginsWhole}
use Rattle.nbd_wire.proofs.FieldLemmas.{IsBytes, IsBytes-take, IsBytes-drop, wide16, wide32, wide64}
use Rattle.nbd_wire.proofs.HeadLemmas.{length-head_text, head_spelled}
use Rattle.nbd_wire.proofs.OneSpelling.{one_head}

pub data Place : Type 0 where
  unfinished other long whole : Place

-- ---- the head at a place

abbrev pub head_at : List ℕ → RequestHead
head_at bytes = record {
  flags = from_be_bytes w16 (take 2 (drop 4 bytes));
  kind = from_be_bytes w16 (take 2 (drop 6 bytes));
  cookie = from_be_bytes w64 (take 8 (drop 8 bytes));
  offset = from_be_bytes w64 (take 8 (drop 16 bytes));
  length = from_be_bytes w32 (take 4 (drop 24 bytes));
}

abbrev made : ℕ → ℕ → ℕ → ℕ → ℕ → RequestHead
made f k c o n = record { flags = f; kind = k; cookie = c; offset = o; length = n }

pub head_at-text : (h : RequestHead) (more : List ℕ) → IsHead h → head_at (head_text h ++ more) ≡ h
unfolding head_text
head_at-text h more p =
    let f : from_be_bytes w16 (take 2 (drop 4 (head_text h ++ more))) ≡ h.flags = wide16.again h.flags p.flags in
    let k : from_be_bytes w16 (take 2 (drop 6 (head_text h ++ more))) ≡ h.kind = wide16.again h.kind p.kind in
    let c : from_be_bytes w64 (take 8 (drop 8 (head_text h ++ more))) ≡ h.cookie = wide64.again h.cookie p.cookie in
    let o : from_be_bytes w64 (take 8 (drop 16 (head_text h ++ more))) ≡ h.offset = wide64.again h.offset p.offset in
    let n : from_be_bytes w32 (take 4 (drop 24 (head_text h ++ more))) ≡ h.length = wide32.again h.length p.count in
    ap (λ (x : ℕ). made x (from_be_bytes w16 (take 2 (drop 6 (head_text h ++ more)))) (from_be_bytes w64 (take 8 (drop 8 (head_text h ++ more)))) (from_be_bytes w64 (take 8 (drop 16 (head_text h ++ more)))) (from_be_bytes w32 (take 4 (drop 24 (head_text h ++ more))))) f
    ∙ (ap (λ (x : ℕ). made h.flags x (from_be_bytes w64 (take 8 (drop 8 (head_text h ++ more)))) (from_be_bytes w64 (take 8 (drop 16 (head_text h ++ more)))) (from_be_bytes w32 (take 4 (drop 24 (head_text h ++ more))))) k
    ∙ (ap (λ (x : ℕ). made h.flags h.kind x (from_be_bytes w64 (take 8 (drop 16 (head_text h ++ more)))) (from_be_bytes w32 (take 4 (drop 24 (head_text h ++ more))))) c
    ∙ (ap (λ (x : ℕ). made h.flags h.kind h.cookie x (from_be_bytes w32 (take 4 (drop 24 (head_text h ++ more))))) o
    ∙ ap (λ (x : ℕ). made h.flags h.kind h.cookie h.offset x) n)))

magic_at : (h : RequestHead) (more : List ℕ) → take 4 (head_text h ++ more) ≡ request_magic
unfolding head_text
magic_at h more = refl

-- ---- which of the four

abbrev by_head : RequestHead → ℕ → Place
by_head h n = cond (eqb h.kind 1) (cond (ltb 33554432 h.length) long (cond (ltb n h.length) unfinished whole)) whole

abbrev pub place_of : List ℕ → Place
place_of bytes = cond (ltb (length bytes) 28) unfinished (cond (bytes_eq (take 4 bytes) request_magic) (by_head (head_at bytes) (length (drop 28 bytes))) other)

long_head : (h : RequestHead) (more : List ℕ) → 28 ≤ length (head_text h ++ more)
long_head h more = omega (arith, length-append (head_text h) more, length-head_text h)

place_head : (h : RequestHead) (more : List ℕ) → IsHead h → place_of (head_text h ++ more) ≡ by_head h (length more)
place_head h more p =
    cond-false (ltb (length (head_text h ++ more)) 28) _ _ (le-ltb _ _ (long_head h more))
    ∙ (cond-true (bytes_eq (take 4 (head_text h ++ more)) request_magic) _ _ ((bytes_eq-Decides _ _).1 (magic_at h more))
    ∙ (ap (λ (x : RequestHead). by_head x (length (drop 28 (head_text h ++ more)))) (head_at-text h more p)
    ∙ ap (λ (t : List ℕ). by_head h (length t)) (drop_at (head_text h) more 28 (length-head_text h))))

pub place_short : (bytes : List ℕ) → length bytes < 28 → place_of bytes ≡ unfinished
place_short bytes lt = cond-true (ltb (length bytes) 28) _ _ (lt-ltb _ _ lt)

pub place_other : (bytes : List ℕ) → BeginsOther bytes → place_of bytes ≡ other
place_other bytes h =
    cond-false (ltb (length bytes) 28) _ _ (le-ltb _ _ h.0)
    ∙ cond-false (bytes_eq (take 4 bytes) request_magic) _ _ (false_from_ne_true _ (λ t. h.1 ((bytes_eq-Decides _ _).0 t)))

not_long : (h : RequestHead) → h.kind ≡ 1 → (IsTooLong h → ⊥) → h.length ≤ 33554432
not_long h write short =
    elim (cases_lt 33554432 h.length) [
      | inl lt ↦ absurd (short (record { write = write; long = lt }))
      | inr le ↦ le
    ]

pub place_part : (bytes : List ℕ) → IsPartOfWrite bytes → place_of bytes ≡ unfinished
place_part bytes (h, part, spelled, fits, short, write, lt) =
    ap place_of spelled ∙ (place_head h part fits
    ∙ (cond-true (eqb h.kind 1) _ _ (eq-eqb _ _ write)
    ∙ (cond-false (ltb 33554432 h.length) _ _ (le-ltb _ _ (not_long h write short))
    ∙ cond-true (ltb (length part) h.length) _ _ (lt-ltb _ _ lt))))

pub place_unfinished : (bytes : List ℕ) → IsUnfinished bytes → place_of bytes ≡ unfinished
place_unfinished bytes (inl lt) = place_short bytes lt
place_unfinished bytes (inr part) = place_part bytes part

pub place_long : (bytes : List ℕ) → BeginsTooLong bytes → place_of bytes ≡ long
place_long bytes (h, more, spelled, fits, too) =
    ap place_of spelled ∙ (place_head h more fits
    ∙ (cond-true (eqb h.kind 1) _ _ (eq-eqb _ _ too.write)
    ∙ cond-true (ltb 33554432 h.length) _ _ (lt-ltb _ _ too.long)))

pub head_of_whole : (m : RequestMessage) (more : List ℕ) → IsRequest m → head_at (request_text m ++ more) ≡ m.head
head_of_whole m more p = ap head_at (append_assoc (head_text m.head) m.payload more) ∙ head_at-text m.head (m.payload ++ more) p.fits

pub place_whole : (m : RequestMessage) (more : List ℕ) → IsRequest m → place_of (request_text m ++ more) ≡ whole
place_whole m more p =
    ap place_of (append_assoc (head_text m.head) m.payload more) ∙ (place_head m.head (m.payload ++ more) p.fits
    ∙ elim (cases_eq m.head.kind 1) [
      | inl write ↦ cond-true (eqb m.head.kind 1) _ _ (eq-eqb _ _ write)
          ∙ (cond-false (ltb 33554432 m.head.length) _ _ (le-ltb _ _ (not_long m.head write p.short))
          ∙ cond-false (ltb (length (m.payload ++ more)) m.head.length) _ _ (le-ltb _ _ (omega (arith, length-append m.payload more, p.write write))))
      | inr ne ↦ cond-false (eqb m.head.kind 1) _ _ (ne_eqb _ _ ne)
    ])

-- ---- no request begins another, and each has one spelling

same_message : (a b : RequestMessage) → a.head ≡ b.head → a.payload ≡ b.payload → a ≡ b
same_message a b h p =
    let made_of : RequestHead → List ℕ → RequestMessage = λ x y. record { head = x; payload = y } in
    let e : made_of a.head a.payload ≡ made_of b.head b.payload = rw (h, p) refl in
    e

pub one_request : (a b : RequestMessage) (x y : List ℕ) → IsRequest a → IsRequest b → request_text a ++ x ≡ request_text b ++ y → (a ≡ b) × (x ≡ y)
one_request a b x y p q e =
    let heads = one_head a.head b.head (a.payload ++ x) (b.payload ++ y) p.fits q.fits (sym (append_assoc (head_text a.head) a.payload x) ∙ (e ∙ append_assoc (head_text b.head) b.payload y)) in
    let len : length a.payload ≡ length b.payload =
    elim (cases_eq a.head.kind 1) [
      | inl write ↦ p.write write ∙ (ap (λ (h : RequestHead). h.length) heads.0 ∙ sym (q.write (sym (ap (λ (h : RequestHead). h.kind) heads.0) ∙ write)))
      | inr ne ↦ ap length (p.other ne ∙ sym (q.other (λ w. ne (ap (λ (h : RequestHead). h.kind) heads.0 ∙ w))))
    ] in
    let front : a.payload ≡ b.payload = sym (take_at a.payload x (length a.payload) refl) ∙ (ap (λ (t : List ℕ). take (length a.payload) t) heads.1 ∙ take_at b.payload y (length a.payload) (sym len)) in
    let back : x ≡ y = sym (drop_at a.payload x (length a.payload) refl) ∙ (ap (λ (t : List ℕ). drop (length a.payload) t) heads.1 ∙ drop_at b.payload y (length a.payload) (sym len)) in
    (same_message a b heads.0 front, back)

-- ---- one of the four stands there

below16 : (bytes : List ℕ) → IsBytes bytes → from_be_bytes w16 bytes < 2 ^ 16
below16 bytes f = omega (arith, f 0, f 1)

pub below32 : (bytes : List ℕ) → IsBytes bytes → from_be_bytes w32 bytes < 2 ^ 32
below32 bytes f = omega (arith, f 0, f 1, f 2, f 3)

below64 : (bytes : List ℕ) → IsBytes bytes → from_be_bytes w64 bytes < 2 ^ 64
below64 bytes f = omega (arith, f 0, f 1, f 2, f 3, f 4, f 5, f 6, f 7)

part_fits : (n at : ℕ) (bytes : List ℕ) → IsBytes bytes → IsBytes (take n (drop at bytes))
part_fits n at bytes f = IsBytes-take n (drop at bytes) (IsBytes-drop at bytes f)

pub fits_at : (bytes : List ℕ) → IsBytes bytes → IsHead (head_at bytes)
fits_at bytes f = record {
  flags = below16 _ (part_fits 2 4 bytes f);
  kind = below16 _ (part_fits 2 6 bytes f);
  cookie = below64 _ (part_fits 8 8 bytes f);
  offset = below64 _ (part_fits 8 16 bytes f);
  count = below32 _ (part_fits 4 24 bytes f);
}

pub spelled_at : (bytes : List ℕ) → IsBytes bytes → 28 ≤ length bytes → take 4 bytes ≡ request_magic → (h : RequestHead) × IsHead h × (bytes ≡ head_text h ++ drop 28 bytes)
spelled_at bytes f le magic =
    let front = take 28 bytes in
    let g : IsBytes front = IsBytes-take 28 bytes f in
    let m : ℕ = from_be_bytes w32 (take 4 (drop 0 front)) in
    let is : m ≡ 0x25609513 = ap (from_be_bytes w32) (take-take 4 28 bytes (omega arith) ∙ magic) in
    let spelled : front ≡ head_text (head_at front) = head_spelled front m (head_at front) (omega (arith, length-take 28 bytes)) g refl is refl refl refl refl refl in
    (head_at front, fits_at front g, sym (take-append-drop 28 bytes) ∙ ap (λ (t : List ℕ). t ++ drop 28 bytes) spelled)

abbrev pub Sees : List ℕ → Type 0
Sees bytes = (IsUnfinished bytes ⊎ BeginsOther bytes) ⊎ (BeginsTooLong bytes ⊎ BeginsWhole bytes)

behind : (h : RequestHead) (more bytes : List ℕ) → IsHead h → bytes ≡ head_text h ++ more → Sees bytes
behind h more bytes fits spelled =
    elim (cases_eq h.kind 1) [
      | inl write ↦ elim (cases_lt 33554432 h.length) [
        | inl lt ↦ inr (inl (h, more, spelled, fits, record { write = write; long = lt }))
        | inr le ↦ elim (cases_lt (length more) h.length) [
          | inl lt ↦ inl (inl (inr (h, more, spelled, fits, (λ t. absurd (omega (arith, t.long, le))), write, lt)))
          | inr ge ↦ inr (inr (
            record { head = h; payload = take h.length more },
            drop h.length more,
            spelled ∙ (ap (λ (t : List ℕ). head_text h ++ t) (sym (take-append-drop h.length more)) ∙ sym (append_assoc (head_text h) (take h.length more) (drop h.length more))),
            record { fits = fits; write = λ _. omega (arith, length-take h.length more, ge); short = λ t. absurd (omega (arith, t.long, le)); other = λ ne. absurd (ne write) },
          ))
        ]
      ]
      | inr ne ↦ inr (inr (
        record { head = h; payload = [] },
        more,
        spelled ∙ sym (append_assoc (head_text h) [] more),
        record { fits = fits; write = λ w. absurd (ne w); short = λ t. ne t.write; other = λ _. refl },
      ))
    ]

pub look : (bytes : List ℕ) → IsBytes bytes → Sees bytes
look bytes f =
    elim (cases_lt (length bytes) 28) [
      | inl lt ↦ inl (inl (inl lt))
      | inr ge ↦ elim (cases_Bool (bytes_eq (take 4 bytes) request_magic)) [
        | inl t ↦ let s = spelled_at bytes f ge ((bytes_eq-Decides _ _).0 t) in behind s.0 (drop 28 bytes) bytes s.1 s.2
        | inr t ↦ inl (inr (ge, λ e. absurd (false≢true (sym t ∙ (bytes_eq-Decides _ _).1 e))))
      ]
    ]
