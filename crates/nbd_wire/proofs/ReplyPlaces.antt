-- Replies at the front of some bytes.
use Rattle.std.proofs.Common.{◌≡◌, ℕ, List, ◌++◌, length, take, drop, refl, sym, ap, ◌∙◌, append_assoc}
use Rattle.std.specs.Int.{w32, w64, from_be_bytes}
use Rattle.std.proofs.lemmas.List.{take_at, drop_at}
use Rattle.nbd_wire.specs.Grammar.{ReplyMessage, IsReply, IsOptionReply, reply_head_text, reply_text, option_reply_head_text, option_reply_text}
use Rattle.nbd_wire.proofs.FieldLemmas.{wide32, wide64}

pub length-reply_head_text : (error cookie : ℕ) → length (reply_head_text error cookie) ≡ 16
unfolding reply_head_text
length-reply_head_text error cookie = refl

error_of : (r : ReplyMessage) (more : List ℕ) → IsReply r → from_be_bytes w32 (take 4 (drop 4 (reply_text r ++ more))) ≡ r.error
unfolding reply_head_text
error_of r more p = wide32.again r.error p.error

cookie_of : (r : ReplyMessage) (more : List ℕ) → IsReply r → from_be_bytes w64 (take 8 (drop 8 (reply_text r ++ more))) ≡ r.cookie
unfolding reply_head_text
cookie_of r more p = wide64.again r.cookie p.cookie

behind_of : (r : ReplyMessage) (more : List ℕ) → drop 16 (reply_text r ++ more) ≡ r.content ++ more
behind_of r more =
    ap (λ (t : List ℕ). drop 16 t) (append_assoc (reply_head_text r.error r.cookie) r.content more)
    ∙ drop_at (reply_head_text r.error r.cookie) (r.content ++ more) 16 (length-reply_head_text r.error r.cookie)

same_reply : (a b : ReplyMessage) → a.error ≡ b.error → a.cookie ≡ b.cookie → a.content ≡ b.content → a ≡ b
same_reply a b e c t =
    let made : ℕ → ℕ → List ℕ → ReplyMessage = λ x y z. record { error = x; cookie = y; content = z } in
    let r : made a.error a.cookie a.content ≡ made b.error b.cookie b.content = rw (e, c, t) refl in
    r

pub one_reply : (a b : ReplyMessage) (x y : List ℕ) → IsReply a → IsReply b → length a.content ≡ length b.content
    → reply_text a ++ x ≡ reply_text b ++ y → (a ≡ b) × (x ≡ y)
one_reply a b x y p q len e =
    let error : a.error ≡ b.error = sym (error_of a x p) ∙ (ap (λ (t : List ℕ). from_be_bytes w32 (take 4 (drop 4 t))) e ∙ error_of b y q) in
    let cookie : a.cookie ≡ b.cookie = sym (cookie_of a x p) ∙ (ap (λ (t : List ℕ). from_be_bytes w64 (take 8 (drop 8 t))) e ∙ cookie_of b y q) in
    let behind : a.content ++ x ≡ b.content ++ y = sym (behind_of a x) ∙ (ap (λ (t : List ℕ). drop 16 t) e ∙ behind_of b y) in
    let content : a.content ≡ b.content = sym (take_at a.content x (length a.content) refl) ∙ (ap (λ (t : List ℕ). take (length a.content) t) behind ∙ take_at b.content y (length a.content) (sym len)) in (
      same_reply a b error cookie content,
      sym (drop_at a.content x (length a.content) refl) ∙ (ap (λ (t : List ℕ). drop (length a.content) t) behind ∙ drop_at b.content y (length a.content) (sym len)),
    )

-- ---- replies to options
length-option_reply_head_text : (option kind count : ℕ) → length (option_reply_head_text option kind count) ≡ 20
unfolding option_reply_head_text
length-option_reply_head_text option kind count = refl

abbrev field_at : ℕ → List ℕ → ℕ
field_at at bytes = from_be_bytes w32 (take 4 (drop at bytes))

abbrev behind : List ℕ → List ℕ
behind bytes = drop 20 bytes

fields_of : (option kind : ℕ) (content more : List ℕ) → IsOptionReply option kind content → (field_at 8 (option_reply_text option kind content ++ more) ≡ option) × (field_at 12 (option_reply_text option kind content ++ more) ≡ kind) × (field_at 16 (option_reply_text option kind content ++ more) ≡ length content)
unfolding option_reply_head_text
fields_of option kind content more is = (wide32.again option is.option, wide32.again kind is.kind, wide32.again (length content) is.count)

behind_option_reply : (option kind : ℕ) (content more : List ℕ) → behind (option_reply_text option kind content ++ more) ≡ content ++ more
behind_option_reply option kind content more =
    ap behind (append_assoc (option_reply_head_text option kind (length content)) content more)
    ∙ drop_at (option_reply_head_text option kind (length content)) (content ++ more) 20 (length-option_reply_head_text option kind (length content))

pub one_option_reply : (o k p l : ℕ) (c d x y : List ℕ) → IsOptionReply o k c → IsOptionReply p l d
    → option_reply_text o k c ++ x ≡ option_reply_text p l d ++ y → (o ≡ p) × (k ≡ l) × (c ≡ d) × (x ≡ y)
one_option_reply o k p l c d x y f g e =
    let one = fields_of o k c x f in
    let two = fields_of p l d y g in
    let len : length c ≡ length d = sym one.2 ∙ (ap (field_at 16) e ∙ two.2) in
    let rest : c ++ x ≡ d ++ y = sym (behind_option_reply o k c x) ∙ (ap behind e ∙ behind_option_reply p l d y) in (
      sym one.0 ∙ (ap (field_at 8) e ∙ two.0),
      sym one.1 ∙ (ap (field_at 12) e ∙ two.1),
      sym (take_at c x (length c) refl) ∙ (ap (λ (t : List ℕ). take (length c) t) rest ∙ take_at d y (length c) (sym len)),
      sym (drop_at c x (length c) refl) ∙ (ap (λ (t : List ℕ). drop (length c) t) rest ∙ drop_at d y (length c) (sym len)),
    )
