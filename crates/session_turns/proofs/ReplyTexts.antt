-- Texts and data of replies one behind another.
use Rattle.std.proofs.Common.{◌≡◌, ℕ, ◌+◌, ◌*◌, ◌<◌, List, [], ◌∷◌, ◌++◌, length, take, get_or, refl, sym, ap, ◌∙◌, arith}
use Rattle.std.proofs.lemmas.List.{append-nil, take_more, length-append}
use Rattle.std.proofs.lemmas.Grind.{flat_map-append}
use Rattle.nbd_wire.specs.Grammar.{ReplyMessage, reply_text, reply_head_text}
use Rattle.nbd_wire.proofs.ReplyPlaces.{length-reply_head_text}
use Rattle.session_turns.specs.Outgoing.{texts_of, data_of}

pub texts-append : (xs ys : List ReplyMessage) → texts_of (xs ++ ys) ≡ texts_of xs ++ texts_of ys
texts-append xs ys = flat_map-append reply_text xs ys

-- one more
pub texts_more : (xs : List ReplyMessage) (i : ℕ) (r : ReplyMessage) → i < length xs → r ≡ get_or xs i r → texts_of (take i xs) ++ reply_text r ≡ texts_of (take (i + 1) xs)
texts_more xs i r lt is =
    let one : take (i + 1) xs ≡ take i xs ++ r ∷ [] = take_more xs i r lt ∙ ap (λ (x : ReplyMessage). take i xs ++ x ∷ []) (sym is) in
    sym (ap texts_of one ∙ (texts-append (take i xs) (r ∷ []) ∙ ap (λ (t : List ℕ). texts_of (take i xs) ++ t) (append-nil (reply_text r))))

pub data_more : (xs : List ReplyMessage) (i : ℕ) (r : ReplyMessage) → i < length xs → r ≡ get_or xs i r → length (data_of (take (i + 1) xs)) ≡ length (data_of (take i xs)) + length r.content
data_more xs i r lt is =
    let one : take (i + 1) xs ≡ take i xs ++ r ∷ [] = take_more xs i r lt ∙ ap (λ (x : ReplyMessage). take i xs ++ x ∷ []) (sym is) in
    let both : data_of (take (i + 1) xs) ≡ data_of (take i xs) ++ r.content =
    ap data_of one ∙ (flat_map-append (λ (x : ReplyMessage). x.content) (take i xs) (r ∷ []) ∙ ap (λ (t : List ℕ). data_of (take i xs) ++ t) (append-nil r.content)) in
    ap length both ∙ length-append (data_of (take i xs)) r.content

-- heads and data
pub texts_length : (xs : List ReplyMessage) → length (texts_of xs) ≡ length (data_of xs) + length xs * 16
texts_length [] = refl
texts_length (r ∷ rs) =
    omega (arith, length-append (reply_text r) (texts_of rs), length-append (reply_head_text r.error r.cookie) r.content, length-reply_head_text r.error r.cookie, length-append r.content (data_of rs), texts_length rs)
