-- What has come so far of a buffer, and what has gone of a text.
use Rattle.std.proofs.Common.{◌≡◌, ℕ, ◌+◌, ◌≤◌, List, [], ◌++◌, length, take, Option, Some, None, sym, ap, subst, ◌∙◌, arith, refl}
use Rattle.std.specs.Io.KnownBytes.{Appends, Consumes}
use Rattle.std.proofs.Math.Seq.{take-append-add}
use borrow.Rule.Slice.PartMut.{put_mid, post_of}
use Rattle.std.proofs.lemmas.List.{take-append-le, length-take, length-append, append-nil}
use Rattle.nbd_stream.proofs.KnownLemmas.{Appends-then}

-- nothing was read, or written, yet
pub Consumes-none : (u : Option (List ℕ)) → Consumes u u []
Consumes-none None = tt
Consumes-none (Some xs) = refl

pub Appends-none : (u : Option (List ℕ)) → Appends u u []
Appends-none None = tt
Appends-none (Some xs) = sym (append-nil xs)

-- a front that was filled, and a part after it
pub front_more : (buf part : List ℕ) (at n : ℕ) → at ≤ length buf → take (at + n) (take at buf ++ part) ≡ take at buf ++ take n part
front_more buf part at n le =
    let len : length (take at buf) ≡ at = omega (arith, length-take at buf) in
    subst (λ (k : ℕ). take (k + n) (take at buf ++ part) ≡ take at buf ++ take n part) len (take-append-add (take at buf) part n)

-- the same, where a part of the buffer was filled in place
pub put_more : (buf part : List ℕ) (at k n : ℕ) → at ≤ length buf → n ≤ length part → take (at + n) (put_mid at k buf part) ≡ take at buf ++ take n part
put_more buf part at k n le short =
    front_more buf (part ++ post_of at k buf) at n le ∙ ap (λ (t : List ℕ). take at buf ++ t) (take-append-le n part (post_of at k buf) short)

pub put_long : (buf part : List ℕ) (at k n : ℕ) → at ≤ length buf → n ≤ length part → at + n ≤ length (put_mid at k buf part)
put_long buf part at k n le short =
    omega (arith, length-append (take at buf) (part ++ post_of at k buf), length-append part (post_of at k buf), length-take at buf)

-- nothing more was written
pub Appends-nothing : (u v w : Option (List ℕ)) (a : List ℕ) → Appends u v a → Appends v w [] → Appends u w a
Appends-nothing u v w a x y = subst (Appends u w) (append-nil a) (Appends-then u v w a [] x y)
