-- What a request that isn't refused fulfils.
use Rattle.std.proofs.Common.{◌≡◌, ℕ, ap, arith}
use Rattle.std.specs.Prelude.{Bool, true, false, Option, Some, None, refl}
use Rattle.nbd_base.specs.Words.{when_some}
use Rattle.nbd_wire.specs.Grammar.{RequestMessage}
use Rattle.nbd_commands.specs.Verdict.{verdict_at, refusal_at, error_of}
use Rattle.nbd_commands.specs.declared.judging.RequestRefusal.{RequestRefusal}
use Rattle.nbd_commands.specs.declared.judging.RequestRefusal.TheVariants.{UnknownType, UnknownFlag, ReadOnly, TooLong, InvalidRange, NoSpace}

-- no refusal has the error 0
none_of_no_error : (refusal : Option RequestRefusal) → when_some refusal error_of 0 ≡ 0 → refusal ≡ None
none_of_no_error None served = refl
none_of_no_error (Some UnknownType) served = absurd (cc)
none_of_no_error (Some UnknownFlag) served = absurd (cc)
none_of_no_error (Some ReadOnly) served = absurd (cc)
none_of_no_error (Some TooLong) served = absurd (cc)
none_of_no_error (Some InvalidRange) served = absurd (cc)
none_of_no_error (Some NoSpace) served = absurd (cc)

-- a request with the error 0 isn't refused
pub not_refused : (size : ℕ) (read_only : Bool) (m : RequestMessage) → verdict_at size read_only m ≡ 0 → refusal_at size read_only m ≡ None
not_refused size read_only m served = none_of_no_error (refusal_at size read_only m) served

kept_by_any : (size : ℕ) (m : RequestMessage) → refusal_at size true m ≡ None → refusal_at size false m ≡ None
kept_by_any size m served = grind arith

-- what a read-only export serves any export of its size serves
pub served_by_any : (size : ℕ) (read_only : Bool) (m : RequestMessage) → verdict_at size read_only m ≡ 0 → verdict_at size false m ≡ 0
served_by_any size false m served = served
served_by_any size true m served = ap (λ (r : Option RequestRefusal). when_some r error_of 0) (kept_by_any size m (not_refused size true m served))
