-- What a log has come to, where what is done is known.
use Rattle.std.specs.Prelude.{◌≡◌, List, ◌++◌, Option, Some, None, ⊤}

-- the log has these behind those before
abbrev pub Notes : {A : Type 0} → Option (List A) → Option (List A) → List A → Type 0
Notes None new more = ⊤
Notes (Some before) None more = ⊥
Notes (Some before) (Some now) more = now ≡ before ++ more
