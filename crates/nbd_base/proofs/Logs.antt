-- A log that more is noted in, and still more.
use Rattle.std.proofs.Common.{◌≡◌, List, [], ◌++◌, Option, Some, None, sym, ap, ◌∙◌, append_assoc, append-nil}
use Rattle.nbd_base.specs.Logs.{Notes}

pub notes_nothing : {A : Type 0} (u : Option (List A)) → Notes u u []
notes_nothing None = tt
notes_nothing (Some xs) = sym (append-nil xs)

pub notes_then : {A : Type 0} (u v w : Option (List A)) (a b : List A) → Notes u v a → Notes v w b → Notes u w (a ++ b)
notes_then None v w a b x y = tt
notes_then (Some xs) None w a b x y = absurd x
notes_then (Some xs) (Some ys) None a b x y = absurd y
notes_then {A} (Some xs) (Some ys) (Some zs) a b x y = y ∙ ap (λ (t : List A). t ++ b) x ∙ append_assoc xs a b
