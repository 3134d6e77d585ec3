-- The names of a replay's verbs.
use Rattle.std.specs.Prelude.{ℕ, if◌then◌else◌, List, codes, Option, Some, None}
use Rattle.std.specs.Str.{bytes_eq}
use Rattle.nbd_scripts.specs.declared.verbs.Verb.{Verb}
use Rattle.nbd_scripts.specs.declared.verbs.Verb.TheVariants as verbs

abbrev pub verb_of : List ℕ → Option Verb
verb_of name =
    if bytes_eq name (codes "attach") then Some verbs.Attach
    else (if bytes_eq name (codes "arrive") then Some verbs.Arrive
    else (if bytes_eq name (codes "dispatch") then Some verbs.Dispatch
    else (if bytes_eq name (codes "perform") then Some verbs.Perform
    else (if bytes_eq name (codes "take") then Some verbs.Take
    else (if bytes_eq name (codes "leave") then Some verbs.Leave
    else (if bytes_eq name (codes "gone") then Some verbs.Gone
    else (if bytes_eq name (codes "retune") then Some verbs.Retune
    else (if bytes_eq name (codes "tags") then Some verbs.Tags
    else None))))))))
