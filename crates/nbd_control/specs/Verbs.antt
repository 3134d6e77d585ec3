-- The first words of lines.
use Rattle.std.specs.Prelude.{ℕ, if◌then◌else◌, List, codes, Option, Some, None}
use Rattle.std.specs.Str.{bytes_eq}
use Rattle.nbd_control.specs.declared.verbs.Verb.{Verb}
use Rattle.nbd_control.specs.declared.verbs.Verb.TheVariants as verbs

abbrev pub verb_of : List ℕ → Option Verb
verb_of name =
    if bytes_eq name (codes "stats") then Some verbs.Stats
    else (if bytes_eq name (codes "retune") then Some verbs.Retune
    else (if bytes_eq name (codes "sessions") then Some verbs.Sessions
    else (if bytes_eq name (codes "drop") then Some verbs.Drop
    else (if bytes_eq name (codes "stop") then Some verbs.Stop
    else None))))
