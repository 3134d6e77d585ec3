-- What is said to options one after another.
use Rattle.std.proofs.Common.{◌≡◌, ℕ, ◌+◌, Bool, List, [], ◌∷◌, ◌++◌, length, Option, None, sym, ap, ◌∙◌, arith, add-zero, append_assoc}
use Rattle.std.specs.List.{AllByRecursion}
use Rattle.nbd_options.specs.declared.saying.HaggleEnd.{HaggleEnd}
use Rattle.nbd_options.specs.Exports.{ExportFacts}
use Rattle.nbd_options.specs.Haggled.{Asked, Said, LeavesOpen, said_to, texts_to, and_then, said_from}

and_then-none : (text : List ℕ) (end : Option HaggleEnd) (later : Said) → end ≡ None → and_then text end later ≡ and_then text None later
and_then-none text end later is = ap (λ (e : Option HaggleEnd). and_then text e later) is

and_then-and_then : (first second : List ℕ) (later : Said) → and_then first None (and_then second None later) ≡ and_then (first ++ second) None later
and_then-and_then first second later = ap (λ (t : List ℕ). record { text = t; end = later.end }) (sym (append_assoc first second later.text))

pub options_in_turn : (table : List ExportFacts) (no_zeroes : Bool) (seen : ℕ) (asked later : List Asked) (head : Option (List ℕ))
    → AllByRecursion (LeavesOpen table no_zeroes) asked
    → said_from table no_zeroes seen (asked ++ later) head
    ≡ and_then (texts_to table no_zeroes asked) None (said_from table no_zeroes (seen + length asked) later head)
options_in_turn table no_zeroes seen [] later head left = ap (λ (n : ℕ). said_from table no_zeroes n later head) (sym (add-zero seen))
options_in_turn table no_zeroes seen (a ∷ asked) later head left =
    let more : Said = said_from table no_zeroes (seen + 1 + length asked) later head in
    let count : seen + 1 + length asked ≡ seen + length (a ∷ asked) = omega arith in
    and_then-none (said_to table no_zeroes a).text (said_to table no_zeroes a).end (said_from table no_zeroes (seen + 1) (asked ++ later) head) left.0
    ∙ ap (λ (s : Said). and_then (said_to table no_zeroes a).text None s) (options_in_turn table no_zeroes (seen + 1) asked later head left.1)
    ∙ and_then-and_then (said_to table no_zeroes a).text (texts_to table no_zeroes asked) more
    ∙ ap (λ (n : ℕ). and_then (texts_to table no_zeroes (a ∷ asked)) None (said_from table no_zeroes n later head)) count
