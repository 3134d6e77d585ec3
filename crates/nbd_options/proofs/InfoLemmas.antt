-- What is replied to INFO and GO of an export that is there.
use Rattle.std.proofs.Common.{◌≡◌, ℕ, ◌+◌, ◌-◌, ◌<◌, true, List, length, take, drop, get_or, Option, Some, slice_get, refl, sym, ap, ◌∙◌, arith}
use Rattle.std.proofs.lemmas.List.{take_rest}
use Rattle.std.proofs.lemmas.Option.{slice_get_read}
use Rattle.nbd_options.specs.Exports.{ExportFacts, export_named}
use Rattle.nbd_options.specs.Replies.{ClientOption, is_shaped, name_length, name_in, types_in, numbers_of, told_of, told_at, export_at, informed}

shaped_told : (table : List ExportFacts) (o : ClientOption) (at : Option ℕ) → is_shaped o.content ≡ true → export_named table (name_in o.content) ≡ at
    → told_at o.number (types_in o.content) (export_at table at) ≡ informed table o
shaped_told table o at shaped named = rw (shaped, named) refl

-- the cuts are those of the code, n bytes being the name's
pub told_informed : (table : List ExportFacts) (number : ℕ) (content : List ℕ) (n at : ℕ) (e : ExportFacts)
    → is_shaped content ≡ true → n ≡ name_length content
    → Some at ≡ export_named table (take (4 + n - 4) (drop 4 content)) → at < length table → e ≡ get_or table at e
    → told_of number (numbers_of (take (length content - (4 + n + 2)) (drop (4 + n + 2) content))) e ≡ informed table (record { number = number; content = content })
told_informed table number content n at e shaped is named within there =
    let o : ClientOption = record { number = number; content = content } in
    let cut : 4 + n - 4 ≡ name_length content = omega (arith, is) in
    let name : take (4 + n - 4) (drop 4 content) ≡ name_in content = ap (λ (k : ℕ). take k (drop 4 content)) cut in
    let types : take (length content - (4 + n + 2)) (drop (4 + n + 2) content) ≡ drop (4 + name_length content + 2) content =
    take_rest content (4 + n + 2) ∙ ap (λ (k : ℕ). drop (4 + k + 2) content) is in
    let told : told_of number (numbers_of (take (length content - (4 + n + 2)) (drop (4 + n + 2) content))) e ≡ told_of number (types_in content) e =
    ap (λ (l : List ℕ). told_of number (numbers_of l) e) types in
    let found : slice_get table at ≡ Some e = slice_get_read table (length table) at e refl within there in
    told ∙ ap (λ (f : Option ExportFacts). told_at number (types_in content) f) (sym found)
    ∙ shaped_told table o (Some at) shaped (sym (named ∙ ap (export_named table) name))
