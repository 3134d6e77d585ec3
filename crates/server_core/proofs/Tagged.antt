-- The tags of the requests that wait, as they are told.
use Rattle.std.proofs.Common.{◌≡◌, ℕ, zero, suc, ◌<◌, false, List, [], ◌∷◌, ◌++◌, map, length, take, get_or, slice_get, Option, Some, None, refl, sym, ◌∙◌, ap, arith}
use Rattle.std.specs.Prelude.{option_map}
use Rattle.std.proofs.lemmas.Option.{same_Some}
use Rattle.tag_clock.specs.declared.Tags.{Tags}
use Rattle.lone_export.specs.Alone.{Job}
use Rattle.std.proofs.lemmas.List.{length-map}
use Rattle.server_table.specs.Parts.{Entry, Part, row_of}
use Rattle.server_table.specs.Table.{Row}
use Rattle.server_table.specs.Order.{tags_of}
use Rattle.server_table.proofs.Arrive.{waiting_rows}
use Rattle.server_core.specs.Members.{Standing, entries_of, told_tags}
use Rattle.server_core.specs.Served.{parts, served_of, waiting_tags}
use Rattle.server_core.proofs.Served.{within_parts, part_there}

abbrev pub number_in : List Job → ℕ → Option ℕ
number_in jobs i = option_map (λ (job : Job). job.number) (slice_get jobs i)

abbrev pub told_in : List Entry → ℕ → Option (ℕ × Tags)
told_in entries i = option_map told_tags (slice_get entries i)

pub told_at : (jobs : List Job) (tags : List Tags) (i n : ℕ) (one : Tags) → number_in jobs i ≡ Some n → slice_get tags i ≡ Some one → Some (n, one) ≡ told_in (entries_of jobs tags) i
told_at [] tags i n one number is = absurd (cc)
told_at (job ∷ jobs) [] i n one number is = absurd (cc)
told_at (job ∷ jobs) (tag ∷ tags) zero n one number is = sym (ap (λ k. Some (k, tag)) (same_Some job.number n number) ∙ ap (λ t. Some (n, t)) (same_Some tag one is))
told_at (job ∷ jobs) (tag ∷ tags) (suc i) n one number is = told_at jobs tags i n one number is

pub none_without_tags : (jobs : List Job) (tags : List Tags) (i : ℕ) → slice_get tags i ≡ None → None ≡ told_in (entries_of jobs tags) i
none_without_tags [] tags i is = refl
none_without_tags (job ∷ jobs) [] i is = refl
none_without_tags (job ∷ jobs) (tag ∷ tags) zero is = absurd (cc)
none_without_tags (job ∷ jobs) (tag ∷ tags) (suc i) is = none_without_tags jobs tags i is

pub none_without_number : (jobs : List Job) (tags : List Tags) (i : ℕ) → number_in jobs i ≡ None → None ≡ told_in (entries_of jobs tags) i
none_without_number [] tags i is = refl
none_without_number (job ∷ jobs) [] i is = refl
none_without_number (job ∷ jobs) (tag ∷ tags) zero is = absurd (cc)
none_without_number (job ∷ jobs) (tag ∷ tags) (suc i) is = none_without_number jobs tags i is

pub told_more : (entries : List Entry) (i : ℕ) (one : ℕ × Tags) → Some one ≡ told_in entries i → map told_tags (take i entries) ++ one ∷ [] ≡ map told_tags (take (suc i) entries)
told_more [] i one is = absurd (cc)
told_more (entry ∷ entries) zero one is = ap (λ t. t ∷ []) (same_Some one (told_tags entry) is)
told_more (entry ∷ entries) (suc i) one is = ap (λ l. told_tags entry ∷ l) (told_more entries i one is)

pub told_within : (entries : List Entry) (i : ℕ) → i < length entries → None ≡ told_in entries i → ⊥
told_within [] i lt is = absurd (omega arith)
told_within (entry ∷ entries) zero lt is = cc
told_within (entry ∷ entries) (suc i) lt is = told_within entries i (omega arith) is

-- ---- in the table
told_rows : (e : ℕ) (entries : List Entry) → map told_tags entries ≡ map (λ (row : Row). (row.number, tags_of row)) (map (row_of e false) entries)
told_rows e [] = refl
told_rows e (entry ∷ entries) = ap (λ l. told_tags entry ∷ l) (told_rows e entries)

pub tags_there : (ms : List Standing) (now inflight e : ℕ) (m : Standing) → e < length ms → m ≡ get_or ms e m → map told_tags m.part.waiting ≡ waiting_tags e (served_of ms now inflight).table
tags_there ms now inflight e m lt at =
    told_rows e m.part.waiting ∙ ap (map (λ (row : Row). (row.number, tags_of row))) (sym (waiting_rows (parts ms) e 0 e m.part (omega arith) (within_parts ms e lt) (part_there ms e m lt at)))

pub exports_there : (ms : List Standing) (now inflight : ℕ) → length (served_of ms now inflight).setup.exports ≡ length ms
exports_there ms now inflight = length-map (parts ms) (λ (part : Part). part.terms) ∙ length-map ms (λ (member : Standing). member.part)
