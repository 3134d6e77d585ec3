-- A new server keeps what a server keeps.
use Rattle.std.proofs.Common.{◌≡◌, ℕ, suc, ◌+◌, ◌<◌, ◌≤◌, Option, Some, None, List, [], ◌∷◌, ◌++◌, map, take, length, get_or, refl, sym, ◌∙◌, ap, subst, arith}
use Rattle.std.specs.Prelude.{replicate}
use Rattle.std.specs.List.{All}
use Rattle.std.proofs.lemmas.List.{length-map, map_more}
use Rattle.std.proofs.lemmas.List.Sums.{sum_by-cons}
use Rattle.nbd_commands.specs.Terms.{Terms, terms_of}
use Rattle.nbd_commands.specs.Exports.{Export}
use Rattle.tag_clock.specs.declared.Tags.{Tags}
use Rattle.server_table.specs.Table.{opening_side}
use Rattle.server_table.specs.Parts.{Part, rows_from, side_of}
use Rattle.server_table.specs.Order.{AllParts, heads}
use Rattle.server_core.specs.Kept.{AreShort, IsPart, LastKind, total, outs}
use Rattle.server_core.specs.Members.{Standing, Seat, opening_part, opening_standing}
use Rattle.export_cell.specs.Journal.{Journal, opening_journal}
use Rattle.server_core.specs.Served.{parts, journals_of, served_of, AllMembers, IsServed, opening_served, setup_for}

abbrev pub opened : ℕ → List Export → List Standing
opened inflight exports = map (λ export. opening_standing inflight (terms_of export)) exports

pub opened_more : (inflight : ℕ) (xs : List Export) (i : ℕ) (x : Export) (ms ms' : List Standing) (m : Standing) → i < length xs → x ≡ get_or xs i x → ms ≡ opened inflight (take i xs) → m ≡ opening_standing inflight (terms_of x) → ms' ≡ ms ++ m ∷ [] → ms' ≡ opened inflight (take (i + 1) xs)
opened_more inflight xs i x ms ms' m lt at so_far is more =
    more
    ∙ ap (λ l. l ++ m ∷ []) so_far
    ∙ ap (λ (y : Standing). opened inflight (take i xs) ++ y ∷ []) (is ∙ ap (λ (e : Export). opening_standing inflight (terms_of e)) at)
    ∙ sym (map_more (λ export. opening_standing inflight (terms_of export)) xs i x lt)

last_kind : (interval : Option ℕ) → LastKind interval None
last_kind None = tt
last_kind (Some interval) = tt

new_part : (terms : Terms) → AreShort terms.rates → IsPart 0 (opening_part terms)
new_part terms h = record {
  rates = h;
  accepted = omega arith;
  counted = omega arith;
  waiting = omega arith;
  rising = tt;
  numbered = tt;
  numbers = tt;
  below = tt;
  kinds = tt;
  last_kind = last_kind terms.rates.r_interval;
  tags = tt;
  sent = tt;
  last_r = tt;
  last_l = tt;
  last_p = tt;
}

new_parts : (inflight : ℕ) (xs : List Export) → All (λ (m : Standing). AreShort m.part.rates) (opened inflight xs) → AllParts (IsPart 0) (parts (opened inflight xs))
new_parts inflight [] h = tt
new_parts inflight (x ∷ xs) h = (new_part (terms_of x) (h 0 (opening_standing inflight (terms_of x)) (omega arith)), new_parts inflight xs (λ i d lt. h (suc i) d (omega arith)))

new_total : (inflight : ℕ) (xs : List Export) → total (parts (opened inflight xs)) ≡ 0
new_total inflight [] = refl
new_total inflight (x ∷ xs) = let s = sum_by-cons (λ (q : Part). q.next) (opening_part (terms_of x)) (parts (opened inflight xs)) in let r = new_total inflight xs in omega arith

new_outs : (inflight : ℕ) (xs : List Export) → outs (parts (opened inflight xs)) ≡ 0
new_outs inflight [] = refl
new_outs inflight (x ∷ xs) = let s = sum_by-cons (λ (q : Part). length q.out) (opening_part (terms_of x)) (parts (opened inflight xs)) in let r = new_outs inflight xs in omega arith

new_heads : (inflight : ℕ) (xs : List Export) → replicate (length xs) None ≡ heads (parts (opened inflight xs))
new_heads inflight [] = refl
new_heads inflight (x ∷ xs) = ap (λ l. None ∷ l) (new_heads inflight xs)

new_rows : (inflight k : ℕ) (xs : List Export) → rows_from k (parts (opened inflight xs)) ≡ []
new_rows inflight k [] = refl
new_rows inflight k (x ∷ xs) = new_rows inflight (suc k) xs

new_sides : (inflight : ℕ) (xs : List Export) → map side_of (parts (opened inflight xs)) ≡ map opening_side (map terms_of xs)
new_sides inflight [] = refl
new_sides inflight (x ∷ xs) = ap (λ l. opening_side (terms_of x) ∷ l) (new_sides inflight xs)

new_setup : (inflight : ℕ) (xs : List Export) → map (λ (p : Part). p.terms) (parts (opened inflight xs)) ≡ map terms_of xs
new_setup inflight [] = refl
new_setup inflight (x ∷ xs) = ap (λ l. terms_of x ∷ l) (new_setup inflight xs)

new_seats : (inflight : ℕ) (xs : List Export) → map (λ (m : Standing). m.seats) (opened inflight xs) ≡ map (λ terms. []) (map terms_of xs)
new_seats inflight [] = refl
new_seats inflight (x ∷ xs) = ap (λ (l : List (List Seat)). [] ∷ l) (new_seats inflight xs)

new_journals : (inflight : ℕ) (xs : List Export) → journals_of (opened inflight xs) ≡ map opening_journal (map terms_of xs)
new_journals inflight [] = refl
new_journals inflight (x ∷ xs) = ap (λ (l : List Journal). opening_journal (terms_of x) ∷ l) (new_journals inflight xs)

new_room : (inflight : ℕ) (xs : List Export) → AllMembers (λ m. m.inflight ≡ inflight) (opened inflight xs)
new_room inflight [] = tt
new_room inflight (x ∷ xs) = (refl, new_room inflight xs)

pub opened_served : (inflight : ℕ) (xs : List Export) → served_of (opened inflight xs) 0 inflight ≡ opening_served (setup_for (record { exports = xs; inflight = inflight }))
opened_served inflight xs =
    let ms = opened inflight xs in
    let terms = map terms_of xs in
    ap (λ l. record { setup = record { exports = l; inflight = inflight }; table = record { rows = rows_from 0 (parts ms); sides = map side_of (parts ms); now = 0 }; seats = map (λ (m : Standing). m.seats) ms; journals = journals_of ms }) (new_setup inflight xs)
    ∙ ap (λ l. record { setup = record { exports = terms; inflight = inflight }; table = record { rows = l; sides = map side_of (parts ms); now = 0 }; seats = map (λ (m : Standing). m.seats) ms; journals = journals_of ms }) (new_rows inflight 0 xs)
    ∙ ap (λ l. record { setup = record { exports = terms; inflight = inflight }; table = record { rows = []; sides = l; now = 0 }; seats = map (λ (m : Standing). m.seats) ms; journals = journals_of ms }) (new_sides inflight xs)
    ∙ ap (λ l. record { setup = record { exports = terms; inflight = inflight }; table = record { rows = []; sides = map opening_side terms; now = 0 }; seats = l; journals = journals_of ms }) (new_seats inflight xs)
    ∙ ap (λ l. record { setup = record { exports = terms; inflight = inflight }; table = record { rows = []; sides = map opening_side terms; now = 0 }; seats = map (λ terms. []) terms; journals = l }) (new_journals inflight xs)

pub kept_new : (inflight asked : ℕ) (xs : List Export) (slots : List (Option Tags)) → length xs ≤ 64 → All (λ (m : Standing). AreShort m.part.rates) (opened inflight xs) → slots ≡ replicate (length xs) None → asked ≡ 0 → IsServed (opened inflight xs) slots asked 0 inflight 0
kept_new inflight asked xs slots few short is none_asked =
    let o = new_outs inflight xs in
    let n : length (parts (opened inflight xs)) ≡ length xs = length-map (opened inflight xs) (λ (m : Standing). m.part) ∙ length-map xs (λ export. opening_standing inflight (terms_of export)) in
    record {
      server = record {
        few = subst (λ k. k ≤ 64) (sym n) few;
        firsts = is ∙ new_heads inflight xs;
        not_later = omega arith;
        counted = sym o;
        within = omega arith;
        each = subst (λ k. AllParts (IsPart k) (parts (opened inflight xs))) (sym (new_total inflight xs)) (new_parts inflight xs short);
      };
      room = new_room inflight xs;
    }
