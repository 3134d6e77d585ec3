-- What is true of every server, from what is true of its parts.
use Rattle.std.proofs.Common.{◌≡◌, ℕ, zero, suc, ◌+◌, ◌*◌, ◌^◌, ◌<◌, ◌≤◌, Bool, true, false, Option, List, [], ◌∷◌, map, length, get_or, refl, sym, ◌∙◌, ap, subst, arith}
use Rattle.std.specs.Prelude.{Some}
use Rattle.std.specs.List.{AllByRecursion}
use Rattle.std.proofs.lemmas.List.{length-map}
use Rattle.lone_export.specs.Alone.{Alone, Job}
use Rattle.lone_export.specs.Lone.{IsInBounds}
use Rattle.tag_clock.specs.declared.Tags.{Tags}
use Rattle.tag_clock.specs.Tags.{AreInRange}
use Rattle.server_table.specs.Table.{Row, Side, part}
use Rattle.server_table.specs.Parts.{Entry, Part, row_of, part_rows, rows_from, side_of, table_of, alone_of, job_of_entry}
use Rattle.server_table.specs.Order.{AllParts, tags_of}
use Rattle.server_table.proofs.Dispatch.{outs_of}
use Rattle.core_laws.proofs.Lists.{all-append}
use Rattle.server_core.specs.Kept.{AllEntries, TagsWithin, IsPart, picked, total}
use Rattle.server_core.specs.Members.{Seat, Standing, Kept, IsMember, IsSeated, slot_in, entries_of, seats_of, sent_tags, standing_of}
use Rattle.server_core.specs.Served.{parts, journals_of, served_of, AllMembers, IsServed}
use Rattle.server_core.specs.Journals.{ComesOfJournal}
use Rattle.server_core.specs.Seats.{AreSeated}
use Rattle.server_core.specs.Counted.{AreLastInRange, IsSound}
use Rattle.server_core.proofs.Bounds.{option_in_range}
use Rattle.server_core.proofs.Picked.{tags_in_range, total_small}
use Rattle.server_core.proofs.Members.{sent_length}
use Rattle.server_core.proofs.Done.{slot_is}
use Rattle.server_core.proofs.Served.{within_parts, part_there, member_at}
use Rattle.server_core.proofs.Tagged.{exports_there}
use Rattle.server_core.proofs.Journals.{live_is}
use Rattle.server_core.proofs.Cells.{each_comes, there}
use Rattle.server_core.proofs.Counted.{fits_served}

-- ---- the seats of one export
abbrev pub numbers : List Job → List ℕ
numbers jobs = map (λ (job : Job). job.number) jobs

seat_numbers : (jobs : List Job) (slots : List ℕ) → length slots ≡ length jobs → map (λ (seat : Seat). seat.number) (seats_of jobs slots) ≡ numbers jobs
seat_numbers [] slots same = refl
seat_numbers (j ∷ js) [] same = absurd (omega arith)
seat_numbers (j ∷ js) (s ∷ ss) same = ap (λ l. j.number ∷ l) (seat_numbers js ss (omega arith))

entry_numbers : (jobs : List Job) (tags : List Tags) → length tags ≡ length jobs → map (λ (entry : Entry). entry.number) (entries_of jobs tags) ≡ numbers jobs
entry_numbers [] tags same = refl
entry_numbers (j ∷ js) [] same = absurd (omega arith)
entry_numbers (j ∷ js) (t ∷ ts) same = ap (λ l. j.number ∷ l) (entry_numbers js ts (omega arith))

pub is_seated : (m : Kept) → IsMember m → IsInBounds m.whole → IsSeated (standing_of m)
is_seated m h bounds =
    let out = m.whole.state.out in
    record {
      each = seat_numbers out m.whole.slots h.seated ∙ sym (entry_numbers out (sent_tags m.out) (sent_length m.out out h.sent));
      differ = λ a b slot f g. bounds.slots_differ a b slot (slot_is a out m.whole.slots ∙ f) (slot_is b out m.whole.slots ∙ g);
    }

-- ---- the seats of each export
seats_at : (ms : List Standing) (e : ℕ) (m : Standing) → e < length ms → m ≡ get_or ms e m → m.seats ≡ get_or (map (λ (x : Standing). x.seats) ms) e []
seats_at [] e m lt at = absurd (omega arith)
seats_at (x ∷ xs) zero m lt at = ap (λ (y : Standing). y.seats) at
seats_at (x ∷ xs) (suc e) m lt at = seats_at xs e m (omega arith) at

job_numbers : (entries : List Entry) → map (λ (entry : Entry). entry.number) entries ≡ numbers (map job_of_entry entries)
job_numbers [] = refl
job_numbers (x ∷ xs) = ap (λ l. x.number ∷ l) (job_numbers xs)

are_seated : (ms : List Standing) (now inflight e : ℕ) → AllMembers IsSeated ms → e < length ms → AreSeated (served_of ms now inflight) e
are_seated ms now inflight e all lt =
    let found = there ms e lt in
    let m = found.member in
    let one : IsSeated m = member_at IsSeated ms e m all lt found.at in
    let seats = seats_at ms e m lt found.at in
    let live = live_is (parts ms) now e m.part (within_parts ms e lt) (part_there ms e m lt found.at) in
    record {
      each = sym (ap (map (λ (seat : Seat). seat.number)) seats) ∙ one.each ∙ job_numbers m.part.out ∙ ap (λ (state : Alone). numbers state.out) live;
      differ = λ a b s f g. one.differ a b s (ap (λ (l : List Seat). slot_in l a) seats ∙ f) (ap (λ (l : List Seat). slot_in l b) seats ∙ g);
    }

-- ---- the tags
tags_there : (t next k e : ℕ) (out : Bool) (entries : List Entry) → t ≤ 2 ^ 62 + 1 → next ≤ 2 ^ 56 → k ≤ next → AllEntries (λ entry. TagsWithin t next k entry.tags) entries → AllByRecursion (λ (row : Row). AreInRange (tags_of row)) (map (row_of e out) entries)
tags_there t next k e out [] few n le h = tt
tags_there t next k e out (x ∷ xs) few n le h = (tags_in_range t next k x.tags few n le h.0, tags_there t next k e out xs few n le h.1)

rows_in_range : (t e : ℕ) (ps : List Part) → t ≤ 2 ^ 62 + 1 → AllParts (IsPart t) ps → AllByRecursion (λ (row : Row). AreInRange (tags_of row)) (rows_from e ps)
rows_in_range t e [] few h = tt
rows_in_range t e (p ∷ ps) few h =
    let n = h.0.accepted in
    all-append (λ (row : Row). AreInRange (tags_of row)) (part_rows e p) (rows_from (suc e) ps)
    (all-append (λ (row : Row). AreInRange (tags_of row)) (map (row_of e true) p.out) (map (row_of e false) p.waiting)
    (tags_there t p.next (picked p) e true p.out few n (omega arith) h.0.sent)
    (tags_there t p.next (picked p) e false p.waiting few n (omega arith) h.0.tags))
    (rows_in_range t (suc e) ps few h.1)

sides_in_range : (t : ℕ) (ps : List Part) → t ≤ 2 ^ 62 + 1 → AllParts (IsPart t) ps → AllByRecursion AreLastInRange (map side_of ps)
sides_in_range t [] few h = tt
sides_in_range t (p ∷ ps) few h = (one, sides_in_range t ps few h.1)
  where
    one : AreLastInRange (side_of p)
    one =
        let n = h.0.accepted in
        record {
          last_r = option_in_range (picked p * 2 ^ 30) (2 ^ 62 + p.next * 2 ^ 30) p.last_r (omega arith) (omega arith) h.0.last_r;
          last_l = option_in_range 0 (2 ^ 62 + p.next * 2 ^ 30) p.last_l (omega arith) (omega arith) h.0.last_l;
          last_p = option_in_range 0 (t * 2 ^ 63) p.last_p (omega arith) (omega arith) h.0.last_p;
        }

-- ---- the server
pub sound : (ms : List Standing) (slots : List (Option Tags)) (asked now inflight out : ℕ) → IsServed ms slots asked now inflight out → AllMembers ComesOfJournal ms → AllMembers IsSeated ms → IsSound (served_of ms now inflight)
sound ms slots asked now inflight out kept comes seated =
    let fits = fits_served ms now inflight in
    let here = outs_of 0 (parts ms) in
    let counted = kept.server.counted in
    let within = kept.server.within in
    let exports = exports_there ms now inflight in
    let sum = total_small (total (parts ms)) (parts ms) kept.server.each in
    let few = kept.server.few in
    let small : total (parts ms) ≤ 2 ^ 62 + 1 = omega (arith, sum, few) in
    record {
      within = omega (arith, here, counted, within);
      sides = fits.sides;
      journals = length-map ms (λ (m : Standing). m.journal) ∙ sym exports;
      comes = each_comes ms now inflight kept.room comes;
      rows = fits.rows;
      seats = length-map ms (λ (m : Standing). m.seats) ∙ sym exports;
      seated = λ e lt. are_seated ms now inflight e seated (subst (λ n. e < n) exports lt);
      tags = rows_in_range (total (parts ms)) 0 (parts ms) small kept.server.each;
      last_tags = sides_in_range (total (parts ms)) (parts ms) small kept.server.each;
    }
