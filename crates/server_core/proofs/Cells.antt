-- Each export of a server comes of its journal, since its cell does.
use Rattle.std.proofs.Common.{◌≡◌, ℕ, zero, suc, ◌<◌, List, [], ◌∷◌, length, take, get_or, set, refl, sym, ap, ◌∙◌, subst, arith}
use Rattle.std.proofs.lemmas.List.{set-get_or}
use Rattle.std.proofs.lemmas.Option.{same_Some, slice_get_within}
use Rattle.nbd_commands.specs.Terms.{Terms}
use Rattle.lone_export.specs.Alone.{Alone}
use Rattle.lone_export.specs.Lone.{Whole}
use Rattle.export_cell.specs.Journal.{IsJournal}
use Rattle.server_table.specs.Table.{part}
use Rattle.server_table.specs.Parts.{table_of}
use Rattle.server_core.specs.Members.{Kept, Standing, standing_of, IsMember}
use Rattle.server_core.specs.Served.{parts, served_of, AllMembers}
use Rattle.server_core.specs.Journals.{ComesOfJournal, EachComesOfJournal}
use Rattle.server_core.proofs.Members.{alone_back}
use Rattle.server_core.proofs.Served.{within_parts, part_there, member_at}
use Rattle.server_core.proofs.Tagged.{exports_there}
use Rattle.server_core.proofs.Journals.{terms_at, journal_at, live_is}

abbrev whole : Terms → ℕ → Alone → Whole
whole terms inflight state = record { terms = terms; inflight = inflight; state = state; slots = [] }

-- a call that changes nothing of an export changes nothing of the others
pub put_back : (ms : List Standing) (e : ℕ) (m m' : Standing) → m' ≡ m → m ≡ get_or ms e m → set ms e m' ≡ ms
put_back ms e m m' same at = ap (set ms e) (same ∙ at) ∙ set-get_or ms e m

-- ---- of one export
pub comes_of_journal : (m : Kept) → IsMember m → IsJournal m.whole m.journal → ComesOfJournal (standing_of m)
comes_of_journal m h kept =
    subst (λ (state : Alone). IsJournal (whole m.whole.terms m.whole.inflight state) m.journal) (sym (alone_back m h)) (record { same = kept.same; each = kept.each; counts = kept.counts })

pub members_more : (P : Standing → Type 0) (ms : List Standing) (e : ℕ) (m : Standing) → e < length ms → m ≡ get_or ms e m → AllMembers P (take e ms) → P m → AllMembers P (take (suc e) ms)
members_more P [] e m lt at all one = absurd (omega arith)
members_more P (x ∷ xs) zero m lt at all one = (subst P at one, tt)
members_more P (x ∷ xs) (suc e) m lt at all one = (all.0, members_more P xs e m (omega arith) at all.1 one)

-- ---- of each
pub record There (ms : List Standing) (e : ℕ) : Type 0 where
  pub member : Standing
  pub at : member ≡ get_or ms e member

pub there : (ms : List Standing) (e : ℕ) → e < length ms → There ms e
there [] e lt = absurd (omega arith)
there (x ∷ xs) zero lt = record { member = x; at = refl }
there (x ∷ xs) (suc e) lt = let rest = there xs e (omega arith) in record { member = rest.member; at = rest.at }

pub each_comes : (ms : List Standing) (now inflight : ℕ) → AllMembers (λ (x : Standing). x.inflight ≡ inflight) ms → AllMembers ComesOfJournal ms → EachComesOfJournal (served_of ms now inflight)
each_comes ms now inflight room all e terms journal terms_is journal_is =
    let long = exports_there ms now inflight in
    let within = slice_get_within (served_of ms now inflight).setup.exports e terms terms_is in
    let lt : e < length ms = omega (arith, long, within) in
    let found = there ms e lt in
    let m = found.member in
    let same_terms : m.part.terms ≡ terms = same_Some m.part.terms terms (sym (terms_at ms e m lt found.at) ∙ terms_is) in
    let same_journal : m.journal ≡ journal = same_Some m.journal journal (sym (journal_at ms e m lt found.at) ∙ journal_is) in
    let same_inflight = member_at (λ (x : Standing). x.inflight ≡ inflight) ms e m room lt found.at in
    let same_state = live_is (parts ms) now e m.part (within_parts ms e lt) (part_there ms e m lt found.at) in
    let state = part e (table_of (parts ms) now) in
    subst (IsJournal (whole terms inflight state)) same_journal
    (subst (λ (t : Terms). IsJournal (whole t inflight state) m.journal) same_terms
    (subst (λ (n : ℕ). IsJournal (whole m.part.terms n state) m.journal) same_inflight
    (subst (λ (s : Alone). IsJournal (whole m.part.terms m.inflight s) m.journal) same_state
    (member_at ComesOfJournal ms e m all lt found.at))))
