-- The least row of all is the first request of some export.
use Rattle.std.proofs.Common.{◌≡◌, ℕ, suc, ◌+◌, ◌<◌, ℤ, ◌≤ℤ◌, Bool, true, false, cond, Option, Some, None, List, [], ◌∷◌, map, length, get_or, refl, sym, ◌∙◌, ap, arith}
use Rattle.std.specs.Prelude.{⊤, int_le, pos}
use Rattle.std.proofs.lemmas.List.{map-append}
use Rattle.std.proofs.lemmas.Int.{ints}
use Rattle.tag_clock.specs.declared.Tags.{Tags}
use Rattle.tag_clock.specs.declared.Phase.{Phase}
use Rattle.nbd_base.specs.Least.{least, the_sooner, keyed}
use Rattle.nbd_base.proofs.Least.{sooner_assoc, sooner_none, least-append}
use Rattle.eligibility.specs.Choice.{slot_key, candidates, due, due_r, due_p, choice, by_phase}
use Rattle.server_table.specs.Parts.{Entry, Part, row_of, part_rows, rows_from}
use Rattle.server_table.specs.Table.{Row}
use Rattle.server_table.specs.Order.{TagBefore, Before, BeforeAll, IsRising, AllParts, head_tags, heads, row_key, least_row, chosen_row}

-- ---- keys
-- a key that is there comes no later than the other
abbrev pub KeyBefore : Option ℤ → Option ℤ → Type 0
KeyBefore a None = ⊤
KeyBefore None (Some b) = ⊥
KeyBefore (Some a) (Some b) = a ≤ℤ b

abbrev pub KeepsOrder : (Tags → Option ℤ) → Type 0
KeepsOrder key = (a b : Tags) → Before a b → KeyBefore (key a) (key b)

due_before : (now : ℤ) (a b : Option ℤ) → TagBefore a b → KeyBefore (due now a) (due now b)
due_before now None None h = tt
due_before now None (Some b) h = absurd h
due_before now (Some a) None h = absurd h
due_before now (Some a) (Some b) h = grind (arith, ints)

pub due_r_order : (now : ℤ) → KeepsOrder (due_r now)
due_r_order now a b h = due_before now a.r b.r h.r

pub due_p_order : (now : ℤ) → KeepsOrder (due_p now)
due_p_order now a b h = let l = h.l in let p = h.p in grind (arith, ints)

pub p_order : KeepsOrder (λ tags. Some tags.p)
p_order a b h = h.p

sooner_first : {B : Type 0} (a b : Option ℤ) (u v : B) → KeyBefore a b → the_sooner (keyed a u) (keyed b v) ≡ keyed a u
sooner_first None None u v h = refl
sooner_first (Some a) None u v h = refl
sooner_first None (Some b) u v h = absurd h
sooner_first (Some a) (Some b) u v h = grind (arith, ints)

-- the first request has the least key, where tags don't fall
least_waiting : (key : Tags → Option ℤ) → KeepsOrder key → (e : ℕ) (entry : Entry) (entries : List Entry) → BeforeAll entry.tags entries → the_sooner (keyed (key entry.tags) (row_of e false entry)) (least (map (row_key key) (map (row_of e false) entries))) ≡ keyed (key entry.tags) (row_of e false entry)
least_waiting key order e entry [] before = sooner_none (keyed (key entry.tags) (row_of e false entry))
least_waiting key order e entry (x ∷ xs) before =
    sym (sooner_assoc (keyed (key entry.tags) (row_of e false entry)) (keyed (key x.tags) (row_of e false x)) (least (map (row_key key) (map (row_of e false) xs))))
    ∙ ap (λ a. the_sooner a (least (map (row_key key) (map (row_of e false) xs)))) (sooner_first (key entry.tags) (key x.tags) (row_of e false entry) (row_of e false x) (order entry.tags x.tags before.0))
    ∙ least_waiting key order e entry xs before.1

least_out : (key : Tags → Option ℤ) (e : ℕ) (entries : List Entry) → least (map (row_key key) (map (row_of e true) entries)) ≡ None
least_out key e [] = refl
least_out key e (x ∷ xs) = least_out key e xs

abbrev pub head_row : (Tags → Option ℤ) → ℕ → List Entry → Option (ℤ × Row)
head_row key e [] = None
head_row key e (entry ∷ entries) = keyed (key entry.tags) (row_of e false entry)

abbrev pub head_rows : (Tags → Option ℤ) → ℕ → List Part → List (Option (ℤ × Row))
head_rows key k [] = []
head_rows key k (p ∷ ps) = head_row key k p.waiting ∷ head_rows key (suc k) ps

least_head : (key : Tags → Option ℤ) → KeepsOrder key → (e : ℕ) (entries : List Entry) → IsRising entries → least (map (row_key key) (map (row_of e false) entries)) ≡ head_row key e entries
least_head key order e [] rising = refl
least_head key order e (entry ∷ entries) rising = least_waiting key order e entry entries rising.0

least_part : (key : Tags → Option ℤ) → KeepsOrder key → (e : ℕ) (p : Part) → IsRising p.waiting → least (map (row_key key) (part_rows e p)) ≡ head_row key e p.waiting
least_part key order e p rising =
    ap least (map-append (row_key key) (map (row_of e true) p.out) (map (row_of e false) p.waiting))
    ∙ least-append (map (row_key key) (map (row_of e true) p.out)) (map (row_key key) (map (row_of e false) p.waiting))
    ∙ ap (λ a. the_sooner a (least (map (row_key key) (map (row_of e false) p.waiting)))) (least_out key e p.out)
    ∙ least_head key order e p.waiting rising

-- the least row of all is the least of the first ones
pub least_rows : (key : Tags → Option ℤ) → KeepsOrder key → (k : ℕ) (ps : List Part) → AllParts (λ p. IsRising p.waiting) ps → least_row key (rows_from k ps) ≡ least (head_rows key k ps)
least_rows key order k [] rising = refl
least_rows key order k (p ∷ ps) rising =
    ap least (map-append (row_key key) (part_rows k p) (rows_from (suc k) ps))
    ∙ least-append (map (row_key key) (part_rows k p)) (map (row_key key) (rows_from (suc k) ps))
    ∙ ap (λ a. the_sooner a (least_row key (rows_from (suc k) ps))) (least_part key order k p rising.0)
    ∙ ap (the_sooner (head_row key k p.waiting)) (least_rows key order (suc k) ps rising.1)

-- ---- the map of first requests tells the same exports
abbrev pub told : Option (ℤ × Row) → Option (ℤ × ℕ)
told None = None
told (Some a) = Some (a.0, a.1.export)

told_sooner : (a b : Option (ℤ × Row)) → told (the_sooner a b) ≡ the_sooner (told a) (told b)
told_sooner None b = refl
told_sooner (Some a) None = refl
told_sooner (Some a) (Some b) = grind arith

least_told : (xs : List (Option (ℤ × Row))) → told (least xs) ≡ least (map told xs)
least_told [] = refl
least_told (x ∷ xs) = told_sooner x (least xs) ∙ ap (the_sooner (told x)) (least_told xs)

told_head : (key : Tags → Option ℤ) (e : ℕ) (entries : List Entry) → told (head_row key e entries) ≡ keyed (slot_key key (head_tags entries)) e
told_head key e [] = refl
told_head key e (entry ∷ entries) = told_keyed (key entry.tags)
  where
    told_keyed : (o : Option ℤ) → told (keyed o (row_of e false entry)) ≡ keyed o e
    told_keyed None = refl
    told_keyed (Some z) = refl

told_heads : (key : Tags → Option ℤ) (k : ℕ) (ps : List Part) → map told (head_rows key k ps) ≡ candidates key k (heads ps)
told_heads key k [] = refl
told_heads key k (p ∷ ps) =
    ap (λ o. o ∷ map told (head_rows key (suc k) ps)) (told_head key k p.waiting)
    ∙ ap (λ l. keyed (slot_key key (head_tags p.waiting)) k ∷ l) (told_heads key (suc k) ps ∙ ap (λ n. candidates key n (heads ps)) (omega arith))

pub least_candidates : (key : Tags → Option ℤ) → KeepsOrder key → (ps : List Part) → AllParts (λ p. IsRising p.waiting) ps → least (candidates key 0 (heads ps)) ≡ told (least_row key (rows_from 0 ps))
least_candidates key order ps rising =
    ap least (sym (told_heads key 0 ps)) ∙ sym (least_told (head_rows key 0 ps)) ∙ ap told (sym (least_rows key order 0 ps rising))

abbrev pub choice_told : Option (Row × Phase) → Option (ℕ × Phase)
choice_told None = None
choice_told (Some a) = Some (a.0.export, a.1)

told_phase : (a b : Option (ℤ × Row)) → by_phase (told a) (told b) ≡ choice_told (by_phase a b)
told_phase None None = refl
told_phase None (Some b) = refl
told_phase (Some a) None = refl
told_phase (Some a) (Some b) = refl

-- the choice among first requests is the choice among all rows
pub choice_of_heads : (now : ℕ) (ps : List Part) → AllParts (λ p. IsRising p.waiting) ps → choice (pos now) (heads ps) ≡ choice_told (chosen_row now (rows_from 0 ps))
choice_of_heads now ps rising =
    let a = least_candidates (due_r (pos now)) (due_r_order (pos now)) ps rising in
    let b = least_candidates (due_p (pos now)) (due_p_order (pos now)) ps rising in
    ap (λ x. by_phase x (least (candidates (due_p (pos now)) 0 (heads ps)))) a
    ∙ ap (by_phase (told (least_row (due_r (pos now)) (rows_from 0 ps)))) b
    ∙ told_phase (least_row (due_r (pos now)) (rows_from 0 ps)) (least_row (due_p (pos now)) (rows_from 0 ps))

-- ---- where the row stands
pub record HeadAt (k : ℕ) (ps : List Part) (row : Row) : Type 0 where
  pub place : ℕ
  pub head : Entry
  pub rest : List Entry
  pub within : place < length ps
  pub export : row.export ≡ k + place
  pub number : row.number ≡ head.number
  pub waiting : (d : Part) → (get_or ps place d).waiting ≡ head ∷ rest

abbrev pub IsHeadAt : ℕ → List Part → Option (ℤ × Row) → Type 0
IsHeadAt k ps None = ⊤
IsHeadAt k ps (Some a) = HeadAt k ps a.1

head_later : (k : ℕ) (p : Part) (ps : List Part) (a : Option (ℤ × Row)) → IsHeadAt (suc k) ps a → IsHeadAt k (p ∷ ps) a
head_later k p ps None h = tt
head_later k p ps (Some a) h = record { place = suc h.place; head = h.head; rest = h.rest; within = let w = h.within in omega arith; export = let e = h.export in omega arith; number = h.number; waiting = h.waiting }

head_here : (key : Tags → Option ℤ) (k : ℕ) (p : Part) (ps : List Part) (entries : List Entry) → p.waiting ≡ entries → IsHeadAt k (p ∷ ps) (head_row key k entries)
head_here key k p ps [] is = tt
head_here key k p ps (entry ∷ entries) is = here (key entry.tags)
  where
    here : (o : Option ℤ) → IsHeadAt k (p ∷ ps) (keyed o (row_of k false entry))
    here None = tt
    here (Some z) = record { place = 0; head = entry; rest = entries; within = omega arith; export = omega arith; number = refl; waiting = λ d. is }

head_sooner : (k : ℕ) (ps : List Part) (a b : Option (ℤ × Row)) → IsHeadAt k ps a → IsHeadAt k ps b → IsHeadAt k ps (the_sooner a b)
head_sooner k ps None b ha hb = hb
head_sooner k ps (Some a) None ha hb = ha
head_sooner k ps (Some a) (Some b) ha hb = by_test (int_le a.0 b.0)
  where
    by_test : (t : Bool) → IsHeadAt k ps (cond t (Some a) (Some b))
    by_test true = ha
    by_test false = hb

pub least_is_head : (key : Tags → Option ℤ) (k : ℕ) (ps : List Part) → IsHeadAt k ps (least (head_rows key k ps))
least_is_head key k [] = tt
least_is_head key k (p ∷ ps) =
    head_sooner k (p ∷ ps) (head_row key k p.waiting) (least (head_rows key (suc k) ps)) (head_here key k p ps p.waiting refl) (head_later k p ps (least (head_rows key (suc k) ps)) (least_is_head key (suc k) ps))
