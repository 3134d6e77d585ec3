-- The out items of a slab, seen from their numbers.
use Rattle.std.proofs.Common.{◌≡◌, ◌≢◌, ◌⊎◌, ◌↔◌, ℕ, zero, suc, ◌+◌, ◌-◌, ◌<◌, ◌≤◌, ◌^◌, true, false, List, [], ◌∷◌, ◌++◌, length, map, drop, Option, Some, None, cond, is_some, refl, sym, ap, subst, ◌∙◌, inl, inr, arith, Contains, add-zero, length-append, count_by, slice_index_or, slice_get, IsTrue, ◌==◌}
use Rattle.std.proofs.lemmas.Bool.{cases_eq, cases_lt, eq-eqb, eqb-true, ne_eqb}
use Rattle.std.specs.Ordering.{nat_cmp, eq_by_cmp}
use Rattle.std.specs.Cmp.{nat_cmp_total, unsigned_tied}
use Rattle.std.specs.Prelude.{option_map}
use Rattle.std.proofs.lemmas.Option.{slice_get_past}
use Rattle.std.specs.FinMap as fin
use Rattle.nbd_base.proofs.Numbers.{tied_same, tied_other}
use Rattle.slab.specs.Slab.{Slab, get, slab_len, entries, entries_from, Updates}
use Rattle.slab.proofs.SlabLemmas.{Contains-cons, Contains-cons_cases, Contains-entries}
use Rattle.export_queue.specs.declared.Numbered.{Numbered}
use Rattle.export_queue.specs.Queue.{numbered, by_number, rows_of, item_if, view_of, after_push, after_pick, after_finish, after_skip, item_of, IsFreshFrom, IsFree, IsNumberedFrom, IsInOrder, IsOnce, IsQueue}
use Rattle.circular_buffer.specs.Buffer.{Buffer, buffer}

-- two options that hold the same values are equal
pub same_option : {X : Type 0} (a b : Option X) → ((x : X) → a ≡ Some x → b ≡ Some x) → ((x : X) → b ≡ Some x → a ≡ Some x) → a ≡ b
same_option None None f g = refl
same_option None (Some y) f g = g y refl
same_option (Some x) b f g = sym (f x refl)

-- an option that holds no value is empty
pub no_value : {X : Type 0} (a : Option X) → ((x : X) → a ≢ Some x) → a ≡ None
no_value None f = refl
no_value (Some x) f = absurd (f x refl)

-- what is at most n and not below it is n
pub all_taken : (m n : ℕ) → m ≤ n → (m < n → ⊥) → m ≡ n
all_taken m n most least = elim (cases_lt m n) [ inl less ↦ absurd (least less) | inr more ↦ omega arith ]

module _ {T : Type 0} where
  abbrev row : ℕ → T → Numbered T
  row n x = record { number = n; item = x }

  pub length-numbered : (n : ℕ) (xs : List T) → length (numbered n xs) ≡ length xs
  length-numbered n [] = refl
  length-numbered n (x ∷ xs) = ap suc (length-numbered (n + 1) xs)

  pub numbered-push : (n : ℕ) (xs : List T) (x : T) → numbered n (xs ++ x ∷ []) ≡ numbered n xs ++ (n + length xs, x) ∷ []
  numbered-push n [] x = rw (add-zero n)
  numbered-push n (y ∷ xs) x =
      let shift : n + 1 + length xs ≡ n + suc (length xs) = omega arith in
      ap (λ rest. (n, y) ∷ rest) (numbered-push (n + 1) xs x ∙ ap (λ m. numbered (n + 1) xs ++ (m, x) ∷ []) shift)

  none_numbered : (n : ℕ) (xs : List T) → numbered n xs ≡ [] → xs ≡ []
  none_numbered n [] none = refl
  none_numbered n (x ∷ xs) none = absurd (cc)

  -- the numbers begin one later, where nothing waits
  pub skip_view : (ring : Buffer T) (out : Slab (Numbered T)) (picked inflight : ℕ) → numbered picked ring.items ≡ [] → view_of ring out (picked + 1) inflight ≡ after_skip (view_of ring out picked inflight)
  skip_view ring out picked inflight none =
      let empty : ring.items ≡ [] = none_numbered picked ring.items none in
      let waiting : numbered (picked + 1) ring.items ≡ numbered picked ring.items = ap (numbered (picked + 1)) empty ∙ ap (numbered picked) (sym empty) in
      let next : picked + 1 + length ring.items ≡ picked + length ring.items + 1 = omega arith in
      λ i. record { waiting = waiting i; out = rows_of out; next = next i; depth = ring.capacity; inflight = inflight }

  -- what the numbers find is listed
  pub find_listed : (es : List (ℕ × Numbered T)) (n k : ℕ) (x : T) → fin.find nat_cmp n (map by_number es) ≡ Some (k, x) → Contains es (k, row n x)
  find_listed [] n k x found = absurd (cc)
  find_listed (e ∷ es) n k x found =
      elim (cases_eq n e.1.number) [
        | inl same ↦
            let here : ◌≡◌ {A = Option (ℕ × T)} (Some (e.0, e.1.item)) (Some (k, x)) = rw (tied_same n e.1.number same) at found in
            let both : ◌≡◌ {A = ℕ × T} (e.0, e.1.item) (k, x) = cc in
            (0, omega arith, λ i. ((both i).0, record { number = sym same i; item = (both i).1 }))
        | inr differs ↦ Contains-cons _ _ _ (find_listed es n k x (rw (tied_other n e.1.number differs) at found))
      ]

  -- what is listed is found, where no two entries have one number
  pub listed_find : (es : List (ℕ × Numbered T)) (n k : ℕ) (x : T)
      → ((d : ℕ × Numbered T) → Contains es d → d.1.number ≡ n → (d.0 ≡ k) × (d.1.item ≡ x))
      → Contains es (k, row n x) → fin.find nat_cmp n (map by_number es) ≡ Some (k, x)
  listed_find [] n k x once listed = absurd (omega (arith, listed.1))
  listed_find (e ∷ es) n k x once listed =
      elim (cases_eq n e.1.number) [
        | inl same ↦
            let first = once e (0, omega arith, refl) (sym same) in
            rw (tied_same n e.1.number same) (λ i. Some (first.0 i, first.1 i))
        | inr differs ↦
            rw (tied_other n e.1.number differs) (listed_find es n k x (λ d within is. once d (Contains-cons _ _ _ within) is)
            (elim (Contains-cons_cases _ _ _ listed) [
              | inl here ↦ absurd (differs (sym (ap (λ d. d.1.number) here)))
              | inr there ↦ there
            ]))
      ]

  -- an item found by its number is in its slot
  pub row_found : (s : Slab (Numbered T)) (n k : ℕ) (x : T) → fin.get (rows_of s) n ≡ Some (k, x) → get s k ≡ Some (row n x)
  row_found s n k x found = (Contains-entries s k _).0 (find_listed (entries s) n k x (sym (fin.get-from_entries nat_cmp_total _ n) ∙ found))

  -- an item in a slot is found by its number
  pub found_row : (s : Slab (Numbered T)) → IsOnce s → (n k : ℕ) (x : T) → get s k ≡ Some (row n x) → fin.get (rows_of s) n ≡ Some (k, x)
  found_row s is n k x held =
      fin.get-from_entries nat_cmp_total _ n
      ∙ listed_find (entries s) n k x
      (λ d within same.
      let there : get s d.0 ≡ Some d.1 = (Contains-entries s d.0 d.1).0 within in
      let slot : d.0 ≡ k = is.once d.0 k d.1 (row n x) there held same in
      let both : Some d.1 ≡ Some (row n x) = sym there ∙ ap (get s) slot ∙ held in
      let one : d.1 ≡ row n x = cc in
      (slot, ap (λ r. r.item) one))
      ((Contains-entries s k _).1 held)

  -- a number that stands in the same slots of two slabs finds the same
  same_found : (s t : Slab (Numbered T)) → IsOnce s → IsOnce t → (n : ℕ)
      → ((k : ℕ) (x : T) → get s k ≡ Some (row n x) → get t k ≡ Some (row n x))
      → ((k : ℕ) (x : T) → get t k ≡ Some (row n x) → get s k ≡ Some (row n x))
      → fin.get (rows_of s) n ≡ fin.get (rows_of t) n
  same_found s t ss ts n f g =
      same_option _ _
      (λ p is. found_row t ts n p.0 p.1 (f p.0 p.1 (row_found s n p.0 p.1 is)))
      (λ p is. found_row s ss n p.0 p.1 (g p.0 p.1 (row_found t n p.0 p.1 is)))

  -- a slab whose slot had no value, and has the one of a new number
  module _ (s t : Slab (Numbered T)) (k n : ℕ) (x : T) (ss : IsOnce s)
      (below : (j : ℕ) (r : Numbered T) → get s j ≡ Some r → r.number < n)
      (vacant : get s k ≡ None) (changes : Updates s t k (Some (row n x))) where
    old_or_new : (j : ℕ) (r : Numbered T) → get t j ≡ Some r → ((j ≡ k) × (row n x ≡ r)) ⊎ ((j ≢ k) × (get s j ≡ Some r))
    old_or_new j r held =
        elim (cases_eq j k) [
          | inl same ↦
              let both : Some (row n x) ≡ Some r = sym changes.changed ∙ ap (get t) (sym same) ∙ held in
              inl (same, cc)
          | inr other ↦ inr (other, sym (changes.others j other) ∙ held)
        ]

    pub IsOnce-put : IsOnce t
    IsOnce-put = record {
      once = λ i j q r at_i at_j same.
          elim (old_or_new i q at_i) [
            | inl a ↦ elim (old_or_new j r at_j) [
              | inl b ↦ a.0 ∙ sym b.0
              | inr b ↦ let lower = below j r b.1 in let is = ap (λ (o : Numbered T). o.number) a.1 in absurd (omega arith)
            ]
            | inr a ↦ elim (old_or_new j r at_j) [
              | inl b ↦ let lower = below i q a.1 in let is = ap (λ (o : Numbered T). o.number) b.1 in absurd (omega arith)
              | inr b ↦ ss.once i j q r a.1 b.1 same
            ]
          ];
    }

    pub below-put : (j : ℕ) (r : Numbered T) → get t j ≡ Some r → r.number < n + 1
    below-put j r held =
        elim (old_or_new j r held) [
          | inl a ↦ let is = ap (λ (o : Numbered T). o.number) a.1 in omega arith
          | inr a ↦ let lower = below j r a.1 in omega arith
        ]

    pub rows_of-put : rows_of t ≡ fin.insert (rows_of s) n (k, x)
    rows_of-put =
        fin.same_map nat_cmp_total fin.nat_cmp-IsAntisymmetric _ _
        (λ q. elim (cases_eq q n) [
          | inl same ↦ rw (fin.get-insert nat_cmp_total (rows_of s) n (k, x) q, tied_same q n same, same) (found_row t IsOnce-put n k x changes.changed)
          | inr other ↦ rw (fin.get-insert nat_cmp_total (rows_of s) n (k, x) q, tied_other q n other)
              (same_found t s IsOnce-put ss q
              (λ j y held. elim (old_or_new j (row q y) held) [
                | inl a ↦ absurd (other (sym (ap (λ (o : Numbered T). o.number) a.1)))
                | inr a ↦ a.1
              ])
              (λ j y held. elim (cases_eq j k) [
                | inl same ↦ let none : None ≡ Some (row q y) = sym vacant ∙ ap (get s) (sym same) ∙ held in absurd (cc)
                | inr apart ↦ changes.others j apart ∙ held
              ]))
        ])

    pub len-put : fin.len (rows_of t) ≡ fin.len (rows_of s) + 1
    len-put =
        let none : fin.get (rows_of s) n ≡ None = no_value _ (λ p is. let lower = below p.0 _ (row_found s n p.0 p.1 is) in absurd (omega arith)) in
        ap fin.len rows_of-put ∙ fin.len-insert nat_cmp_total (rows_of s) n (k, x) ∙ ap (λ o. cond (is_some o) (fin.len (rows_of s)) (fin.len (rows_of s) + 1)) none

  -- a slab whose slot had a value, and has none
  module _ (s t : Slab (Numbered T)) (k n : ℕ) (x : T) (ss : IsOnce s)
      (held : get s k ≡ Some (row n x)) (changes : Updates s t k None) where
    kept : (j : ℕ) (r : Numbered T) → get t j ≡ Some r → (j ≢ k) × (get s j ≡ Some r)
    kept j r at =
        elim (cases_eq j k) [
          | inl same ↦ let none : None ≡ Some r = sym changes.changed ∙ ap (get t) (sym same) ∙ at in absurd (cc)
          | inr other ↦ (other, sym (changes.others j other) ∙ at)
        ]

    pub IsOnce-remove : IsOnce t
    IsOnce-remove = record { once = λ i j q r at_i at_j same. ss.once i j q r (kept i q at_i).1 (kept j r at_j).1 same }

    pub rows_of-remove : rows_of t ≡ fin.remove (rows_of s) n
    rows_of-remove =
        fin.same_map nat_cmp_total fin.nat_cmp-IsAntisymmetric _ _
        (λ q. elim (cases_eq q n) [
          | inl same ↦ rw (fin.get-remove nat_cmp_total (rows_of s) n q, tied_same q n same)
              (no_value _ (λ p is. let there = kept p.0 _ (row_found t q p.0 p.1 is) in there.0 (ss.once p.0 k _ (row n x) there.1 held same)))
          | inr other ↦ rw (fin.get-remove nat_cmp_total (rows_of s) n q, tied_other q n other)
              (same_found t s IsOnce-remove ss q
              (λ j y at. (kept j (row q y) at).1)
              (λ j y at. elim (cases_eq j k) [
                | inl same ↦
                    let both : Some (row q y) ≡ Some (row n x) = sym at ∙ ap (get s) same ∙ held in
                    let one : row q y ≡ row n x = cc in
                    absurd (other (ap (λ (o : Numbered T). o.number) one))
                | inr apart ↦ changes.others j apart ∙ at
              ]))
        ])

    pub len-remove : fin.len (rows_of t) ≡ fin.len (rows_of s) - 1
    len-remove = ap fin.len rows_of-remove ∙ fin.len-remove nat_cmp_total (rows_of s) n ∙ ap (λ o. cond (is_some o) (fin.len (rows_of s) - 1) (fin.len (rows_of s))) (found_row s ss n k x held)

  -- what `held` answers, from the slab
  pub out_some : (s : Slab (Numbered T)) → IsOnce s → (slot number : ℕ) (x : T) → get s slot ≡ Some (row number x) → item_if (fin.get (rows_of s) number) slot ≡ Some x
  out_some s ss slot number x held = rw (found_row s ss number slot x held, eq-eqb slot slot refl) refl

  pub out_none : (s : Slab (Numbered T)) (slot number : ℕ) → ((x : T) → get s slot ≢ Some (row number x)) → item_if (fin.get (rows_of s) number) slot ≡ None
  out_none s slot number absent = by (fin.get (rows_of s) number) refl
    where
      by : (o : Option (ℕ × T)) → fin.get (rows_of s) number ≡ o → item_if o slot ≡ None
      by None e = refl
      by (Some p) e =
          elim (cases_eq p.0 slot) [
            | inl same ↦ absurd (absent p.1 (ap (get s) (sym same) ∙ row_found s number p.0 p.1 e))
            | inr other ↦ rw (ne_eqb p.0 slot other) refl
          ]

  -- what `held` finds is in the slab
  pub out_held : (s : Slab (Numbered T)) (slot number : ℕ) (x : T) → item_if (fin.get (rows_of s) number) slot ≡ Some x → get s slot ≡ Some (row number x)
  out_held s slot number x found = by (fin.get (rows_of s) number) refl found
    where
      by : (o : Option (ℕ × T)) → fin.get (rows_of s) number ≡ o → item_if o slot ≡ Some x → get s slot ≡ Some (row number x)
      by None e f = absurd (cc)
      by (Some p) e f =
          elim (cases_eq p.0 slot) [
            | inl same ↦
                let here : ◌≡◌ {A = Option T} (Some p.1) (Some x) = rw (eq-eqb p.0 slot same) at f in
                let item : p.1 ≡ x = cc in
                ap (get s) (sym same) ∙ row_found s number p.0 p.1 e ∙ ap (λ y. Some (row number y)) item
            | inr other ↦ let none : ◌≡◌ {A = Option T} None (Some x) = rw (ne_eqb p.0 slot other) at f in absurd (cc)
          ]

  pub IsQueue-new : (s : Slab (Numbered T)) (n inflight : ℕ) → s.slots ≡ [] → n ≡ 0 → inflight ≤ s.capacity → IsQueue 0 n s inflight
  IsQueue-new s n inflight none nothing room =
      let vacant = λ (k : ℕ). let e : get s k ≡ None = ap (λ slots. slice_index_or slots k None) none in e in
      record {
        below = λ k r held. let no : None ≡ Some r = sym (vacant k) ∙ held in absurd (cc);
        differ = record { once = λ j k q r at_j at_k same. let no : None ≡ Some q = sym (vacant j) ∙ at_j in absurd (cc) };
        counted = ap (count_by is_some) none ∙ sym (fin.len-empty nat_cmp (ℕ × T)) ∙ sym (ap (λ slots. fin.len (fin.from_entries {R = nat_cmp} (map by_number (entries_from 0 slots)))) none);
        few = let nothing_out : slab_len s ≡ 0 = ap (count_by is_some) none in omega arith;
        room = room;
        in_range = omega arith;
      }

  pub pick_view : (b c : Buffer T) (s t : Slab (Numbered T)) (x : T) (p i k : ℕ) → Some x ≡ slice_get b.items 0 → c ≡ buffer (drop 1 b.items) b.capacity
      → rows_of t ≡ fin.insert (rows_of s) p (k, x) → view_of c t (p + 1) i ≡ after_pick (view_of b s p i) k
  pick_view b c s t x p i k front rest rows = by b.items b.capacity refl front rest
    where
      by : (xs : List T) (n : ℕ) → n ≡ b.capacity → Some x ≡ slice_get xs 0 → c ≡ buffer (drop 1 xs) n → view_of c t (p + 1) i ≡ after_pick (view_of (buffer xs n) s p i) k
      by [] n e front rest = absurd (cc)
      by (z ∷ zs) n e front rest =
          let first : x ≡ z = cc in
          let items : c.items ≡ zs = ap (λ (b : Buffer T). b.items) rest in
          let next : p + 1 + length c.items ≡ p + suc (length zs) = rw items (omega arith) in
          λ j. record {
            waiting = numbered (p + 1) (items j);
            out = (rows ∙ ap (λ y. fin.insert (rows_of s) p (k, y)) first) j;
            next = next j;
            depth = (rest j).capacity;
            inflight = i;
          }

  pub push_view : (b c : Buffer T) (s : Slab (Numbered T)) (x : T) (p i : ℕ) → c ≡ buffer (b.items ++ x ∷ []) b.capacity → view_of c s p i ≡ after_push (view_of b s p i) x
  push_view b c s x p i new =
      let waiting : numbered p c.items ≡ numbered p b.items ++ (p + length b.items, x) ∷ [] = ap (λ (b : Buffer T). numbered p b.items) new ∙ numbered-push p b.items x in
      let next : p + length c.items ≡ p + length b.items + 1 = ap (λ (b : Buffer T). p + length b.items) new ∙ omega (arith, length-append b.items (x ∷ [])) in
      λ j. record { waiting = waiting j; out = rows_of s; next = next j; depth = (new j).capacity; inflight = i }

  pub free_slot : (s : Slab (Numbered T)) (b : Buffer T) (p i k : ℕ) → get s k ≡ None → IsFree (view_of b s p i) k
  free_slot s b p i k vacant number x found = let no : None ≡ Some (row number x) = sym vacant ∙ row_found s number k x found in absurd (cc)

  pub IsQueue-pick : (s t : Slab (Numbered T)) (p w v i k : ℕ) (x : T) → IsQueue p w s i → get s k ≡ None → Updates s t k (Some (row p x)) → slab_len t ≡ slab_len s + 1
      → t.capacity ≡ s.capacity → v + 1 ≤ w → fin.len (rows_of s) < i → IsQueue (p + 1) v t i
  IsQueue-pick s t p w v i k x is vacant changes longer cap less may = record {
    below = below-put s t k p x is.differ is.below vacant changes;
    differ = IsOnce-put s t k p x is.differ is.below vacant changes;
    counted = let a = len-put s t k p x is.differ is.below vacant changes in let b = is.counted in omega arith;
    few = let b = is.counted in omega arith;
    room = let r = is.room in omega arith;
    in_range = let r = is.in_range in omega arith;
  }

  pub IsQueue-finish : (s t : Slab (Numbered T)) (p w i k n : ℕ) (x : T) → IsQueue p w s i → get s k ≡ Some (row n x) → Updates s t k None → slab_len t + 1 ≡ slab_len s
      → t.capacity ≡ s.capacity → IsQueue p w t i
  IsQueue-finish s t p w i k n x is held changes shorter cap = record {
    below = λ j r at. is.below j r (kept s t k n x is.differ held changes j r at).1;
    differ = IsOnce-remove s t k n x is.differ held changes;
    counted = let a = len-remove s t k n x is.differ held changes in let b = is.counted in omega arith;
    few = let b = is.few in omega arith;
    room = let r = is.room in omega arith;
    in_range = is.in_range;
  }

  pub IsQueue-push : (s : Slab (Numbered T)) (p w v i : ℕ) → IsQueue p w s i → p + v ≤ 2 ^ 63 → IsQueue p v s i
  IsQueue-push s p w v i is small = record { below = is.below; differ = is.differ; counted = is.counted; few = is.few; room = is.room; in_range = small }

  pub front_length : (b c : Buffer T) (x : T) → Some x ≡ slice_get b.items 0 → c ≡ buffer (drop 1 b.items) b.capacity → length c.items + 1 ≤ length b.items
  front_length b c x front rest = by b.items front (ap (λ (b : Buffer T). b.items) rest)
    where
      by : (xs : List T) → Some x ≡ slice_get xs 0 → c.items ≡ drop 1 xs → length c.items + 1 ≤ length xs
      by [] front e = absurd (cc)
      by (z ∷ zs) front e = let n : length c.items ≡ length zs = ap length e in omega arith

  pub finish_view : (b : Buffer T) (s t : Slab (Numbered T)) (p i n : ℕ) → rows_of t ≡ fin.remove (rows_of s) n → view_of b t p i ≡ after_finish (view_of b s p i) n
  finish_view b s t p i n rows = λ j. record { waiting = numbered p b.items; out = rows j; next = p + length b.items; depth = b.capacity; inflight = i }

  pub fresh_first : (b : Buffer T) (s : Slab (Numbered T)) (p w i : ℕ) → IsQueue p w s i → IsFreshFrom (view_of b s p i) (numbered p b.items)
  fresh_first b s p w i is = by b.items
    where
      by : (xs : List T) → IsFreshFrom (view_of b s p i) (numbered p xs)
      by [] = tt
      by (x ∷ xs) = no_value _ (λ h found. let lower = is.below h.0 _ (row_found s p h.0 h.1 found) in absurd (omega arith))

  at-numbered : (n : ℕ) (xs : List T) (i : ℕ) → slice_get xs i ≡ item_of (slice_get (numbered n xs) i)
  at-numbered n [] i = refl
  at-numbered n (x ∷ xs) zero = refl
  at-numbered n (x ∷ xs) (suc i) = at-numbered (n + 1) xs i

  -- the item at a place, from the ring
  pub waiting_item : (b : Buffer T) (s : Slab (Numbered T)) (p i place : ℕ) → slice_get b.items place ≡ item_of (slice_get (view_of b s p i).waiting place)
  waiting_item b s p i place = at-numbered p b.items place

  number-numbered : (n : ℕ) (xs : List T) (i : ℕ) → i < length xs → option_map (λ (row : ℕ × T). row.0) (slice_get (numbered n xs) i) ≡ Some (n + i)
  number-numbered n [] i lt = absurd (omega arith)
  number-numbered n (x ∷ xs) zero lt = ap Some (omega arith)
  number-numbered n (x ∷ xs) (suc i) lt = number-numbered (n + 1) xs i (omega arith) ∙ ap Some (omega arith)

  -- the number at a place, from that of the first
  pub waiting_number : (b : Buffer T) (s : Slab (Numbered T)) (p i place : ℕ) → place < length b.items → option_map (λ (row : ℕ × T). row.0) (slice_get (view_of b s p i).waiting place) ≡ Some (p + place)
  waiting_number b s p i place lt = number-numbered p b.items place lt

  pub no_number : (b : Buffer T) (s : Slab (Numbered T)) (p i place : ℕ) → length b.items ≤ place → option_map (λ (row : ℕ × T). row.0) (slice_get (view_of b s p i).waiting place) ≡ None
  no_number b s p i place le = ap (option_map (λ (row : ℕ × T). row.0)) (slice_get_past (numbered p b.items) place (subst (λ n. n ≤ place) (sym (length-numbered p b.items)) le))

  numbered-in-order : (n : ℕ) (xs : List T) → IsNumberedFrom n (n + length xs) (numbered n xs)
  numbered-in-order n [] = omega arith
  numbered-in-order n (x ∷ xs) =
      let shift : n + 1 + length xs ≡ n + suc (length xs) = omega arith in
      (refl, subst (λ m. IsNumberedFrom (n + 1) m (numbered (n + 1) xs)) shift (numbered-in-order (n + 1) xs))

  -- what is true of every queue
  pub queue_order : (b : Buffer T) (s : Slab (Numbered T)) (p i : ℕ) → IsQueue p (length b.items) s i → length b.items ≤ b.capacity → IsInOrder (view_of b s p i)
  queue_order b s p i is within =
      let long = length-numbered p b.items in
      let first : p + length b.items - length (numbered p b.items) ≡ p = omega arith in
      record {
        in_order = subst (λ n. IsNumberedFrom n (p + length b.items) (numbered p b.items)) (sym first) (numbered-in-order p b.items);
        out_before = λ n row found. let lower = is.below row.0 _ (row_found s n row.0 row.1 found) in omega arith;
        slots_differ = λ m n slot x y at_m at_n.
            let both : Some (row m x) ≡ Some (row n y) = sym (row_found s m slot x at_m) ∙ row_found s n slot y at_n in
            let one : row m x ≡ row n y = cc in
            ap (λ (r : Numbered T). r.number) one;
        few_wait = omega arith;
        few_out = let a = is.counted in let b = is.few in omega arith;
        in_range = is.in_range;
      }

  -- what `is_full` answers, from the ring
  pub full_view : (b : Buffer T) (s : Slab (Numbered T)) (p i : ℕ) → IsTrue (length b.items == b.capacity) ↔ (length (view_of b s p i).waiting ≡ (view_of b s p i).depth)
  full_view b s p i =
      let long = length-numbered p b.items in
      (λ is. long ∙ eqb-true (length b.items) b.capacity is, λ is. eq-eqb (length b.items) b.capacity (sym long ∙ is))
