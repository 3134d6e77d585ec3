-- What a contract sees of an `ExportQueue`.
use Rattle.std.specs.Prelude.{◌≡◌, ◌≢◌, ℕ, ◌+◌, ◌-◌, ◌<◌, ◌≤◌, ◌^◌, ◌==◌, List, [], ◌∷◌, ◌++◌, map, length, Option, Some, None, refl, if◌then◌else◌}
use Rattle.std.specs.Ordering.{nat_cmp}
use Rattle.std.specs.FinMap as fin
use Rattle.std.specs.Coded.{Coded, code_by, coded×, coded_ℕ, coded_list}
use Rattle.circular_buffer.specs.Buffer.{Buffer}
use Rattle.slab.specs.Slab.{Slab, get, slab_len, entries}
use Rattle.export_queue.specs.declared.Numbered.{Numbered}
use Rattle.export_queue.specs.declared.Picked.{Picked}

-- the waiting items in order, each with its number; the out items, from the number to the slot and the item;
-- the number of the next item; how many may wait; how many may be out
pub record Queue (T : Type 0) : Type 0 where
  pub waiting : List (ℕ × T)
  pub out : fin.FinMap nat_cmp (ℕ × T)
  pub next : ℕ
  pub depth : ℕ
  pub inflight : ℕ

-- the number of the item that was picked
abbrev pub number_of : Option Picked → Option ℕ
number_of None = None
number_of (Some p) = Some p.number

module _ {T : Type 0} where
  abbrev pub queue_code : Coded T → Coded (Queue T)
  queue_code c =
      code_by
      (List (ℕ × T) × (fin.FinMap nat_cmp (ℕ × T) × (ℕ × (ℕ × ℕ))))
      (coded× (coded_list (coded× coded_ℕ c)) (coded× (fin.code coded_ℕ (coded× coded_ℕ c)) (coded× coded_ℕ (coded× coded_ℕ coded_ℕ))))
      (λ q. (q.waiting, (q.out, (q.next, (q.depth, q.inflight)))))
      (λ p. record { waiting = p.0; out = p.1.0; next = p.1.1.0; depth = p.1.1.1.0; inflight = p.1.1.1.1 })
      (λ _. refl)

  -- nothing waits and nothing is out
  abbrev pub empty_queue : ℕ → ℕ → Queue T
  empty_queue depth inflight = record { waiting = []; out = fin.empty; next = 0; depth = depth; inflight = inflight }

  -- the item waits behind the others, under the next number
  abbrev pub after_push : Queue T → T → Queue T
  after_push q x = record q { waiting = q.waiting ++ (q.next, x) ∷ []; next = q.next + 1 }

  -- the number of the first waiting item
  abbrev pub first_number : List (ℕ × T) → Option ℕ
  first_number [] = None
  first_number (row ∷ rest) = Some row.0

  -- the first of these waiting items is out in this slot
  abbrev pub after_pick_from : Queue T → List (ℕ × T) → ℕ → Queue T
  after_pick_from q [] slot = q
  after_pick_from q (row ∷ rest) slot = record q { waiting = rest; out = fin.insert q.out row.0 (slot, row.1) }

  abbrev pub after_pick : Queue T → ℕ → Queue T
  after_pick q slot = after_pick_from q q.waiting slot

  -- the item of this number is out no longer
  abbrev pub after_finish : Queue T → ℕ → Queue T
  after_finish q number = record q { out = fin.remove q.out number }

  -- a number is used up
  abbrev pub after_skip : Queue T → Queue T
  after_skip q = record q { next = q.next + 1 }

  abbrev pub item_of : Option (ℕ × T) → Option T
  item_of None = None
  item_of (Some row) = Some row.1

  -- an item that is out, where it is in this slot
  abbrev pub item_if : Option (ℕ × T) → ℕ → Option T
  item_if None slot = None
  item_if (Some row) slot = if row.0 == slot then Some row.1 else None

  -- the item that is out in this slot under this number
  abbrev pub item_held : Queue T → ℕ → ℕ → Option T
  item_held q slot number = item_if (fin.get q.out number) slot

  abbrev pub slot_in : Option (ℕ × T) → Option ℕ
  slot_in None = None
  slot_in (Some row) = Some row.0

  -- no item is out in this slot
  abbrev pub IsFree : Queue T → ℕ → Type 0
  IsFree q slot = (number : ℕ) (x : T) → fin.get q.out number ≢ Some (slot, x)

  -- the first of these waiting items isn't out
  abbrev pub IsFreshFrom : Queue T → List (ℕ × T) → Type 0
  IsFreshFrom q [] = Unit {0}
  IsFreshFrom q (row ∷ rest) = fin.get q.out row.0 ≡ None

  abbrev pub IsFresh : Queue T → Type 0
  IsFresh q = IsFreshFrom q q.waiting

  -- the items have the numbers from this one on, up to the next
  abbrev pub IsNumberedFrom : ℕ → ℕ → List (ℕ × T) → Type 0
  IsNumberedFrom n next [] = n ≡ next
  IsNumberedFrom n next (row ∷ rest) = (row.0 ≡ n) × IsNumberedFrom (n + 1) next rest

  -- what is true of every queue
  pub record IsInOrder (q : Queue T) : Type 0 where
    pub in_order : IsNumberedFrom (q.next - length q.waiting) q.next q.waiting
    pub out_before : (number : ℕ) (row : ℕ × T) → fin.get q.out number ≡ Some row → number < q.next - length q.waiting
    pub slots_differ : (m n slot : ℕ) (x y : T) → fin.get q.out m ≡ Some (slot, x) → fin.get q.out n ≡ Some (slot, y) → m ≡ n
    pub few_wait : length q.waiting ≤ q.depth
    pub few_out : fin.len q.out ≤ q.inflight
    pub in_range : q.next ≤ 2 ^ 63

  -- the items, each with its number, the first with this one
  abbrev pub numbered : ℕ → List T → List (ℕ × T)
  numbered n [] = []
  numbered n (x ∷ xs) = (n, x) ∷ numbered (n + 1) xs

  -- an entry of the slab, from the number
  abbrev pub by_number : (ℕ × Numbered T) → (ℕ × (ℕ × T))
  by_number e = (e.1.number, (e.0, e.1.item))

  -- the out items of a slab
  abbrev pub rows_of : Slab (Numbered T) → fin.FinMap nat_cmp (ℕ × T)
  rows_of s = fin.from_entries (map by_number (entries s))

  -- no two slots have one number
  pub record IsOnce (s : Slab (Numbered T)) : Type 0 where
    pub once : (j k : ℕ) (q r : Numbered T) → get s j ≡ Some q → get s k ≡ Some r → q.number ≡ r.number → j ≡ k

  -- the slab's numbers are below the first waiting one and differ, it has room, and the next number is in range
  pub record IsQueue (first waiting : ℕ) (s : Slab (Numbered T)) (inflight : ℕ) : Type 0 where
    pub below : (k : ℕ) (r : Numbered T) → get s k ≡ Some r → r.number < first
    pub differ : IsOnce s
    pub counted : slab_len s ≡ fin.len (rows_of s)
    pub few : slab_len s ≤ inflight
    pub room : inflight ≤ s.capacity
    pub in_range : first + waiting ≤ 2 ^ 63

  -- a queue from its fields
  abbrev pub view_of : Buffer T → Slab (Numbered T) → ℕ → ℕ → Queue T
  view_of ring s first inflight = record {
    waiting = numbered first ring.items;
    out = rows_of s;
    next = first + length ring.items;
    depth = ring.capacity;
    inflight = inflight;
  }
