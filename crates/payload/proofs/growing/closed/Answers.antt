use Rattle.std.proofs.Common.{◌≡◌, ◌≤◌, ◌<◌, ◌+◌, ◌-◌, ◌++◌, List, ℕ, zero, suc, false, sym, ap, ◌∙◌, length, take, drop, arith, length-take}
use Rattle.std.specs.Bool.{◌==◌}
use Rattle.std.specs.List.{concat}
use Rattle.std.proofs.lemmas.Bool.{eqb-true}
use Rattle.payload.proofs.RowLemmas.{take-none_behind, take-more_behind}
use Rattle.payload.proofs.growing.closed.Goals as goal

-- a page that was begun has room for the rest
room_left : (count spare : ℕ) → (count == 0) ≡ false → (0 < count → 4096 ≤ count + spare) → 4096 ≤ count + spare
room_left zero spare some room = grind arith
room_left (suc count) spare some room = room (omega arith)

pub returns-then-is_empty-clause-bytes : goal.returns-then-is_empty-clause-bytes
returns-then-is_empty-clause-bytes g c = take-none_behind (concat c.args.pages.items) c.args.last.items (eqb-true (length c.args.last.items) 0 (sym c.is_empty.ensures ∙ c.if-is_empty.true))

pub extend_reserved-requires : goal.extend_reserved-requires
extend_reserved-requires g c =
    let zeros = c.zeros.result.now in
    omega (arith, length-take (length zeros - c.len.result) (drop c.len.result zeros), room_left (length c.args.last.items) c.args.last.spare (sym c.is_empty.ensures ∙ c.if-is_empty.false) c.requires.room, c.zeros.ensures.whole, c.len.ensures.value)

pub returns-clause-bytes : goal.returns-clause-bytes
returns-clause-bytes g c =
    let front = concat c.args.pages.items in
    let all = c.in_ok-close.ensures.bytes ∙ ap (λ (page : List ℕ). front ++ page) c.extend_reserved.ensures.items in
    ap (λ (bytes : List ℕ). take (length (front ++ c.args.last.items)) bytes) all ∙ take-more_behind front c.args.last.items _
