-- An export that has nothing at hand counts as any other that has nothing.
use Rattle.std.proofs.Common.{◌≡◌, ◌≤◌, Bool, ℕ, ◌-◌, ◌*◌, max, false, List, Option, if◌then◌else◌, sym, ap, ◌∙◌, arith}
use Rattle.std.specs.Prelude.{◌&&◌, ◌||◌, nat_lt, nat_le, slice_get, slice_set}
use Rattle.std.proofs.lemmas.Bool.Decides.{nat_tests}
use Rattle.nbd_base.specs.Words.{when_some}
use Rattle.turn_order.specs.declared.flow.Flow.{Flow}
use Rattle.turn_order.specs.declared.contenders.Contenders.{Contenders}
use Rattle.turn_order.specs.declared.Turn.{Turn}
use Rattle.turn_order.specs.declared.Turn.TheVariants.{Go}
use Rattle.turn_order.specs.Flows.{contends_at}
use Rattle.turn_order.specs.Contenders.{among, joined, credit_of, turn_of}
use Rattle.turn_order.specs.Orders.{Order, placed, back, left, answered, answer}
use Rattle.turn_order.specs.Laws.{IsFlow, IsLeftAlone}
use Rattle.turn_order.proofs.Cases.{some_alike}
use Rattle.turn_order.proofs.Puts.{get_other, put_swap}
use Rattle.turn_order.proofs.Gathered.{own, joined_none, gathered_alike}

none_by : (n l now : ℕ) (a b : Bool) → n ≡ 0 → l ≤ now → ((nat_lt 0 n || nat_lt now l) && a && b) ≡ false
none_by n l now a b h k = grind (arith, nat_tests)

none_at_hand : (now : ℕ) (f : Flow) → f.sessions ≡ 0 → f.lingers_until ≤ now → contends_at now f ≡ false
none_at_hand now f h k = none_by f.sessions f.lingers_until now (nat_le f.limited_until now) (nat_le (now - f.seen) 5000000) h k

-- it has nothing at hand, and doesn't linger
abbrev pub IsAway : ℕ → Flow → Type 0
IsAway now f = (f.sessions ≡ 0) × (f.lingers_until ≤ now)

unseen : (now : ℕ) (f g : Flow) → IsAway now f → IsAway now g → (all : Contenders) → joined now f all ≡ joined now g all
unseen now f g hf hg all = joined_none now f all (none_at_hand now f hf.0 hf.1) ∙ sym (joined_none now g all (none_at_hand now g hg.0 hg.1))

-- flow k of export x looks at the others
same_among : (e x now : ℕ) (f g k : Flow) (fs : List Flow) → (x ≡ e → ⊥) → IsAway now f → IsAway now g → among now (slice_set (slice_set fs e f) x k) k ≡ among now (slice_set (slice_set fs e g) x k) k
same_among e x now f g k fs ne hf hg =
    ap (λ (l : List Flow). among now l k) (put_swap fs e x f k ne)
    ∙ (gathered_alike now (slice_set fs x k) e f g (unseen now f g hf hg) (own k)
    ∙ sym (ap (λ (l : List Flow). among now l k) (put_swap fs e x g k ne)))

same_back : (e now : ℕ) (f g k : Flow) (o : Order) → IsAway now f → IsAway now g → back now (placed e f o) k ≡ back now (placed e g o) k
same_back e now f g k o hf hg =
    ap (λ (c : Contenders). record k { seen = now; virtual_time = if contends_at now k then k.virtual_time else max k.virtual_time (o.clock - credit_of now c k) })
    (gathered_alike now o.flows e f g (unseen now f g hf hg) (own k))

-- what flow k of export x is answered
abbrev reply : ℕ → ℕ → Order → Flow → Turn
reply x now o k = answered now (back now o k) (placed x (back now o k) o)

same_reply : (e x now : ℕ) (f g k : Flow) (o : Order) → (x ≡ e → ⊥) → IsAway now f → IsAway now g → reply x now (placed e f o) k ≡ reply x now (placed e g o) k
same_reply e x now f g k o ne hf hg =
    ap (λ (b : Flow). answered now b (placed x b (placed e f o))) (same_back e now f g k o hf hg)
    ∙ ap (λ (c : Contenders). turn_of now c (back now (placed e g o) k)) (same_among e x now f g (back now (placed e g o) k) o.flows ne hf hg)

-- the answers to others are the same beside any two that have nothing at hand
pub same_answer : (e x now : ℕ) (f g : Flow) (o : Order) → (x ≡ e → ⊥) → IsAway now f → IsAway now g → answer x now (placed e f o) ≡ answer x now (placed e g o)
same_answer e x now f g o ne hf hg =
    ap (λ (s : Option Flow). when_some s (reply x now (placed e f o)) Go) (get_other o.flows e x f ne)
    ∙ (some_alike (reply x now (placed e f o)) (reply x now (placed e g o)) Go (λ k. same_reply e x now f g k o ne hf hg) (slice_get o.flows x)
    ∙ sym (ap (λ (s : Option Flow). when_some s (reply x now (placed e g o)) Go) (get_other o.flows e x g ne)))

left_is : (e : ℕ) (f : Flow) (o : Order) → IsFlow e f o → left e o ≡ placed e (record f { sessions = f.sessions - 1 }) o
left_is e f o h = ap (λ (s : Option Flow). when_some s (λ (k : Flow). placed e (record k { sessions = k.sessions - 1 }) o) o) h

pub is_left_alone : IsLeftAlone
is_left_alone e x now f g o ne h few over none none' =
    ap (answer x now) (left_is e f o h)
    ∙ same_answer e x now (record f { sessions = f.sessions - 1 }) g o ne (omega arith, over) (none, none')
