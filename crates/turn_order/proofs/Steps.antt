-- The steps of weights.
use Rattle.std.proofs.Common.{◌≡◌, ℕ, ◌+◌, ◌*◌, ◌/◌, ◌^◌, ◌<◌, ◌≤◌, max, arith}
use Rattle.std.proofs.Math.Nat.{div-mul-le_self, lt-div-mul-add}
use Rattle.turn_order.specs.Laws.{IsStepOfWeight}

steps : (w m : ℕ) → m ≡ w → 1 ≤ w → (2 ^ 60 / m * w ≤ 2 ^ 60) × (2 ^ 60 < 2 ^ 60 / m * w + w)
steps w m e low =
    let positive : 0 < w = omega arith in
    rw e (div-mul-le_self (2 ^ 60) w, lt-div-mul-add positive)

pub step_of_weight : IsStepOfWeight
step_of_weight w low = steps w (max w 1) (omega arith) low
