-- Settings that aren't refused are in range.
use Rattle.std.proofs.Common.{◌≡◌, ℕ, List, length, arith}
use Rattle.std.specs.Prelude.{Bool, true, false, Option, Some, None, ◌<◌, ◌≤◌, ◌&&◌, nat_lt, if◌then◌else◌, refl}
use Rattle.std.specs.Option.{option_map_or}
use Rattle.nbd_commands.specs.Exports.{Export, IsExport, IsWithin}
use Rattle.tag_clock.specs.Intervals.{AreRates}
use Rattle.nbd_commands.specs.Refusals.{is_outside, is_name_taken, rates_refusal, first_refusal}
use Rattle.nbd_commands.specs.declared.settings.Refusal.{Refusal}
use Rattle.nbd_commands.specs.declared.settings.Refusal.TheVariants.{BadName, RepeatedName, BadDescription, BadSize, BadReservation, BadLimit, BadWeight, BadDepth, BadWindow, ReservationAboveLimit}

-- a case that was passed by
pub passed : (b : Bool) (refusal : Refusal) (rest : Option Refusal) → (if b then Some refusal else rest) ≡ None → (b ≡ false) × (rest ≡ None)
passed true refusal rest h = absurd (grind arith)
passed false refusal rest h = (refl, h)

within : (most n : ℕ) → is_outside most n ≡ false → IsWithin most n
within most n h = record { least = grind arith; greatest = grind arith }

not_above : (most n : ℕ) → nat_lt most n ≡ false → n ≤ most
not_above most n h = grind arith

not_above_limit : (limit reservation : ℕ) → (nat_lt 0 limit && nat_lt limit reservation) ≡ false → 0 < limit → reservation ≤ limit
not_above_limit limit reservation h some = grind arith

pub not_refused : (exports : List Export) (e : Export) → first_refusal exports e ≡ None → IsExport e
not_refused exports e h =
    let b = passed (is_outside 255 (length e.name)) BadName _ h in
    let c = passed (is_name_taken exports e.name) RepeatedName _ b.1 in
    let d = passed (nat_lt 4096 (option_map_or length e.description 0)) BadDescription _ c.1 in
    let s = passed (is_outside 1099511627776 e.size) BadSize _ d.1 in
    let r = passed (nat_lt 1000000 e.reservation) BadReservation _ s.1 in
    let l = passed (nat_lt 1000000 e.limit) BadLimit _ r.1 in
    let w = passed (is_outside 1000000 e.weight) BadWeight _ l.1 in
    let q = passed (is_outside 4096 e.depth) BadDepth _ w.1 in
    let v = passed (is_outside 4096 e.window) BadWindow _ q.1 in
    let z = passed (nat_lt 0 e.limit && nat_lt e.limit e.reservation) ReservationAboveLimit _ v.1 in
    let weight = within 1000000 e.weight w.0 in
    record {
      name = within 255 (length e.name) b.0;
      description = not_above 4096 _ d.0;
      size = within 1099511627776 e.size s.0;
      rates = record {
        reservation = not_above 1000000 e.reservation r.0;
        limit = not_above 1000000 e.limit l.0;
        weight = weight.least;
        weight_few = weight.greatest;
      };
      depth = within 4096 e.depth q.0;
      window = within 4096 e.window v.0;
      reserved = not_above_limit e.limit e.reservation z.0;
    }

pub rates_not_refused : (reservation limit weight : ℕ) → rates_refusal reservation limit weight ≡ None → AreRates reservation limit weight
rates_not_refused reservation limit weight h =
    let r = passed (nat_lt 1000000 reservation) BadReservation _ h in
    let l = passed (nat_lt 1000000 limit) BadLimit _ r.1 in
    let w = passed (is_outside 1000000 weight) BadWeight _ l.1 in
    let few = within 1000000 weight w.0 in
    record {
      reservation = not_above 1000000 reservation r.0;
      limit = not_above 1000000 limit l.0;
      weight = few.least;
      weight_few = few.greatest;
    }
