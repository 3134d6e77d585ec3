-- WRITEs that sessions left waiting.
use Rattle.std.specs.Prelude.{ℕ, ◌+◌, ◌-◌, ◌^◌, min, max}
use Rattle.nbd_service.specs.declared.left_writes.LeftWrites.{LeftWrites}

-- so many bytes more, of which none waits once all are chosen that wait now
abbrev pub left_with : ℕ → ℕ → ℕ → LeftWrites → LeftWrites
left_with bytes chosen waiting left =
    record {
      bytes = min (left.bytes + bytes) (2 ^ 64 - 1);
      until = max left.until (min (chosen + waiting) (2 ^ 64 - 1));
    }
