-- How much work a step is that is made again, in pages.
use Rattle.std.specs.Prelude.{ℕ, ◌+◌, ◌*◌, ◌/◌, ◌==◌, ◌||◌, if◌then◌else◌}
use Rattle.nbd_wire.specs.declared.requests.RequestHead.{RequestHead}

-- 1 is WRITE, 4 TRIM and 6 WRITE_ZEROES: zeros are a page for each 1,024
abbrev pub work_of : RequestHead → ℕ
work_of head =
    if head.kind == 1 then head.length / 4096 + 1
    else (if head.kind == 4 || head.kind == 6 then head.length / 4194304 + 1
    else 0)

-- what an arrival works off: twice what it brings and its four steps, and 64
abbrev pub allowance_of : RequestHead → ℕ
allowance_of head = 2 * work_of head + 72
