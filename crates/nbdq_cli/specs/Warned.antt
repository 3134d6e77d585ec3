-- What `serve` says of a configuration that is odd and legal.
use Rattle.std.specs.Prelude.{ℕ, if◌then◌else◌, nat_lt, List, [], ◌++◌, codes, sum_by}
use Rattle.std.specs.Fmt.{decimal}
use Rattle.nbd_commands.specs.Exports.{Export, Offer}
use Rattle.nbdq_cli.specs.Lines.{lines_of}

-- what all reservations come to, in requests a second
abbrev pub reserved_in : List Export → ℕ
reserved_in exports = sum_by (λ e. e.reservation) exports

-- more than the measurements show
abbrev pub reserved_line : ℕ → List ℕ
reserved_line reserved =
    if nat_lt 400000 reserved
    then codes "serve: reservations of " ++ decimal reserved ++ codes " requests a second in all; 4 KiB WRITEs came to 400000 where it was measured\n"
    else []

-- so few may wait that one client alone can fill the queue
abbrev pub export_named : ℕ → List ℕ
export_named n = codes "serve: export " ++ decimal n

abbrev pub has_depth : ℕ → List ℕ
has_depth depth = codes " has depth " ++ decimal depth

abbrev pub above_its_depth : ℕ → List ℕ
above_its_depth window = codes " below its window " ++ decimal window ++ codes ", so one client alone may be answered EIO\n"

abbrev pub depth_text : ℕ → ℕ → ℕ → List ℕ
depth_text n depth window = if nat_lt depth window then export_named n ++ has_depth depth ++ above_its_depth window else []

abbrev pub depth_line : ℕ → Export → List ℕ
depth_line n e = depth_text n e.depth e.window

abbrev pub warnings_text : Offer → List ℕ
warnings_text offer = reserved_line (reserved_in offer.exports) ++ lines_of depth_line 0 offer.exports
