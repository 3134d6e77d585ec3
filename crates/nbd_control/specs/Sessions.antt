-- The answer to `sessions`.
use Rattle.std.specs.Prelude.{ℕ, List, ◌++◌, codes}
use Rattle.std.specs.List.{flat_map}
use Rattle.std.specs.Fmt.{decimal}
use Rattle.nbd_control.specs.declared.sessions.SessionLine.{SessionLine}
use Rattle.nbd_control.specs.Figures.{seconds_text}
use Rattle.nbd_control.specs.Quoting.{basic_text}

-- of which export a session is, its number, and where its client is
abbrev pub who_text : SessionLine → List ℕ
who_text s =
    codes "session export=" ++ (basic_text s.export.now ++ (codes " number=" ++ decimal s.number ++ codes " address="
    ++ basic_text s.address.now))

-- a key and a number
abbrev pub count_text : List ℕ → ℕ → List ℕ
count_text key count = codes " " ++ key ++ codes "=" ++ decimal count

-- what it sent and has at hand
abbrev pub traffic_text : SessionLine → List ℕ
traffic_text s =
    count_text (codes "requests_total") s.requests ++ (count_text (codes "outstanding") s.outstanding
    ++ (count_text (codes "under_way_bytes") s.under_way_bytes ++ codes "\n"))

unfoldable pub session_line : SessionLine → List ℕ
session_line s = who_text s ++ (codes " connected_seconds=" ++ (seconds_text s.connected ++ traffic_text s))

-- the line of each, and an empty one
abbrev pub sessions_text : List SessionLine → List ℕ
sessions_text sessions = flat_map session_line sessions ++ codes "\n"
