-- The figures that are told of the server and of an export.
use Rattle.std.specs.Prelude.{ℕ, ◌-◌, ◌/◌, ◌%◌, List, [], ◌∷◌, ◌++◌, length, codes, replicate, Option, Some, None}
use Rattle.std.specs.Fmt.{decimal}
use Rattle.nbd_control.specs.declared.figures.Kind.{Kind}
use Rattle.nbd_control.specs.declared.figures.Kind.TheVariants.{Counter, Gauge}
use Rattle.nbd_control.specs.declared.figures.Reading.{Reading}
use Rattle.nbd_control.specs.declared.figures.Reading.TheVariants.{Number, Time, Nothing}
use Rattle.nbd_control.specs.declared.figures.Row as code
use Rattle.nbd_control.specs.declared.figures.ServerFigure.{ServerFigure}
use Rattle.nbd_control.specs.declared.figures.ServerFigure.TheVariants as server
use Rattle.nbd_control.specs.declared.figures.ExportFigure.{ExportFigure}
use Rattle.nbd_control.specs.declared.figures.ExportFigure.TheVariants as export
use Rattle.nbd_control.specs.declared.stats.ServerStats.{ServerStats}
use Rattle.nbd_control.specs.declared.stats.ExportStats.{ExportStats}

-- the name of a figure, what it means, and its kind
pub record Row : Type 0 where
  pub name : List ℕ
  pub help : List ℕ
  pub kind : Kind

abbrev pub row_of : code.Row → Row
row_of row = record { name = row.name.now; help = row.help.now; kind = row.kind }

abbrev pub counter : List ℕ → List ℕ → Row
counter name help = record { name = name; help = help; kind = Counter }

abbrev pub gauge : List ℕ → List ℕ → Row
gauge name help = record { name = name; help = help; kind = Gauge }

abbrev pub server_row : ServerFigure → Row
server_row server.Uptime = gauge (codes "uptime_seconds") (codes "Time since the server started.")
server_row server.Connections = gauge (codes "connections") (codes "Connections that are open.")
server_row server.InService = gauge (codes "requests_in_service") (codes "Requests in service.")
server_row server.Holds = counter (codes "holds_total") (codes "Holds of the server.")
server_row server.LongestHold = gauge (codes "longest_hold_seconds") (codes "Longest hold of the server in the last whole second.")

abbrev pub server_reading : ServerStats → ServerFigure → Reading
server_reading s server.Uptime = Time s.uptime
server_reading s server.Connections = Number s.connections
server_reading s server.InService = Number s.in_service
server_reading s server.Holds = Number s.holds
server_reading s server.LongestHold = Time s.longest_hold

-- those of the server, in order
abbrev pub server_figures : List ServerFigure
server_figures = server.Uptime ∷ server.Connections ∷ server.InService ∷ server.Holds ∷ server.LongestHold ∷ []

abbrev pub export_row : ExportFigure → Row
export_row export.Size = gauge (codes "size_bytes") (codes "Size of the disk.")
export_row export.HeldBytes = gauge (codes "held_bytes") (codes "Bytes of pages that have memory or are kept as zeros.")
export_row export.BaseBytes = gauge (codes "base_bytes") (codes "Bytes of such pages of the disk before its latest steps.")
export_row export.LogBytes = gauge (codes "log_bytes") (codes "Bytes of WRITEs in its latest steps.")
export_row export.Sessions = gauge (codes "sessions") (codes "Sessions that are open.")
export_row export.Waiting = gauge (codes "requests_waiting") (codes "Requests that wait.")
export_row export.Steps = counter (codes "steps_total") (codes "Steps of the export.")
export_row export.ByReservation = counter (codes "chosen_by_reservation_total") (codes "Requests chosen by reservation.")
export_row export.ByWeight = counter (codes "chosen_by_weight_total") (codes "Requests chosen by weight.")
export_row export.Errors = counter (codes "errors_total") (codes "Requests answered with an error.")
export_row export.ReadBytes = counter (codes "read_bytes_total") (codes "Bytes read.")
export_row export.WrittenBytes = counter (codes "written_bytes_total") (codes "Bytes written.")
export_row export.Reservation = gauge (codes "reservation_per_second") (codes "Reserved requests a second, 0 for none.")
export_row export.Limit = gauge (codes "limit_per_second") (codes "Limit in requests a second, 0 for none.")
export_row export.Weight = gauge (codes "weight") (codes "Weight among the exports.")
export_row export.MedianWait = gauge (codes "wait_median_seconds") (codes "Median wait of the latest 1024 requests.")
export_row export.LongWait = gauge (codes "wait_p99_seconds") (codes "Wait that 99 of 100 of the latest 1024 requests didn't exceed.")

-- a number, where it is known
abbrev pub known : Option ℕ → Reading
known None = Nothing
known (Some number) = Number number

-- how long requests waited, where some did
abbrev pub waited : Option ℕ → Reading
waited None = Nothing
waited (Some nanoseconds) = Time nanoseconds

abbrev pub export_reading : ExportStats → ExportFigure → Reading
export_reading e export.Size = Number e.size
export_reading e export.HeldBytes = Number e.held_bytes
export_reading e export.BaseBytes = known e.base_bytes
export_reading e export.LogBytes = Number e.log_bytes
export_reading e export.Sessions = Number e.sessions
export_reading e export.Waiting = Number e.waiting
export_reading e export.Steps = Number e.steps
export_reading e export.ByReservation = Number e.by_reservation
export_reading e export.ByWeight = Number e.by_weight
export_reading e export.Errors = Number e.errors
export_reading e export.ReadBytes = Number e.read_bytes
export_reading e export.WrittenBytes = Number e.written_bytes
export_reading e export.Reservation = Number e.rates.reservation
export_reading e export.Limit = Number e.rates.limit
export_reading e export.Weight = Number e.rates.weight
export_reading e export.MedianWait = waited e.waits.median
export_reading e export.LongWait = waited e.waits.p99

-- those of an export, in order
abbrev pub export_figures : List ExportFigure
export_figures =
    export.Size ∷ export.HeldBytes ∷ export.BaseBytes ∷ export.LogBytes ∷ export.Sessions ∷ export.Waiting ∷ export.Steps
    ∷ export.ByReservation ∷ export.ByWeight ∷ export.Errors ∷ export.ReadBytes ∷ export.WrittenBytes
    ∷ export.Reservation ∷ export.Limit ∷ export.Weight ∷ export.MedianWait ∷ export.LongWait ∷ []

abbrev pub kind_word : Kind → List ℕ
kind_word Counter = codes "counter"
kind_word Gauge = codes "gauge"

-- a number in nine digits
unfoldable pub nine_digits : ℕ → List ℕ
nine_digits n = replicate (9 - length (decimal n)) 48 ++ decimal n

-- a time in seconds, with nine digits behind the point
abbrev pub seconds_text : ℕ → List ℕ
seconds_text nanoseconds = (decimal (nanoseconds / 1000000000) ++ codes ".") ++ nine_digits (nanoseconds % 1000000000)

-- a value, or the word for none
abbrev pub reading_text : List ℕ → Reading → List ℕ
reading_text none (Number n) = decimal n
reading_text none (Time nanoseconds) = seconds_text nanoseconds
reading_text none Nothing = none
