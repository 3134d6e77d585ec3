-- The answer to `stats prometheus`, in the text format 0.0.4.
use Rattle.std.specs.Prelude.{ℕ, List, ◌++◌, codes}
use Rattle.std.specs.List.{flat_map}
use Rattle.nbd_control.specs.declared.figures.Reading.{Reading}
use Rattle.nbd_control.specs.declared.figures.ServerFigure.{ServerFigure}
use Rattle.nbd_control.specs.declared.figures.ExportFigure.{ExportFigure}
use Rattle.nbd_control.specs.declared.stats.ServerStats.{ServerStats}
use Rattle.nbd_control.specs.declared.stats.ExportStats.{ExportStats}
use Rattle.nbd_control.specs.Figures.{Row, server_row, server_reading, server_figures, export_row, export_reading, export_figures, kind_word, reading_text}
use Rattle.nbd_control.specs.Quoting.{label_text}

-- what a figure means
abbrev pub help_line : List ℕ → Row → List ℕ
help_line family row = codes "# HELP " ++ family ++ row.name ++ codes " " ++ row.help ++ codes "\n"

-- whether it is a counter or a gauge
abbrev pub type_line : List ℕ → Row → List ℕ
type_line family row = codes "# TYPE " ++ family ++ row.name ++ codes " " ++ kind_word row.kind ++ codes "\n"

-- both lines
unfoldable pub head_text : List ℕ → Row → List ℕ
head_text family row = help_line family row ++ type_line family row

-- a value, and the end of its line
abbrev pub value_text : Reading → List ℕ
value_text reading = reading_text (codes "NaN") reading ++ codes "\n"

abbrev pub server_name : List ℕ → List ℕ
server_name name = codes "nbdq_" ++ name ++ codes " "

-- a figure's value
unfoldable pub server_sample : ServerStats → ServerFigure → List ℕ
server_sample server figure = server_name (server_row figure).name ++ value_text (server_reading server figure)

-- a figure of the server: both lines, and its value
abbrev pub server_metric : ServerStats → ServerFigure → List ℕ
server_metric server figure = head_text (codes "nbdq_") (server_row figure) ++ server_sample server figure

-- behind this the name of an export stands as the value of a label
abbrev pub export_name : List ℕ → List ℕ
export_name name = codes "nbdq_export_" ++ name ++ codes "{export=\""

-- a figure's value at an export
unfoldable pub export_sample : ExportFigure → ExportStats → List ℕ
export_sample figure export =
    export_name (export_row figure).name ++ (label_text export.name.now ++ (codes "\"} " ++ value_text (export_reading export figure)))

-- its value at each export
unfoldable pub export_samples : ExportFigure → List ExportStats → List ℕ
export_samples figure exports = flat_map (export_sample figure) exports

-- a figure of the exports: both lines, and its value at each
abbrev pub export_metric : List ExportStats → ExportFigure → List ℕ
export_metric exports figure = head_text (codes "nbdq_export_") (export_row figure) ++ export_samples figure exports

-- the figures of the server, those of the exports, and an empty line
abbrev pub metrics_text : ServerStats → List ExportStats → List ℕ
metrics_text server exports =
    flat_map (server_metric server) server_figures ++ (flat_map (export_metric exports) export_figures ++ codes "\n")
