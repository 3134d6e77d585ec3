-- The answer to `stats`.
use Rattle.std.specs.Prelude.{ℕ, List, ◌++◌, codes}
use Rattle.std.specs.List.{flat_map}
use Rattle.nbd_control.specs.declared.figures.Reading.{Reading}
use Rattle.nbd_control.specs.declared.figures.ServerFigure.{ServerFigure}
use Rattle.nbd_control.specs.declared.figures.ExportFigure.{ExportFigure}
use Rattle.nbd_control.specs.declared.stats.ServerStats.{ServerStats}
use Rattle.nbd_control.specs.declared.stats.ExportStats.{ExportStats}
use Rattle.nbd_control.specs.Figures.{server_row, server_reading, server_figures, export_row, export_reading, export_figures, reading_text}
use Rattle.nbd_control.specs.Quoting.{basic_text}

-- a figure's name and its value, `-` where there is none
abbrev pub field_text : List ℕ → Reading → List ℕ
field_text name reading = codes " " ++ name ++ codes "=" ++ reading_text (codes "-") reading

abbrev pub server_field : ServerStats → ServerFigure → List ℕ
server_field server figure = field_text (server_row figure).name (server_reading server figure)

abbrev pub export_field : ExportStats → ExportFigure → List ℕ
export_field export figure = field_text (export_row figure).name (export_reading export figure)

-- the line of the server
abbrev pub server_line : ServerStats → List ℕ
server_line server = codes "server" ++ (flat_map (server_field server) server_figures ++ codes "\n")

-- the line of an export
abbrev pub export_line : ExportStats → List ℕ
export_line export =
    codes "export name=" ++ (basic_text export.name.now ++ (flat_map (export_field export) export_figures ++ codes "\n"))

-- the server's line, that of each export, and an empty one
abbrev pub stats_text : ServerStats → List ExportStats → List ℕ
stats_text server exports = server_line server ++ (flat_map export_line exports ++ codes "\n")
