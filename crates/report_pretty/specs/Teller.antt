-- What the teller of lines for people writes of a line, and what it is after it.
use Rattle.std.specs.Prelude.{ℕ, List, [], Option, None, Some, unwrap_or, if◌then◌else◌}
use Rattle.due_model.specs.declared.config.Config.{Config}
use Rattle.due_model.specs.declared.zone.Zone.{Zone}
use Rattle.line_forms.specs.declared.report_line.ReportLine.{ReportLine}
use Rattle.line_forms.specs.Picks.{is_picked}
use Rattle.pretty_lines.specs.declared.columns.Look.{Look}
use Rattle.report_pretty.specs.declared.pretty.PrettyLines.{PrettyLines}
use Rattle.pretty_lines.specs.Columns.{widths_of}
use Rattle.pretty_lines.specs.Runs.{added, all_rest, runs_after}

-- how its lines look: as the configuration has it of the first line that it was told
abbrev pub look_at : PrettyLines → Config → Look
look_at pretty c = record {
  widths = unwrap_or pretty.widths (widths_of c);
  coloured = pretty.coloured;
}

-- nothing of a line that isn't wanted
abbrev pub told_line : PrettyLines → Config → Zone → ReportLine → List ℕ
told_line pretty c zone line =
    if is_picked pretty.picks c line then added c zone (look_at pretty c) pretty.runs line else []

abbrev pub after_line : PrettyLines → Config → ReportLine → PrettyLines
after_line pretty c line =
    if is_picked pretty.picks c line
    then record pretty {
      widths = Some (look_at pretty c).widths;
      runs = runs_after pretty.runs line;
    }
    else pretty

abbrev pub ended_lines : PrettyLines → Config → Zone → List ℕ
ended_lines pretty c zone = all_rest c zone (look_at pretty c) pretty.runs
