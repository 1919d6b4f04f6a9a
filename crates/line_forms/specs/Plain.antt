-- A line of a report as `replay` writes it.
use Rattle.std.specs.Prelude.{ℕ, List}
use Rattle.due_model.specs.declared.config.Config.{Config}
use Rattle.command_output.specs.claims.OutputLine.{entry_text}
use Rattle.command_output.specs.claims.ReportLine.{refused_line}
use Rattle.line_forms.specs.declared.report_line.ReportLine.{ReportLine}
use Rattle.line_forms.specs.declared.report_line.ReportLine.TheVariants.{Decided, Refused}

abbrev pub plain_text : Config → ReportLine → List ℕ
plain_text c (Decided entry) = entry_text c entry
plain_text c (Refused refused) = refused_line refused.line refused.fault
