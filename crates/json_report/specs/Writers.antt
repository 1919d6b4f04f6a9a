-- What a writer of a report says that it was given.
use Rattle.std.specs.Prelude.{ℕ, List, Option, None}
use Rattle.json_report.specs.declared.report_writer.ReportWriter.{ReportWriter}
use Rattle.json_report.specs.declared.report_writer.ReportWriter.TheVariants.{Json, Plain}

-- One that writes the lines as they are says what the writer below does; one that writes JSON doesn't say it.
abbrev pub contents_of : {W : Type 0} → (W → Option (List ℕ)) → ReportWriter W → Option (List ℕ)
contents_of contents (Plain writer) = contents writer
contents_of contents (Json writer) = None
