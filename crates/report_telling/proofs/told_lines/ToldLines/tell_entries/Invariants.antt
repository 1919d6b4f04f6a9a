use Rattle.std.proofs.Common.{drop, map}
use Rattle.line_forms.specs.declared.report_line.ReportLine.TheVariants.{Decided}
use Rattle.report_telling.specs.Told.{form_of}
use Rattle.report_telling.proofs.ToldLaws.{HasTold}
use Rattle.report_telling.proofs.told_lines.ToldLines.tell_entries.Given as goal

abbrev pub invariant-loop-entry : goal.invariant-loop-entry
invariant-loop-entry g l =
    HasTold (form_of g.T.Teller.told g.T.Teller.after g.T.Teller.ended l.config l.clock) l.fn.self.teller (g.W.Write.contents l.fn.writer) (g.W.Write.contents l.writer)
    l.fn.self.buffer (map Decided l.entries) (map Decided (drop l.entry-index l.entries)) l.self.teller l.self.buffer
