use Rattle.std.proofs.Common.{◌≡◌, ◌++◌, drop, map}
use Rattle.line_forms.specs.declared.report_line.ReportLine.TheVariants.{Decided}
use Rattle.report_telling.specs.Told.{after_all, form_of, told_all}
use Rattle.report_picture.proofs.drawing.tell_entries.Given as goal

abbrev pub invariant-loop-entry : goal.invariant-loop-entry
invariant-loop-entry g l =
    (l.text.items ++ told_all (form_of g.T.Teller.told g.T.Teller.after g.T.Teller.ended l.config l.clock) l.teller (map Decided (drop l.entry-index l.entries))
    ≡ l.fn.text.items ++ told_all (form_of g.T.Teller.told g.T.Teller.after g.T.Teller.ended l.config l.clock) l.fn.teller (map Decided l.entries))
    × (after_all (form_of g.T.Teller.told g.T.Teller.after g.T.Teller.ended l.config l.clock) l.teller (map Decided (drop l.entry-index l.entries))
    ≡ after_all (form_of g.T.Teller.told g.T.Teller.after g.T.Teller.ended l.config l.clock) l.fn.teller (map Decided l.entries))
