use Rattle.std.proofs.Common.{◌∙◌, List, ap}
use Rattle.std.specs.List.{list_any}
use Rattle.object_check.specs.Marks.{is_unfit_line}
use Rattle.object_check.proofs.DateLemmas.{unfit-lines}
use Rattle.object_inheritance.specs.declared.dated_lines.Line.{Line}
use Rattle.object_check.proofs.dates.has_unfit_line.Goals as goal

pub returns-clause-unfit : goal.returns-clause-unfit
returns-clause-unfit c = λ kind directive.
    unfit-lines c.args.must c.args.templates.now c.args.place c.in_ok-lines.lines.items c.has_unfit.result c.requires.of_lines
    (c.has_unfit.ensures ∙ ap (λ (ls : List Line). list_any (λ line. is_unfit_line c.args.must line.name.now line.text.now) ls) c.as_slice.ensures.value)
    c.in_ok-lines.ensures.lines kind directive
