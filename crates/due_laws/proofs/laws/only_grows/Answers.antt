use Rattle.std.proofs.Common.{reverse, ap, ◌∙◌}
use Rattle.std.proofs.lemmas.List.{reverse-append}
use Rattle.due_model.specs.claims.Due.{due, sup}
use Rattle.due_laws.proofs.Growth.{due-append, sup-append}
use Rattle.due_laws.proofs.laws.only_grows.Goals as goal

pub returns-clause-due : goal.returns-clause-due
returns-clause-due x c zone o l feed more =
    let grown = due-append c zone o l (reverse more) (reverse feed) in
    (grown.0, ap (due c zone o l) (reverse-append feed more) ∙ grown.1)

pub returns-clause-suppressions : goal.returns-clause-suppressions
returns-clause-suppressions x c zone o feed more =
    let grown = sup-append c zone o (reverse more) (reverse feed) in
    (grown.0, ap (sup c zone o) (reverse-append feed more) ∙ grown.1)
