use Rattle.std.proofs.Common.{◌∙◌, sym}
use Rattle.std.proofs.lemmas.Bool.{false≢true}
use Rattle.day_rules.specs.Dates.{shown}
use Rattle.time_period.proofs.DecidedLemmas.{decided-kept}
use Rattle.time_period.proofs.decided.Decided.with.Goals as goal

pub returns-then-not-is_named_by : goal.returns-then-not-is_named_by
returns-then-not-is_named_by c lines is =
    decided-kept (shown c.args.time) lines c.args.line.now c.args.self is (λ named. absurd (false≢true (sym c.if-not-is_named_by.true ∙ c.is_named_by.ensures ∙ named)))
