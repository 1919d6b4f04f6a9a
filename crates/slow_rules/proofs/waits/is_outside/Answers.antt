use Rattle.std.proofs.Common.{Bool, ◌&&◌, not, ap, ◌∙◌}
use Rattle.due_model.specs.claims.Histories.{is_by_switch}
use Rattle.due_model.specs.claims.Rules.{is_problem}
use Rattle.slow_rules.proofs.waits.is_outside.Goals as goal

pub returns : goal.returns
returns c =
    c.is_attempt_outside-outside.ensures
    ∙ ap (λ (holds : Bool). is_problem c.args.kind && (not (is_by_switch c.args.filter) && not holds)) c.in_ok-holds.ensures
