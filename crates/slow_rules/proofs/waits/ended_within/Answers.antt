use Rattle.std.proofs.Common.{Bool, ◌&&◌, ◌||◌, not, ap, ◌∙◌}
use Rattle.due_model.specs.declared.state.State.{State}
use Rattle.due_model.specs.claims.Readings.{hard_after}
use Rattle.due_model.specs.claims.Rules.{same_state}
use Rattle.slow_rules.proofs.waits.ended_within.Goals as goal

pub returns : goal.returns
returns c =
    c.is_over_by.ensures
    ∙ ap (λ (changed : Bool). c.args.over || (c.args.subject.now.config.now.choices.reset_wait && changed))
    (c.changes-changed.ensures ∙ ap (λ (s : State). not (same_state (hard_after c.args.subject.now.id.0 c.args.event.now.kind s) s)) c.hard-before.ensures)
