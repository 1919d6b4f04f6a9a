use Rattle.std.proofs.Common.{Bool, ◌&&◌, ◌||◌, not, ap, ◌∙◌}
use Rattle.due_model.specs.claims.Rules.{is_problem}
use Rattle.slow_rules.proofs.waits.stop_lapses.Goals as goal

pub returns : goal.returns
returns c =
    let held = is_problem c.args.kind && c.args.held in
    let left = c.args.subject.now.config.now.choices.period_wait && c.args.outside in
    c.ends.ensures
    ∙ ap (λ (h : Bool). not h && (c.is_left-left.result || c.is_paused-paused.result)) c.is_held-stands.ensures
    ∙ ap (λ (l : Bool). not held && (l || c.is_paused-paused.result)) c.is_left-left.ensures
    ∙ ap (λ (p : Bool). not held && (left || p)) c.is_paused-paused.ensures
