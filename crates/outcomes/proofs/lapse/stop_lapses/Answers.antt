use Rattle.std.proofs.Common.{Bool, ◌&&◌, ◌||◌, ◌==◌, is_some, not, ap, ◌∙◌}
use Rattle.due_model.specs.claims.Histories.{is_by_switch}
use Rattle.due_model.specs.claims.Periods.{in_period}
use Rattle.due_model.specs.claims.Rules.{is_problem, is_recovery}
use Rattle.outcomes.proofs.lapse.stop_lapses.Goals as goal

pub returns : goal.returns
returns c =
    let config = c.args.rules.now.config.now in
    let choices = config.choices in
    let settings = c.args.settings.now in
    let k = c.args.kind in
    let held = is_problem k && c.args.found.now.host_problem in
    let outside = is_problem k && (not (is_by_switch c.args.filter) && not (in_period config c.args.rules.now.zone.now settings.period c.args.moment)) in
    let paused = (λ (down : Bool). choices.downtime_wait && (not (is_recovery k) && (is_some settings.host && (settings.interval == 0 && down)))) in
    c.is_ended.ensures
    ∙ ap (λ (h : Bool). not h && (c.is_left-left.result || c.is_paused-paused.result)) c.is_held-held.ensures
    ∙ ap (λ (l : Bool). not held && (l || c.is_paused-paused.result)) (c.is_left-left.ensures ∙ ap (λ (out : Bool). choices.period_wait && out) c.is_outside-outside.ensures)
    ∙ ap (λ (p : Bool). not held && ((choices.period_wait && outside) || p)) (c.is_paused-paused.ensures ∙ ap paused c.is_down-down.ensures)
