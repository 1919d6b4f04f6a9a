use Rattle.std.proofs.Common.{◌∷◌, Bool, Option, reverse, ap, ◌∙◌}
use Rattle.std.proofs.lemmas.Result.{IfOk-weaker}
use Rattle.due_model.specs.claims.Histories.{before, down_with_host, ended_by, ended_within, host_holds, last_notice}
use Rattle.due_model.specs.declared.rules.Last.{Last}
use Rattle.slow_rules.proofs.outcomes.is_over.Goals as goal

pub returns : goal.returns
returns c =
    let s = c.args.subject.now in
    let config = s.config.now in
    let o = s.id.0 in
    let e = c.args.event.now in
    let past = reverse c.args.past.now in
    let history = reverse c.args.history.now in
    let down = down_with_host o s.object.now (e ∷ past) in
    let held = host_holds config s.object.now (e ∷ past) in
    IfOk-weaker c.ended_after.result _ _
    (λ ended is over. is
    ∙ ap (λ (last : Option Last). ended_by config s.zone.now s.object.now down held last c.args.now c.ended_within-within.result)
    (c.last_notice.ensures.value ∙ ap last_notice (c.before-earlier.ensures.value history c.of_problem-problem.ensures.value))
    ∙ ap (ended_by config s.zone.now s.object.now down held (last_notice (before o e past history)) c.args.now)
    (c.ended_within-within.ensures ∙ ap (ended_within config o e past) over)) c.ended_after.ensures
