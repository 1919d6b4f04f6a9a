use Rattle.std.proofs.Common.{◌∷◌, Bool, false, ◌&&◌, Option, None, Some, reverse, ap, sym, ◌∙◌}
use Rattle.due_model.specs.declared.config.ObjectId.{ObjectId}
use Rattle.due_model.specs.claims.Readings.{hard, is_problem_state}
use Rattle.slow_rules.proofs.views.host_holds.Goals as goal

pub returns-in-None : goal.returns-in-None
returns-in-None c =
    let s = c.args.subject.now in
    let past = c.args.event.now ∷ reverse c.args.past.now in
    sym (ap (λ (host : Option ObjectId). s.config.now.choices.host_down && elim host as (λ _. Bool) [ None ↦ false | Some h ↦ is_problem_state (hard h.0 past) ]) c.in-None.is
    ∙ ap (λ (b : Bool). b && false) c.if-not-subject.false)

pub returns-in-Some : goal.returns-in-Some
returns-in-Some c =
    let s = c.args.subject.now in
    let past = c.args.event.now ∷ reverse c.args.past.now in
    c.is_problem.ensures ∙ ap is_problem_state c.hard_at.ensures
    ∙ sym (ap (λ (host : Option ObjectId). s.config.now.choices.host_down && elim host as (λ _. Bool) [ None ↦ false | Some h ↦ is_problem_state (hard h.0 past) ]) c.in-Some.is
    ∙ ap (λ (b : Bool). b && is_problem_state (hard c.in-Some.host.0 past)) c.if-not-subject.false)
