use Rattle.std.proofs.Common.{◌∷◌, Bool, false, ◌&&◌, Option, None, Some, reverse, ap, sym, ◌∙◌}
use Rattle.std.proofs.lemmas.Result.{IfOk-weaker}
use Rattle.due_model.specs.declared.config.ObjectId.{ObjectId}
use Rattle.due_model.specs.claims.Dependencies.{dependency_fails}
use Rattle.due_model.specs.claims.Readings.{hard, moment}
use Rattle.slow_rules.proofs.views.host_fails.Goals as goal

pub returns-in-None : goal.returns-in-None
returns-in-None c =
    let s = c.args.subject.now in
    let past = c.args.event.now ∷ reverse c.args.past.now in
    sym (ap (λ (host : Option ObjectId). s.config.now.choices.host_dep && elim host as (λ _. Bool) [ None ↦ false | Some h ↦ dependency_fails s.config.now s.zone.now (λ master. hard master past) (moment past) h.0 ]) c.in-None.is
    ∙ ap (λ (b : Bool). b && false) c.if-not-subject.false)

pub returns-in-Some : goal.returns-in-Some
returns-in-Some c =
    let s = c.args.subject.now in
    let past = c.args.event.now ∷ reverse c.args.past.now in
    let fails_of = (λ (h : ObjectId). dependency_fails s.config.now s.zone.now (λ master. hard master past) (moment past) h.0) in
    IfOk-weaker c.fails.result _ _
    (λ fails is. is
    ∙ sym (ap (λ (host : Option ObjectId). s.config.now.choices.host_dep && elim host as (λ _. Bool) [ None ↦ false | Some h ↦ fails_of h ]) c.in-Some.is
    ∙ ap (λ (b : Bool). b && fails_of c.in-Some.host) c.if-not-subject.false)) c.fails.ensures
