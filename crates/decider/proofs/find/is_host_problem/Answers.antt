use Rattle.std.proofs.Common.{◌∷◌, Option, sym, ap, ◌∙◌}
use Rattle.due_model.specs.declared.config.Object.{Object}
use Rattle.due_model.specs.declared.config.ObjectId.{ObjectId}
use Rattle.due_model.specs.declared.event.EventKind.{EventKind}
use Rattle.due_model.specs.declared.rules.ObjectStatus.{ObjectStatus}
use Rattle.due_model.specs.claims.Readings.{hard_after, is_problem_state}
use Rattle.decider.specs.Found.{is_host_problem}
use Rattle.decider.proofs.FoundLaws.{settings_read}
use Rattle.decider.proofs.find.is_host_problem.Goals as goal

pub returns-in-Some : goal.returns-in-Some
returns-in-Some c = λ e past settings fit says at.
    let h = c.in-Some.host.0 in
    let here = settings_read c.args.reading.now.rules.config.now.objects c.as_slice.result.now c.args.object.0 c.from.result _ settings c.as_slice.ensures c.from.ensures at in
    c.is_problem.ensures
    ∙ ap is_problem_state (c.hard_after.ensures ∙ ap (λ (k : EventKind). hard_after h k c.at.result.state) says ∙ ap (λ (s : ObjectStatus). hard_after h e.kind s.state) (c.at.ensures ∙ fit.each h))
    ∙ sym (ap (λ (host : Option ObjectId). is_host_problem host (e ∷ past)) (sym (ap (λ (x : Object). x.host) here) ∙ c.in-Some.is))

pub returns-in-None : goal.returns-in-None
returns-in-None c = λ e past settings fit says at.
    let here = settings_read c.args.reading.now.rules.config.now.objects c.as_slice.result.now c.args.object.0 c.from.result _ settings c.as_slice.ensures c.from.ensures at in
    sym (ap (λ (host : Option ObjectId). is_host_problem host (e ∷ past)) (sym (ap (λ (x : Object). x.host) here) ∙ c.in-None.is))
