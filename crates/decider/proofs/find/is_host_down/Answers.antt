use Rattle.std.proofs.Common.{nat_lt, ◌∷◌, Option, sym, ap, ◌∙◌, arith}
use Rattle.due_model.specs.declared.config.Object.{Object}
use Rattle.due_model.specs.declared.config.ObjectId.{ObjectId}
use Rattle.due_model.specs.declared.event.EventKind.{EventKind}
use Rattle.due_model.specs.declared.rules.ObjectStatus.{ObjectStatus}
use Rattle.outcomes.specs.Found.{is_host_down}
use Rattle.decider.specs.Statuses.{status_by}
use Rattle.decider.proofs.FoundLaws.{settings_read}
use Rattle.decider.proofs.StatusLaws.{depth_few}
use Rattle.decider.proofs.find.is_host_down.Goals as goal

pub status_by-requires : goal.status_by-requires
status_by-requires c =
    let h = c.in-Some.host.0 in
    omega (arith, ap (λ (s : ObjectStatus). s.depth) (c.at.ensures ∙ c.requires.fit.2.each h), depth_few h c.requires.fit.0, c.requires.fit.1)

pub returns-in-Some : goal.returns-in-Some
returns-in-Some c = λ e past settings fit says at.
    let h = c.in-Some.host.0 in
    let here = settings_read c.args.reading.now.rules.config.now.objects c.as_slice.result.now c.args.object.0 c.from.result _ settings c.as_slice.ensures c.from.ensures at in
    ap (λ (s : ObjectStatus). nat_lt 0 s.depth) (c.status_by.ensures ∙ ap (λ (k : EventKind). status_by h k c.at.result) says ∙ ap (status_by h e.kind) (c.at.ensures ∙ fit.each h))
    ∙ sym (ap (λ (host : Option ObjectId). is_host_down host (e ∷ past)) (sym (ap (λ (x : Object). x.host) here) ∙ c.in-Some.is))

pub returns-in-None : goal.returns-in-None
returns-in-None c = λ e past settings fit says at.
    let here = settings_read c.args.reading.now.rules.config.now.objects c.as_slice.result.now c.args.object.0 c.from.result _ settings c.as_slice.ensures c.from.ensures at in
    sym (ap (λ (host : Option ObjectId). is_host_down host (e ∷ past)) (sym (ap (λ (x : Object). x.host) here) ∙ c.in-None.is))
