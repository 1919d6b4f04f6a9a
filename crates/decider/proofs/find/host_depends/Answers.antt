use Rattle.std.proofs.Common.{Bool, false, ◌&&◌, Option, None, Some, sym, ap, ◌∙◌}
use Rattle.due_model.specs.declared.config.Object.{Object}
use Rattle.due_model.specs.declared.config.ObjectId.{ObjectId}
use Rattle.due_model.specs.claims.Dependencies.{dependency_fails}
use Rattle.dependency.specs.Entry.{state_of}
use Rattle.decider.specs.Found.{host_depends}
use Rattle.decider.proofs.FoundLaws.{settings_read}
use Rattle.decider.proofs.find.host_depends.Goals as goal

pub returns-in-Some-clause-fails : goal.returns-in-Some-clause-fails
returns-in-Some-clause-fails c = λ settings at.
    let config = c.args.reading.now.rules.config.now in
    let zone = c.args.reading.now.rules.zone.now in
    let t = c.args.reading.now.context.moment in
    let here = settings_read config.objects c.as_slice.result.now c.args.object.0 c.from.result _ settings c.as_slice.ensures c.from.ensures at in
    c.fails_now.ensures.fails
    ∙ sym (ap (λ (host : Option ObjectId). host_depends config zone (state_of c.args.statuses.now.states) t host) (sym (ap (λ (x : Object). x.host) here) ∙ c.in-Some.is)
    ∙ ap (λ (b : Bool). b && dependency_fails config zone (state_of c.args.statuses.now.states) t c.in-Some.host.0) c.if-not-reading.false)

pub returns-in-None-clause-fails : goal.returns-in-None-clause-fails
returns-in-None-clause-fails c = λ settings at.
    let config = c.args.reading.now.rules.config.now in
    let zone = c.args.reading.now.rules.zone.now in
    let t = c.args.reading.now.context.moment in
    let here = settings_read config.objects c.as_slice.result.now c.args.object.0 c.from.result _ settings c.as_slice.ensures c.from.ensures at in
    sym (ap (λ (host : Option ObjectId). host_depends config zone (state_of c.args.statuses.now.states) t host) (sym (ap (λ (x : Object). x.host) here) ∙ c.in-None.is)
    ∙ ap (λ (b : Bool). b && false) c.if-not-reading.false)

pub returns-then-not-reading-clause-fails : goal.returns-then-not-reading-clause-fails
returns-then-not-reading-clause-fails c = λ settings at.
    let config = c.args.reading.now.rules.config.now in
    let zone = c.args.reading.now.rules.zone.now in
    let t = c.args.reading.now.context.moment in
    sym (ap (λ (b : Bool). b && elim settings.host as (λ _. Bool) [ None ↦ false | Some h ↦ dependency_fails config zone (state_of c.args.statuses.now.states) t h.0 ])
    c.if-not-reading.true)
