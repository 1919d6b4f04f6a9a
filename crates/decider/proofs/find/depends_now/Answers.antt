use Rattle.std.proofs.Common.{Bool, ◌||◌, ap, sym, ◌∙◌}
use Rattle.dependency.specs.Entry.{state_of}
use Rattle.decider.specs.Found.{host_depends}
use Rattle.decider.proofs.find.depends_now.Goals as goal

pub returns-then-own-clause-fails : goal.returns-then-own-clause-fails
returns-then-own-clause-fails c = λ settings at.
    let reading = c.args.reading.now in
    let hosts = host_depends reading.rules.config.now reading.rules.zone.now (state_of c.args.statuses.now.states) reading.context.moment settings.host in
    c.if-own.true ∙ ap (λ (b : Bool). b || hosts) (sym c.if-own.true ∙ c.fails_now-own.ensures.fails)

pub returns-else-own-clause-fails : goal.returns-else-own-clause-fails
returns-else-own-clause-fails c = λ settings at.
    let reading = c.args.reading.now in
    let hosts = host_depends reading.rules.config.now reading.rules.zone.now (state_of c.args.statuses.now.states) reading.context.moment settings.host in
    c.host_depends-hosts.ensures.fails settings at ∙ ap (λ (b : Bool). b || hosts) (sym c.if-own.false ∙ c.fails_now-own.ensures.fails)
