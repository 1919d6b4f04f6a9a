use Rattle.std.proofs.Common.{◌∙◌}
use Rattle.outcomes.proofs.OutcomeLemmas.{lapses_is}
use Rattle.outcomes.proofs.lapse.lapsed.Goals as goal

pub returns-clause-fits : goal.returns-clause-fits
returns-clause-fits c = λ settings e past heard at found same within.
    let config = c.args.rules.now.config.now in
    let zone = c.args.rules.now.zone.now in
    c.lapse.ensures.fits config zone c.args.object.0 settings e past within
    (c.lapses.ensures settings at ∙ lapses_is config zone c.args.object.0 settings e past c.args.found.now heard c.args.outcome found same)
