use Rattle.std.proofs.Common.{◌∙◌, ap, subst, sym}
use Rattle.problem_count.specs.Fits.{IsNextMoment}
use Rattle.problem_count.specs.Laws.{is_of_problem_attempt}
use Rattle.lemmas.proofs.Lists.{is_read}
use Rattle.outcomes.proofs.OutcomeLemmas.{of_no_problem, sent_is, suppressed_is}
use Rattle.outcomes.proofs.settle.settle.Goals as goal

pub returns-then-not-is_problem : goal.returns-then-not-is_problem
returns-then-not-is_problem c = λ settings e past at of is fits.
    let none = sym c.is_problem.ensures ∙ c.if-not-is_problem.true in
    c.fit_on.ensures.outcomes c.args.rules.now.config.now c.args.rules.now.zone.now c.args.object.0 settings e past c.args.book fits
    (ap is_of_problem_attempt (sym is) ∙ of_no_problem c.args.kind c.args.outcome none of)

pub returns-then-reach : goal.returns-then-reach
returns-then-reach c = λ settings e past at of is fits.
    let problem = sym c.is_problem.ensures ∙ c.if-not-is_problem.false in
    c.went_out.ensures.fits c.args.rules.now.config.now c.args.rules.now.zone.now c.args.object.0 settings e past fits _ _ _
    (sym is ∙ sent_is c.args.kind c.in-Sent.kind c.args.outcome c.in-Sent.state c.in-Sent.number c.in-Sent.moment c.in-Sent.gap c.in-Sent.reach c.in-Sent.is problem of)
    c.if-reach.true

pub returns-else-reach : goal.returns-else-reach
returns-else-reach c = λ settings e past at of is fits.
    let problem = sym c.is_problem.ensures ∙ c.if-not-is_problem.false in
    c.unheard.ensures.fits c.args.rules.now.config.now c.args.rules.now.zone.now c.args.object.0 settings e past fits _ _ _ _
    (sym is ∙ sent_is c.args.kind c.in-Sent.kind c.args.outcome c.in-Sent.state c.in-Sent.number c.in-Sent.moment c.in-Sent.gap c.in-Sent.reach c.in-Sent.is problem of)
    c.if-reach.false

pub returns-in-Suppressed : goal.returns-in-Suppressed
returns-in-Suppressed c = λ settings e past at of is fits.
    let config = c.args.rules.now.config.now in
    let zone = c.args.rules.now.zone.now in
    let problem = sym c.is_problem.ensures ∙ c.if-not-is_problem.false in
    let why = c.in-Suppressed.filter in
    let t = c.in-Suppressed.moment in
    let here = c.index-as_slice-from.is ∙ is_read config.objects c.as_slice.result.now c.args.object.0 c.from.result c.index-as_slice-from.result settings c.as_slice.ensures c.from.ensures at in
    let next = subst (λ x. IsNextMoment config zone x c.began.result why t c.next_attempt.result) here c.next_attempt.ensures in
    c.suppressed.ensures.fits config zone c.args.object.0 settings e past fits _ _
    (sym is ∙ suppressed_is c.args.kind c.in-Suppressed.kind c.args.outcome c.in-Suppressed.state c.in-Suppressed.number t why c.in-Suppressed.is problem of)
    (subst (λ began. IsNextMoment config zone settings began why t c.next_attempt.result) c.began.ensures.value next)
