use Rattle.std.proofs.Common.{◌∙◌, Bool, true, ap, arith, refl, sym}
use Rattle.due_model.specs.declared.rules.ObjectStatus.{ObjectStatus}
use Rattle.due_model.specs.claims.Readings.{hard_after, is_problem_state}
use Rattle.outcomes.specs.Found.{attempt_by, tried, view_by}
use Rattle.outcomes.specs.Outcome.{heard_of}
use Rattle.problem_count.specs.Fits.{outcome_at}
use Rattle.outcomes.proofs.OutcomeLemmas.{heard_is, nothing_is, outcome_is, tried_runs}
use Rattle.outcomes.proofs.outcome.decide.Goals as goal

pub returns-in-None-clause-decides : goal.returns-in-None-clause-decides
returns-in-None-clause-decides c = λ settings e past at found fits.
    let config = c.args.rules.now.config.now in
    let zone = c.args.rules.now.zone.now in
    let o = c.args.object.0 in
    let seen = c.args.found.now in
    let none = sym (c.tried.ensures ∙ ap (tried o seen) c.ready_by-ready.ensures) ∙ c.in-None.is in
    let nothing = nothing_is config zone o settings e past seen c.args.book c.attempt_by_due.ensures.outcomes found fits none in
    let within = c.begin-begun.ensures.fits config zone settings e past refl found.event found.at (ap (λ (s : ObjectStatus). s.acknowledged) found.before) fits in
    (sym nothing, c.lapsed-in-None.ensures.fits settings e past true at found (sym nothing) within)

pub returns-in-Some-clause-decides : goal.returns-in-Some-clause-decides
returns-in-Some-clause-decides c = λ settings e past at found fits.
    let config = c.args.rules.now.config.now in
    let zone = c.args.rules.now.zone.now in
    let o = c.args.object.0 in
    let seen = c.args.found.now in
    let tries = sym (c.tried.ensures ∙ ap (tried o seen) c.ready_by-ready.ensures) ∙ c.in-Some.is in
    let begun = c.begin-begun.result in
    let within = c.begin-begun.ensures.fits config zone settings e past refl found.event found.at (ap (λ (s : ObjectStatus). s.acknowledged) found.before) fits in
    let outcome = heard_is config zone o settings (view_by o settings seen begun) (attempt_by seen c.in-Some.kind) c.judge-outcome.result (outcome_at config zone o settings e past)
    (c.judge-outcome.ensures.value settings at)
    (outcome_is config zone o settings e past seen c.args.book begun c.in-Some.kind c.attempt_by_due.ensures.outcomes found fits within tries)
    in
    (outcome, c.lapsed.ensures.fits settings e past (heard_of config zone o settings c.judge-outcome.result) at found outcome within)

pub returns-in-Some-clause-judgement : goal.returns-in-Some-clause-judgement
returns-in-Some-clause-judgement c =
    let o = c.args.object.0 in
    let seen = c.args.found.now in
    let tries = sym c.tried.ensures ∙ c.in-Some.is in
    let state = c.lapsed.ensures.state ∙ c.begin-begun.ensures.state ∙ ap (hard_after o seen.event) c.requires.state in
    record {
      of = c.judge-outcome.ensures.kind;
      range = c.judge-outcome.ensures.range;
      runs = λ problem. ap is_problem_state state ∙ tried_runs o seen c.ready_by-ready.result c.in-Some.kind c.attempt_by_due.ensures.runs c.requires.repeats tries problem;
      number = omega (arith, c.requires.number, c.begin-begun.ensures.sent, c.lapsed.ensures.sent);
    }
