use Rattle.std.proofs.Common.{◌∙◌, ap, subst, sym}
use Rattle.problem_count.specs.Laws.{is_of_problem_attempt}
use Rattle.outcomes.specs.Outcome.{IsOf, IsOfKind, with_heard}
use Rattle.outcomes.proofs.OutcomeLemmas.{kind_heard}
use Rattle.outcomes.proofs.outcome.conclude.Goals as goal

pub returns-in-Some : goal.returns-in-Some
returns-in-Some c = λ settings e past at is within.
    let k = c.in-Some.kind in
    let of = subst (λ x. IsOf x c.args.judgement.outcome) c.in-Some.is c.requires.judgement.of in
    let same = c.heard_as-outcome.ensures ∙ sym is in
    (same, c.settle.ensures settings e past at (subst (IsOfKind k) (sym c.heard_as-outcome.ensures) (kind_heard k c.args.heard c.args.judgement.outcome of)) same within)

pub returns-in-None : goal.returns-in-None
returns-in-None c = λ settings e past at is within.
    let of = subst (λ x. IsOf x c.args.judgement.outcome) c.in-None.is c.requires.judgement.of in (
      c.heard_as-outcome.ensures ∙ sym is,
      c.fit_on.ensures.outcomes c.args.rules.now.config.now c.args.rules.now.zone.now c.args.object.0 settings e past c.args.judgement.book within
          (ap is_of_problem_attempt (is ∙ ap (with_heard c.args.heard) of)),
    )
