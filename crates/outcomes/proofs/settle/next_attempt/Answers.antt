use Rattle.std.proofs.Common.{◌≡◌, ◌<◌, ◌∙◌, Option, Some, ap, get_or, length, subst, sym, ℕ}
use Rattle.std.specs.Prelude.{IfSome}
use Rattle.due_model.specs.declared.config.PeriodId.{PeriodId}
use Rattle.due_model.specs.claims.Periods.{next_in}
use Rattle.problem_count.specs.Fits.{IsNextMoment}
use Rattle.time_period.specs.claims.Days.{IsCompiled}
use Rattle.outcomes.proofs.OutcomeLemmas.{always_now, compiled_at}
use Rattle.outcomes.proofs.settle.next_attempt.Goals as goal

pub returns-in-None : goal.returns-in-None
returns-in-None c =
    let config = c.args.rules.now.config.now in
    let zone = c.args.rules.now.zone.now in
    subst (λ why. IsNextMoment config zone c.args.settings.now c.args.began why c.args.t (Some c.args.t)) (sym c.in-Period.is)
    (subst (λ period. Some c.args.t ≡ next_in config zone period c.args.t) (sym c.in-None.is) (always_now config zone c.args.t))

pub returns-in-Some : goal.returns-in-Some
returns-in-Some c =
    let config = c.args.rules.now.config.now in
    let zone = c.args.rules.now.zone.now in
    let all = c.args.rules.now.periods.now in
    let number = c.in-Some.number in
    let worked = c.index-rules-from.result in
    let known : number.0 < length config.periods =
    subst (λ (period : Option PeriodId). IfSome period (λ p. p.0 < length config.periods)) c.in-Some.is c.requires.settings.period in
    let at : worked ≡ get_or all number.0 worked = c.index-rules-from.is ∙ ap (λ (n : ℕ). get_or all n worked) c.from.ensures in
    let next = c.next.ensures config number (subst (IsCompiled config number) c.index-rules-from.is (compiled_at config all number worked c.requires.rules.compiled known at)) in
    subst (λ why. IsNextMoment config zone c.args.settings.now c.args.began why c.args.t c.next.result) (sym c.in-Period.is)
    (subst (λ period. c.next.result ≡ next_in config zone period c.args.t) (sym c.in-Some.is) next)
