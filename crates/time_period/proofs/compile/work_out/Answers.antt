use Rattle.std.proofs.Common.{◌≡◌, ◌∙◌, length, subst, sym, true}
use Rattle.std.specs.Prelude.{◌==◌}
use Rattle.std.specs.List.{list_all}
use Rattle.std.proofs.lemmas.Bool.{and_parts}
use Rattle.std.proofs.lemmas.Result.{IfOk-weaker}
use Rattle.due_model.specs.declared.config.PeriodId.{PeriodId}
use Rattle.time_period.specs.Days.{IsRight}
use Rattle.time_period.specs.Exclusions.{is_weekly}
use Rattle.time_period.specs.Steps.{is_plain, own_at}
use Rattle.time_period.proofs.StepLemmas.{all-plain, empty-dated, eq-from, right-own, right-weekly, weekday-within}
use Rattle.time_period.proofs.compile.work_out.Goals as goal

pub returns-in_ok-days : goal.returns-in_ok-days
returns-in_ok-days c config settled at ready =
    let period = c.args.period.now in
    let done = c.args.done.now in
    let is : is_weekly period done ≡ true = sym c.is_weekly.ensures ∙ c.if-is_weekly.true in
    let parts = and_parts (length period.dated == 0) (list_all (λ (x : PeriodId). is_plain (own_at done x.0)) period.excludes) is in
    subst (IsRight config c.args.number) (sym c.of_days.ensures)
    (right-weekly config c.args.number period done c.in_ok-days.days settled at ready (empty-dated period.dated (eq-from (length period.dated) 0 parts.0)) (all-plain period.excludes done parts.1)
    c.in_ok-days.ensures weekday-within)

pub returns-else-is_weekly : goal.returns-else-is_weekly
returns-else-is_weekly c =
    IfOk-weaker c.own_step.result _ _ (λ own is config settled at ready. right-own config c.args.number c.args.period.now own settled at is) c.own_step.ensures
