use Rattle.std.proofs.Common.{◌<◌, ◌∙◌, List, All, subst, sym}
use Rattle.due_model.specs.declared.config.Dated.{Dated}
use Rattle.due_model.specs.declared.config.PeriodId.{PeriodId}
use Rattle.due_model.specs.claims.Limits.{max_periods}
use Rattle.time_period.specs.Steps.{AreMergedLines, IsOwnOf}
use Rattle.time_period.proofs.MergeLemmas.{all-days, all-lines}
use Rattle.time_period.proofs.StepLemmas.{own-of}
use Rattle.time_period.proofs.steps.own_step.Goals as goal

pub new-requires : goal.new-requires
new-requires c = record {
  days = all-days _ c.in_ok-days.days c.in_ok-days.ensures;
  dated = all-lines _ c.in_ok-dated.dated c.in_ok-dated.ensures;
  number = c.requires.number;
  excludes = subst (λ (xs : List PeriodId). All (λ (x : PeriodId). x.0 < max_periods) xs) (sym (c.in_ok-excludes.ensures ∙ c.as_slice-2.ensures)) c.requires.excludes;
}

pub returns : goal.returns
returns c =
    let period = c.args.period.now in
    subst (IsOwnOf c.args.number period) (sym c.new.ensures)
    (own-of c.args.number period c.in_ok-days.days c.in_ok-dated.dated c.in_ok-excludes.excludes c.in_ok-days.ensures
    (subst (λ (lines : List Dated). AreMergedLines lines c.in_ok-dated.dated) c.as_slice.ensures c.in_ok-dated.ensures)
    (c.in_ok-excludes.ensures ∙ c.as_slice-2.ensures))
