use Rattle.std.proofs.Common.{List, arith, subst}
use Rattle.day_rules.specs.Dates.{shown}
use Rattle.due_model.specs.declared.config.Dated.{Dated}
use Rattle.time_period.specs.Classes.{IsDecided}
use Rattle.time_period.proofs.StepLemmas.{own-dated, own-weekly, weekday-stretch}
use Rattle.time_period.proofs.step.Step.stretch.Goals as goal

pub returns-then-decided-lt6 : goal.returns-then-decided-lt6
returns-then-decided-lt6 c =
    let time = shown c.args.time in
    let decided = c.decided_by-decided.result in
    own-dated c.args.self.now time decided
    (subst (λ (lines : List Dated). IsDecided time lines decided) c.dated.ensures.dated c.decided_by-decided.ensures) c.if-decided-lt6.true

pub returns-else-decided-lt6 : goal.returns-else-decided-lt6
returns-else-decided-lt6 c =
    let time = shown c.args.time in
    let decided = c.decided_by-decided.result in
    own-weekly c.args.self.now time decided
    (subst (λ (lines : List Dated). IsDecided time lines decided) c.dated.ensures.dated c.decided_by-decided.ensures)
    c.days_stretch.result.holds c.days_stretch.result.end (omega (arith, c.if-decided-lt6.false))
    (weekday-stretch c.days.result.now c.args.self.now.days c.weekday.result _ c.second.result _ c.days_stretch.result.holds c.days_stretch.result.end c.days.ensures.days c.weekday.ensures c.second.ensures c.days_stretch.ensures)
