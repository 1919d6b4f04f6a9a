use Rattle.std.proofs.Common.{◌∙◌, length, sym}
use Rattle.time_period.specs.Flags.{flag_at}
use Rattle.time_period.proofs.StepLemmas.{eq-from, stretch-weekly}
use Rattle.time_period.proofs.compiled.Compiled.stretch_at.Goals as goal

pub returns-then-is_weekly-clause-stretch : goal.returns-then-is_weekly-clause-stretch
returns-then-is_weekly-clause-stretch c =
    stretch-weekly c.args.self.now (flag_at c.args.flags.now) c.args.time.day c.args.time.weekday c.args.time.second c.stretch.result.holds c.stretch.result.end
    (eq-from (length c.args.self.now.steps) 0 (sym c.is_weekly.ensures ∙ c.if-is_weekly.true)) c.requires.weekday c.stretch.ensures
