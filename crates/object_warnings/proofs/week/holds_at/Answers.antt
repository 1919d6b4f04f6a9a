use Rattle.object_warnings.proofs.PeriodLemmas.{its_own}
use Rattle.object_warnings.proofs.week.holds_at.Goals as goal

pub returns : goal.returns
returns c config are =
    c.contains.ensures config (record { 0 = c.args.number })
    (its_own config c.args.periods.now c.args.number c.index-periods-number.result are c.requires.within c.index-periods-number.is)
