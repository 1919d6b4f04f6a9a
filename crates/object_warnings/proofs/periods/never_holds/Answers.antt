use Rattle.std.proofs.Common.{Option, ap, is_none, sym, ℕ, ◌∙◌}
use Rattle.object_warnings.proofs.PeriodLemmas.{its_own}
use Rattle.object_warnings.proofs.periods.never_holds.Goals as goal

pub returns-in-None : goal.returns-in-None
returns-in-None c config are =
    let next = c.next.ensures config (record { 0 = c.args.number })
    (its_own config c.args.periods.now c.args.number c.index-periods-number.result are c.requires.within c.index-periods-number.is)
    in
    sym (ap (λ (found : Option ℕ). is_none found) (sym next ∙ c.in-None.is))

pub returns-in-Some : goal.returns-in-Some
returns-in-Some c config are =
    let next = c.next.ensures config (record { 0 = c.args.number })
    (its_own config c.args.periods.now c.args.number c.index-periods-number.result are c.requires.within c.index-periods-number.is)
    in
    sym (ap (λ (found : Option ℕ). is_none found) (sym next ∙ c.in-Some.is))
