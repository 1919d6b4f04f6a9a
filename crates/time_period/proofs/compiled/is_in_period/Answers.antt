use Rattle.std.proofs.Common.{◌∙◌, Option, ap, arith, get_or, sym, ℕ}
use Rattle.due_model.specs.declared.config.PeriodId.{PeriodId}
use Rattle.due_model.specs.claims.Local.{local}
use Rattle.due_model.specs.claims.Periods.{in_period}
use Rattle.time_period.proofs.DoneLemmas.{its_own, no-period}
use Rattle.time_period.proofs.compiled.is_in_period.Goals as goal

pub returns-in-Some-get : goal.returns-in-Some-get
returns-in-Some-get c config are =
    let all = c.args.periods.now in
    let look = c.in-Some-get.ensures.lookup in
    let worked = c.in-Some-get.compiled.now in
    let number = c.in-Some.number in
    let same = c.from.ensures in
    let as_many = are.0 in
    let within = look.3.0 in
    c.contains.ensures config number (its_own config all number worked are (omega (arith, same, as_many, within)) (look.1 ∙ ap (λ (n : ℕ). get_or all n worked) same))
    ∙ ap (λ (p : Option PeriodId). in_period config c.args.zone.now p c.args.t) (sym c.in-Some.is)

pub returns-in-None-get : goal.returns-in-None-get
returns-in-None-get c config are =
    let look = c.in-None-get.ensures.lookup in
    let number = c.in-Some.number in
    let same = c.from.ensures in
    let as_many = are.0 in
    let past = look.3 in
    sym (no-period config number.0 (local c.args.zone.now c.args.t) (omega (arith, same, as_many, past)))
    ∙ ap (λ (p : Option PeriodId). in_period config c.args.zone.now p c.args.t) (sym c.in-Some.is)
