use Rattle.std.proofs.Common.{◌≡◌, ℕ, ◌∙◌, List, true, inl, inr, arith, get_or, subst, sym}
use Rattle.std.specs.Prelude.{Contains}
use Rattle.std.proofs.lemmas.List.{get_or_default, take_all}
use Rattle.lemmas.proofs.Elements.{Contains-none}
use Rattle.due_model.specs.declared.config.PeriodId.{PeriodId}
use Rattle.time_period.specs.Flags.{flag_at}
use Rattle.time_period.specs.claims.Steps.{with_flag}
use Rattle.time_period.proofs.NeedsLemmas.{more-there, read-there, set-here, set-kept, set-others}
use Rattle.time_period.proofs.needs.set_all.Goals as goal

pub loop-period-init : goal.loop-period-init
loop-period-init c = record {
  long = c.requires.long;
  set = λ x none. absurd (Contains-none x none);
  kept = λ n set. set;
  others = λ n set. inl set;
}

pub loop-period-preserved : goal.loop-period-preserved
loop-period-preserved c =
    let periods = c.args.periods.now in
    let i = c.loop-period.period-index in
    let one = get_or periods i (record { 0 = 0 }) in
    let old = flag_at c.loop-period.flags in
    let is : one ≡ get_or periods i one = get_or_default periods i (record { 0 = 0 }) one c.loop-period-test.true in
    record {
      long = c.set_flag.ensures.long ∙ c.loop-period.invariant.long;
      set = λ x at. c.set_flag.ensures.flags x.0 ∙ elim (more-there periods i one x c.loop-period-test.true is at) [
        | inl early ↦ set-kept old one.0 x.0 (c.loop-period.invariant.set x early)
        | inr here ↦ subst (λ (y : PeriodId). with_flag old one.0 true y.0 ≡ true) here (set-here old one.0)
      ];
      kept = λ n set. c.set_flag.ensures.flags n ∙ set-kept old one.0 n (c.loop-period.invariant.kept n set);
      others = λ n set. elim (set-others old one.0 n (sym (c.set_flag.ensures.flags n) ∙ set)) [
        | inl early ↦ c.loop-period.invariant.others n early
        | inr here ↦ inr (subst (λ (m : ℕ). Contains periods (record { 0 = m })) here (read-there periods i one c.loop-period-test.true is))
      ];
    }

pub returns-clause-set : goal.returns-clause-set
returns-clause-set c x at =
    c.loop-period.invariant.set x (subst (λ (xs : List PeriodId). Contains xs x) (sym (take_all c.loop-period.period-index c.args.periods.now (omega (arith, c.loop-period-test.false)))) at)
