use Rattle.std.proofs.Common.{◌≡◌, ℕ, ◌+◌, ◌∷◌, ◌++◌, All, List, [], arith, subst, sym, take}
use Rattle.std.proofs.lemmas.List.{take_all}
use Rattle.day_rules.specs.Dates.{shown}
use Rattle.time_period.specs.Flags.{flag_at}
use Rattle.time_period.specs.Needs.{picked}
use Rattle.time_period.specs.claims.Steps.{flags_after, Own}
use Rattle.time_period.specs.Steps.{IsSteady}
use Rattle.time_period.proofs.NeedsLemmas.{picked-more}
use Rattle.time_period.proofs.StepLemmas.{flags-step, steady-more}
use Rattle.time_period.proofs.compiled.run.Goals as goal

pub loop-number-preserved : goal.loop-number-preserved
loop-number-preserved c =
    let table = c.args.table.now in
    let needs = c.args.needs.now in
    let i = c.loop-number.number-index in
    let before = picked table (take i needs) in
    let own = c.index-table-from.result in
    let time = shown c.args.time in
    let taken : picked table (take (i + 1) needs) ≡ before ++ own ∷ [] = picked-more table needs i c.from.result own c.loop-number-test.true c.from.ensures c.requires.within c.index-table-from.is in
    record {
      long = c.mark.ensures.long;
      flags = λ n. subst (λ (owns : List Own). flag_at c.mark.new.flags n ≡ flags_after time owns (flag_at c.args.flags.now) n) (sym taken)
          (flags-step time before own (flag_at c.args.flags.now) (flag_at c.loop-number.flags) (flag_at c.mark.new.flags) c.loop-number.invariant.flags c.mark.ensures.flags n);
      later = omega (arith, c.min-end.ensures, c.mark.ensures.later, c.loop-number.invariant.later);
      high = omega (arith, c.min-end.ensures, c.loop-number.invariant.high);
      steady = subst (λ (owns : List Own). All (IsSteady time c.min-end.result) owns) (sym taken)
          (steady-more time c.loop-number.end c.mark.result c.min-end.result before own c.loop-number.invariant.steady c.mark.ensures.steady (omega (arith, c.min-end.ensures)) (omega (arith, c.min-end.ensures)));
    }

pub returns-clause-flags : goal.returns-clause-flags
returns-clause-flags c n =
    subst (λ (needs : List ℕ). flag_at c.loop-number.flags n ≡ flags_after (shown c.args.time) (picked c.args.table.now needs) (flag_at c.args.flags.now) n)
    (take_all c.loop-number.number-index c.args.needs.now (omega (arith, c.loop-number-test.false))) (c.loop-number.invariant.flags n)

pub returns-clause-steady : goal.returns-clause-steady
returns-clause-steady c =
    subst (λ (needs : List ℕ). All (IsSteady (shown c.args.time) c.loop-number.end) (picked c.args.table.now needs)) (take_all c.loop-number.number-index c.args.needs.now (omega (arith, c.loop-number-test.false)))
    c.loop-number.invariant.steady
