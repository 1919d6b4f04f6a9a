use Rattle.std.proofs.Common.{◌≡◌, Bool, true, false, List, sym, ap, ◌∙◌, arith}
use Rattle.due_model.specs.claims.Periods.{in_period}
use Rattle.slow_rules.specs.Rounds.{is_open}
use Rattle.slow_rules.proofs.RoundLemmas.{open_at}
use Rattle.slow_rules.proofs.WalkLemmas.{next_is, walk_ends, walk_finds, walk_goes_on}
use Rattle.slow_rules.proofs.periods.next_in.Goals as goal

pub returns-then-is_open : goal.returns-then-is_open
returns-then-is_open c =
    let test = in_period c.args.config.now c.args.zone.now c.args.period in
    let now : test c.loop-at.at ≡ true =
    sym (open_at c.args.config.now c.args.zone.now c.loop-at.at c.in_ok-flags.flags.items c.in_ok-flags.ensures c.args.period)
    ∙ sym (ap (λ (xs : List Bool). is_open xs c.args.period) c.as_slice.ensures.value) ∙ sym c.is_open.ensures ∙ c.if-is_open.true
    in
    sym (walk_finds test c.args.t c.loop-at.at (omega (arith, c.loop-at-test.true)) now c.loop-at.invariant)
    ∙ next_is c.args.config.now c.args.zone.now c.args.period c.args.t

pub loop-at-preserved : goal.loop-at-preserved
loop-at-preserved c =
    let test = in_period c.args.config.now c.args.zone.now c.args.period in
    let now : test c.loop-at.at ≡ false =
    sym (open_at c.args.config.now c.args.zone.now c.loop-at.at c.in_ok-flags.flags.items c.in_ok-flags.ensures c.args.period)
    ∙ sym (ap (λ (xs : List Bool). is_open xs c.args.period) c.as_slice.ensures.value) ∙ sym c.is_open.ensures ∙ c.if-is_open.false
    in
    walk_goes_on test c.args.t c.loop-at.at (omega (arith, c.loop-at-test.true)) now c.loop-at.invariant

pub returns : goal.returns
returns c =
    let test = in_period c.args.config.now c.args.zone.now c.args.period in
    sym (walk_ends test c.args.t c.loop-at.at (omega (arith, c.loop-at-test.false)) c.loop-at.invariant)
    ∙ next_is c.args.config.now c.args.zone.now c.args.period c.args.t
