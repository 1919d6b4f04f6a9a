use Rattle.std.proofs.Common.{◌∙◌, Some, sym, subst, arith}
use Rattle.due_model.specs.claims.Periods.{in_period}
use Rattle.time_period.specs.Stretches.{Stays}
use Rattle.time_period.proofs.WalkLemmas.{come_begin, come_on, come_found, come_past, next_of}
use Rattle.time_period.proofs.compiled.Compiled.next_by.Goals as goal

pub loop-at-init : goal.loop-at-init
loop-at-init c = record {
  come = λ config period compiled. come_begin (in_period config c.args.zone.now (Some period)) c.args.t;
  flags = c.requires.flags;
}

pub returns-then-holds : goal.returns-then-holds
returns-then-holds c = λ config period compiled.
    let test = in_period config c.args.zone.now (Some period) in
    sym (come_found test c.args.t c.loop-at.at (c.loop-at.invariant.come config period compiled) (omega (arith, c.loop-at-test.true))
    ((c.stays-holds.ensures.stays config period compiled).alike c.loop-at.at (omega arith) c.stays-holds.ensures.later ∙ c.if-holds.true))
    ∙ next_of config c.args.zone.now period c.args.t

pub loop-at-preserved : goal.loop-at-preserved
loop-at-preserved c = record {
  come = λ config period compiled.
      let test = in_period config c.args.zone.now (Some period) in
      come_on test c.args.t c.loop-at.at c.stays-holds.result.1 (c.loop-at.invariant.come config period compiled) (omega (arith, c.loop-at-test.true))
      (subst (λ b. Stays test c.loop-at.at b c.stays-holds.result.1) c.if-holds.false (c.stays-holds.ensures.stays config period compiled));
  flags = c.stays-holds.ensures.flags;
}

pub returns : goal.returns
returns c = λ config period compiled.
    let test = in_period config c.args.zone.now (Some period) in
    sym (come_past test c.args.t c.loop-at.at (c.loop-at.invariant.come config period compiled) (omega (arith, c.loop-at-test.false)))
    ∙ next_of config c.args.zone.now period c.args.t
