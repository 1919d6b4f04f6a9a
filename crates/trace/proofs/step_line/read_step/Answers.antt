use Rattle.std.proofs.Common.{◌≡◌, codes, rules}
use Rattle.trace.proofs.StepLineLaws.{no_step}
use Rattle.trace.proofs.step_line.read_step.Goals as goal

pub returns-in-None-clause-none : goal.returns-in-None-clause-none
returns-in-None-clause-none c =
    let post : c.args.line.now ≡ codes "post" → ⊥ = search rules in
    no_step c.args.config.now c.args.deciders c.args.line.now post c.in_default.ensures.none c.in_default-read_put.ensures.none c.in_default-read_lane.ensures.none
    c.in_default-read_lane-2.ensures.none c.in_default-read_lane-3.ensures.none c.in_default-read_lane-4.ensures.none c.in_default-read_lane-5.ensures.none c.in_default-read_lane-6.ensures.none c.in-None.ensures.none
