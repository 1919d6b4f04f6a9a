use Rattle.std.proofs.Common.{◌≡◌, ◌≤◌, true, length, take, sym, arith, rules}
use Rattle.std.proofs.lemmas.List.{take_all}
use Rattle.std.proofs.lemmas.List.Elements.{All-more, All-same}
use Rattle.due_model.specs.declared.event.EventKind.TheVariants.{Clock}
use Rattle.steps.specs.declared.step.Step.{Step}
use Rattle.steps.specs.declared.step.Step.TheVariants.{Post}
use Rattle.world_steps.specs.claims.Steps.{IsProperStep}
use Rattle.acceptance_rules.proofs.worlds.are_proper_steps.Goals as goal

pub loop-step-preserved : goal.loop-step-preserved
loop-step-preserved c =
    let d : Step = Post (record { moment = 0; kind = Clock }) in
    let proper : c.is_proper_step.result ≡ true = search rules in
    All-more (IsProperStep c.args.config.now) c.args.steps.now c.loop-step.step-index d c.loop-step-test.true c.loop-step.invariant (c.is_proper_step.ensures proper)

pub returns : goal.returns
returns c = λ _.
    let all : length c.args.steps.now ≤ c.loop-step.step-index = omega arith in
    All-same (IsProperStep c.args.config.now) c.args.steps.now (take c.loop-step.step-index c.args.steps.now) (sym (take_all c.loop-step.step-index c.args.steps.now all)) c.loop-step.invariant
