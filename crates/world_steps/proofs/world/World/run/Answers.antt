use Rattle.std.proofs.Common.{◌∙◌, get_or, subst, sym}
use Rattle.due_model.specs.declared.event.EventKind.TheVariants.{Clock}
use Rattle.steps.specs.declared.step.Step.{Step}
use Rattle.steps.specs.declared.step.Step.TheVariants.{Post}
use Rattle.world_steps.specs.claims.Runs.{ReplacedTakeNothing}
use Rattle.world_steps.specs.claims.Views.{world_state, world_setup}
use Rattle.world_steps.specs.claims.Worlds.{WorldState}
use Rattle.world_steps.proofs.RunLaws.{leads_next, replaced_next, shut_next}
use Rattle.world_steps.proofs.world.World.run.Goals as goal

pub loop-index-preserved : goal.loop-index-preserved
loop-index-preserved c =
    let s = world_setup c.args.self.now in
    let t = world_setup c.loop-index.self in
    let before = world_state c.args.self.now in
    let then = world_state c.loop-index.self in
    let later = world_state c.apply.new.self in
    let i = c.loop-index.index in
    let steps = c.args.steps.now in
    let d : Step = Post (record { moment = 0; kind = Clock }) in
    let done = c.in_default.ensures in
    record {
      leads = leads_next s t before then later steps i d c.loop-index.invariant.setup c.loop-index-test.true c.loop-index.invariant.leads done.enabled done.ok;
      setup = done.setup ∙ c.loop-index.invariant.setup;
      replaced = replaced_next t before then later (get_or steps i d) c.loop-index.invariant.replaced done.enabled done.ok;
      shut = shut_next t before then later (get_or steps i d) c.loop-index.invariant.shut done.enabled done.ok;
    }

pub returns-in-Err-clause-replaced : goal.returns-in-Err-clause-replaced
returns-in-Err-clause-replaced c =
    subst (λ (w : WorldState). ReplacedTakeNothing (world_state c.args.self.now) w) (sym c.in-Err.ensures.err) c.loop-index.invariant.replaced
